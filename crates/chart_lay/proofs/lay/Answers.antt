-- `lay` chains and locates the loops, and lays piece after piece.
use mathlib.Core.Path.{refl}
use Rattle.chart_lay.proofs.Laws.Shores.{few_pieces, chain_room, piece_of}
use Rattle.chart_lay.proofs.Laws.Laying.{reporting_begins, reporting_ends, piece_room, reporting_more}
use Rattle.chart_lay.proofs.lay.Goals as goal

pub clear-requires : goal.clear-requires
clear-requires c = few_pieces c.requires.shores

pub chain-requires : goal.chain-requires
chain-requires c = chain_room c.requires.shores _ _ _ c.clear.ensures.kept c.clear-2.ensures.kept refl

pub loop-p-init : goal.loop-p-init
loop-p-init c = reporting_begins c.requires

pub lay_piece-at-requires : goal.lay_piece-at-requires
lay_piece-at-requires c =
    piece_room c.requires c.loop-p.invariant c.loop-p-test.true
    (λ grid corners s.
    piece_of s c.clear.ensures.clear c.clear-2.ensures.clear c.chain.ensures c.locate.ensures (search) (search) c.loop-p.p c.loop-p-test.true)

pub loop-p-preserved : goal.loop-p-preserved
loop-p-preserved c =
    reporting_more c.requires c.loop-p.invariant c.loop-p-test.true
    (λ grid corners s.
    piece_of s c.clear.ensures.clear c.clear-2.ensures.clear c.chain.ensures c.locate.ensures (search) (search) c.loop-p.p c.loop-p-test.true)
    (search) (search) (search) c.lay_piece-at.ensures

pub returns : goal.returns
returns c = reporting_ends c.requires c.loop-p.invariant c.loop-p-test.false

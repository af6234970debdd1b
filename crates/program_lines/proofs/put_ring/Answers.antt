-- `put_ring`: the vertices left, laid over the present buffer, give the line.
use mathlib.Core.Path.{refl}
use native.Mathlib.Omega.{arith}
use Rattle.program_lines.specs.Lines.{ring=}
use Rattle.program_lines.proofs.Laws.Lines.{Ends, by_comma, by_feed, line_begins, key_put, number_room, number_put, lining_ends}
use Rattle.program_lines.proofs.put_ring.Goals as goal
use Rattle.program_lines.proofs.put_ring.Goals.{then-i-ring, else-i-ring}

pub put_bytes-requires : goal.put_bytes-requires
put_bytes-requires c = search line_begins

pub loop-i-init : goal.loop-i-init
loop-i-init c = key_put ring= c.requires c.put_bytes.ensures refl

pub put_number-place-requires : goal.put_number-place-requires
put_number-place-requires c =
    let ends : Ends c.args.ring.now c.loop-i.i c.if-i-ring.end =
    elim c.if-i-ring.branch [ then-i-ring w ↦ by_comma w.if-i-ring.true w.end-is | else-i-ring w ↦ by_feed w.if-i-ring.false w.end-is ]
    in
    number_room c.loop-i.invariant c.loop-i-test.true ends

pub loop-i-preserved : goal.loop-i-preserved
loop-i-preserved c =
    let ends : Ends c.args.ring.now c.loop-i.i c.if-i-ring.end =
    elim c.if-i-ring.branch [ then-i-ring w ↦ by_comma w.if-i-ring.true w.end-is | else-i-ring w ↦ by_feed w.if-i-ring.false w.end-is ]
    in
    number_put c.loop-i.invariant c.loop-i-test.true ends c.put_number-place.ensures

pub returns : goal.returns
returns c = lining_ends c.args.ring.now c.loop-i.i c.loop-i.invariant (omega (arith, c.loop-i-test.false))

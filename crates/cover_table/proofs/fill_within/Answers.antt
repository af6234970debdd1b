-- `fill_within` makes a loop's table column by column.
use Rattle.std.proofs.lemmas.List.{length-replicate}
use Rattle.cover_table.proofs.Laws.Filling.{filling_begins, products_room, sweep_room, filling_on, filling_ends}
use Rattle.cover_table.proofs.Laws.Found.{fillable, fills_table}
use Rattle.cover_table.proofs.fill_within.Goals as goal

pub loop-k-init : goal.loop-k-init
loop-k-init g c = filling_begins c.requires.1 (fillable c.requires.0 c.gather.ensures) (record { xs = length-replicate _ _; ys = length-replicate _ _; zs = length-replicate _ _; column = length-replicate _ _ })

pub multiply-requires : goal.multiply-requires
multiply-requires g c = products_room c.requires.1 (fillable c.requires.0 c.gather.ensures) c.loop-k.invariant c.loop-k-test.true

pub sweep-requires : goal.sweep-requires
sweep-requires g c =
    sweep_room c.requires.1 (fillable c.requires.0 c.gather.ensures) c.loop-k.invariant c.loop-k-test.true (search c.multiply.auto)
    (search c.multiply.auto) (search c.multiply.auto) c.multiply.auto.column
    c.multiply.auto.table c.multiply.ensures

pub loop-k-preserved : goal.loop-k-preserved
loop-k-preserved g c =
    filling_on c.requires.1 (fillable c.requires.0 c.gather.ensures) c.loop-k.invariant c.loop-k-test.true (search c.multiply.auto)
    (search c.multiply.auto) (search c.multiply.auto) c.multiply.auto.column
    c.multiply.auto.table c.multiply.ensures
    (search c.sweep.auto) (search c.sweep.auto) c.sweep.ensures

pub returns : goal.returns
returns g c =
    let p = c.loop-k.invariant in
    fills_table c.requires.0 c.gather.ensures p.kept (filling_ends c.loop-k-test.false p)

-- `put_line`: the numbers left, laid over the present buffer, give the line.
use mathlib.Core.Path.{refl}
use native.Mathlib.Omega.{arith}
use Rattle.program_lines.proofs.Laws.Lines.{Ends, by_comma, by_feed, line_begins, key_put, number_room, number_put, lining_ends}
use Rattle.program_lines.proofs.put_line.Goals as goal
use Rattle.program_lines.proofs.put_line.Goals.{then-i-numbers, else-i-numbers}

pub put_bytes-requires : goal.put_bytes-requires
put_bytes-requires c = search line_begins

pub loop-i-init : goal.loop-i-init
loop-i-init c = key_put c.args.key.now c.requires c.put_bytes.ensures refl

pub put_number-place-requires : goal.put_number-place-requires
put_number-place-requires c =
    let ends : Ends c.args.numbers.now c.loop-i.i c.if-i-numbers.end =
    elim c.if-i-numbers.branch [ then-i-numbers w ↦ by_comma w.if-i-numbers.true w.end-is | else-i-numbers w ↦ by_feed w.if-i-numbers.false w.end-is ]
    in
    number_room c.loop-i.invariant c.loop-i-test.true ends

pub loop-i-preserved : goal.loop-i-preserved
loop-i-preserved c =
    let ends : Ends c.args.numbers.now c.loop-i.i c.if-i-numbers.end =
    elim c.if-i-numbers.branch [ then-i-numbers w ↦ by_comma w.if-i-numbers.true w.end-is | else-i-numbers w ↦ by_feed w.if-i-numbers.false w.end-is ]
    in
    number_put c.loop-i.invariant c.loop-i-test.true ends c.put_number-place.ensures

pub returns : goal.returns
returns c = lining_ends c.args.numbers.now c.loop-i.i c.loop-i.invariant (omega (arith, c.loop-i-test.false))

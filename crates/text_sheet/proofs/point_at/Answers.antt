-- `point_at` reads a line of 29 bytes, number by number.
use mathlib.Core.Path.{◌≡◌, refl}
use Prim.Native.Nat.{◌+◌}
use native.Mathlib.Omega.{arith}
use lib.ListN.{drop}
use Rattle.text_digits.specs.Workings.Reading.{got, read_key}
use Rattle.text_sheet.specs.Sheet.{p=}
use Rattle.text_sheet.proofs.Laws.Told.{row_key, row_first, row_second, row_third, row_whole}
use Rattle.text_sheet.proofs.Laws.Keys.{key_first_bad, key_second_bad, key_whole, point_short}
use Rattle.text_sheet.proofs.point_at.Goals as goal
use Rattle.text_sheet.proofs.point_at.Goals.{Else-text-at-ne61}

-- the key was read
key : (c : Else-text-at-ne61) → got tt (drop (c.args.at + 2) c.args.text.now) ≡ read_key p= (drop c.args.at c.args.text.now)
key c = key_whole c.args.text.now c.args.at 112 61 29 c.if-text-at.false refl c.if-text-at-ne112.false c.if-text-at-ne61.false

pub returns-then-text-at : goal.returns-then-text-at
returns-then-text-at c = search point_short

pub returns-then-text-at-ne112 : goal.returns-then-text-at-ne112
returns-then-text-at-ne112 c = (row_key c.args.text.now _ _ _ c.args.at (key_first_bad c.args.text.now c.args.at 112 61 29 c.if-text-at.false refl c.if-text-at-ne112.true), tt)

pub returns-then-text-at-ne61 : goal.returns-then-text-at-ne61
returns-then-text-at-ne61 c =
    (row_key c.args.text.now _ _ _ c.args.at (key_second_bad c.args.text.now c.args.at 112 61 29 c.if-text-at.false refl c.if-text-at-ne112.false c.if-text-at-ne61.true), tt)

pub returns-in_err-a : goal.returns-in_err-a
returns-in_err-a c =
    let k = key (goal.at.returns-in_err-a c).Else-text-at-ne61 in
    rw c.from_residual.ensures (row_first c.args.text.now _ _ _ c.args.at (c.args.at + 2) k c.in_err-a.ensures.0, tt)

pub returns-in_err-b : goal.returns-in_err-b
returns-in_err-b c =
    let k = key (goal.at.returns-in_err-b c).Else-text-at-ne61 in
    rw c.from_residual-in_err-b.ensures (row_second c.args.text.now _ _ _ c.args.at (c.args.at + 2) k _ c.in_ok-a.j c.in_ok-a.ensures.0 c.in_err-b.ensures.0, tt)

pub returns-in_err-c : goal.returns-in_err-c
returns-in_err-c c =
    let k = key (goal.at.returns-in_err-c c).Else-text-at-ne61 in
    rw c.from_residual-in_err-c.ensures
    (row_third c.args.text.now _ _ _ c.args.at (c.args.at + 2) k _ c.in_ok-a.j c.in_ok-a.ensures.0 _ c.in_ok-b.k c.in_ok-b.ensures.0 c.in_err-c.ensures.0, tt)

pub returns : goal.returns
returns c =
    let k = key (goal.at.returns c).Else-text-at-ne61 in (
      row_whole c.args.text.now _ _ _ c.args.at (c.args.at + 2) k _ c.in_ok-a.j c.in_ok-a.ensures.0 _ c.in_ok-b.k c.in_ok-b.ensures.0 _ c.in_ok-c.next c.in_ok-c.ensures.0,
      omega (arith, c.if-text-at.false, c.in_ok-a.ensures.1, c.in_ok-b.ensures.1, c.in_ok-c.ensures.1),
    )

-- `corner_size` adds one for each power of ten that the corner has reached.
use mathlib.Core.Logic.{inl, inr}
use native.Mathlib.Omega.{arith}
use Rattle.text_line.proofs.Laws.Sizes.{Flags, flags_size}
use Rattle.text_line.proofs.corner_size.Goals as goal
use Rattle.text_line.proofs.corner_size.Goals.{then-c-ge10, else-c-ge10, then-c-ge100, else-c-ge100, then-c-ge1000, else-c-ge1000, then-c-ge10000, else-c-ge10000}

pub returns : goal.returns
returns c =
    -- what each `if` left in its number
    let flags : Flags c.args.c c.if-c-ge10.a c.if-c-ge100.b c.if-c-ge1000.d c.if-c-ge10000.e =
    record {
      tens = elim c.if-c-ge10.branch [ then-c-ge10 w ↦ inl (w.if-c-ge10.true, w.a-is) | else-c-ge10 w ↦ inr (w.if-c-ge10.false, w.a-is) ];
      hundreds = elim c.if-c-ge100.branch [ then-c-ge100 w ↦ inl (w.if-c-ge100.true, w.b-is) | else-c-ge100 w ↦ inr (w.if-c-ge100.false, w.b-is) ];
      thousands = elim c.if-c-ge1000.branch [ then-c-ge1000 w ↦ inl (w.if-c-ge1000.true, w.d-is) | else-c-ge1000 w ↦ inr (w.if-c-ge1000.false, w.d-is) ];
      last = elim c.if-c-ge10000.branch [ then-c-ge10000 w ↦ inl (w.if-c-ge10000.true, w.e-is) | else-c-ge10000 w ↦ inr (w.if-c-ge10000.false, w.e-is) ];
    }
    in
    flags_size (omega arith) flags

-- The table of digits: filled number by number, it serves every corner that names a point.
use Rattle.std.specs.Prelude.{None}
use mathlib.Core.Path.{◌≡◌, subst, ◌∙◌}
use mathlib.Core.List.{List}
use mathlib.Core.Logic.{◌⊎◌, inl, inr}
use Prim.Native.Nat.{ℕ, ◌+◌, ◌<◌, ◌≤◌}
use native.Mathlib.Omega.{arith}
use lib.ListN.{length, get_or, set, length-set}
use lib.Seq.{get_or-set_same, get_or-set_other}
use borrow.Author.Tests.{leb-false}
use Rattle.surface_rules.specs.Smallest.{least}
use Rattle.surface_rules.specs.Refusals.{unnamed}
use Rattle.surface_rules.proofs.Laws.Smallest.{least_never}
use Rattle.text_digits.proofs.Laws.Digit.{lt_or_ge}
use Rattle.text_figures.specs.Workings.Tables.{four_of}
use Rattle.text_line.specs.Workings.Means.{Has}
use Rattle.text_write.specs.Workings.Means.{Numbered, Serves}

pub number_none : (fours : List ℕ) → Numbered 0 fours
unfolding Numbered
number_none fours = λ c h. absurd (omega arith)

pub number_more : (i v : ℕ) (fours : List ℕ) → i < length fours → i < 10000 → v ≡ four_of i → Numbered i fours → Numbered (i + 1) (set fours i v)
unfolding Numbered
number_more i v fours l s e m = λ c h. go c h (lt_or_ge c i)
  where
    go : (c : ℕ) → c < i + 1 → (c < i) ⊎ (i ≤ c) → Has (set fours i v) c
    go c h (inl b) =
        let k : Has fours c = m c b in
        record {
          short = k.short;
          within = omega (arith, length-set fours i v, k.within);
          four = get_or-set_other fours i c v 0 (λ z. omega arith) ∙ k.four;
        }
    go c h (inr b) =
        let z : i ≡ c = omega arith in
        subst (Has (set fours i v)) z
        (record { short = s; within = omega (arith, length-set fours i v); four = get_or-set_same fours i v 0 l ∙ e })

pub number_end : (n i : ℕ) (fours : List ℕ) → n ≤ i → Numbered i fours → Numbered n fours
unfolding Numbered
number_end n i fours h m = λ c b. m c (omega arith)

-- every corner names a point, so the table of the points serves
pub serves : (n : ℕ) (corners fours : List ℕ) → least (unnamed corners n) (length corners) ≡ None → Numbered n fours → Serves corners fours
unfolding Numbered Serves unnamed
serves n corners fours e m = λ i h. m (get_or corners i 0) (leb-false n (get_or corners i 0) (least_never (unnamed corners n) (length corners) e i h))

pub served : (corners fours : List ℕ) → Serves corners fours → (i : ℕ) → i < length corners → Has fours (get_or corners i 0)
unfolding Serves
served corners fours s = s

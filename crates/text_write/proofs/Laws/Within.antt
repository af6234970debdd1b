-- What writing counts is no more than its buffer has.
use mathlib.Core.Path.{◌≡◌, refl, sym, subst}
use mathlib.Core.Bool.{Bool, true, false}
use mathlib.Core.List.{List}
use Prim.Native.Nat.{ℕ, ◌≤◌}
use native.Mathlib.Omega.{arith}
use lib.ListN.{length}
use Rattle.base_answers.specs.Numbers.{refusing}
use Rattle.surface_rules.specs.Buffers.{over}
use Rattle.surface_rules.proofs.Laws.Over.{front_in}
use Rattle.text_sheet.specs.Sheet.{text}
use Rattle.text_write.specs.Outcome.{WriteOutcome, write_refusal, writes}

module _ (pitch : ℕ) (words corners buffer : List ℕ) where
  writes_within : (writes pitch words corners buffer).count ≤ length (writes pitch words corners buffer).bytes
  unfolding writes
  writes_within = go (refusing (write_refusal pitch words corners buffer)) refl
    where
      go : (t : Bool) → refusing (write_refusal pitch words corners buffer) ≡ t → (writes pitch words corners buffer).count ≤ length (writes pitch words corners buffer).bytes
      go true e = rw e (omega arith)
      go false e = rw e (front_in (text pitch words corners) buffer (over (text pitch words corners) buffer) (length (text pitch words corners)) refl refl)

  pub written_within : (o : WriteOutcome) → o ≡ writes pitch words corners buffer → o.count ≤ length o.bytes
  written_within o e = subst (λ (p : WriteOutcome). p.count ≤ length p.bytes) (sym e) writes_within

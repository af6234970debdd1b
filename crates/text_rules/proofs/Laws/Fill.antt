-- The lines of a part that are too few for its count, filled up to it.
use mathlib.Core.Path.{◌≡◌, ◌∙◌}
use mathlib.Core.List.{List, ◌++◌}
use Prim.Native.Nat.{ℕ, ◌-◌}
use native.Mathlib.Omega.{arith}
use lib.ListN.{length, take, replicate, length-append, length-replicate}
use lib.Seq.{take-append_seam}
use Rattle.text_rules.specs.Text.{All, Part}
use Rattle.text_rules.proofs.Laws.Lists.{all_append, all_replicate}
use Rattle.text_rules.proofs.Laws.Parts.{Begins}

unfoldable pub fill : {A : Type 0} → A → ℕ → List A → List A
fill z n l = l ++ replicate (n - length l) z

module _ {A : Type 0} (P : Part A) (z : A) (v : P.Valid z) (bytes : List ℕ) (n : ℕ) (l : List A) (rest : List ℕ) (b : Begins P bytes n l rest) where
  pub fill_length : length (fill z n l) ≡ n
  unfolding fill
  fill_length = length-append l (replicate (n - length l) z) ∙ omega (arith, length-replicate (n - length l) z, b.within)

  pub fill_valid : All P.Valid (fill z n l)
  unfolding fill
  fill_valid = all_append P.Valid l (replicate (n - length l) z) b.valid (all_replicate P.Valid (n - length l) z v)

  pub fill_take : take (length l) (fill z n l) ≡ l
  unfolding fill
  fill_take = take-append_seam l (replicate (n - length l) z)

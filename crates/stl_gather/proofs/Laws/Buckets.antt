-- A point with certain words is in the bucket of these words.
use mathlib.Core.Path.{◌≡◌, refl, sym, ap, ◌∙◌}
use mathlib.Core.Bool.{Bool, true, false, true≢false}
use mathlib.Core.List.{List}
use Prim.Native.Nat.{ℕ, zero, suc, ◌-◌, ◌<◌, ◌≤◌}
use native.Mathlib.Nat.{le_refl}
use native.Mathlib.Omega.{arith}
use lib.Bits.{and_le_r}
use lib.ListN.{get_or}
use borrow.Author.Tests.{eqb-true, eq-eqb, ne_eqb}
use Rattle.surface_rules.specs.Threes.{Three}
use Rattle.surface_rules.proofs.Laws.Tests.{not_so}
use Rattle.surface_twins.specs.Workings.Chains.{top}
use Rattle.surface_twins.proofs.Laws.Tops.{top_says, top_never}
use Rattle.stl_rules.specs.File.{agree}
use Rattle.stl_rules.specs.Reading.{none}
use Rattle.stl_rules.proofs.Laws.Files.{agree_says}
use Rattle.stl_gather.specs.Workings.Racks.{mixed, bucket_of, bucket_at, home, in_bucket}

-- a mask leaves no more than itself
pub bucket_small : (size a b c : ℕ) → 0 < size → bucket_of size a b c < size
unfolding bucket_of
bucket_small size a b c s = omega (arith, and_le_r (mixed a b c) (size - 1))

module _ (size : ℕ) (met : List Three) (b k : ℕ) where
  pub home_bucket : in_bucket size met b k ≡ true → home size met k ≡ b
  unfolding in_bucket
  home_bucket e = eqb-true _ _ e

  pub bucket_home : home size met k ≡ b → in_bucket size met b k ≡ true
  unfolding in_bucket
  bucket_home e = eq-eqb _ _ e

  pub bucket_other : (home size met k ≡ b → ⊥) → in_bucket size met b k ≡ false
  unfolding in_bucket
  bucket_other e = ne_eqb _ _ e

-- what is in another bucket has other words
pub other_words : (size : ℕ) (met : List Three) (k : ℕ) (p : Three) → in_bucket size met (bucket_at size p) k ≡ false → agree (get_or met k none) p ≡ false
unfolding home
other_words size met k p e = not_so _ (λ q. true≢false (sym (bucket_home size met _ k (ap (bucket_at size) (agree_says _ _ q))) ∙ e))

module _ (size : ℕ) (met : List Three) (b n last : ℕ) (e : last ≡ top (in_bucket size met b) n) where
  -- the head of a chain is in its bucket
  pub head_home : 0 < last → home size met (last - 1) ≡ b
  head_home l = home_bucket size met b _ (top_says (in_bucket size met b) n (last - 1) (sym e ∙ omega arith))

  -- and what follows it has other words
  pub head_rest : (p : Three) → b ≡ bucket_at size p → (k : ℕ) → last ≤ k → k < n → agree (get_or met k none) p ≡ false
  head_rest p q k l m = other_words size met k p (ap (λ (z : ℕ). in_bucket size met z k) (sym q) ∙ top_never (in_bucket size met b) n k (rw (← e) l) m)

-- tests that agree below n have one top
pub top_same : (p q : ℕ → Bool) (n : ℕ) → ((k : ℕ) → k < n → p k ≡ q k) → top p n ≡ top q n
unfolding top
top_same p q zero w = refl
top_same p q (suc n) w = rw (top_same p q n (λ k l. w k (omega arith)), w n (le_refl (suc n)))

-- A list by threes, and back; and threes at a buffer's start.
use mathlib.Core.Path.{◌≡◌, refl, ap, ◌∙◌}
use mathlib.Core.List.{List, [], ◌∷◌}
use Prim.Native.Nat.{ℕ, zero, suc, ◌*◌, ◌≤◌}
use native.Mathlib.Omega.{arith}
use lib.ListN.{length, take}
use Rattle.surface_rules.specs.Buffers.{over}
use Rattle.surface_rules.specs.Threes.{Three, threes, flat}
use Rattle.surface_rules.proofs.Laws.Over.{start_of, front_in}

pub flat_length : (l : List Three) → length (flat l) ≡ 3 * length l
flat_length [] = refl
flat_length (t ∷ l) = omega (arith, flat_length l)

pub threes_length : (n : ℕ) (l : List ℕ) → length l ≡ 3 * n → length (threes l) ≡ n
threes_length zero [] h = refl
threes_length zero (x ∷ l) h = absurd (omega arith)
threes_length (suc n) [] h = absurd (omega arith)
threes_length (suc n) (x ∷ []) h = absurd (omega arith)
threes_length (suc n) (x ∷ y ∷ []) h = absurd (omega arith)
threes_length (suc n) (x ∷ y ∷ z ∷ l) h = ap suc (threes_length n l (omega arith))

-- whole threes, taken apart and put together again
pub flat_threes : (n : ℕ) (l : List ℕ) → length l ≡ 3 * n → flat (threes l) ≡ l
flat_threes zero [] h = refl
flat_threes zero (x ∷ l) h = absurd (omega arith)
flat_threes (suc n) [] h = absurd (omega arith)
flat_threes (suc n) (x ∷ []) h = absurd (omega arith)
flat_threes (suc n) (x ∷ y ∷ []) h = absurd (omega arith)
flat_threes (suc n) (x ∷ y ∷ z ∷ l) h = ap (λ (r : List ℕ). x ∷ y ∷ z ∷ r) (flat_threes n l (omega arith))

pub threes_flat : (l : List Three) → threes (flat l) ≡ l
threes_flat [] = refl
threes_flat (t ∷ l) = ap (λ (r : List Three). t ∷ r) (threes_flat l)

-- threes that were laid over a buffer's start
module _ (ts : List Three) (a before : List ℕ) (n : ℕ) (h : a ≡ over (flat ts) before) (e : n ≡ length ts) where
  pub front_of : take (3 * n) a ≡ flat ts
  front_of = ap (take (3 * n)) h ∙ start_of (flat ts) before (3 * n) (omega (arith, flat_length ts))

  pub front_within : 3 * n ≤ length a
  front_within = front_in (flat ts) before a (3 * n) (omega (arith, flat_length ts)) h

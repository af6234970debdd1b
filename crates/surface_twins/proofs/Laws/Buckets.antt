-- A half-edge between u and v, either way, is in the bucket of u and v, since that takes the two alike.
use mathlib.Core.Path.{◌≡◌, sym, ap, ap₂, ◌∙◌}
use mathlib.Core.Bool.{true, false, true≢false}
use mathlib.Core.List.{List}
use Prim.Native.Nat.{ℕ, ◌+◌, ◌-◌, ◌*◌, ◌/◌, ◌%◌, ◌<◌, ◌≤◌}
use native.Mathlib.Nat.{mul_comm, mul-le-mul, mod-lt}
use native.Mathlib.Omega.{arith}
use borrow.Author.Tests.{eqb-true, eq-eqb, ne_eqb}
use Rattle.surface_rules.specs.Edges.{goes}
use Rattle.surface_rules.proofs.Laws.Tests.{not_so}
use Rattle.surface_rules.proofs.Laws.Edges.{Goes, goes_says}
use Rattle.surface_twins.specs.Workings.Chains.{spread, bucket_of, home, in_bucket, top}
use Rattle.surface_twins.proofs.Laws.Tops.{top_says, top_never}

pub bucket_small : (size u v : ℕ) → 0 < size → bucket_of size u v < size
unfolding bucket_of
bucket_small size u v s = mod-lt ((u + spread) * (v + spread) / 32) s

pub bucket_turned : (size u v : ℕ) → bucket_of size u v ≡ bucket_of size v u
unfolding bucket_of
bucket_turned size u v = ap (λ (z : ℕ). z / 32 % size) (mul_comm (u + spread) (v + spread))

-- 16-bit numbers are small enough for the product
pub product_fits : (u v w : ℕ) → u < w → v < w → (u + spread) * (v + spread) ≤ (w + spread) * (w + spread)
product_fits u v w l m = mul-le-mul (omega arith) (omega arith)

pub home_bucket : (size : ℕ) (corners : List ℕ) (b k : ℕ) → in_bucket size corners b k ≡ true → home size corners k ≡ b
unfolding in_bucket
home_bucket size corners b k e = eqb-true _ _ e

pub bucket_home : (size : ℕ) (corners : List ℕ) (b k : ℕ) → home size corners k ≡ b → in_bucket size corners b k ≡ true
unfolding in_bucket
bucket_home size corners b k e = eq-eqb _ _ e

pub bucket_other : (size : ℕ) (corners : List ℕ) (b k : ℕ) → (home size corners k ≡ b → ⊥) → in_bucket size corners b k ≡ false
unfolding in_bucket
bucket_other size corners b k e = ne_eqb _ _ e

pub goes_home : (size : ℕ) (corners : List ℕ) (u v k : ℕ) → Goes corners u v k → home size corners k ≡ bucket_of size u v
unfolding home
goes_home size corners u v k r = ap₂ (bucket_of size) r.starts r.ends

-- k joins u and v neither way
abbrev pub Apart : List ℕ → ℕ → ℕ → ℕ → Type 0
Apart corners u v k = (goes corners u v k ≡ false) × (goes corners v u k ≡ false)

pub apart_from : (corners : List ℕ) (u v k : ℕ) → (Goes corners u v k → ⊥) → (Goes corners v u k → ⊥) → Apart corners u v k
apart_from corners u v k a b = (not_so _ (λ e. a (goes_says corners u v k e)), not_so _ (λ e. b (goes_says corners v u k e)))

-- what is in another bucket does not join u and v
pub apart_outside : (size : ℕ) (corners : List ℕ) (u v k : ℕ) → in_bucket size corners (bucket_of size u v) k ≡ false → Apart corners u v k
apart_outside size corners u v k e =
    let away : home size corners k ≡ bucket_of size u v → ⊥ = λ q. true≢false (sym (bucket_home size corners (bucket_of size u v) k q) ∙ e) in
    apart_from corners u v k (λ r. away (goes_home size corners u v k r)) (λ r. away (goes_home size corners v u k r ∙ bucket_turned size v u))

module _ (size : ℕ) (corners : List ℕ) (b n last : ℕ) (e : last ≡ top (in_bucket size corners b) n) where
  -- the head of a chain is in its bucket
  pub head_home : 0 < last → home size corners (last - 1) ≡ b
  head_home l = home_bucket size corners b (last - 1) (top_says (in_bucket size corners b) n (last - 1) (sym e ∙ omega arith))

  pub head_rest : (u v : ℕ) → b ≡ bucket_of size u v → (k : ℕ) → last ≤ k → k < n → Apart corners u v k
  head_rest u v q k l m = apart_outside size corners u v k (ap (λ (z : ℕ). in_bucket size corners z k) (sym q) ∙ top_never (in_bucket size corners b) n k (rw (← e) l) m)

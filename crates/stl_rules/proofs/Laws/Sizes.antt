-- When a file is refused by its size, and when it is not.
use mathlib.Core.Path.{◌≡◌, refl}
use mathlib.Core.Bool.{Bool, true, false, true≢false, cond}
use Prim.Native.Nat.{ℕ, ◌+◌, ◌*◌, ◌≤◌, ◌<◌}
use lib.Dec.{leb, eqb}
use borrow.Author.Tests.{eq-eqb, ne_eqb, eqb-true, le-leb, lt-leb, leb-true}
use Rattle.base_answers.specs.Numbers.{refusing}
use Rattle.base_answers.specs.Answers.{Corners, Misfit}
use Rattle.base_answers.specs.declared.Answer.TheVariants.{Done}
use Rattle.base_limits.specs.Limits as limits
use Rattle.surface_rules.specs.Refusals.{then_check}
use Rattle.surface_rules.proofs.Laws.Tests.{both_true}
use Rattle.stl_facets.specs.Facets.{front, facet_bytes}
use Rattle.stl_rules.specs.File.{fits}
use Rattle.stl_rules.specs.Reading.{size_refusal}

module _ (long count : ℕ) where
  pub misfit_short : long < front → Misfit ≡ size_refusal long count
  unfolding size_refusal fits
  misfit_short l = rw (lt-leb front long l)

  module _ (l : front ≤ long) where
    pub misfit_other : (long ≡ front + facet_bytes * count → ⊥) → Misfit ≡ size_refusal long count
    unfolding size_refusal fits
    misfit_other n = rw (le-leb front long l, ne_eqb long (front + facet_bytes * count) n)

    module _ (e : long ≡ front + facet_bytes * count) where
      pub fits_many : limits.triangles < count → Corners ≡ size_refusal long count
      unfolding size_refusal fits
      fits_many m = rw (le-leb front long l, eq-eqb long (front + facet_bytes * count) e, lt-leb count limits.triangles m)

      pub fits_done : count ≤ limits.triangles → Done ≡ size_refusal long count
      unfolding size_refusal fits
      fits_done m = rw (le-leb front long l, eq-eqb long (front + facet_bytes * count) e, le-leb count limits.triangles m)

  pub fits_says : fits long count ≡ true → long ≡ front + facet_bytes * count
  unfolding fits
  fits_says e = eqb-true _ _ (both_true (leb front long) (eqb long (front + facet_bytes * count)) e).1

  -- what it says where it refuses nothing
  pub size_says : refusing (size_refusal long count) ≡ false → (long ≡ front + facet_bytes * count) × (count ≤ limits.triangles)
  unfolding size_refusal
  size_says h = go (fits long count) refl (leb count limits.triangles) refl h
    where
      go : (s : Bool) → fits long count ≡ s → (t : Bool) → leb count limits.triangles ≡ t → refusing (then_check (cond s Done Misfit) (cond t Done Corners)) ≡ false
          → (long ≡ front + facet_bytes * count) × (count ≤ limits.triangles)
      go false e t f q = absurd (true≢false q)
      go true e false f q = absurd (true≢false q)
      go true e true f q = (fits_says e, leb-true _ _ f)

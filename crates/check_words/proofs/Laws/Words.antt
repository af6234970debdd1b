-- What the answer for a word's coordinate says of the refusals 7 and 8.
use mathlib.Core.Path.{◌≡◌, refl, ap, subst}
use mathlib.Core.Bool.{Bool, true, false, not, ◌&&◌, ◌||◌}
use mathlib.Core.List.{List}
use Prim.Native.Nat.{ℕ, ◌≤◌}
use lib.Dec.{ltb}
use lib.IntN.{ℤ, nat_abs}
use lib.ListN.{get_or}
use lib.Ieee.{Float, binary32, of_bits}
use lib.Ieee.Bits.{is_true, is_false}
use lib.Ieee.Scale.{finite}
use borrow.Author.Tests.{lt-ltb, le-ltb}
use Rattle.base_limits.specs.Limits.{greatest}
use Rattle.grid_coordinate.specs.Units.{units}
use Rattle.grid_coordinate.specs.Places.{whole, Lands, Places, is_off}
use Rattle.grid_coordinate.specs.declared.Coordinate.{Coordinate}
use Rattle.grid_coordinate.specs.declared.Coordinate.TheVariants.{Exact, Shifted, NotFinite, TooFar}
use Rattle.surface_rules.specs.Refusals.{not_finite, too_far, off_grid}
use Rattle.check_words.specs.Workings.Single.{no_number, beyond}

-- the answer is "not finite"
abbrev pub missing : Coordinate → Bool
missing (Exact k) = false
missing (Shifted k d) = false
missing NotFinite = true
missing (TooFar x) = false

-- the answer is "too far"
abbrev pub off : Coordinate → Bool
off (Exact k) = false
off (Shifted k d) = false
off NotFinite = false
off (TooFar x) = true

pub not_missing : (a : Coordinate) → (a ≡ NotFinite → ⊥) → missing a ≡ false
not_missing (Exact k) n = refl
not_missing (Shifted k d) n = refl
not_missing NotFinite n = absurd (n refl)
not_missing (TooFar x) n = refl

pub not_off : (a : Coordinate) → ((x : Float) → a ≡ TooFar x → ⊥) → off a ≡ false
not_off (Exact k) n = refl
not_off (Shifted k d) n = refl
not_off NotFinite n = refl
not_off (TooFar x) n = absurd (n x refl)

-- too far, by whether it is a number and whether it lands
far : (f : Bool) (n : ℕ) (t u : Bool) → f ≡ t → ltb greatest n ≡ u → (f && ltb greatest n) ≡ (t && u)
far f n t u p q = rw (p, q)

lands_far : {pitch : ℕ} {x : Float} {k : ℤ} → Lands pitch x k → (finite x && ltb greatest (nat_abs (whole pitch (units x)))) ≡ false
lands_far {pitch} {x} {k} l = far (finite x) (nat_abs (whole pitch (units x))) true false (is_true (finite x) l.number) (le-ltb greatest (nat_abs (whole pitch (units x))) (subst (λ (z : ℤ). nat_abs z ≤ greatest) l.nearest l.within))

module _ (pitch word : ℕ) where
  abbrev x : Float
  x = of_bits binary32 word

  pub no_number_is : (a : Coordinate) → Places pitch x a → no_number word ≡ missing a
  no_number_is (Exact k) p = ap not (is_true (finite x) p.0.number)
  no_number_is (Shifted k d) p = ap not (is_true (finite x) p.0.number)
  no_number_is NotFinite p = is_true (not (finite x)) p
  no_number_is (TooFar y) p = ap not (is_true (finite x) p.0)

  pub beyond_is : (a : Coordinate) → Places pitch x a → beyond pitch word ≡ off a
  beyond_is (Exact k) p = lands_far p.0
  beyond_is (Shifted k d) p = lands_far p.0
  beyond_is NotFinite p = far (finite x) (nat_abs (whole pitch (units x))) false (ltb greatest (nat_abs (whole pitch (units x)))) (is_false (finite x) p) refl
  beyond_is (TooFar y) p = far (finite x) (nat_abs (whole pitch (units x))) true true (is_true (finite x) p.0) (lt-ltb greatest (nat_abs (whole pitch (units x))) p.1)

-- the same of the word of index i
module _ (pitch : ℕ) (words : List ℕ) (i : ℕ) where
  pub not_finite_is : (a : Coordinate) → Places pitch (of_bits binary32 (get_or words i 0)) a → not_finite words i ≡ missing a
  unfolding not_finite
  not_finite_is a p = no_number_is pitch (get_or words i 0) a p

  pub too_far_is : (a : Coordinate) → Places pitch (of_bits binary32 (get_or words i 0)) a → too_far pitch words i ≡ off a
  unfolding too_far
  too_far_is a p = beyond_is pitch (get_or words i 0) a p

pub off_grid_is : (pitch : ℕ) (words : List ℕ) (i : ℕ) → off_grid pitch words i ≡ is_off pitch (of_bits binary32 (get_or words i 0))
unfolding off_grid not_finite too_far is_off
off_grid_is pitch words i = let x = of_bits binary32 (get_or words i 0) in go (finite x) (ltb greatest (nat_abs (whole pitch (units x))))
  where
    go : (f t : Bool) → (not f || (f && t)) ≡ (not f || t)
    go true t = refl
    go false t = refl

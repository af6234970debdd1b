-- One coordinate has one right answer: any two answers that `Places` allows are equal.
use mathlib.Core.Path.{◌≡◌, refl, sym, ap, ◌∙◌}
use Prim.Native.Nat.{ℕ, zero, suc, ◌+◌, ◌-◌, ◌*◌, ◌/◌, ◌^◌, ◌<◌}
use native.Mathlib.Omega.{arith}
use mathlib.Core.Bool.{Bool, true, false, cond}
use lib.Dec.{T, T_not}
use lib.IntN.{ℤ, pos, negsuc, nat_abs}
use lib.Ieee.{Float, nan, inf, fin, binary32, up, down, to_bits, of_bits, size, top, hid, prec}
use lib.Ieee.Bits.{of_bits-to_bits}
use lib.Ieee.Scale.{finite}
use Rattle.base_limits.specs.Limits.{greatest}
use Rattle.grid_coordinate.specs.Units.{one, signed, units}
use Rattle.grid_coordinate.specs.Places.{whole, Lands, Leaves, Places}
use Rattle.grid_coordinate.specs.declared.Coordinate.{Coordinate}
use Rattle.grid_coordinate.specs.declared.Coordinate.TheVariants.{Exact, Shifted, NotFinite, TooFar}
use Rattle.grid_coordinate.proofs.Laws.Signs.{abs_signed}

sign_of : ℤ → Bool
sign_of (pos n) = false
sign_of (negsuc n) = true

sign_is : (s : Bool) (n : ℕ) → (signed s n ≡ pos 0 → ⊥) → sign_of (signed s n) ≡ s
unfolding sign_of
sign_is false n h = refl
sign_is true zero h = absurd (h refl)
sign_is true (suc n) h = refl

bits : Bool → ℕ → ℕ
bits s n = cond s (top binary32) 0 + (size n - prec binary32) * hid binary32 + n / 2 ^ (size n - prec binary32)

bits_are : (s : Bool) (m : ℕ) (e : ℤ) → to_bits binary32 (fin s m e) ≡ bits s (m * up e * one / down e)
unfolding to_bits bits
bits_are s m e = refl

same_bits : (x y : Float) → T (finite x) → T (finite y) → units x ≡ units y → (units x ≡ pos 0 → ⊥) → to_bits binary32 x ≡ to_bits binary32 y
unfolding units
same_bits nan y f g e h = absurd f
same_bits (inf s) y f g e h = absurd f
same_bits (fin s m d) nan f g e h = absurd g
same_bits (fin s m d) (inf t) f g e h = absurd g
same_bits (fin s m d) (fin t n c) f g e h =
    let a = m * up d * one / down d in
    let b = n * up c * one / down c in
    let p : s ≡ t = sym (sign_is s a h) ∙ ap sign_of e ∙ sign_is t b (λ z. h (e ∙ z)) in
    let q : a ≡ b = sym (abs_signed s a) ∙ ap nat_abs e ∙ abs_signed t b in
    bits_are s m d ∙ ap (λ (r : Bool). bits r a) p ∙ ap (bits t) q ∙ sym (bits_are t n c)

-- a binary32 number that is not 0 is known by its units, so a rest is
same_rest : (pitch : ℕ) (x d c : Float) → Leaves pitch x d → Leaves pitch x c → d ≡ c
same_rest pitch x d c p q =
    sym (of_bits-to_bits binary32 d p.fitting)
    ∙ ap (of_bits binary32) (same_bits d c p.number q.number (p.exact ∙ sym q.exact) (λ z. p.some (sym p.exact ∙ z)))
    ∙ of_bits-to_bits binary32 c q.fitting

beyond : {pitch : ℕ} {x : Float} {k : ℤ} → Lands pitch x k → greatest < nat_abs (whole pitch (units x)) → ⊥
beyond l h = omega (arith, l.within, ap nat_abs l.nearest)

pub only : (pitch : ℕ) (x : Float) (a b : Coordinate) → Places pitch x a → Places pitch x b → a ≡ b
only pitch x (Exact k) (Exact l) p q = ap Exact (p.0.nearest ∙ sym q.0.nearest)
only pitch x (Exact k) (Shifted l d) p q = absurd (q.1.some p.1)
only pitch x (Exact k) NotFinite p q = absurd (T_not (finite x) q p.0.number)
only pitch x (Exact k) (TooFar y) p q = absurd (beyond p.0 q.1)
only pitch x (Shifted k d) (Exact l) p q = absurd (p.1.some q.1)
only pitch x (Shifted k d) (Shifted l c) p q = ap (λ (i : ℤ). Shifted i d) (p.0.nearest ∙ sym q.0.nearest) ∙ ap (Shifted l) (same_rest pitch x d c p.1 q.1)
only pitch x (Shifted k d) NotFinite p q = absurd (T_not (finite x) q p.0.number)
only pitch x (Shifted k d) (TooFar y) p q = absurd (beyond p.0 q.1)
only pitch x NotFinite (Exact l) p q = absurd (T_not (finite x) p q.0.number)
only pitch x NotFinite (Shifted l d) p q = absurd (T_not (finite x) p q.0.number)
only pitch x NotFinite NotFinite p q = refl
only pitch x NotFinite (TooFar y) p q = absurd (T_not (finite x) p q.0)
only pitch x (TooFar y) (Exact l) p q = absurd (beyond q.0 p.1)
only pitch x (TooFar y) (Shifted l d) p q = absurd (beyond q.0 p.1)
only pitch x (TooFar y) NotFinite p q = absurd (T_not (finite x) q p.0)
only pitch x (TooFar y) (TooFar z) p q = ap TooFar (p.2 ∙ sym q.2)

-- The four pitches and their numbers.
use mathlib.Core.Path.{◌≡◌, refl, sym, ◌∙◌, subst}
use mathlib.Core.Bool.{Bool, true, false, true≢false}
use Prim.Native.Nat.{ℕ, ◌≤◌, ◌<◌}
use lib.Dec.{eqb, lit≤}
use borrow.Author.Tests.{ne_eqb, eqb-true, eqb-false}
use Rattle.std.specs.Prelude.{Result, Ok, Err}
use Rattle.base_answers.specs.declared.Refusal.{Refusal}
use Rattle.base_answers.specs.declared.Refusal.TheVariants.{NoPitch}
use Rattle.base_types.specs.Pitches.{pitch_of, is_pitch, Names}
use Rattle.base_types.specs.declared.Pitch.{Pitch}
use Rattle.base_types.specs.declared.Pitch.TheVariants.{One, Two, Five, Ten}

pub pitch_none : {n : ℕ} → (n ≡ 1 → ⊥) → (n ≡ 2 → ⊥) → (n ≡ 5 → ⊥) → (n ≡ 10 → ⊥) → is_pitch n ≡ false
unfolding is_pitch
pitch_none {n} a b c d = rw (ne_eqb n 1 a, ne_eqb n 2 b, ne_eqb n 5 c, ne_eqb n 10 d) refl

-- what a pitch has is a number that is a pitch, at least 1 and at most 10
pub pitch_is : (p : Pitch) → is_pitch (pitch_of p) ≡ true
unfolding is_pitch
pitch_is One = refl
pitch_is Two = refl
pitch_is Five = refl
pitch_is Ten = refl

pub pitch_some : (p : Pitch) → 0 < pitch_of p
pitch_some One = lit≤ tt
pitch_some Two = lit≤ tt
pitch_some Five = lit≤ tt
pitch_some Ten = lit≤ tt

pub pitch_most : (p : Pitch) → pitch_of p ≤ 10
pitch_most One = lit≤ tt
pitch_most Two = lit≤ tt
pitch_most Five = lit≤ tt
pitch_most Ten = lit≤ tt

-- A number that is a pitch is that of one of the four, and so it lies between 1 and 10 too.
pub not_pitch : (n : ℕ) → is_pitch n ≡ true → is_pitch n ≡ false → ⊥
not_pitch n a b = true≢false (sym a ∙ b)

pub pitch_named : {n : ℕ} → is_pitch n ≡ true → (p : Pitch) × (n ≡ pitch_of p)
pitch_named {n} h = go (eqb n 1) (eqb n 2) (eqb n 5) (eqb n 10) refl refl refl refl
  where
    go : (a b c d : Bool) → eqb n 1 ≡ a → eqb n 2 ≡ b → eqb n 5 ≡ c → eqb n 10 ≡ d → (p : Pitch) × (n ≡ pitch_of p)
    go true b c d e f g k = (One, eqb-true n 1 e)
    go false true c d e f g k = (Two, eqb-true n 2 f)
    go false false true d e f g k = (Five, eqb-true n 5 g)
    go false false false true e f g k = (Ten, eqb-true n 10 k)
    go false false false false e f g k = absurd (not_pitch n h (pitch_none (eqb-false n 1 e) (eqb-false n 2 f) (eqb-false n 5 g) (eqb-false n 10 k)))

pub number_some : {n : ℕ} → is_pitch n ≡ true → 0 < n
number_some h = let p = pitch_named h in subst (λ (n : ℕ). 0 < n) (sym p.1) (pitch_some p.0)

pub number_most : {n : ℕ} → is_pitch n ≡ true → n ≤ 10
number_most h = let p = pitch_named h in subst (λ (n : ℕ). n ≤ 10) (sym p.1) (pitch_most p.0)

-- what a number was found to name
pub named_none : (n : ℕ) {m : Result Pitch Refusal} {r : Refusal} → Names n m → m ≡ Err r → is_pitch n ≡ false
named_none n h e = (subst (Names n) e h).0

pub named_refuses : (n : ℕ) {m : Result Pitch Refusal} {r : Refusal} → Names n m → m ≡ Err r → r ≡ NoPitch
named_refuses n h e = (subst (Names n) e h).1

pub named_is : (n : ℕ) {m : Result Pitch Refusal} (p : Pitch) → Names n m → m ≡ Ok p → n ≡ pitch_of p
named_is n p h e = subst (Names n) e h

-- Things met one after another: one more is met last, no two of those met are one, and each stands at its own place.
use Rattle.std.specs.Prelude.{Option, Some}
use mathlib.Core.Path.{◌≡◌, refl, sym, ap, ◌∙◌, subst}
use mathlib.Core.Bool.{Bool, true, false, cond}
use mathlib.Core.Logic.{⊎_elim}
use mathlib.Core.List.{List, [], ◌∷◌, ◌++◌}
use Prim.Native.Nat.{ℕ, zero, suc, ◌+◌, ◌<◌, ◌≤◌}
use native.Mathlib.Omega.{arith}
use native.Mathlib.Nat.{eq-or-lt_of_le, le_refl}
use lib.ListN.{length, get_or, get_or-append, length-append}
use Rattle.surface_rules.specs.Smallest.{least, any}
use Rattle.surface_rules.proofs.Laws.Smallest.{any_never, any_index, index_any, never_any, never_least, least_at}
use Rattle.stl_rules.specs.FirstUse.{stands, meet, meet_all, first_uses, index_or}

-- what stands in a list with one more
module _ {A : Type 0} (no : A) where
  pub more_before : (l : List A) (x : A) (k : ℕ) → k < length l → get_or (l ++ (x ∷ [])) k no ≡ get_or l k no
  more_before l x k h = get_or-append l (x ∷ []) no k h

  pub more_last : (l : List A) (x : A) → get_or (l ++ (x ∷ [])) (length l) no ≡ x
  more_last [] x = refl
  more_last (y ∷ l) x = more_last l x

  pub more_length : (l : List A) (x : A) → length (l ++ (x ∷ [])) ≡ length l + 1
  more_length l x = length-append l (x ∷ [])

module _ {A : Type 0} (same : A → A → Bool) (no : A) where
  -- one more is met last
  pub meet_all_more : (met l : List A) (x : A) → meet_all same no met (l ++ (x ∷ [])) ≡ meet same no (meet_all same no met l) x
  unfolding meet_all
  meet_all_more met [] x = refl
  meet_all_more met (y ∷ l) x = meet_all_more (meet same no met y) l x

  pub uses_more : (l : List A) (x : A) → first_uses same no (l ++ (x ∷ [])) ≡ meet same no (first_uses same no l) x
  unfolding first_uses
  uses_more l x = meet_all_more [] l x

  pub meet_known : (met : List A) (x : A) (k : ℕ) → k < length met → same (get_or met k no) x ≡ true → meet same no met x ≡ met
  unfolding meet stands
  meet_known met x k h e = rw (index_any (λ (k : ℕ). same (get_or met k no) x) (length met) k h e)

  pub meet_new : (met : List A) (x : A) → ((k : ℕ) → k < length met → same (get_or met k no) x ≡ false) → meet same no met x ≡ met ++ (x ∷ [])
  unfolding meet stands
  meet_new met x w = rw (never_any (λ (k : ℕ). same (get_or met k no) x) (length met) w)

  -- they are no fewer
  pub meet_length : (met : List A) (x : A) → length met ≤ length (meet same no met x)
  unfolding meet
  meet_length met x = go (any (stands same no met x))
    where
      go : (b : Bool) → length met ≤ length (cond b met (met ++ (x ∷ [])))
      go true = le_refl (length met)
      go false = omega (arith, more_length no met x)

  -- and at most one more each time, so that there are no more than things
  meet_few : (met : List A) (x : A) → length (meet same no met x) ≤ length met + 1
  unfolding meet
  meet_few met x = go (any (stands same no met x))
    where
      go : (b : Bool) → length (cond b met (met ++ (x ∷ []))) ≤ length met + 1
      go true = omega arith
      go false = omega (arith, more_length no met x)

  all_few : (met l : List A) → length (meet_all same no met l) ≤ length met + length l
  unfolding meet_all
  all_few met [] = omega arith
  all_few met (x ∷ l) = omega (arith, meet_few met x, all_few (meet same no met x) l)

  pub uses_few : (l : List A) → length (first_uses same no l) ≤ length l
  unfolding first_uses
  uses_few l = omega (arith, all_few [] l)

  -- no two are one
  unfoldable pub Distinct : List A → Type 0
  Distinct met = (j k : ℕ) → j < k → k < length met → same (get_or met j no) (get_or met k no) ≡ false

  pub distinct_meet : (met : List A) (x : A) → Distinct met → Distinct (meet same no met x)
  unfolding meet Distinct stands
  distinct_meet met x d = go (any (least (λ (k : ℕ). same (get_or met k no) x) (length met))) refl
    where
      go : (b : Bool) → any (least (λ (k : ℕ). same (get_or met k no) x) (length met)) ≡ b
          → (j k : ℕ) → j < k → k < length (cond b met (met ++ (x ∷ []))) → same (get_or (cond b met (met ++ (x ∷ []))) j no) (get_or (cond b met (met ++ (x ∷ []))) k no) ≡ false
      go true e = d
      go false e = λ j k l h.
          let q : k ≤ length met = omega (arith, more_length no met x) in
          ⊎_elim
          (λ (z : k ≡ length met).
          ap (λ (y : A). same y (get_or (met ++ (x ∷ [])) k no)) (more_before no met x j (omega arith))
          ∙ ap (same (get_or met j no)) (ap (λ (y : ℕ). get_or (met ++ (x ∷ [])) y no) z ∙ more_last no met x)
          ∙ any_never (λ (k : ℕ). same (get_or met k no) x) (length met) e j (omega arith))
          (λ (z : k < length met). ap (λ (y : A). same y (get_or (met ++ (x ∷ [])) k no)) (more_before no met x j (omega arith)) ∙ ap (same (get_or met j no)) (more_before no met x k z) ∙ d j k l z)
          (eq-or-lt_of_le q)

  pub distinct_all : (met l : List A) → Distinct met → Distinct (meet_all same no met l)
  unfolding meet_all
  distinct_all met [] d = d
  distinct_all met (x ∷ l) d = distinct_all (meet same no met x) l (distinct_meet met x d)

  pub uses_distinct : (l : List A) → Distinct (first_uses same no l)
  unfolding first_uses Distinct
  uses_distinct l = distinct_all [] l (λ j k a b. absurd (omega arith))

  -- each stands at its own place
  pub stands_at : (met : List A) (k : ℕ) → Distinct met → k < length met → same (get_or met k no) (get_or met k no) ≡ true → stands same no met (get_or met k no) ≡ Some k
  unfolding stands Distinct
  stands_at met k d h e = least_at _ k (length met) (never_least _ k (λ j l. d j k l h)) e h

  -- x is one of those met
  abbrev pub Stands : List A → A → Type 0
  Stands met x = (k : ℕ) × (k < length met) × (same (get_or met k no) x ≡ true)

  meet_keeps : (met : List A) (x y : A) → Stands met y → Stands (meet same no met x) y
  unfolding meet
  meet_keeps met x y s = go (any (stands same no met x))
    where
      go : (b : Bool) → Stands (cond b met (met ++ (x ∷ []))) y
      go true = s
      go false = (s.0, (let l : s.0 < length met = s.1 in let e = more_length no met x in omega arith), ap (λ (z : A). same z y) (more_before no met x s.0 s.1) ∙ s.2)

  module _ (self : (x : A) → same x x ≡ true) where
    meet_stands : (met : List A) (x : A) → Stands (meet same no met x) x
    unfolding meet stands
    meet_stands met x = go (any (least (λ (k : ℕ). same (get_or met k no) x) (length met))) refl
      where
        go : (b : Bool) → any (least (λ (k : ℕ). same (get_or met k no) x) (length met)) ≡ b → Stands (cond b met (met ++ (x ∷ []))) x
        go true e = let q = any_index (λ (k : ℕ). same (get_or met k no) x) (length met) e in (q.0, q.2, q.3)
        go false e = (length met, (let l = more_length no met x in omega arith), ap (λ (z : A). same z x) (more_last no met x) ∙ self x)

    all_keep : (met l : List A) (y : A) → Stands met y → Stands (meet_all same no met l) y
    unfolding meet_all
    all_keep met [] y s = s
    all_keep met (x ∷ l) y s = all_keep (meet same no met x) l y (meet_keeps met x y s)

    all_stand : (met l : List A) (i : ℕ) → i < length l → Stands (meet_all same no met l) (get_or l i no)
    unfolding meet_all
    all_stand met [] i h = absurd (omega arith)
    all_stand met (x ∷ l) zero h = all_keep (meet same no met x) l x (meet_stands met x)
    all_stand met (x ∷ l) (suc i) h = all_stand (meet same no met x) l i (omega arith)

    -- each of a list has the number of one that is the same
    pub number_stands : (l : List A) (i : ℕ) → i < length l → same (get_or (first_uses same no l) (index_or same no (stands same no (first_uses same no l) (get_or l i no))) no) (get_or l i no) ≡ true
    unfolding first_uses stands
    number_stands l i h =
        let s = all_stand [] l i h in
        let q = any_index (λ (k : ℕ). same (get_or (meet_all same no [] l) k no) (get_or l i no)) (length (meet_all same no [] l)) (index_any (λ (k : ℕ). same (get_or (meet_all same no [] l) k no) (get_or l i no)) (length (meet_all same no [] l)) s.0 s.1 s.2) in
        ap (λ (f : Option ℕ). same (get_or (meet_all same no [] l) (index_or same no f) no) (get_or l i no)) q.1 ∙ q.3

    -- and that is the number of one that is met
    pub number_below : (l : List A) (i : ℕ) → i < length l → index_or same no (stands same no (first_uses same no l) (get_or l i no)) < length (first_uses same no l)
    unfolding first_uses stands
    number_below l i h =
        let s = all_stand [] l i h in
        let q = any_index (λ (k : ℕ). same (get_or (meet_all same no [] l) k no) (get_or l i no)) (length (meet_all same no [] l)) (index_any (λ (k : ℕ). same (get_or (meet_all same no [] l) k no) (get_or l i no)) (length (meet_all same no [] l)) s.0 s.1 s.2) in
        subst (λ (f : Option ℕ). index_or same no f < length (meet_all same no [] l)) (sym q.1) q.2

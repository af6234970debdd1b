-- Things under other names are met in the same order and have the same numbers, where the names tell them apart as before.
use Rattle.std.specs.Prelude.{Option}
use mathlib.Core.Path.{◌≡◌, refl, sym, ap, ◌∙◌}
use mathlib.Core.Bool.{Bool, true, false, cond}
use mathlib.Core.List.{List, [], ◌∷◌, ◌++◌, map, map-append}
use Prim.Native.Nat.{ℕ, zero, suc, ◌<◌}
use native.Mathlib.Omega.{arith}
use lib.ListN.{length, get_or, length-map}
use Rattle.surface_rules.specs.Smallest.{least, any}
use Rattle.surface_rules.proofs.Laws.Smallest.{least_same}
use Rattle.surface_rules.proofs.Laws.Lists.{map_at}
use Rattle.stl_rules.specs.FirstUse.{stands, meet, meet_all, first_uses, index_or, numbers}

-- every one of a list is as P says
abbrev pub All : {A : Type 0} → (A → Type 0) → List A → Type 0
All P [] = Unit {0}
All P (x ∷ l) = P x × All P l

module _ {A : Type 0} (no : A) (P : A → Type 0) where
  pub all_at : (l : List A) → All P l → (k : ℕ) → k < length l → P (get_or l k no)
  all_at [] v k h = absurd (omega arith)
  all_at (x ∷ l) v zero h = v.0
  all_at (x ∷ l) v (suc k) h = all_at l v.1 k (omega arith)

  pub at_all : (l : List A) → ((k : ℕ) → k < length l → P (get_or l k no)) → All P l
  at_all [] w = tt
  at_all (x ∷ l) w = (w 0 (omega arith), at_all l (λ k h. w (suc k) (omega arith)))

  all_more : (l : List A) (x : A) → All P l → P x → All P (l ++ (x ∷ []))
  all_more [] x v p = (p, tt)
  all_more (y ∷ l) x v p = (v.0, all_more l x v.1 p)

  -- what holds of things holds of those that are met
  module _ (same : A → A → Bool) where
    pub meet_keeps : (met : List A) (x : A) → All P met → P x → All P (meet same no met x)
    unfolding meet
    meet_keeps met x v p = go (any (stands same no met x))
      where
        go : (b : Bool) → All P (cond b met (met ++ (x ∷ [])))
        go true = v
        go false = all_more met x v p

    meet_all_keeps : (met l : List A) → All P met → All P l → All P (meet_all same no met l)
    unfolding meet_all
    meet_all_keeps met [] v w = v
    meet_all_keeps met (x ∷ l) v w = meet_all_keeps (meet same no met x) l (meet_keeps met x v w.0) w.1

    pub uses_keep : (l : List A) → All P l → All P (first_uses same no l)
    unfolding first_uses
    uses_keep l w = meet_all_keeps [] l tt w

module _ {A B : Type 0} (same_a : A → A → Bool) (no_a : A) (same_b : B → B → Bool) (no_b : B) (P : A → Type 0) (f : A → B)
    (faithful : (x y : A) → P x → P y → same_b (f x) (f y) ≡ same_a x y) where
  stands_map : (met : List A) (x : A) → All P met → P x → stands same_b no_b (map f met) (f x) ≡ stands same_a no_a met x
  unfolding stands
  stands_map met x v p =
      ap (least (λ (k : ℕ). same_b (get_or (map f met) k no_b) (f x))) (length-map met f)
      ∙ least_same _ _ (length met) (λ k h. ap (λ (b : B). same_b b (f x)) (map_at f no_a no_b met k h) ∙ faithful (get_or met k no_a) x (all_at no_a P met v k h) p)

  meet_map : (met : List A) (x : A) → All P met → P x → meet same_b no_b (map f met) (f x) ≡ map f (meet same_a no_a met x)
  unfolding meet
  meet_map met x v p = ap (λ (s : Option ℕ). cond (any s) (map f met) (map f met ++ (f x ∷ []))) (stands_map met x v p) ∙ go (any (stands same_a no_a met x))
    where
      go : (b : Bool) → cond b (map f met) (map f met ++ (f x ∷ [])) ≡ map f (cond b met (met ++ (x ∷ [])))
      go true = refl
      go false = sym (map-append f met (x ∷ []))

  meet_all_map : (met l : List A) → All P met → All P l → meet_all same_b no_b (map f met) (map f l) ≡ map f (meet_all same_a no_a met l)
  unfolding meet_all
  meet_all_map met [] v w = refl
  meet_all_map met (x ∷ l) v w =
      ap (λ (m : List B). meet_all same_b no_b m (map f l)) (meet_map met x v w.0) ∙ meet_all_map (meet same_a no_a met x) l (meet_keeps no_a P same_a met x v w.0) w.1

  pub uses_map : (l : List A) → All P l → first_uses same_b no_b (map f l) ≡ map f (first_uses same_a no_a l)
  unfolding first_uses
  uses_map l w = meet_all_map [] l tt w

  pub numbers_map : (l : List A) → All P l → numbers same_b no_b (map f l) ≡ numbers same_a no_a l
  unfolding numbers
  numbers_map l w = go l w
    where
      go : (k : List A) → All P k
          → map (λ (b : B). index_or same_b no_b (stands same_b no_b (first_uses same_b no_b (map f l)) b)) (map f k) ≡ map (λ (x : A). index_or same_a no_a (stands same_a no_a (first_uses same_a no_a l) x)) k
      go [] v = refl
      go (x ∷ k) v =
          ap (λ (n : ℕ). n ∷ map (λ (b : B). index_or same_b no_b (stands same_b no_b (first_uses same_b no_b (map f l)) b)) (map f k))
          (ap (λ (m : List B). index_or same_b no_b (stands same_b no_b m (f x))) (uses_map l w) ∙ ap (index_or same_a no_a) (stands_map (first_uses same_a no_a l) x (uses_keep no_a P same_a l w) v.0))
          ∙ ap (λ (r : List ℕ). index_or same_a no_a (stands same_a no_a (first_uses same_a no_a l) x) ∷ r) (go k v.1)

-- What is laid over a buffer's start: one more item goes behind the last, laying as much again hides it, it is read back from there, and what lies
-- behind it is as it was.
use mathlib.Core.Path.{◌≡◌, refl, sym, ap, ◌∙◌}
use mathlib.Core.List.{List, [], ◌∷◌, ◌++◌, append_assoc, append-nil}
use Prim.Native.Nat.{ℕ, suc, ◌+◌, ◌<◌, ◌≤◌}
use native.Mathlib.Nat.{add-zero}
use native.Mathlib.Omega.{arith}
use lib.ListN.{length, get_or, take, drop, set, length-append, length-drop, get_or-append}
use lib.Seq.{drop-cons, set_at, drop-append-add, drop-drop, take-append_seam, get_or-append-add, get_or-drop}
use Rattle.surface_rules.specs.Buffers.{over}

module _ {A : Type 0} where
  pub over_none : (w : List A) → over [] w ≡ w
  unfolding over
  over_none w = refl

  -- one more item; d is any default
  pub over_snoc : (a w : List A) (v d : A) (n : ℕ) → n ≡ length a → n < length w → set (over a w) n v ≡ over (a ++ (v ∷ [])) w
  unfolding over
  over_snoc a w v d n e l =
      let m : length (a ++ (v ∷ [])) ≡ length a + 1 = length-append a (v ∷ []) in
      let z : suc n ≡ length (a ++ (v ∷ [])) = omega arith in
      ap (λ (r : List A). set (a ++ r) n v) (ap (λ (k : ℕ). drop k w) (sym e) ∙ drop-cons w n d l)
      ∙ set_at a (get_or w n d) (drop (suc n) w) v n (sym e)
      ∙ ap (λ (k : ℕ). a ++ (v ∷ drop k w)) z
      ∙ sym (append_assoc a (v ∷ []) (drop (length (a ++ (v ∷ []))) w))

  pub over_twice : (a b w : List A) → over (a ++ b) (over a w) ≡ over (a ++ b) w
  unfolding over
  over_twice a b w =
      let m : length (a ++ b) ≡ length a + length b = length-append a b in
      rw (m, drop-append-add a (drop (length a) w) (length b), drop-drop (length b) (length a) w)

  pub over_self : (a w : List A) → over a (over a w) ≡ over a w
  over_self a w = rw append-nil at (over_twice a [] w)

  -- what stands at the start of a buffer that it was laid over
  pub start_of : (a w : List A) (n : ℕ) → n ≡ length a → take n (over a w) ≡ a
  unfolding over
  start_of a w n e = ap (λ (k : ℕ). take k (a ++ drop (length a) w)) e ∙ take-append_seam a (drop (length a) w)

  pub front_in : (a w l : List A) (n : ℕ) → n ≡ length a → l ≡ over a w → n ≤ length l
  unfolding over
  front_in a w l n e f =
      let m : length l ≡ length a + length (drop (length a) w) = ap length f ∙ length-append a (drop (length a) w) in
      omega arith

  pub over_long : (a w : List A) → length a ≤ length w → length (over a w) ≡ length w
  unfolding over
  over_long a w h = omega (arith, length-append a (drop (length a) w), length-drop (length a) w)

  -- as much laid over it again hides it
  pub over_again : (a b w : List A) → length a ≡ length b → over a (over b w) ≡ over a w
  unfolding over
  over_again a b w e =
      ap (λ (n : ℕ). a ++ drop n (b ++ drop (length b) w)) (e ∙ sym (add-zero (length b)))
      ∙ ap (λ (x : List A). a ++ x) (drop-append-add b (drop (length b) w) 0)
      ∙ ap (λ (n : ℕ). a ++ drop n w) (sym e)

  -- an item of it, and the first one behind it
  pub front_at : (a w : List A) (i : ℕ) (d : A) → i < length a → get_or (over a w) i d ≡ get_or a i d
  unfolding over
  front_at a w i d h = get_or-append a (drop (length a) w) d i h

  pub behind_at : (a w : List A) (n : ℕ) (d : A) → n ≡ length a → get_or (over a w) n d ≡ get_or w n d
  unfolding over
  behind_at a w n d e =
      let z : n ≡ length a + 0 = e ∙ sym (add-zero (length a)) in
      ap (λ (k : ℕ). get_or (a ++ drop (length a) w) k d) z
      ∙ get_or-append-add a (drop (length a) w) 0 d
      ∙ get_or-drop (length a) w 0 d
      ∙ ap (λ (k : ℕ). get_or w k d) (sym z)

-- What is laid into a buffer behind what stands there: the buffer is then written as far as both reach, and the rest stays.
use mathlib.Core.Path.{◌≡◌, sym, ap, ◌∙◌}
use mathlib.Core.List.{List, [], ◌∷◌, ◌++◌, append_assoc}
use Prim.Native.Nat.{ℕ, suc, ◌+◌, ◌-◌, ◌<◌, ◌≤◌}
use native.Mathlib.Nat.{add-zero}
use native.Mathlib.Omega.{arith}
use lib.ListN.{length, get_or, take, drop, set, length-append, length-drop, take-append-drop}
use lib.Seq.{drop-cons, length-take-le, set_at, drop-append-add, drop-drop, take-append_seam}
use Rattle.surface_rules.specs.Buffers.{over, laid}

module _ {A : Type 0} where
  -- behind what stands at the start
  pub laid_over : (a b w : List A) (n : ℕ) → n ≡ length a → laid n b (over a w) ≡ over (a ++ b) w
  unfolding over laid
  laid_over a b w n e =
      let m : length (a ++ b) ≡ length a + length b = length-append a b in
      rw (e, take-append_seam a (drop (length a) w), drop-append-add a (drop (length a) w) (length b), drop-drop (length b) (length a) w, m, append_assoc)

  -- behind what was laid
  pub laid_then : (p q : ℕ) (a b w : List A) → q ≡ p + length a → q ≤ length w → laid q b (laid p a w) ≡ laid p (a ++ b) w
  unfolding laid
  laid_then p q a b w e l =
      let n : length (take p w ++ a) ≡ q = length-append (take p w) a ∙ ap (λ (k : ℕ). k + length a) (length-take-le p w (omega arith)) ∙ sym e in
      let m : length (a ++ b) ≡ length a + length b = length-append a b in
      let z : q + length b ≡ p + length (a ++ b) = omega arith in
      rw (← e, ← append_assoc (take p w) a (drop q w))
      (ap (λ (k : ℕ). take k ((take p w ++ a) ++ drop q w) ++ (b ++ drop (k + length b) ((take p w ++ a) ++ drop q w))) (sym n)
      ∙ ap (λ (r : List A). r ++ (b ++ drop (length (take p w ++ a) + length b) ((take p w ++ a) ++ drop q w))) (take-append_seam (take p w ++ a) (drop q w))
      ∙ ap (λ (r : List A). (take p w ++ a) ++ (b ++ r)) (drop-append-add (take p w ++ a) (drop q w) (length b) ∙ drop-drop (length b) q w)
      ∙ ap (λ (k : ℕ). (take p w ++ a) ++ (b ++ drop k w)) z
      ∙ append_assoc (take p w) a (b ++ drop (p + length (a ++ b)) w)
      ∙ ap (λ (r : List A). take p w ++ r) (sym (append_assoc a b (drop (p + length (a ++ b)) w))))

  module _ (at : ℕ) (w : List A) where
    pub laid_none : laid at [] w ≡ w
    unfolding laid
    laid_none = rw add-zero (take-append-drop at w)

    -- the length stays
    pub laid_length : (a : List A) → at + length a ≤ length w → length (laid at a w) ≡ length w
    unfolding laid
    laid_length a l =
        let x : length (take at w) ≡ at = length-take-le at w (omega arith) in
        let y : length (drop (at + length a) w) ≡ length w - (at + length a) = length-drop (at + length a) w in
        let z : length (a ++ drop (at + length a) w) ≡ length a + length (drop (at + length a) w) = length-append a (drop (at + length a) w) in
        length-append (take at w) (a ++ drop (at + length a) w) ∙ omega arith

    -- one more item; d is any default
    pub laid_more : (d : A) (new : List A) (a : A) (o : ℕ) → o ≡ at + length new → o < length w → set (laid at new w) o a ≡ laid at (new ++ (a ∷ [])) w
    unfolding laid
    laid_more d new a o e l =
        let n : length (take at w ++ new) ≡ o = length-append (take at w) new ∙ ap (λ (k : ℕ). k + length new) (length-take-le at w (omega arith)) ∙ sym e in
        let m : length (new ++ (a ∷ [])) ≡ length new + 1 = length-append new (a ∷ []) in
        let z : suc o ≡ at + length (new ++ (a ∷ [])) = omega arith in
        ap (λ (r : List A). set r o a) (sym (append_assoc (take at w) new (drop (at + length new) w)) ∙ ap (λ (k : ℕ). (take at w ++ new) ++ drop k w) (sym e) ∙ ap (λ (r : List A). (take at w ++ new) ++ r) (drop-cons w o d l))
        ∙ set_at (take at w ++ new) (get_or w o d) (drop (suc o) w) a o n
        ∙ ap (λ (k : ℕ). (take at w ++ new) ++ (a ∷ drop k w)) z
        ∙ append_assoc (take at w) new (a ∷ drop (at + length (new ++ (a ∷ []))) w)
        ∙ ap (λ (r : List A). take at w ++ r) (sym (append_assoc new (a ∷ []) (drop (at + length (new ++ (a ∷ []))) w)))

-- The library's `position` in a list is the smallest index at which the number has the property.
use Rattle.std.specs.Prelude.{◌≡◌, Bool, true, false, cond, List, ℕ, ◌<◌, ltb, length, get_or, Option, Some, None}
use Rattle.std.specs.List.{position, position_or_len}
use Rattle.std.proofs.Common.{refl, sym, arith}
use Rattle.std.proofs.lemmas.List.Sums.{position_or_len_is}
use borrow.Author.Tests.{lt-ltb, le-ltb}
use Rattle.surface_rules.specs.Smallest.{least}
use Rattle.surface_rules.proofs.Laws.Smallest.{least_sound, least_first, least_never}

module _ (p : ℕ → Bool) (xs : List ℕ) where
  abbrev at : ℕ → Bool
  at i = p (get_or xs i 0)

  pub position_least : position p xs ≡ least (λ i. p (get_or xs i 0)) (length xs)
  position_least = go (least at (length xs)) refl
    where
      go : (f : Option ℕ) → least at (length xs) ≡ f → position p xs ≡ least at (length xs)
      go (Some i) e =
          let s = least_sound at (length xs) i e in
          let w : position_or_len p xs ≡ i = position_or_len_is p xs i 0 (omega arith) (least_first at (length xs) i e) (λ l. s.1) in
          rw (w, lt-ltb i (length xs) s.0) (sym e)
      go None e =
          let w : position_or_len p xs ≡ length xs = position_or_len_is p xs (length xs) 0 (omega arith) (least_never at (length xs) e) (λ l. absurd (omega arith)) in
          rw (w, le-ltb (length xs) (length xs) (omega arith)) (sym e)

-- The two bytes at which a line begins, looked at one by one, and a text too short for a line.
use mathlib.Core.Path.{◌≡◌, refl, sym, ap, ◌∙◌}
use mathlib.Core.Bool.{true}
use mathlib.Core.List.{List, [], ◌∷◌}
use Prim.Native.Nat.{ℕ, suc, ◌+◌, ◌<◌, ◌≤◌}
use native.Mathlib.Numerals.{add-one}
use native.Mathlib.Omega.{arith}
use lib.Dec.{leb}
use lib.ListN.{length, drop, get_or, length-drop}
use lib.Seq.{drop-cons}
use borrow.Author.Tests.{eq-eqb, ne_eqb, leb-true}
use Rattle.surface_rules.specs.Threes.{Three}
use Rattle.text_digits.specs.Workings.Reading.{Read, wrong, got, read_key}
use Rattle.text_sheet.specs.Workings.Parse.{read_point}
use Rattle.text_sheet.proofs.Laws.Exactly.{point_takes}

-- where b bytes are left, and b is enough for both
module _ (text : List ℕ) (at k l b : ℕ) (room : at + b ≤ length text) (both : leb 2 b ≡ true) where
  more : at + 1 < length text
  more = omega (arith, leb-true 2 b both)

  pub key_first_bad : (get_or text at 0 ≡ k → ⊥) → wrong ≡ read_key (k ∷ l ∷ []) (drop at text)
  unfolding read_key
  key_first_bad d = sym (rw (drop-cons text at 0 (omega (arith, more)), ne_eqb (get_or text at 0) k d))

  module _ (e : get_or text at 0 ≡ k) where
    opened : read_key (k ∷ l ∷ []) (drop at text) ≡ read_key (l ∷ []) (drop (at + 1) text)
    unfolding read_key
    opened = rw (drop-cons text at 0 (omega (arith, more)), eq-eqb (get_or text at 0) k e, add-one at)

    pub key_second_bad : (get_or text (at + 1) 0 ≡ l → ⊥) → wrong ≡ read_key (k ∷ l ∷ []) (drop at text)
    unfolding read_key
    key_second_bad d = sym (opened ∙ rw (drop-cons text (at + 1) 0 more, ne_eqb (get_or text (at + 1) 0) l d))

    pub key_whole : get_or text (at + 1) 0 ≡ l → got tt (drop (at + 2) text) ≡ read_key (k ∷ l ∷ []) (drop at text)
    unfolding read_key
    key_whole d =
        let e : suc (at + 1) ≡ at + 2 = omega arith in
        sym (opened ∙ rw (drop-cons text (at + 1) 0 more, eq-eqb (get_or text (at + 1) 0) l d) (ap (λ (n : ℕ). got tt (drop n text)) e))

pub point_short : (text : List ℕ) (at : ℕ) → length text < at + 29 → wrong ≡ read_point (drop at text)
point_short text at h = sym (go (read_point (drop at text)) refl)
  where
    go : (r : Read Three) → read_point (drop at text) ≡ r → read_point (drop at text) ≡ wrong
    go wrong e = e
    go (got t rest) e = absurd (omega (arith, point_takes (drop at text) rest t e, length-drop at text))

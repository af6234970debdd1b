-- How many digits corners have, one by one and in all, and when a text has room.
use mathlib.Core.Path.{◌≡◌, sym, ap, ◌∙◌}
use mathlib.Core.Bool.{true}
use mathlib.Core.List.{List, ◌∷◌, flatten}
use mathlib.Core.Logic.{◌⊎◌, inl, inr}
use Prim.Native.Nat.{ℕ, ◌+◌, ◌*◌, ◌/◌, ◌<◌, ◌≤◌}
use native.Mathlib.Numerals.{add-one}
use native.Mathlib.Omega.{arith}
use mir.Val.{Fits}
use mir.Syntax.{w16}
use lib.Dec.{leb}
use lib.ListN.{length, drop, get_or, drop_of_length-le}
use lib.Seq.{drop-cons}
use borrow.Author.Tests.{le-leb}
use Rattle.text_digits.specs.Numeral.{size}
use Rattle.text_digits.proofs.Laws.Digit.{size_one}
use Rattle.text_digits.proofs.Laws.Sizes.{size_two, size_three, size_four, size_five, size_most, size_below}
use Rattle.text_sheet.specs.Sheet.{head, text}
use Rattle.text_sheet.proofs.Laws.Sizes.{digits_of, digits_more, digits_most, text_length}
use Rattle.text_line.specs.Workings.Means.{Counted, needed}

-- ---- one corner

-- 1 where c has reached t
abbrev pub Flag : ℕ → ℕ → ℕ → Type 0
Flag t c a = ((t ≤ c) × (a ≡ 1)) ⊎ ((c < t) × (a ≡ 0))

-- for each power of ten
pub record Flags (c a b d e : ℕ) : Type 0 where
  pub tens : Flag 10 c a
  pub hundreds : Flag 100 c b
  pub thousands : Flag 1000 c d
  pub last : Flag 10000 c e

pub flags_size : {c a b d e : ℕ} → c < 100000 → Flags c a b d e → 1 + a + b + d + e ≡ size c
flags_size {c} {a} {b} {d} {e} h flags = go flags.tens flags.hundreds flags.thousands flags.last
  where
    go : Flag 10 c a → Flag 100 c b → Flag 1000 c d → Flag 10000 c e → 1 + a + b + d + e ≡ size c
    go (inr f) (inr g) (inr i) (inr j) = omega (arith, size_one c f.0, f.1, g.1, i.1, j.1)
    go (inl f) (inr g) (inr i) (inr j) = omega (arith, size_two c f.0 g.0, f.1, g.1, i.1, j.1)
    go (inl f) (inl g) (inr i) (inr j) = omega (arith, size_three c g.0 i.0, f.1, g.1, i.1, j.1)
    go (inl f) (inl g) (inl i) (inr j) = omega (arith, size_four c i.0 j.0, f.1, g.1, i.1, j.1)
    go (inl f) (inl g) (inl i) (inl j) = omega (arith, size_five c j.0 h, f.1, g.1, i.1, j.1)
    go (inr f) (inl g) i j = absurd (omega (arith, f.0, g.0))
    go (inr f) (inr g) (inl i) j = absurd (omega (arith, f.0, i.0))
    go (inr f) (inr g) (inr i) (inl j) = absurd (omega (arith, f.0, j.0))
    go (inl f) (inr g) (inl i) j = absurd (omega (arith, g.0, i.0))
    go (inl f) (inr g) (inr i) (inl j) = absurd (omega (arith, g.0, j.0))
    go (inl f) (inl g) (inr i) (inl j) = absurd (omega (arith, i.0, j.0))

corner_fits : (c : ℕ) → Fits w16 c → c < 65536
corner_fits c f = omega (arith, f)

-- ---- all corners

-- the first i are summed
pub record Summed (corners : List ℕ) (i sum : ℕ) : Type 0 where
  pub within : i ≤ length corners
  pub small : sum ≤ 5 * i
  pub rest : sum + length (digits_of (drop i corners)) ≡ length (digits_of corners)

module _ {corners : List ℕ} {i sum : ℕ} (s : Summed corners i sum) where
  pub sum_more : {r : ℕ} → i < length corners → r ≡ size (get_or corners i 0) → r ≤ 5 → Summed corners (i + 1) (sum + r)
  sum_more {r} h e b =
      let d : drop i corners ≡ get_or corners i 0 ∷ drop (i + 1) corners = drop-cons corners i 0 h ∙ ap (λ (k : ℕ). get_or corners i 0 ∷ drop k corners) (sym (add-one i)) in
      record {
        within = omega arith;
        small = omega (arith, s.small);
        rest = omega (arith, s.rest, ap (λ (l : List ℕ). length (digits_of l)) d, digits_more (get_or corners i 0) (drop (i + 1) corners));
      }

  pub sum_ends : length corners ≤ i → sum ≡ length (digits_of corners)
  unfolding flatten
  sum_ends h = omega (arith, s.rest, ap (λ (l : List ℕ). length (digits_of l)) (drop_of_length-le corners h))

pub size_few : {r c : ℕ} → Fits w16 c → r ≡ size c → r ≤ 5
size_few {r} {c} f e = omega (arith, e, size_most c (omega (arith, f)))

pub digits_few : (corners : List ℕ) → ((i : ℕ) → Fits w16 (get_or corners i 0)) → length (digits_of corners) ≤ 5 * length corners
digits_few corners f = digits_most corners (λ i h. corner_fits (get_or corners i 0) (f i))

-- ---- a text

pub needed_sum : (n a b d : ℕ) (corners : List ℕ) → a ≡ size n → b ≡ size (length corners / 3) → d ≡ length (digits_of corners)
    → 19 + (a + b) + 29 * n + 5 * (length corners / 3) + d ≡ needed n corners
unfolding needed
needed_sum n a b d corners e f g = rw (e, f, g)

module _ (n : ℕ) (corners : List ℕ) (k : Counted n (length corners)) where
  whole : length corners ≡ 3 * (length corners / 3)
  whole = omega (arith, k.whole)

  pub needed_is : (pitch : ℕ) (words : List ℕ) → length words ≡ 3 * n → length (flatten (head pitch)) + needed n corners ≡ length (text pitch words corners)
  unfolding needed
  needed_is pitch words h = omega (arith, text_length pitch n (length corners / 3) words corners h whole)

  -- the longest text of so many points and triangles
  pub needed_most : ((i : ℕ) → Fits w16 (get_or corners i 0)) → needed n corners ≤ 27 + 29 * n + 20 * (length corners / 3)
  unfolding needed
  needed_most f =
      omega (
        arith,
        digits_few corners f,
        whole,
        size_below 3 n (omega (arith, k.few_points)),
        size_below 3 (length corners / 3) (omega (arith, k.few_corners)),
      )

  -- where there is room for that below a head, there is for this one
  pub room_for_longest : (room top : ℕ) → ((i : ℕ) → Fits w16 (get_or corners i 0)) → top + 27 + 29 * n + 20 * (length corners / 3) ≤ room → true ≡ leb (top + needed n corners) room
  room_for_longest room top f h = sym (le-leb (top + needed n corners) room (omega (arith, needed_most f)))

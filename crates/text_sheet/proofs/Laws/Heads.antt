-- The head of a sheet text: the lines of the pitches kept apart from each other and from what stands below them, and the one that is found.
use mathlib.Core.Path.{◌≡◌, refl, sym, ap, ◌∙◌}
use mathlib.Core.Bool.{Bool, true, false}
use mathlib.Core.Logic.{◌⊎◌, inl, inr}
use mathlib.Core.List.{List, [], ◌∷◌, ◌++◌, flatten, append-nil}
use Prim.Native.Nat.{ℕ, ◌+◌, ◌≤◌}
use native.Mathlib.Omega.{arith}
use lib.Dec.{eqb}
use lib.ListN.{length}
use borrow.Author.Tests.{ne_eqb, eqb-true, eqb-false}
use Rattle.base_types.specs.Pitches.{is_pitch}
use Rattle.base_types.proofs.Laws.Pitches.{number_most}
use Rattle.surface_rules.specs.Threes.{Three}
use Rattle.text_digits.specs.Numeral.{size}
use Rattle.text_digits.specs.Workings.Reading.{got}
use Rattle.text_digits.proofs.Laws.Sizes.{size_below}
use Rattle.text_rules.specs.Text.{Format, count, Both, both_lines, parts}
use Rattle.text_rules.specs.Workings.Parse.{read_count}
use Rattle.text_rules.proofs.Laws.Counts.{count_exact}
use Rattle.text_rules.proofs.Laws.Headed.{Apart}
use Rattle.text_sheet.specs.Sheet.{pitch=, points=, points, triangles, head}
use Rattle.text_sheet.proofs.Laws.Exactly.{size_some}
use Rattle.text_sheet.proofs.Laws.Sizes.{count_length}

-- what stands below a head
abbrev pub below : Format (Both Three Three)
below = parts points triangles

-- ---- the lines of heads

-- "Pitch 1 is written without the line", and any other with it
pub head_none : head 1 ≡ []
unfolding head
head_none = refl

pub head_line : {n : ℕ} → (n ≡ 1 → ⊥) → head n ≡ count pitch= n ∷ []
unfolding head
head_line {n} h = rw (ne_eqb n 1 h)

pub line_is : {n : ℕ} {x : List ℕ} {xs : List (List ℕ)} → head n ≡ x ∷ xs → (n ≡ 1 → ⊥) × (x ≡ count pitch= n)
line_is {n} {x} {xs} e = go (eqb n 1) refl
  where
    go : (t : Bool) → eqb n 1 ≡ t → (n ≡ 1 → ⊥) × (x ≡ count pitch= n)
    go true d = let c : [] ≡ x ∷ xs = sym (ap head (eqb-true n 1 d) ∙ head_none) ∙ e in let z : ◌≡◌ {A = ℕ} 0 1 = cc in absurd (omega arith)
    go false d = let c : x ∷ xs ≡ count pitch= n ∷ [] = sym e ∙ head_line (eqb-false n 1 d) in (eqb-false n 1 d, cc)

pub head_flat : {n : ℕ} → (n ≡ 1 → ⊥) → flatten (head n) ≡ count pitch= n
unfolding flatten
head_flat {n} h = ap flatten (head_line h) ∙ append-nil (count pitch= n)

-- how long a head is
pub line_long : (n : ℕ) → 8 ≤ length (count pitch= n)
line_long n = omega (arith, count_length pitch= n, size_some n)

pub head_long : {n : ℕ} → (n ≡ 1 → ⊥) → length (flatten (head n)) ≡ 7 + size n
head_long {n} h = ap length (head_flat h) ∙ count_length pitch= n ∙ omega arith

pub head_most : (n : ℕ) → is_pitch n ≡ true → length (flatten (head n)) ≤ 9
unfolding flatten
head_most n h = go (eqb n 1) refl
  where
    go : (t : Bool) → eqb n 1 ≡ t → length (flatten (head n)) ≤ 9
    go true d = rw (eqb-true n 1 d, head_none) (omega arith)
    go false d = omega (arith, head_long (eqb-false n 1 d), size_below 1 n (omega (arith, number_most h)))

-- ---- no two begin alike

-- what begins with a pitch line is read as such
pub line_read : {n : ℕ} {bytes rest : List ℕ} → is_pitch n ≡ true → bytes ≡ count pitch= n ++ rest → read_count pitch= 10 bytes ≡ got n rest
line_read {n} {bytes} {rest} h e = ap (read_count pitch= 10) e ∙ (count_exact pitch= 10).finds n rest (number_most h)

got_same : {m n : ℕ} {a b : List ℕ} → got m a ≡ got n b → m ≡ n
got_same e = cc

-- `pitch=` and `points=` differ at the second byte
pub keys_apart : (m n : ℕ) (a b : List ℕ) → count pitch= m ++ a ≡ count points= n ++ b → ⊥
unfolding count
keys_apart m n a b e = let z : ◌≡◌ {A = ℕ} 105 111 = cc in omega arith

pub heads_apart : Apart (λ n. is_pitch n ≡ true) head below
unfolding is_pitch both_lines
heads_apart = record {
  bare = 1;
  bare_valid = refl;
  bare_is = head_none;
  only = λ n v. lined n;
  heads = λ m n l k a b v w d e q. got_same (sym (line_read v (ap (λ (r : List ℕ). r ++ a) (line_is d).1)) ∙ ap (read_count pitch= 10) q ∙ line_read w (ap (λ (r : List ℕ). r ++ b) (line_is e).1));
  bodies = λ n s l a b v w e. (_, _, refl, λ q. keys_apart n (length s.firsts) a b (sym (ap (λ (r : List ℕ). r ++ a) (line_is e).1) ∙ q));
}
  where
    lined : (n : ℕ) → (n ≡ 1) ⊎ ((l : List ℕ) × (head n ≡ l ∷ []))
    lined n = go (eqb n 1) refl
      where
        go : (t : Bool) → eqb n 1 ≡ t → (n ≡ 1) ⊎ ((l : List ℕ) × (head n ≡ l ∷ []))
        go true d = inl (eqb-true n 1 d)
        go false d = inr (count pitch= n, head_line (eqb-false n 1 d))

pub bare_one : heads_apart.bare ≡ 1
unfolding heads_apart
bare_one = refl

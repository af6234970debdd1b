-- How long a text is: what its counts and its lines take, and the digits of all its corners.
use mathlib.Core.Path.{◌≡◌, refl, sym, ap, ◌∙◌}
use mathlib.Core.List.{List, [], ◌∷◌, ◌++◌, map, flatten, append_assoc, append-nil}
use Prim.Native.Nat.{ℕ, zero, suc, ◌+◌, ◌*◌, ◌<◌, ◌≤◌}
use native.Mathlib.Omega.{arith}
use lib.ListN.{length, get_or, length-append}
use Rattle.surface_rules.specs.Threes.{Three, three, threes}
use Rattle.surface_rules.proofs.Laws.Lists.{flatten_append}
use Rattle.surface_rules.proofs.Laws.Threes.{threes_length}
use Rattle.text_digits.specs.Numeral.{size, decimal}
use Rattle.text_digits.proofs.Laws.Exactly.{length_places, ended_length}
use Rattle.text_digits.proofs.Laws.Sizes.{size_most}
use Rattle.text_rules.specs.Text.{feed, count, both, parts}
use Rattle.text_rules.specs.Text as texts
use Rattle.text_rules.proofs.Laws.Lines.{text_flat}
use Rattle.text_sheet.specs.Sheet.{comma, t=, points=, triangles=, row, points, triangles, head, Sheet, sheet_of, sheet, text}
use Rattle.text_sheet.proofs.Laws.Exactly.{point_length}

-- ---- lines

pub count_length : (key : List ℕ) (n : ℕ) → length (count key n) ≡ length key + size n + 1
unfolding count
count_length key n =
    length-append key (decimal n ++ (feed ∷ [])) ∙ omega (arith, ended_length n feed)

-- a line, each number with the byte that ends it
pub row_ended : (key : List ℕ) (show : ℕ → List ℕ) (t : Three)
    → key ++ ((show t.first ++ (comma ∷ [])) ++ ((show t.second ++ (comma ∷ [])) ++ (show t.third ++ (feed ∷ [])))) ≡ row key show t
unfolding row
row_ended key show t =
    rw (
      append_assoc (show t.first) (comma ∷ []) ((show t.second ++ (comma ∷ [])) ++ (show t.third ++ (feed ∷ []))),
      append_assoc (show t.second) (comma ∷ []) (show t.third ++ (feed ∷ [])),
    )

pub triangle_size : (t : Three) → length (triangles.show t) ≡ 5 + size t.first + size t.second + size t.third
triangle_size t =
    let a : List ℕ = decimal t.first ++ (comma ∷ []) in
    let b : List ℕ = decimal t.second ++ (comma ∷ []) in
    let c : List ℕ = decimal t.third ++ (feed ∷ []) in
    ap length (sym (row_ended t= decimal t))
    ∙ length-append t= (a ++ (b ++ c))
    ∙ omega (arith, length-append a (b ++ c), length-append b c, ended_length t.first comma, ended_length t.second comma, ended_length t.third feed)

-- ---- all lines of a part

pub points_length : (l : List Three) → length (flatten (map points.show l)) ≡ 29 * length l
unfolding flatten
points_length [] = refl
points_length (t ∷ l) = length-append (points.show t) (flatten (map points.show l)) ∙ omega (arith, point_length t, points_length l)

-- the digits of all numbers of a list
abbrev pub digits_of : List ℕ → List ℕ
digits_of l = flatten (map decimal l)

pub digits_more : (x : ℕ) (l : List ℕ) → length (digits_of (x ∷ l)) ≡ size x + length (digits_of l)
unfolding flatten
digits_more x l = length-append (decimal x) (digits_of l) ∙ ap (λ (k : ℕ). k + length (digits_of l)) (length_places 10 (size x) x)

pub triangles_length : (n : ℕ) (l : List ℕ) → length l ≡ 3 * n → length (flatten (map triangles.show (threes l))) ≡ 5 * n + length (digits_of l)
unfolding flatten
triangles_length zero [] h = refl
triangles_length zero (x ∷ l) h = absurd (omega arith)
triangles_length (suc n) [] h = absurd (omega arith)
triangles_length (suc n) (x ∷ []) h = absurd (omega arith)
triangles_length (suc n) (x ∷ y ∷ []) h = absurd (omega arith)
triangles_length (suc n) (x ∷ y ∷ z ∷ l) h =
    length-append (triangles.show (three x y z)) (flatten (map triangles.show (threes l)))
    ∙ omega (arith, triangle_size (three x y z), triangles_length n l (omega arith), digits_more x (y ∷ z ∷ l), digits_more y (z ∷ l), digits_more z l)

-- ---- a text

pub lists_length : (ps ts : List Three)
    → length (texts.text (parts points triangles) (both ps ts)) ≡ 19 + size (length ps) + size (length ts) + 29 * length ps + length (flatten (map triangles.show ts))
lists_length ps ts =
    let p : List ℕ = flatten (map points.show ps) in
    let q : List ℕ = flatten (map triangles.show ts) in
    let c : List ℕ = count triangles= (length ts) in
    ap length (text_flat points triangles (both ps ts))
    ∙ length-append (count points= (length ps)) (p ++ (c ++ (q ++ [])))
    ∙ omega (
      arith,
      length-append p (c ++ (q ++ [])),
      length-append c (q ++ []),
      length-append q [],
      count_length points= (length ps),
      count_length triangles= (length ts),
      points_length ps,
    )

-- a head, and what stands below it
pub sheet_flat : (s : Sheet) → texts.text sheet s ≡ flatten (head s.head) ++ texts.text (parts points triangles) s.body
sheet_flat s = flatten_append (head s.head) ((parts points triangles).lines s.body)

module _ (pitch n t : ℕ) (words corners : List ℕ) (h : length words ≡ 3 * n) (k : length corners ≡ 3 * t) where
  -- its head and its four parts
  pub text_parts : flatten (head pitch) ++ (count points= n ++ (flatten (map points.show (threes words)) ++ (count triangles= t ++ flatten (map triangles.show (threes corners)))))
      ≡ text pitch words corners
  text_parts =
      sym (sheet_flat (sheet_of pitch (threes words) (threes corners))
      ∙ ap (λ (r : List ℕ). flatten (head pitch) ++ r) (text_flat points triangles (both (threes words) (threes corners))
      ∙ rw (threes_length n words h, threes_length t corners k, append-nil (flatten (map triangles.show (threes corners))))))

  pub text_length : length (text pitch words corners) ≡ length (flatten (head pitch)) + (19 + size n + size t + 29 * n + 5 * t + length (digits_of corners))
  text_length =
      ap length (sheet_flat (sheet_of pitch (threes words) (threes corners)))
      ∙ length-append (flatten (head pitch)) (texts.text (parts points triangles) (both (threes words) (threes corners)))
      ∙ ap (λ (m : ℕ). length (flatten (head pitch)) + m) (lists_length (threes words) (threes corners)
      ∙ rw (threes_length n words h, threes_length t corners k) (omega (arith, triangles_length t corners k)))

-- numbers of 16 bits have at most five digits each
pub digits_most : (l : List ℕ) → ((i : ℕ) → i < length l → get_or l i 0 < 65536) → length (digits_of l) ≤ 5 * length l
unfolding flatten
digits_most [] h = omega arith
digits_most (x ∷ l) h =
    omega (arith, digits_more x l, digits_most l (λ i b. h (suc i) (omega arith)), size_most x (omega (arith, h 0 (omega arith))))

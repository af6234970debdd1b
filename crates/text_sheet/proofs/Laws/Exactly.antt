-- Each kind of line is read exactly as it is written, and how long it is.
use mathlib.Core.Path.{◌≡◌, sym, ap, ◌∙◌, subst₂}
use mathlib.Core.Bool.{Bool, true, false, cond}
use mathlib.Core.List.{List, [], ◌∷◌, ◌++◌, append_assoc}
use Prim.Native.Nat.{ℕ, zero, suc, ◌+◌, ◌-◌, ◌/◌, ◌<◌, ◌≤◌, ◌^◌}
use native.Mathlib.Omega.{arith}
use lib.Dec.{ltb}
use lib.ListN.{length, length-append}
use Rattle.base_limits.specs.Limits as limits
use Rattle.surface_rules.specs.Threes.{Three, three}
use Rattle.text_digits.specs.Numeral.{size, size_in, hex, decimal}
use Rattle.text_digits.specs.Workings.Reading.{Read, got, Exact, read_key, read_hex, read_decimal, value_of}
use Rattle.text_digits.proofs.Laws.Exactly.{key_exact, hex_exact, decimal_exact, length_places}
use Rattle.text_digits.proofs.Laws.Digit.{value_low}
use Rattle.text_rules.specs.Text.{feed}
use Rattle.text_rules.specs.Workings.Parse.{read_count}
use Rattle.text_rules.proofs.Laws.Counts.{after_got, count_exact}
use Rattle.text_sheet.specs.Sheet.{comma, p=, t=, Every, row, points, triangles}
use Rattle.text_sheet.specs.Workings.Parse.{read_row, read_point, read_triangle}

-- a comma and the line feed are no digits
comma_free : 10 ≤ value_of comma
comma_free = omega (arith, value_low comma (omega arith))

feed_free : 10 ≤ value_of feed
feed_free = omega (arith, value_low feed (omega arith))

-- a number and the byte that ends it
abbrev ended : (ℕ → List ℕ) → ℕ → ℕ → List ℕ
ended show e n = show n ++ (e ∷ [])

module _ (key : List ℕ) (show : ℕ → List ℕ) (P : ℕ → Type 0) (x y : List ℕ → Read ℕ) (ex : Exact P (ended show comma) x) (ey : Exact P (ended show feed) y) where
  -- a line, number by number
  row_parts : (t : Three) (rest : List ℕ)
      → row key show t ++ rest ≡ key ++ (ended show comma t.first ++ (ended show comma t.second ++ (ended show feed t.third ++ rest)))
  unfolding row
  row_parts t rest =
      rw (
        append_assoc key (show t.first ++ (comma ∷ (show t.second ++ (comma ∷ (show t.third ++ (feed ∷ [])))))) rest,
        append_assoc (show t.first) (comma ∷ (show t.second ++ (comma ∷ (show t.third ++ (feed ∷ []))))) rest,
        append_assoc (show t.second) (comma ∷ (show t.third ++ (feed ∷ []))) rest,
        append_assoc (show t.third) (feed ∷ []) rest,
        append_assoc (show t.second) (comma ∷ []) (show t.third ++ (feed ∷ rest)),
        append_assoc (show t.first) (comma ∷ []) (show t.second ++ (comma ∷ (show t.third ++ (feed ∷ rest)))),
      )

  moved : (bytes : List ℕ) (t t' : Three) (rest rest' : List ℕ) → t ≡ t' → rest ≡ rest' → Every P t × (bytes ≡ row key show t ++ rest) → Every P t' × (bytes ≡ row key show t' ++ rest')
  moved bytes t t' rest rest' e f h = subst₂ (λ (x : Three) (y : List ℕ). Every P x × (bytes ≡ row key show x ++ y)) e f h

  row_finds : (t : Three) (rest : List ℕ) → Every P t → read_row key x y (row key show t ++ rest) ≡ got t rest
  unfolding read_row
  row_finds t rest h =
      rw (
        row_parts t rest,
        (key_exact key).finds tt (ended show comma t.first ++ (ended show comma t.second ++ (ended show feed t.third ++ rest))) tt,
        ex.finds t.first (ended show comma t.second ++ (ended show feed t.third ++ rest)) h.first_has,
        ex.finds t.second (ended show feed t.third ++ rest) h.second_has,
        ey.finds t.third rest h.third_has,
      )

  row_true : (bytes : List ℕ) (t : Three) (rest : List ℕ) → read_row key x y bytes ≡ got t rest → Every P t × (bytes ≡ row key show t ++ rest)
  unfolding read_row
  row_true bytes t rest h =
      let k = after_got (read_key key bytes) _ t rest h in
      let i = after_got (x k.1) _ t rest k.3 in
      let j = after_got (x i.1) _ t rest i.3 in
      let l = after_got (y j.1) _ t rest j.3 in
      let z : got (three i.0 j.0 l.0) l.1 ≡ got t rest = l.3 in
      let e : three i.0 j.0 l.0 ≡ t = cc in
      let f : l.1 ≡ rest = cc in
      let kk = (key_exact key).true_to bytes k.0 k.1 k.2 in
      let ii = ex.true_to k.1 i.0 i.1 i.2 in
      let jj = ex.true_to i.1 j.0 j.1 j.2 in
      let ll = ey.true_to j.1 l.0 l.1 l.2 in
      moved bytes (three i.0 j.0 l.0) t l.1 rest e f (
        record { first_has = ii.0; second_has = jj.0; third_has = ll.0 },
        kk.1 ∙ ap (λ (r : List ℕ). key ++ r) (ii.1 ∙ ap (λ (r : List ℕ). ended show comma i.0 ++ r) (jj.1 ∙ ap (λ (r : List ℕ). ended show comma j.0 ++ r) ll.1))
            ∙ sym (row_parts (three i.0 j.0 l.0) l.1),
      )

  row_exact : Exact (Every P) (row key show) (read_row key x y)
  row_exact = record { finds = row_finds; true_to = row_true }

-- the same readings of another name for the same numbers
same_exact : {P Q : ℕ → Type 0} {show : ℕ → List ℕ} {read : List ℕ → Read ℕ} → ((n : ℕ) → P n → Q n) → ((n : ℕ) → Q n → P n) → Exact P show read → Exact Q show read
same_exact to from e =
    record { finds = λ n rest h. e.finds n rest (from n h); true_to = λ bytes n rest h. let p = e.true_to bytes n rest h in (to n p.0, p.1) }

corner_exact : (e : ℕ) → 10 ≤ value_of e → Exact (λ (c : ℕ). c < limits.points) (ended decimal e) (read_decimal e (limits.points - 1))
corner_exact e free = same_exact (λ n h. omega arith) (λ n h. omega arith) (decimal_exact e (limits.points - 1) free)

pub point_exact : Exact points.Valid points.show read_point
point_exact = row_exact p= hex (λ (w : ℕ). w < 2 ^ 32) (read_hex comma) (read_hex feed) (hex_exact comma) (hex_exact feed)

pub triangle_exact : Exact triangles.Valid triangles.show read_triangle
triangle_exact =
    row_exact t= decimal (λ (c : ℕ). c < limits.points) (read_decimal comma (limits.points - 1)) (read_decimal feed (limits.points - 1))
    (corner_exact comma comma_free) (corner_exact feed feed_free)

-- how long lines are
row_length : (key : List ℕ) (show : ℕ → List ℕ) (t : Three) → length (row key show t) ≡ length key + length (show t.first) + length (show t.second) + length (show t.third) + 3
unfolding row
row_length key show t =
    length-append key (show t.first ++ (comma ∷ (show t.second ++ (comma ∷ (show t.third ++ (feed ∷ []))))))
    ∙ omega (
      arith,
      length-append (show t.first) (comma ∷ (show t.second ++ (comma ∷ (show t.third ++ (feed ∷ []))))),
      length-append (show t.second) (comma ∷ (show t.third ++ (feed ∷ []))),
      length-append (show t.third) (feed ∷ []),
    )

pub point_length : (t : Three) → length (points.show t) ≡ 29
point_length t = row_length p= hex t ∙ rw (length_places 16 8 t.first, length_places 16 8 t.second, length_places 16 8 t.third)

at_least : (t : Bool) (k : ℕ) → 1 ≤ cond t 1 (suc k)
at_least true k = omega arith
at_least false k = omega arith

some : (f n : ℕ) → 1 ≤ size_in f n
unfolding size_in
some zero n = omega arith
some (suc f) n = at_least (ltb n 10) (size_in f (n / 10))

pub size_some : (n : ℕ) → 1 ≤ size n
size_some n = some n n

digits_some : (n : ℕ) → 1 ≤ length (decimal n)
digits_some n = omega (arith, length_places 10 (size n) n, size_some n)

pub triangle_length : (t : Three) → 8 ≤ length (triangles.show t)
triangle_length t = omega (arith, row_length t= decimal t, digits_some t.first, digits_some t.second, digits_some t.third)

-- a line that is read is as long as lines are, and says what a line can
module _ (bytes rest : List ℕ) (t : Three) where
  pub point_takes : read_point bytes ≡ got t rest → 29 + length rest ≤ length bytes
  point_takes h =
      let e = (point_exact.true_to bytes t rest h).1 in
      omega (arith, ap length e, length-append (points.show t) rest, point_length t)

  pub triangle_takes : read_triangle bytes ≡ got t rest → 8 + length rest ≤ length bytes
  triangle_takes h =
      let e = (triangle_exact.true_to bytes t rest h).1 in
      omega (arith, ap length e, length-append (triangles.show t) rest, triangle_length t)

  pub triangle_small : read_triangle bytes ≡ got t rest → Every (λ (c : ℕ). c < limits.points) t
  triangle_small h = (triangle_exact.true_to bytes t rest h).0

pub count_few : (key bytes : List ℕ) {most n : ℕ} {rest : List ℕ} → read_count key most bytes ≡ got n rest → n ≤ most
count_few key bytes {most} {n} {rest} h = ((count_exact key most).true_to bytes n rest h).0

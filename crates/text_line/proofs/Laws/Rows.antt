-- One line, written number by number: each part goes behind the last.
use mathlib.Core.Path.{◌≡◌, refl, ap, ◌∙◌}
use mathlib.Core.List.{List, [], ◌∷◌, ◌++◌}
use Prim.Native.Nat.{ℕ, ◌+◌, ◌≤◌}
use native.Mathlib.Omega.{arith}
use lib.ListN.{length, set, length-append, length-set}
use Rattle.surface_rules.specs.Buffers.{laid}
use Rattle.surface_rules.specs.Threes.{three}
use Rattle.surface_rules.proofs.Laws.Laid.{laid_length}
use Rattle.text_digits.specs.Numeral.{size, hex, decimal}
use Rattle.text_digits.proofs.Laws.Exactly.{length_places, ended_length}
use Rattle.text_digits.proofs.Laws.Lay.{lay_two}
use Rattle.text_figures.proofs.Laws.Spelling.{lay_pair}
use Rattle.text_rules.specs.Text.{feed, count}
use Rattle.text_sheet.specs.Sheet.{comma, p=, t=, points, triangles}
use Rattle.text_sheet.proofs.Laws.Sizes.{row_ended, triangle_size}

-- a key and a count
pub count_laid : (key : List ℕ) (n at : ℕ) (text middle after : List ℕ) → at + length (count key n) ≤ length text
    → middle ≡ laid at key text → after ≡ laid (at + length key) (decimal n ++ (feed ∷ [])) middle → after ≡ laid at (count key n) text
unfolding count
count_laid key n at text middle after h f g =
    lay_two at (at + length key) key (decimal n ++ (feed ∷ [])) text middle after (omega (arith, length-append key (decimal n ++ (feed ∷ [])))) refl f g

-- four parts
module _ (at k l m : ℕ) (a b c d : List ℕ) (text one two three four : List ℕ) (h : at + length a + length b + length c + length d ≤ length text)
    (hk : k ≡ at + length a) (hl : l ≡ k + length b) (hm : m ≡ l + length c)
    (e : one ≡ laid at a text) (f : two ≡ laid k b one) (g : three ≡ laid l c two) (i : four ≡ laid m d three) where
  pub lay_parts : four ≡ laid at (a ++ (b ++ (c ++ d))) text
  lay_parts =
      let u : length one ≡ length text = ap length e ∙ laid_length at text a (omega arith) in
      let v : length two ≡ length one = ap length f ∙ laid_length k one b (omega arith) in
      let y : four ≡ laid l (c ++ d) two = lay_two l m c d two three four (omega arith) hm g i in
      let x : four ≡ laid k (b ++ (c ++ d)) one = lay_two k l b (c ++ d) one two four (omega arith) hl f y in
      lay_two at k a (b ++ (c ++ d)) text one four (omega arith) hk e x

-- two bytes at which a line begins change no length
pub pair_length : (text : List ℕ) (at a b : ℕ) → length (set (set text at a) (at + 1) b) ≡ length text
pair_length text at a b = length-set (set text at a) (at + 1) b ∙ length-set text at a

hex_length : (w e : ℕ) → length (hex w ++ (e ∷ [])) ≡ 9
hex_length w e = length-append (hex w) (e ∷ []) ∙ omega (arith, length_places 16 8 w)

-- a line `p=`
pub point_laid : (i j n at : ℕ) (text second third last : List ℕ) → at + 29 ≤ length text
    → second ≡ laid (at + 2) (hex i ++ (comma ∷ [])) (set (set text at 112) (at + 1) 61) → third ≡ laid (at + 11) (hex j ++ (comma ∷ [])) second → last ≡ laid (at + 20) (hex n ++ (feed ∷ [])) third
    → last ≡ laid at (points.show (three i j n)) text
point_laid i j n at text second third last h f g k =
    let x : length (hex i ++ (comma ∷ [])) ≡ 9 = hex_length i comma in
    let y : length (hex j ++ (comma ∷ [])) ≡ 9 = hex_length j comma in
    let z : length (hex n ++ (feed ∷ [])) ≡ 9 = hex_length n feed in
    lay_parts at (at + 2) (at + 11) (at + 20) p= (hex i ++ (comma ∷ [])) (hex j ++ (comma ∷ [])) (hex n ++ (feed ∷ [])) text (set (set text at 112) (at + 1) 61) second third last
    (omega arith) (omega arith) (omega arith) (omega arith) (lay_pair at 112 61 text (omega arith)) f g k
    ∙ ap (λ (r : List ℕ). laid at r text) (row_ended p= hex (three i j n))

-- how long a line `t=` is, and that its first two bytes change no length
pub record RowRoom (i j n at : ℕ) (text : List ℕ) : Type 0 where
  pub long : length (triangles.show (three i j n)) ≡ 5 + size i + size j + size n
  pub one : length (set text at 116) ≡ length text
  pub two : length (set (set text at 116) (at + 1) 61) ≡ length text

pub row_room : {i j n at : ℕ} {text : List ℕ} → RowRoom i j n at text
row_room {i} {j} {n} {at} {text} = record { long = triangle_size (three i j n); one = length-set text at 116; two = pair_length text at 116 61 }

-- a line `t=`
pub triangle_laid : (i j n at k l : ℕ) (text second third last : List ℕ) → at + length (triangles.show (three i j n)) ≤ length text → k ≡ at + 2 + size i + 1 → l ≡ k + size j + 1
    → second ≡ laid (at + 2) (decimal i ++ (comma ∷ [])) (set (set text at 116) (at + 1) 61) → third ≡ laid k (decimal j ++ (comma ∷ [])) second → last ≡ laid l (decimal n ++ (feed ∷ [])) third
    → last ≡ laid at (triangles.show (three i j n)) text
triangle_laid i j n at k l text second third last h hk hl f g o =
    let x : length (decimal i ++ (comma ∷ [])) ≡ size i + 1 = ended_length i comma in
    let y : length (decimal j ++ (comma ∷ [])) ≡ size j + 1 = ended_length j comma in
    let z : length (decimal n ++ (feed ∷ [])) ≡ size n + 1 = ended_length n feed in
    let s : length (triangles.show (three i j n)) ≡ 5 + size i + size j + size n = triangle_size (three i j n) in
    lay_parts at (at + 2) k l t= (decimal i ++ (comma ∷ [])) (decimal j ++ (comma ∷ [])) (decimal n ++ (feed ∷ [])) text (set (set text at 116) (at + 1) 61) second third last
    (omega arith) (omega arith) (omega arith) (omega arith) (lay_pair at 116 61 text (omega arith)) f g o
    ∙ ap (λ (r : List ℕ). laid at r text) (row_ended t= decimal (three i j n))

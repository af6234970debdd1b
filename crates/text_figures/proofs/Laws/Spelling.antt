-- The table of bytes in two digits: one more byte is spelt, and four pairs are a word.
use mathlib.Core.Path.{◌≡◌, refl, sym, ap, ap₂, ◌∙◌}
use mathlib.Core.List.{List, [], ◌∷◌, ◌++◌}
use mathlib.Core.Logic.{◌⊎◌, inl, inr}
use Prim.Native.Nat.{ℕ, ◌+◌, ◌*◌, ◌/◌, ◌%◌, ◌<◌, ◌≤◌}
use native.Mathlib.Nat.{div-div-eq-div-mul}
use native.Mathlib.Omega.{arith}
use lib.ListN.{length, get_or, set, length-set}
use lib.Seq.{get_or-set_same, get_or-set_other}
use Rattle.surface_rules.specs.Buffers.{laid}
use Rattle.surface_rules.proofs.Laws.Tests.{eq_or_not}
use Rattle.surface_rules.proofs.Laws.Laid.{laid_none}
use Rattle.text_digits.specs.Numeral.{byte_of, places, hex}
use Rattle.text_digits.proofs.Laws.Digit.{byte_small}
use Rattle.text_digits.proofs.Laws.Exactly.{length_places}
use Rattle.text_digits.proofs.Laws.Lay.{laid_cons, lay_two, lay_byte}
use Rattle.text_figures.specs.Workings.Tables.{pair_of, Spelled}
use Rattle.text_figures.proofs.Laws.Parts.{part_div, part_mod}

pub spell_more : (n m v : ℕ) (pairs : List ℕ) → n < 256 → m ≡ n + 1 → v ≡ pair_of n → Spelled n pairs → Spelled m (set pairs n v)
spell_more n m v pairs h e z s = record { long = length-set pairs n v ∙ s.long; pair = λ b l. go b l (eq_or_not b n) }
  where
    go : (b : ℕ) → b < m → (b ≡ n) ⊎ (b ≡ n → ⊥) → get_or (set pairs n v) b 0 ≡ pair_of b
    go b l (inl q) = ap (λ (x : ℕ). get_or (set pairs n v) x 0) q ∙ get_or-set_same pairs n v 0 (omega (arith, s.long)) ∙ z ∙ ap pair_of (sym q)
    go b l (inr q) = get_or-set_other pairs n b v 0 q ∙ s.pair b (below q)
      where
        below : (b ≡ n → ⊥) → b < n
        below q = omega arith

pub row_pair : (h l f g : ℕ) → h < 16 → l < 16 → f ≡ byte_of h → g ≡ byte_of l → f + 256 * g ≡ pair_of (16 * h + l)
unfolding pair_of
row_pair h l f g a b p q =
    let d : (16 * h + l) / 16 ≡ h = omega arith in
    let m : (16 * h + l) % 16 ≡ l = omega arith in
    rw (d, m, p, q)

pub pair_low : (b : ℕ) → b < 256 → pair_of b % 256 ≡ byte_of (b / 16)
unfolding pair_of
pair_low b h = omega (arith, byte_small (b / 16) (omega arith))

pub pair_high : (b : ℕ) → b < 256 → pair_of b / 256 ≡ byte_of (b % 16)
unfolding pair_of
pair_high b h = omega (arith, byte_small (b / 16) (omega arith))

-- two bytes, and four
pub lay_pair : (at a b : ℕ) (text : List ℕ) → at + 2 ≤ length text → set (set text at a) (at + 1) b ≡ laid at (a ∷ b ∷ []) text
lay_pair at a b text h =
    sym (laid_cons at a (b ∷ []) text (omega arith) ∙ laid_cons (at + 1) b [] (set text at a) (rw length-set (omega arith)) ∙ laid_none (at + 1 + 1) (set (set text at a) (at + 1) b))

pub lay_four : (at a b c d : ℕ) (text : List ℕ) → at + 4 ≤ length text → set (set (set (set text at a) (at + 1) b) (at + 2) c) (at + 3) d ≡ laid at (a ∷ b ∷ c ∷ d ∷ []) text
lay_four at a b c d text h =
    let z : at + 3 ≡ at + 2 + 1 = omega arith in
    ap (λ (n : ℕ). set (set (set (set text at a) (at + 1) b) (at + 2) c) n d) z
    ∙ lay_pair (at + 2) c d (set (set text at a) (at + 1) b) (rw (length-set, length-set) (omega arith)) ∙ ap (λ (l : List ℕ). laid (at + 2) (c ∷ d ∷ []) l) (lay_pair at a b text (omega arith))
    ∙ lay_two at (at + 2) (a ∷ b ∷ []) (c ∷ d ∷ []) text (laid at (a ∷ b ∷ []) text) (laid (at + 2) (c ∷ d ∷ []) (laid at (a ∷ b ∷ []) text)) (omega arith) refl refl refl

con : (a a' b b' : ℕ) (l l' : List ℕ) → a ≡ a' → b ≡ b' → l ≡ l' → byte_of a ∷ byte_of b ∷ l ≡ byte_of a' ∷ byte_of b' ∷ l'
con a a' b b' l l' e f g = ap (λ (n : ℕ). byte_of n ∷ byte_of b ∷ l) e ∙ ap (λ (n : ℕ). byte_of a' ∷ byte_of n ∷ l) f ∙ ap (λ (r : List ℕ). byte_of a' ∷ byte_of b' ∷ r) g

-- two digits of a word at a time, c being the unit of what is left
module _ (n c : ℕ) (pos : 0 < c) where
  pair_up : (rest : ℕ → List ℕ) → byte_of (n / (c * 16)) ∷ byte_of (n % (16 * c) / c) ∷ rest (n % (16 * c) % c) ≡ byte_of (n / c / 16) ∷ byte_of (n / c % 16) ∷ rest (n % c)
  pair_up rest =
      con (n / (c * 16)) (n / c / 16) (n % (16 * c) / c) (n / c % 16) (rest (n % (16 * c) % c)) (rest (n % c)) (sym (div-div-eq-div-mul n c 16)) (part_div 16 n c (omega arith) pos) (ap rest (part_mod 16 n c (omega arith) pos))

module _ (n : ℕ) where
  first : places 16 8 n ≡ byte_of (n / 16777216 / 16) ∷ byte_of (n / 16777216 % 16) ∷ places 16 6 (n % 16777216)
  unfolding places
  first = pair_up n 16777216 (omega arith) (places 16 6)

  second : places 16 6 n ≡ byte_of (n / 65536 / 16) ∷ byte_of (n / 65536 % 16) ∷ places 16 4 (n % 65536)
  unfolding places
  second = pair_up n 65536 (omega arith) (places 16 4)

  third : places 16 4 n ≡ byte_of (n / 256 / 16) ∷ byte_of (n / 256 % 16) ∷ places 16 2 (n % 256)
  unfolding places
  third = pair_up n 256 (omega arith) (places 16 2)

  fourth : places 16 2 n ≡ byte_of (n / 16) ∷ byte_of (n % 16) ∷ []
  unfolding places
  fourth = con (n / 16) (n / 16) (n % 16 / 1) (n % 16) [] [] refl (omega arith) refl

pub hex_is : (w : ℕ) → hex w ≡ byte_of (w / 16777216 / 16) ∷ byte_of (w / 16777216 % 16) ∷ byte_of (w / 65536 % 256 / 16) ∷ byte_of (w / 65536 % 256 % 16) ∷ byte_of (w / 256 % 256 / 16) ∷ byte_of (w / 256 % 256 % 16) ∷ byte_of (w % 256 / 16) ∷ byte_of (w % 256 % 16) ∷ []
hex_is w =
    let a : w % 16777216 / 65536 ≡ w / 65536 % 256 = part_div 256 w 65536 (omega arith) (omega arith) in
    let m : w % 16777216 % 65536 ≡ w % 65536 = part_mod 256 w 65536 (omega arith) (omega arith) in
    let b : w % 65536 / 256 ≡ w / 256 % 256 = part_div 256 w 256 (omega arith) (omega arith) in
    let c : w % 65536 % 256 ≡ w % 256 = part_mod 256 w 256 (omega arith) (omega arith) in
    first w ∙ rw (second (w % 16777216), a, m, third (w % 65536), b, c, fourth (w % 256))

-- the digits of a byte by a table
abbrev pub pair_at : List ℕ → ℕ → List ℕ
pair_at pairs b = get_or pairs b 0 % 256 ∷ get_or pairs b 0 / 256 ∷ []

abbrev join : List ℕ → List ℕ → List ℕ
join a b = a ++ b

-- four pairs and the byte that ends them are a word
module _ {pairs : List ℕ} (spelled : Spelled 256 pairs) (at w e : ℕ) (text : List ℕ) {one two three four : List ℕ} (room : at + 9 ≤ length text) (word : w < 4294967296)
    (f : one ≡ laid at (pair_at pairs (w / 16777216)) text) (g : two ≡ laid (at + 2) (pair_at pairs (w / 65536 % 256)) one)
    (h : three ≡ laid (at + 4) (pair_at pairs (w / 256 % 256)) two) (i : four ≡ laid (at + 6) (pair_at pairs (w % 256)) three) where
  abbrev a : List ℕ
  a = pair_at pairs (w / 16777216)

  abbrev b : List ℕ
  b = pair_at pairs (w / 65536 % 256)

  abbrev c : List ℕ
  c = pair_at pairs (w / 256 % 256)

  abbrev d : List ℕ
  d = pair_at pairs (w % 256)

  spelt : (x : ℕ) → x < 256 → pair_at pairs x ≡ byte_of (x / 16) ∷ byte_of (x % 16) ∷ []
  spelt x l = rw (spelled.pair x l, pair_low x l, pair_high x l)

  are : a ++ (b ++ (c ++ d)) ≡ hex w
  are =
      ap₂ join (spelt (w / 16777216) (omega arith)) (ap₂ join (spelt (w / 65536 % 256) (omega arith)) (ap₂ join (spelt (w / 256 % 256) (omega arith)) (spelt (w % 256) (omega arith))))
      ∙ sym (hex_is w)

  laid_all : four ≡ laid at (hex w) text
  laid_all =
      let x : two ≡ laid at (a ++ b) text = lay_two at (at + 2) a b text one two (omega arith) refl f g in
      let y : three ≡ laid at ((a ++ b) ++ c) text = lay_two at (at + 4) (a ++ b) c text two three (omega arith) refl x h in
      lay_two at (at + 6) ((a ++ b) ++ c) d text three four (omega arith) refl y i ∙ ap (λ (l : List ℕ). laid at l text) are

  pub lay_word : set four (at + 8) e ≡ laid at (hex w ++ (e ∷ [])) text
  lay_word = lay_byte at (at + 8) e (hex w) text four (omega (arith, length_places 16 8 w)) (omega (arith, length_places 16 8 w)) laid_all

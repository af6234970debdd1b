-- Lines: how long one is, and one put number by number.
use mathlib.Core.Path.{◌≡◌, refl, sym, ap, ◌∙◌}
use mathlib.Core.List.{List, [], ◌∷◌, ◌++◌, append_assoc, append-nil}
use Prim.Native.Nat.{ℕ, suc, ◌+◌, ◌<◌, ◌≤◌}
use native.Mathlib.Omega.{arith}
use lib.ListN.{length, drop, get_or, length-append, drop_of_length-le}
use lib.Seq.{drop-cons}
use Rattle.surface_rules.specs.Buffers.{laid}
use Rattle.text_digits.specs.Numeral.{size, decimal}
use Rattle.text_digits.proofs.Laws.Exactly.{ended_length}
use Rattle.text_digits.proofs.Laws.Laying.{Laying, laying_begins, laying_room, laying_more, laying_ends}
use Rattle.text_rules.specs.Text.{feed}
use Rattle.text_sheet.specs.Sheet.{comma}
use Rattle.program_lines.specs.Lines.{joined, line, PutAt}

-- the number that comes first, with the byte that ends it
pub joined_next : (a b : ℕ) (l : List ℕ) → joined (a ∷ b ∷ l) ≡ (decimal a ++ (comma ∷ [])) ++ joined (b ∷ l)
unfolding joined
joined_next a b l = sym (append_assoc (decimal a) (comma ∷ []) (joined (b ∷ l)))

pub joined_last : (a : ℕ) → joined (a ∷ []) ≡ (decimal a ++ (feed ∷ [])) ++ joined []
unfolding joined
joined_last a = sym (append-nil (decimal a ++ (feed ∷ [])))

pub joined_none : joined [] ≡ []
unfolding joined
joined_none = refl

-- how long lines are
pub line_length : (key l : List ℕ) → length (line key l) ≡ length key + length (joined l)
unfolding line
line_length key l = length-append key (joined l)

pub next_length : (a b : ℕ) (l : List ℕ) → length (joined (a ∷ b ∷ l)) ≡ size a + 1 + length (joined (b ∷ l))
next_length a b l =
    omega (arith, ap length (joined_next a b l), length-append (decimal a ++ (comma ∷ [])) (joined (b ∷ l)), ended_length a comma)

pub last_length : (a : ℕ) → length (joined (a ∷ [])) ≡ size a + 1
last_length a = omega (arith, ap length (joined_last a), length-append (decimal a ++ (feed ∷ [])) (joined []), ended_length a feed, ap length joined_none)

module _ (key : List ℕ) (a : ℕ) where
  pub one_length : length (line key (a ∷ [])) ≡ length key + size a + 1
  one_length = omega (arith, line_length key (a ∷ []), last_length a)

  pub two_length : (b : ℕ) → length (line key (a ∷ b ∷ [])) ≡ length key + size a + size b + 2
  two_length b = omega (arith, line_length key (a ∷ b ∷ []), next_length a b [], last_length b)

  pub three_length : (b c : ℕ) → length (line key (a ∷ b ∷ c ∷ [])) ≡ length key + size a + size b + size c + 3
  three_length b c = omega (arith, line_length key (a ∷ b ∷ c ∷ []), next_length a b (c ∷ []), next_length b c [], last_length c)

  pub six_length : (b c d e f : ℕ) → length (line key (a ∷ b ∷ c ∷ d ∷ e ∷ f ∷ [])) ≡ length key + size a + size b + size c + size d + size e + size f + 6
  six_length b c d e f =
      omega (
        arith,
        line_length key (a ∷ b ∷ c ∷ d ∷ e ∷ f ∷ []),
        next_length a b (c ∷ d ∷ e ∷ f ∷ []),
        next_length b c (d ∷ e ∷ f ∷ []),
        next_length c d (e ∷ f ∷ []),
        next_length d e (f ∷ []),
        next_length e f [],
        last_length f,
      )

pub line_begins : (key l before : List ℕ) (at : ℕ) → at + length (line key l) ≤ length before → at + length key ≤ length before
line_begins key l before at h = omega (arith, line_length key l)

-- these numbers are left of a line that is put
pub record Lining (whole : List ℕ) (at : ℕ) (before numbers : List ℕ) (place : ℕ) (out : List ℕ) : Type 0 where
  pub laying : Laying whole at before (joined numbers) place out

pub key_put : (key : List ℕ) {l before after : List ℕ} {at next : ℕ} → at + length (line key l) ≤ length before → after ≡ laid at key before → next ≡ at + length key
    → Lining (line key l) at before l next after
unfolding line
key_put key {l} {before} {after} {at} h q n = record { laying = laying_more (laying_begins (line key l) before at h) key (joined l) refl q n }

ended : {whole before rest out : List ℕ} {at place : ℕ} → Laying whole at before rest place out → rest ≡ [] → PutAt at whole before place out
ended g e = let h = laying_ends g e in record { put = h.0; behind = h.1 }

-- numbers of a list, one by one
module _ (l : List ℕ) (i : ℕ) where
  at_next : i + 1 < length l → joined (drop i l) ≡ (decimal (get_or l i 0) ++ (comma ∷ [])) ++ joined (drop (i + 1) l)
  at_next h =
      let d : drop (i + 1) l ≡ get_or l (i + 1) 0 ∷ drop (suc (i + 1)) l = drop-cons l (i + 1) 0 h in
      let s : suc i ≡ i + 1 = omega arith in
      ap joined (drop-cons l i 0 (omega arith) ∙ ap (λ (n : ℕ). get_or l i 0 ∷ drop n l) s ∙ ap (λ (r : List ℕ). get_or l i 0 ∷ r) d)
      ∙ joined_next (get_or l i 0) (get_or l (i + 1) 0) (drop (suc (i + 1)) l)
      ∙ ap (λ (r : List ℕ). (decimal (get_or l i 0) ++ (comma ∷ [])) ++ joined r) (sym d)

  at_last : i < length l → length l ≤ i + 1 → joined (drop i l) ≡ (decimal (get_or l i 0) ++ (feed ∷ [])) ++ joined (drop (i + 1) l)
  at_last h m =
      let d : drop (i + 1) l ≡ [] = drop_of_length-le l m in
      let s : suc i ≡ i + 1 = omega arith in
      ap joined (drop-cons l i 0 h ∙ ap (λ (n : ℕ). get_or l i 0 ∷ drop n l) s ∙ ap (λ (r : List ℕ). get_or l i 0 ∷ r) d)
      ∙ joined_last (get_or l i 0)
      ∙ ap (λ (r : List ℕ). (decimal (get_or l i 0) ++ (feed ∷ [])) ++ joined r) (sym d)

  -- the byte that ends the number there
  pub data Ends (e : ℕ) : Type 0 where
    by_comma : i + 1 < length l → e ≡ comma → Ends e
    by_feed : length l ≤ i + 1 → e ≡ feed → Ends e

  joined_at : {e : ℕ} → i < length l → Ends e → joined (drop i l) ≡ (decimal (get_or l i 0) ++ (e ∷ [])) ++ joined (drop (i + 1) l)
  joined_at h (by_comma m q) = rw q (at_next m)
  joined_at h (by_feed m q) = rw q (at_last h m)

module _ {whole before out l : List ℕ} {at place i : ℕ} (g : Lining whole at before (drop i l) place out) (h : i < length l) {e : ℕ} (k : Ends l i e) where
  pub number_room : place + size (get_or l i 0) + 1 ≤ length out
  number_room = omega (arith, laying_room g.laying (decimal (get_or l i 0) ++ (e ∷ [])) (joined (drop (i + 1) l)) (joined_at l i h k), ended_length (get_or l i 0) e)

  pub number_put : {after : List ℕ} {next : ℕ} → PutAt place (decimal (get_or l i 0) ++ (e ∷ [])) out next after → Lining whole at before (drop (i + 1) l) next after
  number_put q = record { laying = laying_more g.laying (decimal (get_or l i 0) ++ (e ∷ [])) (joined (drop (i + 1) l)) (joined_at l i h k) q.put q.behind }

-- all numbers of a line are put
pub lining_ends : {whole before out : List ℕ} {at place : ℕ} (l : List ℕ) (i : ℕ) → Lining whole at before (drop i l) place out → length l ≤ i → PutAt at whole before place out
lining_ends l i g h = ended g.laying (ap joined (drop_of_length-le l h) ∙ joined_none)

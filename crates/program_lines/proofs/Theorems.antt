-- What the lines tell: an answer's line tells its number and its place. And what is printed into a buffer is determined by what is due.
use mathlib.Core.Path.{◌≡◌, refl, sym, ap, ◌∙◌}
use mathlib.Core.Bool.{Bool, true, false}
use mathlib.Core.List.{List, [], ◌∷◌, ◌++◌, append_assoc}
use Prim.Native.Nat.{ℕ, ◌+◌, ◌≤◌}
use native.Mathlib.Omega.{arith}
use lib.Dec.{ltb}
use lib.ListN.{length, drop}
use borrow.Author.Tests.{ltb-true, ltb-false}
use Rattle.base_answers.specs.Numbers.{number_of, place_of}
use Rattle.base_answers.specs.declared.Answer.{Answer}
use Rattle.text_digits.specs.Numeral.{decimal}
use Rattle.text_digits.specs.Workings.Reading.{got, value_of, read_decimal}
use Rattle.text_digits.proofs.Laws.Exactly.{decimal_exact}
use Rattle.text_rules.specs.Text.{feed}
use Rattle.text_sheet.specs.Sheet.{comma}
use Rattle.program_lines.specs.Lines.{joined, line, answer_line}
use Rattle.program_lines.specs.Printout.{PrintOutcome, printed_over, PrintsOver}
use Rattle.program_lines.proofs.Laws.Answering.{line_most}

-- the room that an answer's line is lent, so that a buffer is too short exactly if it is shorter
pub line_room : line_most ≡ 48
line_room = refl

-- a number that is ended by no digit is told by what begins with it
ended_apart : (e n m : ℕ) (r s : List ℕ) → 10 ≤ value_of e → (decimal n ++ (e ∷ [])) ++ r ≡ (decimal m ++ (e ∷ [])) ++ s → (n ≡ m) × (r ≡ s)
ended_apart e n m r s h q =
    let a = (decimal_exact e (n + m) h).finds n r (omega arith) in
    let b = (decimal_exact e (n + m) h).finds m s (omega arith) in
    let c : got n r ≡ got m s = sym a ∙ ap (read_decimal e (n + m)) q ∙ b in
    (cc, cc)

pub answers_apart : (a b : Answer) → answer_line a ≡ answer_line b → (number_of a ≡ number_of b) × (place_of a ≡ place_of b)
unfolding line joined
answers_apart a b q =
    let x = append_assoc (decimal (number_of a)) (comma ∷ []) (decimal (place_of a) ++ (feed ∷ [])) in
    let y = append_assoc (decimal (number_of b)) (comma ∷ []) (decimal (place_of b) ++ (feed ∷ [])) in
    let f = ended_apart comma (number_of a) (number_of b) (decimal (place_of a) ++ (feed ∷ [])) (decimal (place_of b) ++ (feed ∷ [])) (omega arith) (x ∙ ap (drop 7) q ∙ sym y) in
    let g = ended_apart feed (place_of a) (place_of b) [] [] (omega arith) (ap (λ (l : List ℕ). l ++ []) f.1) in
    (f.0, g.0)

-- two outcomes that are allowed are equal, where one thing is due
pub print_once : {most : ℕ} {Due : List ℕ → Type 0} {buffer : List ℕ} {o p : PrintOutcome} → ((x y : List ℕ) → Due x → Due y → x ≡ y) → PrintsOver most Due buffer o → PrintsOver most Due buffer p → o ≡ p
print_once {most} {Due} {buffer} {o} {p} one x y = go (ltb (length buffer) most) refl
  where
    go : (t : Bool) → ltb (length buffer) most ≡ t → o ≡ p
    go true e = let h = ltb-true (length buffer) most e in x.too_short h ∙ sym (y.too_short h)
    go false e =
        let h = ltb-false (length buffer) most e in
        let a = x.long_enough h in
        let b = y.long_enough h in
        a.2 ∙ ap (λ (l : List ℕ). printed_over l buffer) (one a.0 b.0 a.1 b.1) ∙ sym b.2

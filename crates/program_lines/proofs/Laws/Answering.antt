-- The line `answer=` and the line `loops=` are short.
use mathlib.Core.Path.{◌≡◌, sym, ap, ◌∙◌}
use mathlib.Core.List.{List, [], ◌∷◌}
use Prim.Native.Nat.{ℕ, ◌+◌, ◌≤◌}
use native.Mathlib.Omega.{arith}
use lib.ListN.{length}
use mir.Val.{Fits}
use mir.Syntax.{w32, w64}
use Rattle.base_answers.specs.Numbers.{number_of, place_of}
use Rattle.base_answers.specs.declared.Answer.{Answer}
use Rattle.surface_rules.specs.Buffers.{over}
use Rattle.text_digits.proofs.Laws.Sizes.{size_below}
use Rattle.text_sheet.proofs.Laws.Going.{over_laid}
use Rattle.program_lines.specs.declared.TheConstants.{LINE}
use Rattle.program_lines.specs.Lines.{line, answer=, loops=, PutAt, answer_line}
use Rattle.program_lines.proofs.Laws.Digits.{size_word}
use Rattle.program_lines.proofs.Laws.Lines.{one_length, two_length}

-- how long the code says that they can be
abbrev pub line_most : ℕ
line_most = LINE

two_short : (n p : ℕ) → Fits w32 n → Fits w64 p → length (line answer= (n ∷ p ∷ [])) ≤ line_most
two_short n p h l = omega (arith, two_length answer= n p, size_below 9 n (omega arith), size_word p l)

pub answer_short : (out : List ℕ) (n p : ℕ) → Fits w32 n → Fits w64 p → line_most ≤ length out → 0 + length (line answer= (n ∷ p ∷ [])) ≤ length out
answer_short out n p h l m = omega (arith, two_short n p h l)

module _ (a : Answer) (n p : ℕ) {r : ℕ} (out : List ℕ) {after : List ℕ} (q : PutAt 0 (line answer= (n ∷ p ∷ [])) out r after) where
  pub answer_within : Fits w32 n → Fits w64 p → r ≤ line_most
  answer_within h l = omega (arith, q.behind, two_short n p h l)

  module _ (e : n ≡ number_of a) (f : p ≡ place_of a) where
    told : line answer= (n ∷ p ∷ []) ≡ answer_line a
    told = ap (λ (x : ℕ). line answer= (x ∷ p ∷ [])) e ∙ ap (λ (x : ℕ). line answer= (number_of a ∷ x ∷ [])) f

    pub answer_put : after ≡ over (answer_line a) out
    answer_put = q.put ∙ sym (over_laid (line answer= (n ∷ p ∷ [])) out) ∙ ap (λ (l : List ℕ). over l out) told

    pub answer_behind : r ≡ length (answer_line a)
    answer_behind = omega (arith, q.behind, ap length told)

count_short : (n : ℕ) → Fits w64 n → length (line loops= (n ∷ [])) ≤ line_most
count_short n h = omega (arith, one_length loops= n, size_word n h)

pub count_room : (n : ℕ) → Fits w64 n → (at : ℕ) (out : List ℕ) → at + line_most ≤ length out → at + length (line loops= (n ∷ [])) ≤ length out
count_room n h at out l = omega (arith, count_short n h)

pub count_within : (n at r : ℕ) (out after : List ℕ) → Fits w64 n → PutAt at (line loops= (n ∷ [])) out r after → r ≤ at + line_most
count_within n at r out after h q = omega (arith, q.behind, count_short n h)

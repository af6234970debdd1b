-- A report is put line by line: the answer, the count of the entries, and then one entry after the other.
use Rattle.std.specs.Prelude.{Result, Ok, Err}
use mathlib.Core.Path.{◌≡◌, refl, sym, ap, ◌∙◌}
use mathlib.Core.Bool.{false}
use mathlib.Core.List.{List, [], ◌∷◌, ◌++◌, flatten, append_assoc}
use Prim.Native.Nat.{ℕ, suc, ◌+◌, ◌-◌, ◌<◌, ◌≤◌}
use native.Mathlib.Omega.{arith}
use lib.ListN.{length, length-append}
use Rattle.base_answers.specs.Numbers.{refusing}
use Rattle.base_answers.specs.declared.Answer.TheVariants.{Done, Refused}
use Rattle.base_answers.specs.declared.Refusal.{Refusal}
use Rattle.surface_rules.specs.Buffers.{over, laid}
use Rattle.surface_rules.proofs.Laws.Laid.{laid_over, laid_length}
use Rattle.surface_rules.proofs.Laws.Over.{over_long}
use Rattle.text_digits.proofs.Laws.Laying.{Laying, laying_begins, laying_room, laying_more, laying_ends}
use Rattle.chart_rules.specs.Report.{numbers, entry_in}
use Rattle.chart_rules.specs.declared.Entry.{Entry}
use Rattle.chart_surface.specs.Workings.Charting.{alone}
use Rattle.chart_surface.specs.declared.Charted.{Charted}
use Rattle.program_lines.specs.Lines.{line, answer_line, entries=, entry=, PutAt}
use Rattle.program_chart.specs.Charting.{entry_line}
use Rattle.program_chart.specs.Workings.Put.{entries_from, lines_from, put_text, put_alone}

-- ---- the entries, one by one

module _ (report : List ℕ) (i n : ℕ) where
  lines_next : i < n → lines_from report i (n - i) ≡ entry_line (entry_in report i) ++ lines_from report (i + 1) (n - (i + 1))
  unfolding lines_from entries_from flatten
  lines_next h = let z : n - i ≡ suc (n - (i + 1)) = omega arith in ap (lines_from report i) z

  lines_over : n ≤ i → lines_from report i (n - i) ≡ []
  unfolding lines_from entries_from flatten
  lines_over h = let z : n - i ≡ 0 = omega arith in ap (lines_from report i) z

  module _ {whole before out : List ℕ} {at place : ℕ} (g : Laying whole at before (lines_from report i (n - i)) place out) (h : i < n) {e : Entry} (is : e ≡ entry_in report i) where
    next_is : lines_from report i (n - i) ≡ line entry= (numbers e) ++ lines_from report (i + 1) (n - (i + 1))
    next_is = lines_next h ∙ ap (λ (x : Entry). entry_line x ++ lines_from report (i + 1) (n - (i + 1))) (sym is)

    pub entry_room : place + length (line entry= (numbers e)) ≤ length out
    entry_room = laying_room g (line entry= (numbers e)) (lines_from report (i + 1) (n - (i + 1))) next_is

    pub entry_put : {after : List ℕ} {next : ℕ} → PutAt place (line entry= (numbers e)) out next after
        → Laying whole at before (lines_from report (i + 1) (n - (i + 1))) next after
    entry_put q = laying_more g (line entry= (numbers e)) (lines_from report (i + 1) (n - (i + 1))) next_is q.put q.behind

-- ---- the line of a refusal

module _ (report before : List ℕ) (w : Result Charted Refusal) where
  pub refusal_put : {f : Refusal} {after : List ℕ} {r : ℕ} → w ≡ Err f → after ≡ over (answer_line (Refused f)) before → r ≡ length (answer_line (Refused f))
      → (after ≡ over (put_alone (alone w report)) before) × (r ≡ length (put_alone (alone w report)))
  unfolding put_text
  refusal_put h p q = rw h (p, q)

  pub whole_put : {found : Charted} {after : List ℕ} {r : ℕ} → w ≡ Ok found → (after ≡ over (put_text report Done found.entries) before) × (r ≡ length (put_text report Done found.entries))
      → (after ≡ over (put_alone (alone w report)) before) × (r ≡ length (put_alone (alone w report)))
  whole_put h p = rw h p

  pub room_put : {found : Charted} → w ≡ Ok found → (refusing (alone w report).answer ≡ false → length (put_alone (alone w report)) ≤ length before) → length (put_text report Done found.entries) ≤ length before
  room_put {found} h k = let m : (false ≡ false → length (put_alone (alone (Ok found) report)) ≤ length before) = rw h at k in m refl

-- ---- behind the answer's line

module _ (report : List ℕ) (n : ℕ) (before : List ℕ) {one : List ℕ} {at : ℕ} (p : one ≡ over (answer_line Done) before) (q : at ≡ length (answer_line Done)) where
  abbrev count : List ℕ
  count = line entries= (n ∷ [])

  abbrev lines : List ℕ
  lines = lines_from report 0 n

  text_is : put_text report Done n ≡ answer_line Done ++ (count ++ lines)
  unfolding put_text
  text_is = refl

  long : length (put_text report Done n) ≡ length (answer_line Done) + length count + length lines
  long = omega (arith, ap length text_is, length-append (answer_line Done) (count ++ lines), length-append count lines)

  -- and there is room for all of it
  module _ (room : length (put_text report Done n) ≤ length before) where
    same : length one ≡ length before
    same = ap length p ∙ over_long (answer_line Done) before (omega (arith, long, room))

    pub count_room : at + length count ≤ length one
    count_room = omega (arith, q, long, same, room)

    pub entries_begin : {from : ℕ} {two : List ℕ} → PutAt at count one from two → Laying lines from two (lines_from report 0 (n - 0)) from two
    entries_begin {from} {two} u =
        let s : length two ≡ length one = ap length u.put ∙ laid_length at one count count_room in
        let z : n ≡ n - 0 = omega arith in
        rw (← z) (laying_begins lines two from (omega (arith, u.behind, q, long, same, room, s)))

  pub entries_end : {from : ℕ} {two : List ℕ} → PutAt at count one from two → {i place : ℕ} {out : List ℕ} → Laying lines from two (lines_from report i (n - i)) place out → n ≤ i
      → (out ≡ over (put_text report Done n) before) × (place ≡ length (put_text report Done n))
  entries_end {from} u {i} g m =
      let e = laying_ends g (lines_over report i n m) in
      let c : length (answer_line Done ++ count) ≡ length (answer_line Done) + length count = length-append (answer_line Done) count in (
        e.0
            ∙ ap (laid from lines) (u.put ∙ ap (laid at count) p ∙ laid_over (answer_line Done) count before at q)
            ∙ laid_over (answer_line Done ++ count) lines before from (omega (arith, u.behind, q, c))
            ∙ ap (λ (x : List ℕ). over x before) (append_assoc (answer_line Done) count lines ∙ sym text_is),
        omega (arith, e.1, u.behind, q, long),
      )

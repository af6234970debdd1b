-- No report is longer than the code says: there are at most two entries for each triangle, and the line of one has at most 13 bytes.
use mathlib.Core.Path.{◌≡◌}
use mathlib.Core.Bool.{Bool, true, false, cond}
use mathlib.Core.Logic.{⊎_elim}
use mathlib.Core.List.{List, [], ◌∷◌, ◌++◌, map, flatten}
use Prim.Native.Nat.{ℕ, suc, ◌*◌, ◌<◌, ◌≤◌}
use native.Mathlib.Omega.{arith}
use lib.Dec.{eqb}
use lib.IntN.{ℤ}
use lib.ListN.{length, get_or, length-append}
use Rattle.base_answers.specs.declared.Answer.TheVariants.{Done}
use Rattle.base_limits.specs.Limits as limits
use Rattle.surface_rules.specs.Edges.{Sound}
use Rattle.loop_rules.specs.Loops.{loops}
use Rattle.loop_rules.proofs.Theorems.{loops_third}
use Rattle.rim_pieces.specs.Pieces.{triangle_count}
use Rattle.rim_pieces.specs.Computed.{smallest_of, piece_count}
use Rattle.rim_rules.specs.Rims.{is_rim}
use Rattle.chart_rules.specs.Order.{Tells}
use Rattle.chart_rules.specs.Report.{nothing, touches, kind_at, report_of}
use Rattle.chart_rules.specs.declared.Entry.{Entry}
use Rattle.chart_rules.proofs.Laws.Picking.{many_few}
use Rattle.chart_rules.proofs.Theorems.{each_tells, entries_few}
use Rattle.text_digits.proofs.Laws.Sizes.{size_below}
use Rattle.program_lines.specs.Lines.{line, answer=, answer_line, entries=, entry=}
use Rattle.program_lines.proofs.Laws.Lines.{one_length, two_length}
use Rattle.program_chart.specs.declared.TheConstants.{REPORT}
use Rattle.program_chart.specs.Charting.{entry_line, report_text}

-- how long the code says that a report can be
abbrev pub report_most : ℕ
report_most = REPORT

line_narrow : (e : Entry) → e.kind < 10 → e.number < 10000 → length (entry_line e) ≤ 13
line_narrow e k n = omega (arith, two_length entry= e.kind e.number, size_below 0 e.kind (omega arith), size_below 3 e.number (omega arith))

lines_narrow : (es : List Entry) → ((i : ℕ) → i < length es → length (entry_line (get_or es i nothing)) ≤ 13) → length (flatten (map entry_line es)) ≤ 13 * length es
unfolding flatten
lines_narrow [] h = omega arith
lines_narrow (e ∷ es) h =
    omega (arith, length-append (entry_line e) (flatten (map entry_line es)), h 0 (omega arith), lines_narrow es (λ i l. h (suc i) (omega (arith, l))))

module _ (grid : List ℤ) (corners : List ℕ) (sound : Sound corners) (few : length corners ≤ limits.corners) where
  kind_small : (l : ℕ) → kind_at grid corners l < 10
  unfolding kind_at
  kind_small l = go (is_rim grid corners l) (touches grid corners l)
    where
      go : (a b : Bool) → cond a 1 (cond b 2 3) < 10
      go true b = omega arith
      go false true = omega arith
      go false false = omega arith

  pieces_few : piece_count corners ≤ length corners
  unfolding piece_count
  pieces_few = omega (arith, many_few (λ s. eqb (smallest_of corners s) s) (triangle_count corners))

  told_narrow : (e : Entry) → Tells grid corners e → length (entry_line e) ≤ 13
  told_narrow e t =
      ⊎_elim
      (λ (p : (e.kind ≡ 0) × (e.number < piece_count corners)). line_narrow e (omega (arith, p.0)) (omega (arith, p.1, pieces_few, few)))
      (λ (p : (e.number < length (loops corners)) × (e.kind ≡ kind_at grid corners e.number)).
      line_narrow e (omega (arith, p.1, kind_small e.number)) (omega (arith, p.0, loops_third corners sound, few)))
      t

  -- the entries have room where there is room for those of any surface,
  pub entries_within : length (report_of grid corners) ≤ 2 * limits.triangles
  entries_within = omega (arith, entries_few grid corners sound, few)

  -- and their lines too
  pub report_short : length (report_text (report_of grid corners)) ≤ report_most
  unfolding report_text
  report_short =
      let es = report_of grid corners in
      let lines = flatten (map entry_line es) in
      omega (
        arith,
        length-append (answer_line Done) (line entries= (length es ∷ []) ++ lines),
        length-append (line entries= (length es ∷ [])) lines,
        two_length answer= 0 0,
        size_below 0 0 (omega arith),
        one_length entries= (length es),
        size_below 3 (length es) (omega (arith, entries_within)),
        lines_narrow es (λ i h. told_narrow (get_or es i nothing) (each_tells grid corners sound i h)),
        entries_within,
      )

-- The demand of the report is kept by every outcome of charting that is no refusal.
use mathlib.Core.Path.{◌≡◌, refl, sym, ap, ◌∙◌, subst}
use mathlib.Core.Bool.{Bool, true, false, true≢false}
use mathlib.Core.Logic.{◌⊎◌, inl, inr, ⊎_elim}
use mathlib.Core.List.{List, []}
use Prim.Native.Nat.{ℕ, ◌*◌, ◌/◌, ◌<◌, ◌≤◌}
use native.Mathlib.Omega.{arith}
use lib.ListN.{length, get_or}
use Rattle.base_answers.specs.Numbers.{refusing}
use Rattle.base_answers.specs.declared.Answer.{Answer}
use Rattle.surface_rules.specs.Edges.{Sound}
use Rattle.surface_rules.specs.Refusals.{refusal}
use Rattle.surface_rules.proofs.Laws.Sound.{Passed, passed, passed_sound}
use Rattle.surface_rules.proofs.Laws.Thens.{buffers_long}
use Rattle.loop_rules.specs.Loops.{loops}
use Rattle.survey_grid.specs.Grid.{grid_of}
use Rattle.rim_pieces.specs.Pieces.{triangle_count}
use Rattle.rim_pieces.specs.Computed.{piece_of}
use Rattle.rim_pieces.proofs.Theorems.{piece_below, piece_given}
use Rattle.rim_rules.specs.Rims.{rim_list}
use Rattle.fill_fates.specs.Fates.{Fate}
use Rattle.fill_fates.specs.Course.{Course, ring_list}
use Rattle.fill_fates.proofs.Theorems.{course_once}
use Rattle.patch_records.proofs.Laws.Laying.{past_at}
use Rattle.patch_surface.specs.Outcome as patcher
use Rattle.chart_rules.specs.declared.Entry.{Entry}
use Rattle.chart_rules.specs.Report.{nothing, report_of, entry_numbers, entry_in}
use Rattle.chart_rules.specs.Touching.{Called}
use Rattle.chart_rules.specs.Tallies.{of_loop, of_piece, OnePlace}
use Rattle.chart_rules.specs.Order.{Tells, home_of, of_rim, Sooner}
use Rattle.chart_rules.proofs.Laws.Reading.{numbers_long, entry_found}
use Rattle.chart_rules.proofs.Theorems as reports
use Rattle.chart_surface.specs.Outcome as chart
use Rattle.demands.specs.Report.{entry_left, ReportDemand}
use Rattle.demands.proofs.Sets.{patch_done}

module _ (pitch : ℕ) (words corners : List ℕ) (b : chart.Buffers) (o : chart.Outcome) where
  abbrev pub refuses : Answer
  refuses = refusal pitch words corners (chart.lent b) (chart.needs words corners)

  module _ (r : refusing refuses ≡ false) (fates : List Fate) (course : Course (grid_of pitch words) corners [] (rim_list (grid_of pitch words) corners) (ring_list corners) fates)
      (e : o ≡ chart.done pitch words corners fates b) where
    table_passed : Passed pitch words corners (chart.lent b) (chart.needs words corners)
    table_passed = passed pitch words corners (chart.lent b) (chart.needs words corners) r

    sound : Sound corners
    sound = passed_sound pitch words corners (chart.lent b) (chart.needs words corners) table_passed

    abbrev report : List Entry
    report = report_of (grid_of pitch words) corners

    entries_are : o.entries ≡ length report
    entries_are = ap (λ (x : chart.Outcome). x.entries) e

    -- each entry stands where entries are left
    left_is : (i : ℕ) → i < length report → entry_left o i ≡ get_or report i nothing
    left_is i h =
        let room : 4 * (length corners / 3) ≤ length b.report = buffers_long (chart.lent b) (chart.needs words corners) table_passed.buffers 3 (omega arith) in
        ap (λ (x : chart.Outcome). entry_in x.left.report i) e
        ∙ entry_found report b.report i h (omega (arith, reports.entries_few (grid_of pitch words) corners sound))

    -- so what is said of the entries of the report is said of what is left
    said : (P : Entry → Type 0) → ((i : ℕ) → i < length report → P (get_or report i nothing)) → (i : ℕ) → i < o.entries → P (entry_left o i)
    said P h i k = let l : i < length report = omega (arith, entries_are) in subst P (sym (left_is i l)) (h i l)

    one_left : (p : Entry → Bool) → OnePlace (length report) (λ (i : ℕ). get_or report i nothing) p → OnePlace o.entries (entry_left o) p
    one_left p w = record {
      place = w.place;
      there = omega (arith, entries_are, w.there);
      holds = ap p (left_is w.place w.there) ∙ w.holds;
      only = λ i h t. let l : i < length report = omega (arith, entries_are) in w.only i l (ap p (sym (left_is i l)) ∙ t);
    }

    -- what an entry tells
    abbrev Told : Entry → Type 0
    Told x =
        ((x.kind ≡ 0) × ((t : ℕ) × (t < triangle_count corners) × (piece_of corners t ≡ x.number)))
        ⊎ ((x.number < length (loops corners)) × Called (grid_of pitch words) corners x.number x.kind)

    told : (x : Entry) → Tells (grid_of pitch words) corners x → Told x
    told x =
        ⊎_elim (λ w. inl (w.0, piece_given corners sound x.number w.1))
        (λ w. inr (w.0, subst (Called (grid_of pitch words) corners x.number) (sym w.1) (reports.called (grid_of pitch words) corners x.number)))

    -- the course has one outcome, and both leave it
    patched_so : (patches : List ℕ) (q : patcher.Outcome) → patcher.Patches pitch words corners (patcher.buffers b.grid b.rings b.records patches) q → refusing q.answer ≡ false
        → (o.loops ≡ q.loops) × (o.vertices ≡ q.vertices) × (o.left.grid ≡ q.left.grid) × (o.left.rings ≡ q.left.rings) × (o.left.records ≡ q.left.records)
    patched_so patches q h n =
        let (s, (others, run, f)) = patch_done pitch words corners (patcher.buffers b.grid b.rings b.records patches) q h n in
        let same : fates ≡ others = course_once (grid_of pitch words) corners [] (rim_list (grid_of pitch words) corners) (ring_list corners) fates others course run in
        let d : o ≡ chart.done pitch words corners others b = e ∙ ap (λ (x : List Fate). chart.done pitch words corners x b) same in (
          ap (λ (x : chart.Outcome). x.loops) d ∙ sym (ap (λ (x : patcher.Outcome). x.loops) f),
          ap (λ (x : chart.Outcome). x.vertices) d ∙ sym (ap (λ (x : patcher.Outcome). x.vertices) f),
          ap (λ (x : chart.Outcome). x.left.grid) d ∙ sym (ap (λ (x : patcher.Outcome). x.left.grid) f),
          ap (λ (x : chart.Outcome). x.left.rings) d ∙ sym (ap (λ (x : patcher.Outcome). x.left.rings) f),
          ap (λ (x : chart.Outcome). x.left.records) d ∙ sym (ap (λ (x : patcher.Outcome). x.left.records) f),
        )

    report_done : ReportDemand pitch words corners b o
    report_done = record {
      loops_once = λ l h. one_left (of_loop l) (reports.one_place (of_loop l) report (reports.once_in_the_report (grid_of pitch words) corners sound l h));
      pieces_once = λ t h.
          one_left (of_piece (piece_of corners t))
          (reports.one_place (of_piece (piece_of corners t)) report (reports.piece_in_the_report (grid_of pitch words) corners sound (piece_of corners t) (piece_below corners sound t h)));
      each_tells = said Told (λ i h. told (get_or report i nothing) (reports.each_tells (grid_of pitch words) corners sound i h));
      in_order = λ i j h k.
          let l : i < length report = omega (arith, entries_are) in
          let m : j < length report = omega (arith, entries_are) in
          subst (λ (x : Entry). Sooner corners x (entry_left o j)) (sym (left_is i l))
          (subst (Sooner corners (get_or report i nothing)) (sym (left_is j m)) (reports.in_order (grid_of pitch words) corners sound i j h m));
      one_rim = λ f h p. one_left (of_rim corners (piece_of corners (f / 3))) (reports.rim_once (grid_of pitch words) corners sound f h p);
      no_rim = λ t n. said (λ (x : Entry). home_of corners x ≡ piece_of corners t → x.kind ≡ 0) (reports.closed_alone (grid_of pitch words) corners sound (piece_of corners t) n);
      counted = entries_are ∙ reports.entries_many (grid_of pitch words) corners sound;
      few = omega (arith, entries_are, reports.entries_few (grid_of pitch words) corners sound);
      as_patched = patched_so;
      behind = λ i h. ap (λ (x : chart.Outcome). get_or x.left.report i 0) e ∙ past_at (entry_numbers report) b.report i (omega (arith, entries_are, numbers_long report));
    }

  -- where the outcome is no refusal the table gave none, and the report was laid
  pub chart_done : chart.Charts pitch words corners b o → refusing o.answer ≡ false → (refusing refuses ≡ false) × chart.ChartsIf false refuses pitch words corners b o
  chart_done h n = go (refusing refuses) refl h
    where
      go : (t : Bool) → refusing refuses ≡ t → chart.ChartsIf t refuses pitch words corners b o → (refusing refuses ≡ false) × chart.ChartsIf false refuses pitch words corners b o
      go true r e = absurd (true≢false (sym r ∙ ap refusing (sym (ap (λ (x : chart.Outcome). x.answer) e)) ∙ n))
      go false r d = (r, d)

  pub report_demand : chart.Charts pitch words corners b o → refusing o.answer ≡ false → ReportDemand pitch words corners b o
  report_demand h n = let (r, (fates, course, e)) = chart_done h n in report_done r fates course e

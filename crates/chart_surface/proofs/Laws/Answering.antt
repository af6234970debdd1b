-- What charting answers: a refusal as the table has it, or what is left of a surface that passed; and the report alone.
use mathlib.Core.Path.{◌≡◌, refl, sym, ap, ◌∙◌, subst}
use mathlib.Core.Bool.{true, false}
use mathlib.Core.List.{List, [], ◌∷◌}
use Prim.Native.Nat.{ℕ, ◌*◌, ◌/◌, ◌≤◌}
use native.Mathlib.Omega.{arith}
use lib.IntN.{ℤ}
use lib.ListN.{length, take, length-map}
use Rattle.base_answers.specs.Numbers.{refusing}
use Rattle.base_answers.specs.declared.Answer.{Answer}
use Rattle.std.specs.Prelude.{Ok, Err}
use Rattle.base_answers.specs.declared.Refusal.{Refusal}
use Rattle.base_answers.specs.declared.Answer.TheVariants.{Refused}
use Rattle.base_answers.specs.declared.Answer.TheVariants.{Done}
use Rattle.base_types.specs.Pitches.{pitch_of, Names}
use Rattle.base_types.specs.declared.Pitch.{Pitch}
use Rattle.base_limits.specs.Limits as limits
use Rattle.surface_rules.specs.Refusals.{count_refusal, refusal, sheet_refusal}
use Rattle.surface_rules.proofs.Laws.Thens.{counts_fit, one_long}
use Rattle.surface_rules.proofs.Laws.Deciding.{pitch_decides, count_decides, buffers_pass}
use Rattle.survey_grid.specs.Grid.{whole_of, grid_of}
use Rattle.survey_rules.proofs.Laws.Parts.{grid_in, grid_part}
use Rattle.patch_records.specs.Workings.Columns.{Columns}
use Rattle.patch_surface.specs.Workings.Checking.{Checked, ChecksWith}
use Rattle.chart_surface.specs.Outcome.{Buffers, Outcome, outcome, buffers, lent, needs, Completes, Charts}
use Rattle.chart_surface.specs.Workings.Charting.{Roomy, Passed, Checks, LoopBench, ChartBench, LoopRoom, ChartsLoops, Finishes, Alone, alone, alone_of}
use Rattle.chart_surface.specs.declared.Charted.{Charted}

module _ (pitch : ℕ) (words corners : List ℕ) (b : Buffers) where
  -- what the table says decides
  pub decided : {r : Refusal} → refusal pitch words corners (lent b) (needs words corners) ≡ Refused r → Charts pitch words corners b (outcome (Err r) b)
  decided e = rw e refl

  pub pitch_refuse : {r : Refusal} → Names pitch (Err r) → Charts pitch words corners b (outcome (Err r) b)
  pitch_refuse n = decided (pitch_decides pitch words corners (lent b) (needs words corners) n.0 ∙ ap Refused (sym n.1))

  -- what is promised at a pitch is promised at its number
  pub at_pitch : (p : Pitch) (o : Outcome) → pitch ≡ pitch_of p → Charts (pitch_of p) words corners b o → Charts pitch words corners b o
  at_pitch p o e h = subst (λ (n : ℕ). Charts n words corners b o) (sym e) h

  -- a check refused
  pub checked_refuse : {r : Refusal} {turns : List ℕ} {grid' : List ℤ} → Checks pitch words corners b (Refused r) turns grid'
      → Charts pitch words corners b (outcome (Err r) (buffers grid' b.rings b.records b.report))
  checked_refuse {r} k =
      let d = k.0 refl in
      subst (λ (g : List ℤ). Charts pitch words corners b (outcome (Err r) (buffers g b.rings b.records b.report))) (sym d.1) (decided (sym d.0))

  module _ {a : Answer} {turns : List ℕ} {grid' : List ℤ} (k : Checks pitch words corners b a turns grid') where
    module _ (t : refusing a ≡ false) where
      passed : Passed pitch words corners b turns grid'
      passed = k.1 t

      pub checked_in : length words ≤ length grid'
      checked_in = grid_in pitch words b.grid grid' passed.laid

      gridded : take (length words) grid' ≡ grid_of pitch words
      gridded = grid_part pitch words b.grid grid' passed.laid

      checked_here : Checked pitch words corners turns (take (length words) grid')
      checked_here = let c = passed.checked in record { counts = c.counts; woven = c.woven; on_grid = c.on_grid; gridded = gridded }

      pub checked_room : LoopRoom corners turns (take (length words) grid') b.rings b.report × Roomy corners b.rings b.records b.report
      checked_room = (
        record { pitch = pitch; words = words; checked = checked_here; rings_long = passed.roomy.rings_long; report_long = passed.roomy.report_long },
        passed.roomy,
      )

      -- the grid that is handed on has a number for each word
      pub points_here : length (take (length words) grid') / 3 ≡ length words / 3
      points_here = ap (λ (g : List ℤ). length g / 3) gridded ∙ ap (λ (n : ℕ). n / 3) (length-map words (whole_of pitch))

      -- no check refused, and it was charted
      pub checked_charts : {r : Charted} {rings' records' report' : List ℕ}
          → Finishes corners turns (take (length words) grid') (buffers (take (length words) grid') b.rings b.records b.report) r (buffers (take (length words) grid') rings' records' report')
          → Charts pitch words corners b (outcome (Ok r) (buffers grid' rings' records' report'))
      checked_charts {r} {rings'} {records'} {report'} f =
          rw passed.none_refused
          (subst (λ (x : List ℤ). Completes pitch words corners b (outcome (Ok r) (buffers x rings' records' report'))) (sym passed.laid) (f pitch words checked_here b.grid))

-- the counts refuse
pub counts_refuse : (p : Pitch) (words corners : List ℕ) (b : Buffers) {r : Refusal} → Refused r ≡ count_refusal (length words) (length corners) → Charts (pitch_of p) words corners b (outcome (Err r) b)
counts_refuse p words corners b {r} e = decided (pitch_of p) words corners b (count_decides p words corners (lent b) (needs words corners) (Refused r) e refl)

-- room for any surface is room for this one
module _ (words : List ℕ) {corners turns path places : List ℕ} {cs : Columns} {points : ℕ} (c : count_refusal (length words) (length corners) ≡ Done) (p : points ≡ length words / 3) where
  pub loop_bench : limits.corners ≤ length turns → limits.corners ≤ length path → limits.points ≤ length places → limits.triangles ≤ length cs.lengths
      → limits.triangles ≤ length cs.states → limits.triangles ≤ length cs.firsts → limits.triangles ≤ length cs.runs → LoopBench points corners turns path places cs
  loop_bench t u v l s f r =
      let fit = counts_fit (length words) (length corners) c in
      let k = fit.few_corners in
      record {
        turns_long = omega arith;
        path_long = omega arith;
        places_long = omega (arith, fit.few_words);
        pieces_long = omega arith;
        lengths_long = omega arith;
        states_long = omega arith;
        firsts_long = omega arith;
        runs_long = omega arith;
      }

pub chart_bench : (words : List ℕ) {corners turns path patches : List ℕ} → count_refusal (length words) (length corners) ≡ Done
    → 2 * limits.corners ≤ length turns → 2 * limits.corners ≤ length path → limits.set_corners ≤ length patches → ChartBench corners turns path patches
chart_bench words {corners} c t u v =
    let k = (counts_fit (length words) (length corners) c).few_corners in
    record { turns_twice = omega arith; path_twice = omega arith; patches_long = omega arith }

-- ---- the report alone

module _ (pitch : ℕ) (words corners report : List ℕ) where
  pub alone_refused : {r : Refusal} → sheet_refusal pitch words corners ≡ Refused r → alone (Err r) report ≡ alone_of pitch words corners report
  alone_refused e = rw e refl

  pub alone_pitch : {r : Refusal} → Names pitch (Err r) → alone (Err r) report ≡ alone_of pitch words corners report
  alone_pitch n = alone_refused (pitch_decides pitch words corners [] [] n.0 ∙ ap Refused (sym n.1))

  pub alone_at : (p : Pitch) {o : Alone} → pitch ≡ pitch_of p → o ≡ alone_of (pitch_of p) words corners report → o ≡ alone_of pitch words corners report
  alone_at p {o} e h = subst (λ (n : ℕ). o ≡ alone_of n words corners report) (sym e) h

  -- the grid is the one buffer, and it is long enough
  module _ {room : ℕ} (long : length words ≤ room) {grid grid' : List ℤ} {a : Answer} {turns : List ℕ}
      (k : ChecksWith pitch words corners (room ∷ []) (length words ∷ []) grid a turns grid') where
    sheet_decides : refusal pitch words corners (room ∷ []) (length words ∷ []) ≡ sheet_refusal pitch words corners
    sheet_decides = buffers_pass pitch words corners (room ∷ []) (length words ∷ []) (one_long room (length words) long)

    pub alone_checked : {r : Refusal} → a ≡ Refused r → alone (Err r) report ≡ alone_of pitch words corners report
    alone_checked e = alone_refused (sym sheet_decides ∙ sym (k.0 (ap refusing e)).0 ∙ e)

    module _ (t : refusing a ≡ false) where
      pub alone_in : length words ≤ length grid'
      alone_in = grid_in pitch words grid grid' (k.1 t).laid

      part : take (length words) grid' ≡ grid_of pitch words
      part = grid_part pitch words grid grid' (k.1 t).laid

      here : Checked pitch words corners turns (take (length words) grid')
      here = let c = (k.1 t).checked in record { counts = c.counts; woven = c.woven; on_grid = c.on_grid; gridded = part }

      pub alone_points : length (take (length words) grid') / 3 ≡ length words / 3
      alone_points = ap (λ (g : List ℤ). length g / 3) part ∙ ap (λ (n : ℕ). n / 3) (length-map words (whole_of pitch))

      pub alone_room : {rings : List ℕ} → limits.corners ≤ length rings → 4 * limits.triangles ≤ length report → LoopRoom corners turns (take (length words) grid') rings report
      alone_room r q =
          let f = (counts_fit (length words) (length corners) (k.1 t).checked.counts).few_corners in
          record { pitch = pitch; words = words; checked = here; rings_long = omega arith; report_long = omega arith }

      pub alone_charted : {rings rings' report' : List ℕ} {r : Charted} {c : Columns} → ChartsLoops corners turns (take (length words) grid') rings report r rings' report' c
          → alone (Ok r) report' ≡ alone_of pitch words corners report
      alone_charted h =
          let l = h pitch words here in
          let e : sheet_refusal pitch words corners ≡ Done = sym sheet_decides ∙ (k.1 t).none_refused in
          rw e (λ i. record { answer = Done; entries = l.entries_are i; report = l.report_is i })

-- the counts refuse
pub alone_counts : (p : Pitch) (words corners report : List ℕ) {r : Refusal} → Refused r ≡ count_refusal (length words) (length corners) → alone (Err r) report ≡ alone_of (pitch_of p) words corners report
alone_counts p words corners report {r} e = alone_refused (pitch_of p) words corners report (count_decides p words corners [] [] (Refused r) e refl)

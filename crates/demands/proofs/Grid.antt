-- Demand 2 of the grid is kept at every pitch.
use mathlib.Core.Path.{◌≡◌, refl, sym, ap, ◌∙◌, subst}
use mathlib.Core.Bool.{Bool, true, false, true≢false, cond}
use mathlib.Core.List.{List}
use Prim.Native.Nat.{ℕ, ◌*◌, ◌%◌, ◌<◌, ◌≤◌}
use native.Mathlib.Nat.{mul_assoc}
use native.Mathlib.Omega.{arith}
use lib.Dec.{eqb}
use lib.IntN.{ℤ, pos, nat_abs, ◌+ℤ◌, ◌-ℤ◌, ◌*ℤ◌, +ℤ_idl, +ℤ_comm, -ℤ-+ℤ_cancel}
use lib.ListN.{length, get_or, length-map}
use lib.Ieee.{Float, binary32, of_bits}
use lib.Ieee.Nearest.{closest}
use Rattle.base_answers.specs.Numbers.{refusing}
use Rattle.base_answers.specs.declared.Answer.{Answer}
use Rattle.base_answers.specs.Answers as answer
use Rattle.base_types.specs.Pitches.{is_pitch}
use Rattle.base_types.proofs.Laws.Pitches.{number_some, number_most}
use Rattle.grid_coordinate.specs.Units.{one, signed, units}
use Rattle.grid_coordinate.specs.Places.{whole, rest, Lands, Places, answer_of}
use Rattle.grid_coordinate.specs.declared.Coordinate.{Coordinate}
use Rattle.grid_coordinate.specs.declared.Coordinate.TheVariants.{Exact, Shifted, NotFinite, TooFar}
use Rattle.grid_coordinate.proofs.Laws.Signs.{split, mul_signed}
use Rattle.grid_coordinate.proofs.Laws.Rests.{whole_signed, whole_nearest, rest_half, tie_even}
use Rattle.grid_coordinate.proofs.Theorems.{only}
use Rattle.grid_place.proofs.Theorems.{answered}
use Rattle.surface_rules.specs.Buffers.{over}
use Rattle.surface_rules.specs.Refusals.{not_finite, too_far, refusal}
use Rattle.surface_rules.proofs.Laws.Lists.{map_at}
use Rattle.surface_rules.proofs.Laws.Over.{front_at}
use Rattle.surface_rules.proofs.Laws.Sound.{passed}
use Rattle.surface_rules.proofs.Laws.Thens.{words_pass}
use Rattle.check_words.specs.Workings.OnGrid.{OnGrid}
use Rattle.check_words.proofs.Laws.Words.{not_finite_is, too_far_is}
use Rattle.loop_rules.specs.Loops.{loops}
use Rattle.survey_grid.specs.Grid.{whole_of, grid_of}
use Rattle.survey_grid.proofs.Laws.Laying.{no_nan, not_far}
use Rattle.survey_rules.specs.Outcome as survey
use Rattle.patch_surface.specs.Outcome as patcher
use Rattle.chart_surface.specs.Outcome as chart
use Rattle.judge_surface.specs.Outcome.{JudgesCounted, JudgesIf, Judges}
use Rattle.demands.specs.Grid.{away, Stands, Gridded, GridDemand}
use Rattle.demands.proofs.Sets.{patch_done}
use Rattle.demands.proofs.Report.{chart_done}

module _ (pitch : ℕ) (some : 0 < pitch) (most : pitch ≤ 10) where
  -- ---- one coordinate

  module _ {x : Float} {k : ℤ} (l : Lands pitch x k) where
    rest_is : rest pitch (units x) ≡ away x k
    rest_is = ap (away x) (sym l.nearest)

    multiple : (s : Bool) × (m : ℕ) × (k ≡ signed s (m * pitch))
    multiple =
        let y = split (units x) in
        (y.0, closest y.1 (pitch * one), l.nearest ∙ ap (whole pitch) y.2 ∙ whole_signed pitch some y.0 y.1)

    nearest : (s : Bool) (m : ℕ) → nat_abs (away x k) ≤ nat_abs (away x (signed s (m * pitch)))
    nearest s m =
        let e : signed s (m * pitch) *ℤ pos one ≡ signed s (m * (pitch * one)) = mul_signed s (m * pitch) one ∙ ap (signed s) (mul_assoc m pitch one) in
        subst (λ (z : ℤ). nat_abs (away x k) ≤ nat_abs (units x -ℤ z)) (sym e)
        (subst (λ (z : ℤ). nat_abs z ≤ nat_abs (units x -ℤ signed s (m * (pitch * one)))) rest_is (whole_nearest pitch some (units x) s m))

    tie : nat_abs (away x k) * 2 ≡ pitch * one → (m : ℕ) × (nat_abs k ≡ m * pitch) × (m % 2 ≡ 0)
    tie e =
        let t = tie_even pitch some (units x) (ap (λ (z : ℤ). nat_abs z * 2) rest_is ∙ e) in
        (t.0, ap nat_abs l.nearest ∙ t.1, t.2)

    half : nat_abs (away x k) * 2 ≤ pitch * one
    half = subst (λ (z : ℤ). nat_abs z * 2 ≤ pitch * one) rest_is (rest_half pitch some (units x))

    -- the multiple and what is left make the value
    back : {z : ℤ} → z ≡ rest pitch (units x) → units x ≡ k *ℤ pos one +ℤ z
    back {z} e =
        sym (-ℤ-+ℤ_cancel (units x) (k *ℤ pos one))
        ∙ ap (λ (y : ℤ). y +ℤ k *ℤ pos one) (sym (e ∙ rest_is))
        ∙ +ℤ_comm z (k *ℤ pos one)

  no_rest : (x : Float) (k : ℤ) → Places pitch x (Exact k) → units x ≡ k *ℤ pos one
  no_rest x k p = back p.0 (sym p.1) ∙ +ℤ_comm (k *ℤ pos one) (pos 0) ∙ +ℤ_idl (k *ℤ pos one)

  rest_exact : (x : Float) (k : ℤ) (d : Float) → Places pitch x (Shifted k d) → units x ≡ k *ℤ pos one +ℤ units d
  rest_exact x k d p = back p.0 p.1.exact

  -- ---- the words of a sheet

  refusals : (words : List ℕ) (i : ℕ) (c : Coordinate) → Places pitch (of_bits binary32 (get_or words i 0)) c
      → answer_of i c ≡ cond (not_finite words i) (answer.NotFinite i) (cond (too_far pitch words i) (answer.TooFar i) answer.Done)
  refusals words i (Exact k) p = rw (not_finite_is pitch words i (Exact k) p, too_far_is pitch words i (Exact k) p) refl
  refusals words i (Shifted k d) p = rw (not_finite_is pitch words i (Shifted k d) p, too_far_is pitch words i (Shifted k d) p) refl
  refusals words i NotFinite p = rw (not_finite_is pitch words i NotFinite p) refl
  refusals words i (TooFar y) p = rw (not_finite_is pitch words i (TooFar y) p, too_far_is pitch words i (TooFar y) p) refl

  -- ---- those of one that is not refused

  module _ (words corners lent needs : List ℕ) (r : refusing (refusal pitch words corners lent needs) ≡ false) where
    on_grid : OnGrid pitch words
    on_grid = let p = words_pass pitch words (passed pitch words corners lent needs r).word in record { numbers = p.0; near = p.1 }

    gridded : (buffer : List ℤ) → Gridded pitch words (over (grid_of pitch words) buffer)
    unfolding whole_of
    gridded buffer i h = go
      where
        there : get_or (over (grid_of pitch words) buffer) i (pos 0) ≡ whole pitch (units (of_bits binary32 (get_or words i 0)))
        there = front_at (grid_of pitch words) buffer i (pos 0) (omega (arith, length-map words (whole_of pitch))) ∙ map_at (whole_of pitch) 0 (pos 0) words i h

        go : (c : Coordinate) → Places pitch (of_bits binary32 (get_or words i 0)) c → Stands c (get_or (over (grid_of pitch words) buffer) i (pos 0))
        go (Exact k) p = there ∙ sym p.0.nearest
        go (Shifted k d) p = there ∙ sym p.0.nearest
        go NotFinite p = no_nan pitch some most words i on_grid h p
        go (TooFar y) p = not_far pitch some most words i on_grid h y p

  -- ---- what is left, where that is no refusal

  module _ (words corners : List ℕ) where
    surveyed : (b : survey.Buffers) → refusing (survey.survey_of pitch words corners b).answer ≡ false → Gridded pitch words (survey.survey_of pitch words corners b).left.grid
    unfolding survey.survey_of
    surveyed b = go (refusal pitch words corners (survey.lent b) (survey.needs words corners)) refl
      where
        go : (a : Answer) → refusal pitch words corners (survey.lent b) (survey.needs words corners) ≡ a
            → refusing (cond (refusing a) (survey.refused a b) (survey.done pitch words corners b)).answer ≡ false
            → Gridded pitch words (cond (refusing a) (survey.refused a b) (survey.done pitch words corners b)).left.grid
        go a e = by (refusing a) refl
          where
            by : (t : Bool) → refusing a ≡ t → refusing (cond t (survey.refused a b) (survey.done pitch words corners b)).answer ≡ false
                → Gridded pitch words (cond t (survey.refused a b) (survey.done pitch words corners b)).left.grid
            by true r n = absurd (true≢false (sym r ∙ n))
            by false r n = gridded words corners (survey.lent b) (survey.needs words corners) (ap refusing e ∙ r) b.grid

    patched : (b : patcher.Buffers) (o : patcher.Outcome) → patcher.Patches pitch words corners b o → refusing o.answer ≡ false → Gridded pitch words o.left.grid
    patched b o h n =
        let (r, (fates, course, e)) = patch_done pitch words corners b o h n in
        subst (λ (x : patcher.Outcome). Gridded pitch words x.left.grid) (sym e) (gridded words corners (patcher.lent b) (patcher.needs words corners) r b.grid)

    charted : (b : chart.Buffers) (o : chart.Outcome) → chart.Charts pitch words corners b o → refusing o.answer ≡ false → Gridded pitch words o.left.grid
    charted b o h n =
        let (r, (fates, course, e)) = chart_done pitch words corners b o h n in
        subst (λ (x : chart.Outcome). Gridded pitch words x.left.grid) (sym e) (gridded words corners (chart.lent b) (chart.needs words corners) r b.grid)

    module _ (states set : List ℕ) (b : survey.Buffers) (o : survey.Outcome) where
      abbrev judge_refusal : Answer
      judge_refusal = refusal pitch words corners (survey.lent b) (survey.needs words corners)

      counted : refusing judge_refusal ≡ false → (t : Bool) → JudgesCounted t pitch words corners states set b o → refusing o.answer ≡ false → Gridded pitch words o.left.grid
      counted r false e n = absurd (true≢false (ap (λ (x : survey.Outcome). refusing x.answer) (sym e) ∙ n))
      counted r true (a, v, e) n = subst (λ (x : survey.Outcome). Gridded pitch words x.left.grid) (sym e) (gridded words corners (survey.lent b) (survey.needs words corners) r b.grid)

      judged : Judges pitch words corners states set b o → refusing o.answer ≡ false → Gridded pitch words o.left.grid
      judged = go (refusing judge_refusal) refl
        where
          go : (t : Bool) → refusing judge_refusal ≡ t → JudgesIf t judge_refusal pitch words corners states set b o → refusing o.answer ≡ false → Gridded pitch words o.left.grid
          go true r e n = absurd (true≢false (sym r ∙ ap (λ (x : survey.Outcome). refusing x.answer) (sym e) ∙ n))
          go false r j n = counted r (eqb (length (loops corners)) (length states)) j n

pub grid_demand : (pitch : ℕ) → is_pitch pitch ≡ true → GridDemand pitch
grid_demand pitch v =
    let some = number_some v in
    let most = number_most v in
    record {
      answered = λ word. answered word pitch some most;
      one_answer = only pitch;
      multiple = λ x k. multiple pitch some most;
      nearest = λ x k. nearest pitch some most;
      tie = λ x k. tie pitch some most;
      half = λ x k. half pitch some most;
      no_rest = no_rest pitch some most;
      rest_exact = rest_exact pitch some most;
      refusals = refusals pitch some most;
      surveyed = surveyed pitch some most;
      patched = patched pitch some most;
      charted = charted pitch some most;
      judged = judged pitch some most;
    }

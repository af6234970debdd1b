-- From the library's answer to its plain numbers, and that these are determined.
use Rattle.std.specs.Prelude.{Result, Ok, Err}
use mathlib.Core.Path.{◌≡◌, refl, sym, ap, ◌∙◌, subst}
use mathlib.Core.Bool.{Bool, true, false, not}
use mathlib.Core.List.{List}
use Prim.Native.Nat.{ℕ, ◌^◌, ◌<◌}
use native.Mathlib.Nat.{lt_of_le_of_lt}
use native.Mathlib.Omega.{arith}
use lib.Dec.{T, lit<}
use lib.IntN.{ℤ, pos, negsuc, nat_abs}
use lib.Ieee.{Float, nan, inf, fin, is_nan, binary32, to_bits}
use lib.Ieee.Scale.{finite}
use mir.Syntax.{w32}
use mir.Val.{SFits, to_z, of_z}
use mir.ValLaws.{to_z-of_z}
use Rattle.base_answers.specs.Numbers.{number_of, refusal_number, refusal_place, verdict_number, verdict_place}
use Rattle.base_answers.specs.declared.Refusal.{Refusal}
use Rattle.base_answers.specs.declared.Refusal.TheVariants as refusal
use Rattle.base_answers.specs.declared.Verdict.{Verdict}
use Rattle.base_answers.specs.declared.Answer.{Answer}
use Rattle.base_types.specs.Pitches.{pitch_of, is_pitch, Names}
use Rattle.base_types.specs.declared.Pitch.{Pitch}
use Rattle.base_types.proofs.Laws.Pitches.{pitch_is}
use Rattle.grid_coordinate.specs.Places.{Places, Lands, answer_of}
use Rattle.grid_coordinate.specs.declared.Coordinate.{Coordinate}
use Rattle.grid_coordinate.specs.declared.Coordinate.TheVariants.{Exact, Shifted, NotFinite, TooFar}
use Rattle.grid_coordinate.proofs.Laws.Only.{only}
use Rattle.survey_rules.specs.Outcome.{Buffers, Outcome, outcome}
use Rattle.survey_rules.specs.declared.Surveyed.{Surveyed}
use Rattle.patch_surface.specs.Outcome as patcher
use Rattle.patch_surface.specs.declared.Patched.{Patched}
use Rattle.patch_surface.proofs.Theorems.{patches_once}
use Rattle.chart_surface.specs.Outcome as charter
use Rattle.chart_surface.specs.declared.Charted.{Charted}
use Rattle.chart_surface.proofs.Theorems.{charts_once}
use Rattle.judge_answer.specs.declared.Judged.{Judged}
use Rattle.judge_surface.specs.Outcome as checker
use Rattle.judge_surface.proofs.Theorems.{judges_once}
use Rattle.wazelpunt.specs.ForC.{TellsPlace, TellsIf, Tells, whole_of, float_of, Told, told, surveyed, JudgesTold, PatchTold, patch_told, patched, PatchesTold, ChartTold, chart_told, charted, ChartsTold}

number_no_nan : (x : Float) → T (finite x) → T (not (is_nan x))
unfolding is_nan
number_no_nan nan f = absurd f
number_no_nan (inf s) f = absurd f
number_no_nan (fin s m e) f = tt

fits : (z : ℤ) → nat_abs z < 2 ^ 31 → SFits w32 z
fits (pos n) h = record { sfits = h }
fits (negsuc n) h = record { sfits = omega arith }

kept : {pitch : ℕ} {x : Float} {k : ℤ} → Lands pitch x k → to_z w32 (of_z w32 k) ≡ k
kept {pitch} {x} {k} l = to_z-of_z w32 k (fits k (lt_of_le_of_lt l.within (lit< tt)))

-- the two floats that come with an answer have bits
module _ (pitch : ℕ) (x : Float) (found : Coordinate) (right : Places pitch x found) where
  pub shifted_bits : {k : ℤ} {d : Float} → found ≡ Shifted k d → T (not (is_nan d))
  shifted_bits {k} {d} e = number_no_nan d (subst (Places pitch x) e right).1.number

  pub far_bits : {y : Float} → found ≡ TooFar y → T (not (is_nan y))
  far_bits {y} e = let p = subst (Places pitch x) e right in subst (λ (z : Float). T (not (is_nan z))) (sym p.2) (number_no_nan x p.0)

  -- the four answers, each with what the code wrote
  module _ {n : ℕ} {told said : Answer} (p : n ≡ number_of told) (q : told ≡ said) (r : said ≡ answer_of 0 found) where
    telling : (a : Coordinate) {k : ℤ} {b : ℕ} → found ≡ a → k ≡ whole_of a → b ≡ float_of a → TellsPlace pitch x n k b
    telling a e u v = record { coordinate = a; right = subst (Places pitch x) e right; its_number = p ∙ ap number_of (q ∙ r ∙ ap (answer_of 0) e); its_whole = u; its_float = v }

    pub tell_exact : {k : ℤ} → found ≡ Exact k → TellsPlace pitch x n (to_z w32 (of_z w32 k)) 0
    tell_exact {k} e = telling (Exact k) e (kept (subst (Places pitch x) e right).0) refl

    pub tell_shifted : {k : ℤ} {d : Float} → found ≡ Shifted k d → TellsPlace pitch x n (to_z w32 (of_z w32 k)) (to_bits binary32 d)
    tell_shifted {k} {d} e = telling (Shifted k d) e (kept (subst (Places pitch x) e right).0) refl

    pub tell_not_finite : found ≡ NotFinite → TellsPlace pitch x n (pos 0) 0
    tell_not_finite e = telling NotFinite e refl refl

    pub tell_too_far : {y : Float} → found ≡ TooFar y → TellsPlace pitch x n (pos 0) (to_bits binary32 y)
    tell_too_far {y} e = telling (TooFar y) e refl refl

-- what is told at a pitch is told at its number, and at any other number 17 is
module _ (pitch : ℕ) (w : Result Pitch Refusal) (h : Names pitch w) (x : Float) {n : ℕ} where
  pub tell_at : {p : Pitch} {k : ℤ} {b : ℕ} → w ≡ Ok p → TellsPlace (pitch_of p) x n k b → Tells pitch x n k b
  tell_at {p} {k} {b} e t =
      let q : pitch ≡ pitch_of p = rw e at h in
      subst (λ (m : ℕ). Tells m x n k b) (sym q) (rw (pitch_is p) t)

  pub tell_none : {r : Refusal} → w ≡ Err r → n ≡ refusal_number r → Tells pitch x n (pos 0) 0
  tell_none {r} e m =
      let q : (is_pitch pitch ≡ false) × (r ≡ refusal.NoPitch) = rw e at h in
      rw q.0 (m ∙ ap refusal_number q.1, refl, refl)

-- any two answers for a coordinate are equal, at a pitch
place_once : (pitch : ℕ) (x : Float) (n m : ℕ) (k l : ℤ) (b c : ℕ) → TellsPlace pitch x n k b → TellsPlace pitch x m l c → (n ≡ m) × (k ≡ l) × (b ≡ c)
place_once pitch x n m k l b c p q =
    let e = only pitch x p.coordinate q.coordinate p.right q.right in (
      p.its_number ∙ ap (λ (a : Coordinate). number_of (answer_of 0 a)) e ∙ sym q.its_number,
      p.its_whole ∙ ap whole_of e ∙ sym q.its_whole,
      p.its_float ∙ ap float_of e ∙ sym q.its_float,
    )

-- and at any number
pub told_once : (pitch : ℕ) (x : Float) (n m : ℕ) (k l : ℤ) (b c : ℕ) → Tells pitch x n k b → Tells pitch x m l c → (n ≡ m) × (k ≡ l) × (b ≡ c)
told_once pitch x n m k l b c = go (is_pitch pitch)
  where
    go : (t : Bool) → TellsIf t pitch x n k b → TellsIf t pitch x m l c → (n ≡ m) × (k ≡ l) × (b ≡ c)
    go true p q = place_once pitch x n m k l b c p q
    go false p q = (p.0 ∙ sym q.0, p.1 ∙ sym q.1, p.2 ∙ sym q.2)

-- a survey's answer, field by field, or a refusal
module _ (w : Result Surveyed Refusal) (b : Buffers) {o : Outcome} (h : outcome w b ≡ o) where
  pub told_survey : {r : Surveyed} → w ≡ Ok r → told 0 0 r.loops r.vertices b ≡ surveyed o
  told_survey {r} e = let k : outcome (Ok r) b ≡ o = rw e at h in ap surveyed k

  pub refused_survey : {f : Refusal} {n p : ℕ} → w ≡ Err f → n ≡ refusal_number f → p ≡ refusal_place f → told n p 0 0 b ≡ surveyed o
  refused_survey {f} e en ep =
      let k : outcome (Err f) b ≡ o = rw e at h in
      rw (en, ep) (ap surveyed k)

-- a patching's answer, field by field, or a refusal
module _ (pitch : ℕ) (words corners : List ℕ) (b : patcher.Buffers) (w : Result Patched Refusal) (b' : patcher.Buffers) (h : patcher.Patches pitch words corners b (patcher.outcome w b')) where
  pub told_patch : {r : Patched} → w ≡ Ok r → PatchesTold pitch words corners b (patch_told 0 0 r.loops r.vertices r.corners b')
  told_patch e = record { outcome = patcher.outcome w b'; right = h; its_numbers = rw e refl }

  pub refused_patch : {f : Refusal} {n p : ℕ} → w ≡ Err f → n ≡ refusal_number f → p ≡ refusal_place f → PatchesTold pitch words corners b (patch_told n p 0 0 0 b')
  refused_patch e en ep = record { outcome = patcher.outcome w b'; right = h; its_numbers = rw (e, en, ep) refl }

-- any two patchings told of one input and the same buffers are equal
pub patches_told_once : (pitch : ℕ) (words corners : List ℕ) (b : patcher.Buffers) (s t : PatchTold) → PatchesTold pitch words corners b s → PatchesTold pitch words corners b t → s ≡ t
patches_told_once pitch words corners b s t p q =
    p.its_numbers ∙ ap patched (patches_once pitch words corners b p.outcome q.outcome p.right q.right) ∙ sym q.its_numbers

-- a charting's answer, field by field, or a refusal
module _ (pitch : ℕ) (words corners : List ℕ) (b : charter.Buffers) (w : Result Charted Refusal) (b' : charter.Buffers) (h : charter.Charts pitch words corners b (charter.outcome w b')) where
  pub told_chart : {r : Charted} → w ≡ Ok r → ChartsTold pitch words corners b (chart_told 0 0 r.loops r.vertices r.entries b')
  told_chart e = record { outcome = charter.outcome w b'; right = h; its_numbers = rw e refl }

  pub refused_chart : {f : Refusal} {n p : ℕ} → w ≡ Err f → n ≡ refusal_number f → p ≡ refusal_place f → ChartsTold pitch words corners b (chart_told n p 0 0 0 b')
  refused_chart e en ep = record { outcome = charter.outcome w b'; right = h; its_numbers = rw (e, en, ep) refl }

-- any two chartings told of one input and the same buffers are equal
pub charts_told_once : (pitch : ℕ) (words corners : List ℕ) (b : charter.Buffers) (s t : ChartTold) → ChartsTold pitch words corners b s → ChartsTold pitch words corners b t → s ≡ t
charts_told_once pitch words corners b s t p q =
    p.its_numbers ∙ ap charted (charts_once pitch words corners b p.outcome q.outcome p.right q.right) ∙ sym q.its_numbers

-- a judgement, field by field: passed, a verdict or a refusal
module _ (pitch : ℕ) (words corners states set : List ℕ) (b : Buffers) (w : Result Judged Refusal) (b' : Buffers) (h : checker.Judges pitch words corners states set b (checker.outcome w b')) where
  pub passed_judge : {r : Judged} {u : Unit} → w ≡ Ok r → r.verdict ≡ Ok u → JudgesTold pitch words corners states set b (told 0 0 r.loops r.vertices b')
  passed_judge e v = record { outcome = checker.outcome w b'; right = h; its_numbers = rw (e, v) refl }

  pub failed_judge : {r : Judged} {f : Verdict} {n p : ℕ} → w ≡ Ok r → r.verdict ≡ Err f → n ≡ verdict_number f → p ≡ verdict_place f
      → JudgesTold pitch words corners states set b (told n p r.loops r.vertices b')
  failed_judge e v en ep = record { outcome = checker.outcome w b'; right = h; its_numbers = rw (e, v, en, ep) refl }

  pub refused_judge : {f : Refusal} {n p : ℕ} → w ≡ Err f → n ≡ refusal_number f → p ≡ refusal_place f → JudgesTold pitch words corners states set b (told n p 0 0 b')
  refused_judge e en ep = record { outcome = checker.outcome w b'; right = h; its_numbers = rw (e, en, ep) refl }

-- any two judgements told of one set and the same buffers are equal
pub judges_told_once : (pitch : ℕ) (words corners states set : List ℕ) (b : Buffers) (s t : Told) → JudgesTold pitch words corners states set b s → JudgesTold pitch words corners states set b t → s ≡ t
judges_told_once pitch words corners states set b s t p q =
    p.its_numbers ∙ ap surveyed (judges_once pitch words corners states set b p.outcome q.outcome p.right q.right) ∙ sym q.its_numbers

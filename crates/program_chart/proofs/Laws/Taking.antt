-- What a text was taken in for is what is charted of it: the line of its fault, or the report alone of what it says.
use mathlib.Core.Path.{◌≡◌, ap, ◌∙◌}
use mathlib.Core.List.{List}
use Prim.Native.Nat.{ℕ, ◌*◌}
use lib.ListN.{take}
use native.Mathlib.Omega.{arith}
use Rattle.std.specs.Prelude.{Result, Ok, Err}
use Rattle.base_answers.specs.declared.Refusal.{Refusal}
use Rattle.base_answers.specs.declared.Refusal.TheVariants as refusal
use Rattle.text_rules.proofs.Theorems.{not_both, fault_once}
use Rattle.text_sheet.specs.Sheet.{Sheet, sheet, pitch_said, words_said, corners_said}
use Rattle.text_sheet.proofs.Laws.Texts.{text_once}
use Rattle.text_read.specs.Workings.Taking.{TakesWhole, Takes}
use Rattle.text_read.specs.declared.Intake.{Intake}
use Rattle.text_read.proofs.Laws.Deliver.{Mapped, words_are, corners_are}
use Rattle.chart_surface.specs.Workings.Charting.{Alone, alone, alone_of}
use Rattle.program_chart.specs.Workings.TextCharted.{ChartsText}

pub fault_charts : (text : List ℕ) (i : Result Intake ℕ) (a b ws cs : List ℕ) {r : Refusal} → Takes text i a b ws cs → Mapped i (Err r) → (report : List ℕ) → ChartsText text report (alone (Err r) report)
fault_charts text (Ok s) a b ws cs {r} h k report = let z : ◌≡◌ {A = ℕ} 0 1 = cc in absurd (omega arith)
fault_charts text (Err l) a b ws cs {r} h k report =
    rw k
    (record {
      of_fault = λ line g. ap (λ (n : ℕ). alone (Err (refusal.Line n)) report) (fault_once sheet h g);
      of_text = λ s t. absurd (not_both sheet t h);
    })

pub whole_charts : {text a b ws cs : List ℕ} {pitch n t : ℕ} → TakesWhole text pitch n t a b ws cs → (report : List ℕ) {o : Alone} → o ≡ alone_of pitch (take (3 * n) a) (take (3 * t) b) report
    → ChartsText text report o
whole_charts k report q = record {
  of_fault = λ line f. absurd (not_both sheet k.text f);
  of_text = λ s u. q ∙ rw (k.pitch_is, words_are k, corners_are k) (ap (λ (s : Sheet). alone_of (pitch_said s) (words_said s) (corners_said s) report) (text_once k.text u));
}

-- Handing a sheet over, case by case, and that this is what reading promises.
use Rattle.std.specs.Prelude.{Option, Some, None, Result, Ok, Err, MatchResult}
use Rattle.std.specs.Result.{IsErrAnd}
use mathlib.Core.Path.{◌≡◌, refl, sym, ap, ◌∙◌, subst}
use mathlib.Core.List.{List, [], ◌∷◌}
use Prim.Native.Nat.{ℕ, ◌*◌, ◌/◌, ◌≤◌}
use native.Mathlib.Omega.{arith}
use lib.ListN.{length, take}
use Rattle.base_answers.specs.declared.Answer.{Answer}
use Rattle.base_answers.specs.Answers.{Line, Unnamed}
use Rattle.base_answers.specs.declared.Answer.TheVariants.{Done, Refused}
use Rattle.base_answers.specs.declared.Refusal.{Refusal}
use Rattle.base_answers.specs.declared.Refusal.TheVariants as refusal
use Rattle.base_limits.specs.Limits as limits
use Rattle.surface_rules.specs.Smallest.{least}
use Rattle.surface_rules.specs.Buffers.{over}
use Rattle.surface_rules.specs.Refusals.{unnamed, refuse_at, then_check, buffer_refusal, unnamed_refusal}
use Rattle.surface_rules.proofs.Laws.Thens.{then_refused, then_next}
use Rattle.surface_rules.proofs.Laws.Threes.{front_of, front_within}
use Rattle.text_rules.proofs.Theorems.{not_both, fault_once}
use Rattle.text_sheet.specs.Sheet.{Sheet, sheet, pitch_said, words_said, corners_said}
use Rattle.text_sheet.proofs.Laws.Texts.{text_once}
use Rattle.text_read.specs.Outcome.{ReadOutcome, read_outcome, not_read, deliver, Reads}
use Rattle.text_read.specs.Workings.Taking.{TakesWhole, Takes}
use Rattle.text_read.specs.declared.Intake.{Intake}

module _ (pitch : ℕ) (ws cs words corners : List ℕ) where
  needed : Answer
  needed = buffer_refusal (length words ∷ length corners ∷ []) (length ws ∷ length cs ∷ [])

  refuse_is : {r : Refusal} → then_check needed (unnamed_refusal cs (length ws / 3)) ≡ Refused r → deliver pitch ws cs words corners ≡ not_read (Refused r) words corners
  unfolding deliver needed
  refuse_is e = rw e

  done_is : then_check needed (unnamed_refusal cs (length ws / 3)) ≡ Done
      → deliver pitch ws cs words corners ≡ record { answer = Done; pitch = pitch; word_count = length ws; corner_count = length cs; words = over ws words; corners = over cs corners }
  unfolding deliver needed
  done_is e = rw e

  pub short_handed : {r : Refusal} → Refused r ≡ buffer_refusal (length words ∷ length corners ∷ []) (length ws ∷ length cs ∷ []) → read_outcome (Err r) words corners ≡ deliver pitch ws cs words corners
  unfolding needed
  short_handed {r} e =
      sym (refuse_is (ap (λ (x : Answer). then_check x (unnamed_refusal cs (length ws / 3))) (sym e) ∙ then_refused (Refused r) (unnamed_refusal cs (length ws / 3)) refl))

  module _ (e : Done ≡ buffer_refusal (length words ∷ length corners ∷ []) (length ws ∷ length cs ∷ [])) (p : ℕ) (d : length ws ≡ 3 * p) {f : Option ℕ} (m : f ≡ least (unnamed cs p) (length cs)) where
    named : then_check needed (unnamed_refusal cs (length ws / 3)) ≡ refuse_at Unnamed f
    unfolding needed
    named =
        let q : length ws / 3 ≡ p = omega (arith, d) in
        ap (λ (x : Answer). then_check x (unnamed_refusal cs (length ws / 3))) (sym e) ∙ then_next Done (unnamed_refusal cs (length ws / 3)) refl ∙ rw (q, ← m)

    pub unnamed_handed : {i : ℕ} → f ≡ Some i → read_outcome (Err (refusal.Unnamed i)) words corners ≡ deliver pitch ws cs words corners
    unnamed_handed g = sym (refuse_is (named ∙ ap (refuse_at Unnamed) g))

    pub all_handed : {words' corners' : List ℕ} → f ≡ None → words' ≡ over ws words → corners' ≡ over cs corners
        → read_outcome (Ok (record { pitch = pitch; words = length ws; corners = length cs })) words' corners' ≡ deliver pitch ws cs words corners
    all_handed g a b = rw (a, b) (sym (done_is (named ∙ ap (refuse_at Unnamed) g)))

-- what taking in gives, with the line of a fault as a refusal
abbrev pub Mapped : Result Intake ℕ → Result Intake Refusal → Type 0
Mapped i m = MatchResult i (λ s. m ≡ Ok s) (λ l. IsErrAnd m (λ r. r ≡ refusal.Line l))

-- bytes with a fault, and an answer that refuses them at its line
pub fault_promised : (text : List ℕ) (i : Result Intake ℕ) (a b ws cs words corners : List ℕ) {r : Refusal} → Takes text i a b ws cs → Mapped i (Err r)
    → Reads text words corners (read_outcome (Err r) words corners)
fault_promised text (Ok s) a b ws cs words corners {r} h k = let z : ◌≡◌ {A = ℕ} 0 1 = cc in absurd (omega arith)
fault_promised text (Err l) a b ws cs words corners {r} h k =
    rw k
    (record {
      of_text = λ s t. absurd (not_both sheet t h);
      of_fault = λ line g. ap (λ (n : ℕ). not_read (Line n) words corners) (fault_once sheet h g);
    })

-- a text that was taken in
pub taken : {text : List ℕ} {i : Result Intake ℕ} {s : Intake} {a b ws cs : List ℕ} → Takes text i a b ws cs → i ≡ Ok s → TakesWhole text s.pitch s.points s.triangles a b ws cs
taken {text} {a = a} {b = b} {ws = ws} {cs = cs} h e = subst (λ (j : Result Intake ℕ). Takes text j a b ws cs) e h

pub whole_mapped : {text : List ℕ} (i : Result Intake ℕ) {s : Intake} {a b ws cs : List ℕ} → Takes text i a b ws cs → Mapped i (Ok s) → TakesWhole text s.pitch s.points s.triangles a b ws cs
whole_mapped (Ok x) {s} h k = let q : x ≡ s = cc in taken h (ap (λ (y : Intake). Ok y) q)
whole_mapped (Err l) h k = absurd k

module _ {text : List ℕ} {pitch n t : ℕ} {a b ws cs : List ℕ} (k : TakesWhole text pitch n t a b ws cs) where
  pub few_points : n ≤ limits.points
  few_points = omega (arith, k.points_are, k.text.says.body_says.first_few)

  pub few_triangles : t ≤ limits.triangles
  few_triangles = omega (arith, k.triangles_are, k.text.says.body_says.second_few)

  -- its words and corners lie at the starts of two buffers
  pub words_in : 3 * n ≤ length a
  words_in = front_within k.said.body.firsts a ws n k.words_laid k.points_are

  pub corners_inside : 3 * t ≤ length b
  corners_inside = front_within k.said.body.seconds b cs t k.corners_laid k.triangles_are

  pub words_are : take (3 * n) a ≡ words_said k.said
  words_are = front_of k.said.body.firsts a ws n k.words_laid k.points_are

  pub corners_are : take (3 * t) b ≡ corners_said k.said
  corners_are = front_of k.said.body.seconds b cs t k.corners_laid k.triangles_are

  pub delivered : (o : ReadOutcome) (words corners : List ℕ) → o ≡ deliver pitch (take (3 * n) a) (take (3 * t) b) words corners → Reads text words corners o
  delivered o words corners q = record {
    of_text = λ s u.
        q ∙ rw (k.pitch_is, words_are, corners_are)
        (ap (λ (s : Sheet). deliver (pitch_said s) (words_said s) (corners_said s) words corners) (text_once k.text u));
    of_fault = λ line f. absurd (not_both sheet k.text f);
  }

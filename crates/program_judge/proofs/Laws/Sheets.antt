-- From what a sheet was taken in from to what is answered on its text.
use Rattle.std.specs.Prelude.{Result, Ok, Err}
use mathlib.Core.Path.{◌≡◌, refl, sym, ap, ap₂, ◌∙◌, subst}
use mathlib.Core.List.{List}
use Prim.Native.Nat.{ℕ, ◌+◌, ◌*◌, ◌≤◌}
use native.Mathlib.Omega.{arith}
use lib.ListN.{length, length-append, take}
use lib.Seq.{length-take-le}
use mir.Val.{Fits}
use mir.Syntax.{w64}
use borrow.Author.Tests.{eq-eqb, ne_eqb}
use Rattle.base_answers.specs.declared.Answer.{Answer}
use Rattle.base_answers.specs.Answers.{Line}
use Rattle.base_answers.specs.declared.Refusal.{Refusal}
use Rattle.base_answers.specs.declared.Answer.TheVariants.{Refused}
use Rattle.base_limits.specs.Limits as limits
use Rattle.text_rules.specs.Text.{both_lines}
use Rattle.text_rules.specs.Fault.{Fault}
use Rattle.text_rules.proofs.Theorems.{not_both, fault_once}
use Rattle.text_rules.proofs.Laws.Lines.{lines_length}
use Rattle.text_sheet.specs.Sheet.{points, triangles, head, Sheet, sheet, pitch_said, words_said, corners_said}
use Rattle.text_sheet.proofs.Laws.Texts.{text_once}
use Rattle.text_read.specs.Workings.Taking.{TakesWhole, Takes}
use Rattle.text_read.specs.declared.Intake.{Intake}
use Rattle.text_read_set.specs.declared.ReadSet.{ReadSet}
use Rattle.text_read.proofs.Laws.Deliver as deliver
use Rattle.text_read_set.specs.Outcome.{set_outcome, ReadsSet}
use Rattle.text_read_set.proofs.Laws.Within.{read_set_within}
use Rattle.program_judge.specs.Hears.{Answers, Hears}
use Rattle.program_judge.specs.declared.Hearing.{Hearing}
use Rattle.program_judge.specs.Workings.Taken.{lines_of, TakesSet, SheetOf, SetOf, Somehow, Taken, SetTaken, HearsOf, HearsTaken, HearsSet}
use Rattle.program_judge.proofs.Theorems.{hears_front}
use Rattle.program_judge.proofs.Laws.Sets.{refused_hears, judged_hears}

-- what is right for the bytes is right for the inputs that were read into the rooms
pub hears_inputs : (h : Hearing) (words corners states parts : List ℕ) (a : Answer) → HearsOf h words corners states parts a → HearsTaken h words corners states parts a
unfolding HearsOf HearsTaken
hears_inputs h words corners states parts a k room n held m (roomy, s) (more_roomy, t) bytes patches in_room in_held = hears_front roomy more_roomy in_room in_held (k (take n room) (take m held) s t)

pub somehow : {h : Hearing} {words corners states parts : List ℕ} → Taken h.sheet words corners → SetTaken h states parts → Somehow h words corners states parts
somehow (room, n, (roomy, s)) (held, m, (more_roomy, t)) = (take n room, take m held, s, t)

-- a text with a fault
pub wrong_heard : (h : Hearing) (words corners states parts : List ℕ) {line : ℕ} → h.sheet ≡ Err line → HearsOf h words corners states parts (Line line)
unfolding HearsOf
wrong_heard h words corners states parts {line} e bytes patches s t =
    let g : Fault sheet bytes line = subst (λ (i : Result Intake ℕ). Takes bytes i words corners s.words_before s.corners_before) e s.taken in
    record {
      of_fault = λ l f. ap Line (fault_once sheet g f);
      of_set_fault = λ r x l f. absurd (not_both sheet x g);
      of_set = λ r x ss us y. absurd (not_both sheet x g);
    }

-- a head has one line, or none at pitch 1
pub head_one : (pitch : ℕ) → pitch ≡ 1 → length (head pitch) ≡ 0
unfolding head
head_one pitch e = rw (eq-eqb pitch 1 e)

pub head_other : (pitch : ℕ) → (pitch ≡ 1 → ⊥) → length (head pitch) ≡ 1
unfolding head
head_other pitch e = rw (ne_eqb pitch 1 e)

-- a whole text
module _ (h : Hearing) {i : Intake} (e : h.sheet ≡ Ok i) (words corners : List ℕ) where
  -- as it was taken in
  module _ {bytes : List ℕ} (s : SheetOf bytes h.sheet words corners) where
    here : TakesWhole bytes i.pitch i.points i.triangles words corners s.words_before s.corners_before
    here = deliver.taken s.taken e

    words_cut : 3 * i.points ≡ length (take (3 * i.points) words)
    words_cut = sym (length-take-le (3 * i.points) words (deliver.words_in here))

    corners_cut : 3 * i.triangles ≡ length (take (3 * i.triangles) corners)
    corners_cut = sym (length-take-le (3 * i.triangles) corners (deliver.corners_inside here))

    -- as many lines as are counted
    lines_counted : lines_of i.pitch i.points i.triangles ≡ length (sheet.lines here.said)
    lines_counted =
        let b = here.said.body in
        ap₂ (λ (x y : ℕ). x + y) (ap (λ (k : ℕ). length (head k)) here.pitch_is) (omega (arith, here.points_are, here.triangles_are, lines_length points triangles b))
        ∙ sym (length-append (head here.said.head) (both_lines points triangles b))

    -- what is answered on what it says
    heard : {patches : List ℕ} {a : Answer} → HearsSet i.pitch (take (3 * i.points) words) (take (3 * i.triangles) corners) patches (lines_of i.pitch i.points i.triangles) a
        → (r : Sheet) → here.said ≡ r → HearsSet (pitch_said r) (words_said r) (corners_said r) patches (length (sheet.lines r)) a
    heard {patches} {a} k r same =
        subst (λ (r : Sheet). HearsSet (pitch_said r) (words_said r) (corners_said r) patches (length (sheet.lines r)) a) same
        (subst (λ (k : ℕ). HearsSet (pitch_said here.said) (words_said here.said) (corners_said here.said) patches k a) lines_counted
        (subst (λ (k : ℕ). HearsSet k (words_said here.said) (corners_said here.said) patches (lines_of i.pitch i.points i.triangles) a) here.pitch_is
        (subst (λ (l : List ℕ). HearsSet i.pitch (words_said here.said) l patches (lines_of i.pitch i.points i.triangles) a) (deliver.corners_are here)
        (subst (λ (l : List ℕ). HearsSet i.pitch l (take (3 * i.triangles) corners) patches (lines_of i.pitch i.points i.triangles) a) (deliver.words_are here) k))))

    whole_heard : {patches : List ℕ} {a : Answer} → HearsSet i.pitch (take (3 * i.points) words) (take (3 * i.triangles) corners) patches (lines_of i.pitch i.points i.triangles) a → Hears bytes patches a
    whole_heard k =
        record {
          of_fault = λ l f. absurd (not_both sheet here.text f);
          of_set_fault = λ r x l f. (heard k r (text_once here.text x)).of_set_fault l f;
          of_set = λ r x ss us y. (heard k r (text_once here.text x)).of_set ss us y;
        }

  module _ (states parts : List ℕ) where
    -- the set that was read behind it
    read : {patches : List ℕ} (t : SetOf patches h states parts) → ReadsSet patches (lines_of i.pitch i.points i.triangles) t.states_before t.parts_before (set_outcome h.set states parts)
    read {patches} t = subst (λ (x : Result Intake ℕ). TakesSet x patches h.set states parts t.states_before t.parts_before) e t.taken

    read_as : {r : Result ReadSet Refusal} → h.set ≡ r → {patches : List ℕ} (t : SetOf patches h states parts)
        → ReadsSet patches (lines_of i.pitch i.points i.triangles) t.states_before t.parts_before (set_outcome r states parts)
    read_as g {patches} t = subst (λ (r : Result ReadSet Refusal). ReadsSet patches (lines_of i.pitch i.points i.triangles) t.states_before t.parts_before (set_outcome r states parts)) g (read t)

    module _ (k : Somehow h words corners states parts) where
      pub words_small : Fits w64 (3 * i.points)
      words_small = omega (arith, deliver.few_points (here k.2))

      pub corners_small : Fits w64 (3 * i.triangles)
      corners_small = omega (arith, deliver.few_triangles (here k.2))

      -- the buffers hold all of them
      pub words_within : 3 * i.points ≤ length words
      words_within = deliver.words_in (here k.2)

      pub corners_within : 3 * i.triangles ≤ length corners
      corners_within = deliver.corners_inside (here k.2)

      module _ {r : ReadSet} (g : h.set ≡ Ok r) where
        pub states_within : r.states ≤ length states
        states_within = (read_set_within _ _ _ _ _ (read_as g k.3)).states_in

        pub parts_within : r.corners ≤ length parts
        parts_within = (read_set_within _ _ _ _ _ (read_as g k.3)).corners_inside

      pub words_few : length (take (3 * i.points) words) ≤ limits.words
      words_few = omega (arith, words_cut k.2, deliver.few_points (here k.2))

      pub corners_few : length (take (3 * i.triangles) corners) ≤ limits.corners
      corners_few = omega (arith, corners_cut k.2, deliver.few_triangles (here k.2))

    -- the answer that reading it refused with, or the checker's
    pub refused_heard : {f : Refusal} → h.set ≡ Err f → HearsOf h words corners states parts (Refused f)
    unfolding HearsOf
    refused_heard g bytes patches s u = whole_heard s (refused_hears (read_as g u) u.states_full u.parts_full refl)

    pub judged_heard : {r : ReadSet} (a : Answer) → h.set ≡ Ok r → Answers i.pitch (take (3 * i.points) words) (take (3 * i.triangles) corners) (take r.states states) (take r.corners parts) a
        → HearsOf h words corners states parts a
    unfolding HearsOf
    judged_heard a g k bytes patches s u = whole_heard s (judged_hears (read_as g u) u.states_full u.parts_full refl k)

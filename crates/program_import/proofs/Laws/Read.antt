-- What reading into buffers of a surface's full size gives: the answer on the file alone, and its sheet, which can be put.
use mathlib.Core.Path.{◌≡◌, refl, sym, ap, ap₂, ◌∙◌, subst, subst₂}
use mathlib.Core.Bool.{Bool, true, false, true≢false, cond}
use mathlib.Core.List.{List, [], ◌∷◌}
use Prim.Native.Nat.{ℕ, ◌*◌, ◌/◌, ◌≤◌}
use native.Mathlib.Omega.{arith}
use lib.Dec.{leb}
use lib.ListN.{length, take}
use borrow.Author.Tests.{leb-true}
use Rattle.std.specs.Prelude.{Result, Ok, Err}
use Rattle.base_answers.specs.Numbers.{refusing}
use Rattle.base_answers.specs.Answers.{Words, Corners, Misfit}
use Rattle.base_answers.specs.declared.Answer.TheVariants.{Done, Refused}
use Rattle.base_answers.specs.declared.Refusal.{Refusal}
use Rattle.base_limits.specs.Limits as limits
use Rattle.surface_rules.specs.Buffers.{over}
use Rattle.surface_rules.specs.Refusals.{then_check, count_refusal, buffer_refusal, unnamed_refusal}
use Rattle.surface_rules.specs.Threes.{threes, flat}
use Rattle.surface_rules.proofs.Laws.Over.{start_of, front_in}
use Rattle.surface_rules.proofs.Laws.Thens.{then_refused, whole_count, two_long}
use Rattle.surface_rules.proofs.Laws.Threes.{flat_length, threes_flat}
use Rattle.check_shape.proofs.Laws.Refusing.{counts_done}
use Rattle.text_rules.specs.Text.{TextOf}
use Rattle.text_sheet.specs.Sheet.{sheet_of, sheet}
use Rattle.text_read.specs.declared.ReadSheet.{ReadSheet}
use Rattle.text_read.specs.Outcome.{ReadOutcome, read_outcome, not_read}
use Rattle.stl_facets.specs.Facets.{facets}
use Rattle.stl_rules.specs.File.{fits}
use Rattle.stl_rules.specs.Reading.{points_in, corners_in, size_refusal, file_refusal, read_refusal, reads_file}
use Rattle.stl_rules.proofs.Laws.Files.{corners_count, all_named}
use Rattle.program_lines.specs.Lines.{answer_line}
use Rattle.program_import.specs.Importing.{Imports}
use Rattle.program_import.specs.Workings.Putting.{PutRoom, Puts}

-- a file that is not refused
pub record Taken (file : List ℕ) : Type 0 where
  pub done : file_refusal file ≡ Done
  pub few_facets : facets file ≤ limits.triangles
  pub few_points : length (points_in file) ≤ limits.points

pub taken : (file : List ℕ) → refusing (file_refusal file) ≡ false → Taken file
unfolding file_refusal size_refusal
taken file = go (fits (length file) (facets file)) refl (leb (facets file) limits.triangles) refl (leb (length (points_in file)) limits.points) refl
  where
    go : (s : Bool) → fits (length file) (facets file) ≡ s → (t : Bool) → leb (facets file) limits.triangles ≡ t → (u : Bool) → leb (length (points_in file)) limits.points ≡ u
        → refusing (then_check (then_check (cond s Done Misfit) (cond t Done Corners)) (cond u Done Words)) ≡ false → Taken file
    go true e true f true g h = record { done = rw (e, f, g); few_facets = leb-true _ _ f; few_points = leb-true _ _ g }
    go true e true f false g h = absurd (true≢false h)
    go true e false f u g h = absurd (true≢false h)
    go false e t f u g h = absurd (true≢false h)

-- the outcome of reading it
pub record Given (file : List ℕ) (o : ReadOutcome) : Type 0 where
  answered : o.answer ≡ file_refusal file
  pub words_in : o.word_count ≤ length o.words
  pub corners_inside : o.corner_count ≤ length o.corners
  words_are : refusing (file_refusal file) ≡ false → take o.word_count o.words ≡ flat (points_in file)
  corners_are : refusing (file_refusal file) ≡ false → take o.corner_count o.corners ≡ corners_in file

module _ (file words corners : List ℕ) {o : ReadOutcome} (r : o ≡ reads_file file words corners) (hw : limits.words ≤ length words) (hc : limits.corners ≤ length corners) where
  refused_given : refusing (file_refusal file) ≡ true → Given file o
  unfolding reads_file read_refusal
  refused_given h =
      let e : o ≡ not_read (file_refusal file) words corners = r ∙ rw (then_refused (file_refusal file) (buffer_refusal (length words ∷ length corners ∷ []) (3 * length (points_in file) ∷ 3 * facets file ∷ [])) h, h) in
      subst (Given file) (sym e) (record {
        answered = refl;
        words_in = omega arith;
        corners_inside = omega arith;
        words_are = λ f. absurd (true≢false (sym h ∙ f));
        corners_are = λ f. absurd (true≢false (sym h ∙ f));
      })

  taken_given : Taken file → Given file o
  unfolding reads_file read_refusal
  taken_given t =
      let b = two_long (length words) (length corners) (3 * length (points_in file)) (3 * facets file) (omega (arith, hw, t.few_points)) (omega (arith, hc, t.few_facets)) in
      let e : o ≡ record { answer = Done; pitch = 1; word_count = 3 * length (points_in file); corner_count = 3 * facets file; words = over (flat (points_in file)) words; corners = over (corners_in file) corners } = r ∙ rw (t.done, b) in
      let w : 3 * length (points_in file) ≡ length (flat (points_in file)) = sym (flat_length (points_in file)) in
      let c : 3 * facets file ≡ length (corners_in file) = sym (corners_count file) in
      subst (Given file) (sym e) (record {
        answered = sym t.done;
        words_in = front_in (flat (points_in file)) words _ (3 * length (points_in file)) w refl;
        corners_inside = front_in (corners_in file) corners _ (3 * facets file) c refl;
        words_are = λ _. start_of (flat (points_in file)) words (3 * length (points_in file)) w;
        corners_are = λ _. start_of (corners_in file) corners (3 * facets file) c;
      })

  pub given : Given file o
  given = go (refusing (file_refusal file)) refl
    where
      go : (b : Bool) → refusing (file_refusal file) ≡ b → Given file o
      go true e = refused_given e
      go false e = taken_given (taken file e)

-- what was read, and what was refused
module _ {file : List ℕ} (words corners : List ℕ) {w : Result ReadSheet Refusal} (words' corners' : List ℕ) (r : read_outcome w words' corners' ≡ reads_file file words corners)
    (hw : limits.words ≤ length words) (hc : limits.corners ≤ length corners) where
  pub sheet_given : {s : ReadSheet} → w ≡ Ok s → Given file (read_outcome (Ok s) words' corners')
  sheet_given h = given file words corners (rw h at r) hw hc

  pub refusal_imports : {f : Refusal} → w ≡ Err f → Imports file (answer_line (Refused f))
  refusal_imports {f} h =
      let g : Given file (read_outcome (Err f) words' corners') = given file words corners (rw h at r) hw hc in
      record { of_sheet = λ d. absurd (true≢false (ap refusing (g.answered ∙ d))); of_refusal = λ _. ap answer_line g.answered }

-- a sheet that was read
module _ {file : List ℕ} {s : ReadSheet} (words' corners' : List ℕ) (g : Given file (read_outcome (Ok s) words' corners')) where
  passed : refusing (file_refusal file) ≡ false
  passed = ap refusing (sym g.answered)

  pub put_room : {room : List ℕ} → limits.sheet_text ≤ length room → PutRoom (take s.words words') (take s.corners corners') room
  put_room h =
      let t = taken file passed in
      record {
        roomy = h;
        counted =
            ap₂ (λ (ws cs : List ℕ). count_refusal (length ws) (length cs)) (g.words_are passed) (g.corners_are passed)
            ∙ ap₂ count_refusal (flat_length (points_in file)) (corners_count file)
            ∙ sym (counts_done (3 * length (points_in file)) (3 * facets file) (sym (whole_count limits.words (length (points_in file)) (omega (arith, t.few_points)))) refl
            (sym (whole_count limits.corners (facets file) (omega (arith, t.few_facets)))) refl);
        named = ap₂ (λ (ws cs : List ℕ). unnamed_refusal cs (length ws / 3)) (g.words_are passed) (g.corners_are passed) ∙ all_named file;
      }

  pub put_imports : {room room' : List ℕ} {r : ℕ} (p : Puts (take s.words words') (take s.corners corners') room r room') → Imports file p.out
  put_imports p =
      record {
        of_sheet = λ _.
            subst (λ (l : List _). TextOf sheet p.out (sheet_of 1 l (threes (corners_in file)))) (threes_flat (points_in file))
            (subst₂ (λ (ws cs : List ℕ). TextOf sheet p.out (sheet_of 1 (threes ws) (threes cs))) (g.words_are passed) (g.corners_are passed) p.of_sheet);
        of_refusal = λ t. absurd (true≢false (sym t ∙ passed));
      }

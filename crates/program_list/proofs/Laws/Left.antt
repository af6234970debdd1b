-- What is left, cut to what is used, is what can be listed; where a text or a sheet is refused, no loops are.
use mathlib.Core.Path.{◌≡◌, refl, sym, ap, ◌∙◌, subst}
use mathlib.Core.Bool.{Bool, true, false}
use mathlib.Core.Logic.{inl, inr}
use mathlib.Core.List.{List, [], flatten}
use Prim.Native.Nat.{ℕ, ◌*◌, ◌≤◌}
use native.Mathlib.Omega.{arith}
use lib.ListN.{length, length-map}
use Rattle.base_answers.specs.Numbers.{refusing}
use Rattle.base_answers.specs.declared.Answer.{Answer}
use Rattle.base_answers.specs.Answers.{Line}
use Rattle.base_limits.specs.Limits as limits
use Rattle.surface_rules.specs.Edges.{Sound}
use Rattle.surface_rules.specs.Refusals.{refusal}
use Rattle.surface_rules.proofs.Laws.Sound.{Passed, passed, passed_sound}
use Rattle.surface_rules.proofs.Laws.Thens.{counts_fit, words_pass}
use Rattle.surface_rules.proofs.Laws.Over.{start_of, front_in}
use Rattle.loop_rules.specs.Loops.{loops, ring}
use Rattle.loop_cut.specs.Listing.{rings_of}
use Rattle.survey_grid.specs.Grid.{grid_of}
use Rattle.cover_weight.specs.Weight.{Coordinates}
use Rattle.rim_rules.specs.Rims.{rim_list}
use Rattle.fill_fates.specs.Fates.{Fate}
use Rattle.fill_fates.specs.Course.{Course, ring_list, laid_by}
use Rattle.fill_fates.proofs.Laws.Grows.{course_length}
use Rattle.fill_scratch.proofs.Laws.Rings.{coordinates_of}
use Rattle.patch_records.specs.Records.{numbers, record_of, records_of}
use Rattle.patch_records.proofs.Laws.Sevens.{sevens_length}
use Rattle.patch_surface.specs.Outcome.{Buffers, Outcome, refused, done, lent, needs, PatchesIf, Patches}
use Rattle.text_rules.proofs.Theorems.{Known}
use Rattle.text_sheet.specs.Sheet.{sheet, pitch_said, words_said, corners_said}
use Rattle.text_sheet.proofs.Laws.Texts.{text_or_fault}
use Rattle.program_lines.specs.Workings.Telling.{Lying}
use Rattle.program_list.specs.Lists.{Lists, loops_of}
use Rattle.program_list.specs.Workings.Printed.{used, LoopsIn}
use Rattle.program_list.proofs.Laws.Shows.{loops_many, rings_shown, records_shown, patches_shown, loops_fit}

-- the buffers are long enough for the counts, and what is used of them can be listed
pub record LeftListed (o : Outcome) : Type 0 where
  pub rings_in : o.vertices ≤ length o.left.rings
  pub records_in : limits.record_numbers * o.loops ≤ length o.left.records
  pub patches_in : o.corners ≤ length o.left.patches
  pub listed : LoopsIn o

-- where it refuses there are no loops
none_listed : (a : Answer) (b : Buffers) → LeftListed (refused a b)
unfolding flatten
none_listed a b = record {
  rings_in = omega arith;
  records_in = omega arith;
  patches_in = omega arith;
  listed = record {
    loops = [];
    lying = record { rings_are = refl; records_are = refl; patches_are = refl };
    fits = λ l h. absurd (omega (arith, h));
    many = refl;
  };
}

module _ (pitch : ℕ) (words corners : List ℕ) (b : Buffers) where
  module _ (on : Coordinates (grid_of pitch words)) (sound : Sound corners) (few : length corners ≤ limits.corners) (fates : List Fate)
      (course : Course (grid_of pitch words) corners [] (rim_list (grid_of pitch words) corners) (ring_list corners) fates) where
    fated : length fates ≡ length (loops corners)
    fated = course_length (grid_of pitch words) corners [] (rim_list (grid_of pitch words) corners) (ring_list corners) fates course ∙ length-map (loops corners) (ring corners)

    records_long : limits.record_numbers * length (loops corners) ≡ length (records_of (grid_of pitch words) corners fates)
    unfolding records_of
    records_long = sym (sevens_length (λ (l : ℕ). numbers (record_of (grid_of pitch words) corners fates l)) (λ l. refl) (length (loops corners)))

    left_lying : Lying (loops_of (grid_of pitch words) corners fates) (used (done pitch words corners fates b))
    unfolding rings_of
    left_lying = record {
      rings_are = start_of (rings_of corners (loops corners)) b.rings _ refl ∙ sym (ap flatten (rings_shown (grid_of pitch words) corners fates));
      records_are = start_of (records_of (grid_of pitch words) corners fates) b.records _ records_long ∙ sym (records_shown (grid_of pitch words) corners fates);
      patches_are = start_of (laid_by (ring_list corners) fates) b.patches _ refl ∙ sym (patches_shown (grid_of pitch words) corners fates fated);
    }

    done_listed : LeftListed (done pitch words corners fates b)
    done_listed = record {
      rings_in = front_in (rings_of corners (loops corners)) b.rings _ _ refl refl;
      records_in = front_in (records_of (grid_of pitch words) corners fates) b.records _ _ records_long refl;
      patches_in = front_in (laid_by (ring_list corners) fates) b.patches _ _ refl refl;
      listed = record { loops = loops_of (grid_of pitch words) corners fates; lying = left_lying; fits = loops_fit (grid_of pitch words) corners on sound few (rim_list (grid_of pitch words) corners) fates course; many = loops_many (grid_of pitch words) corners fates };
    }

  abbrev refuses : Answer
  refuses = refusal pitch words corners (lent b) (needs words corners)

  -- what a course left, by the fates that it gave
  pub course_listed : (fates : List Fate) → refusing refuses ≡ false → Course (grid_of pitch words) corners [] (rim_list (grid_of pitch words) corners) (ring_list corners) fates → LeftListed (done pitch words corners fates b)
  course_listed fates r course =
      let table : Passed pitch words corners (lent b) (needs words corners) = passed pitch words corners (lent b) (needs words corners) r in
      let on = words_pass pitch words table.word in
      done_listed (coordinates_of pitch words (record { numbers = on.0; near = on.1 })) (passed_sound pitch words corners (lent b) (needs words corners) table) (counts_fit (length words) (length corners) table.counts).few_corners fates course

  -- whose loops are those of the fates
  pub course_loops : (fates : List Fate) (r : refusing refuses ≡ false) (course : Course (grid_of pitch words) corners [] (rim_list (grid_of pitch words) corners) (ring_list corners) fates)
      → (course_listed fates r course).listed.loops ≡ loops_of (grid_of pitch words) corners fates
  unfolding course_listed done_listed
  course_loops fates r course = refl

  pub patches_listed : (o : Outcome) → Patches pitch words corners b o → LeftListed o
  patches_listed o h = go (refusing refuses) refl h
    where
      go : (t : Bool) → refusing refuses ≡ t → PatchesIf t refuses pitch words corners b o → LeftListed o
      go true r e = subst LeftListed (sym e) (none_listed refuses b)
      go false r (fates, course, e) = subst LeftListed (sym e) (course_listed fates r course)

-- so of every text
pub lists_listed : {bytes : List ℕ} {b : Buffers} {o : Outcome} → Lists bytes b o → LeftListed o
lists_listed {bytes} {b} {o} l = go (text_or_fault bytes)
  where
    go : Known sheet bytes → LeftListed o
    go (inl t) = patches_listed (pitch_said t.0) (words_said t.0) (corners_said t.0) b o (l.of_text t.0 t.1)
    go (inr f) = subst LeftListed (sym (l.of_fault f.0 f.1)) (none_listed (Line f.0) b)

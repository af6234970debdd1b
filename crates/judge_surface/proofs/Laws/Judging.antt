-- From the checks, the listing and the verdict to what the checker answers and leaves.
use mathlib.Core.Path.{◌≡◌, refl, sym, ap, ◌∙◌, subst}
use mathlib.Core.List.{List, []}
use Prim.Native.Nat.{ℕ, ◌*◌, ◌/◌, ◌≤◌}
use native.Mathlib.Nat.{le_trans}
use native.Mathlib.Omega.{arith}
use borrow.Author.Tests.{eq-eqb, ne_eqb}
use lib.IntN.{ℤ}
use lib.ListN.{length, take}
use Rattle.std.specs.Prelude.{Err}
use Rattle.base_answers.specs.declared.Refusal.{Refusal}
use Rattle.base_answers.specs.declared.Answer.{Answer}
use Rattle.base_answers.specs.Answers.{States}
use Rattle.base_answers.specs.declared.Answer.TheVariants.{Done, Refused}
use Rattle.base_types.specs.Pitches.{pitch_of, Names}
use Rattle.base_types.specs.declared.Pitch.{Pitch}
use Rattle.base_limits.specs.Limits as limits
use Rattle.surface_rules.specs.Buffers.{over}
use Rattle.surface_rules.specs.Refusals.{count_refusal, refusal}
use Rattle.surface_rules.proofs.Laws.Thens.{counts_fit}
use Rattle.surface_rules.proofs.Laws.Deciding.{pitch_decides, count_decides, content_decides}
use Rattle.loop_rules.specs.Loops.{loops}
use Rattle.loop_cut.specs.Listing.{ListsLoops}
use Rattle.loop_cut.specs.declared.Listed.{Listed}
use Rattle.survey_grid.specs.Grid.{grid_of}
use Rattle.check_surface.specs.Workings.Checks.{Checked}
use Rattle.survey_rules.specs.Outcome.{Buffers, Outcome, buffers, refused, needs, lent}
use Rattle.survey_rules.proofs.Laws.Known.{Suited, rings_few, loops_few}
use Rattle.survey_rules.proofs.Laws.Parts.{grid_in, grid_part, rings_in, lengths_in}
use Rattle.rim_rules.specs.Rims.{rim_list}
use Rattle.fill_fates.specs.Course.{ring_list}
use Rattle.judge_rules.specs.Verdicts.{Verdict}
use Rattle.fill_scratch.specs.Workings.Scratch.{few}
use Rattle.fill_scratch.specs.Workings.Tray.{EdgeRoom}
use Rattle.rim_mark.specs.Workings.Marking.{Marked}
use Rattle.rim_mark.proofs.Laws.Listed.{input_here, as_many_loops, loops_here, marks_here, rims_here}
use Rattle.judge_all_sight.specs.Workings.Gives.{Declared, VerdictRoom, Gives}
use Rattle.judge_surface.specs.Outcome.{judged, Judges}
use Rattle.judge_surface.specs.Workings.Listing.{ListingRoom}
use Rattle.judge_surface.specs.Workings.Finding.{Ready}

-- ---- room to list the loops

module _ (words corners turns path places rings lengths marks : List ℕ) (c : count_refusal (length words) (length corners) ≡ Done) where
  -- room for few is room for this surface if it has few points and corners
  pub listing_few : length words / 3 ≤ few → length corners ≤ few → 2 * few ≤ length turns → 2 * few ≤ length path → few ≤ length places
      → few ≤ length rings → few ≤ length lengths → few ≤ length marks
      → ListingRoom words corners turns path places rings lengths marks
  listing_few p q t u v x y z = record {
    scratch = record { counts = c; turns_long = omega arith; path_long = omega arith; places_long = le_trans p v; pieces_long = omega arith };
    rings_long = le_trans q x;
    lengths_long = omega arith;
    marks_long = omega arith;
  }

  -- room for any surface is room for this one
  pub listing_most : 2 * limits.corners ≤ length turns → 2 * limits.corners ≤ length path → limits.points ≤ length places
      → limits.corners ≤ length rings → limits.triangles ≤ length lengths → limits.triangles ≤ length marks
      → ListingRoom words corners turns path places rings lengths marks
  listing_most t u v x y z =
      let f = counts_fit (length words) (length corners) c in
      let q : length corners ≤ limits.corners = f.few_corners in
      record {
        scratch = record { counts = c; turns_long = omega arith; path_long = omega arith; places_long = omega (arith, f.few_words); pieces_long = omega arith };
        rings_long = le_trans q x;
        lengths_long = omega arith;
        marks_long = omega arith;
      }

-- ---- refusals

module _ (pitch : ℕ) (words corners states set : List ℕ) (b : Buffers) where
  -- what the table says decides
  decided : {r : Refusal} → refusal pitch words corners (lent b) (needs words corners) ≡ Refused r → Judges pitch words corners states set b (refused (Refused r) b)
  decided e = rw e refl

  pub pitch_refuse : {r : Refusal} → Names pitch (Err r) → Judges pitch words corners states set b (refused (Refused r) b)
  pitch_refuse n = decided (pitch_decides pitch words corners (lent b) (needs words corners) n.0 ∙ ap Refused (sym n.1))

  -- what is promised at a pitch is promised at its number
  pub at_pitch : (p : Pitch) (o : Outcome) → pitch ≡ pitch_of p → Judges (pitch_of p) words corners states set b o → Judges pitch words corners states set b o
  at_pitch p o e h = subst (λ (n : ℕ). Judges n words corners states set b o) (sym e) h

  -- 9 comes after all checks of the surface
  pub states_refuse : {table : List ℕ} → Suited pitch words corners table b.grid b.rings b.lengths
      → (at : Listed) (found sizes firsts found' sizes' firsts' : List ℕ) → ListsLoops corners (loops corners) found sizes firsts at found' sizes' firsts'
      → (at.loops ≡ length states → ⊥) → Judges pitch words corners states set b (refused (States at.loops) b)
  states_refuse k at found sizes firsts found' sizes' firsts' ls n =
      rw (k.none_refused, ne_eqb (length (loops corners)) (length states) (λ q. n (ls.count ∙ q))) (ap (λ (i : ℕ). refused (States i) b) ls.count)

module _ (p : Pitch) (words corners states set : List ℕ) (b : Buffers) {r : Refusal} where
  pub counts_refuse : Refused r ≡ count_refusal (length words) (length corners) → Judges (pitch_of p) words corners states set b (refused (Refused r) b)
  counts_refuse e = decided (pitch_of p) words corners states set b (count_decides p words corners (lent b) (needs words corners) (Refused r) e refl)

  pub content_refuse : count_refusal (length words) (length corners) ≡ Done → {table : List ℕ} → Checked (pitch_of p) words corners (lent b) (needs words corners) (Refused r) table
      → Judges (pitch_of p) words corners states set b (refused (Refused r) b)
  content_refuse c k = decided (pitch_of p) words corners states set b (content_decides p words corners (lent b) (needs words corners) c (Refused r) k.said)

-- ---- what was listed apart has room where it goes

module _ {pitch : ℕ} {words corners table : List ℕ} {grid : List ℤ} {rings lengths : List ℕ} (k : Suited pitch words corners table grid rings lengths)
    {at : Listed} {found sizes firsts found' sizes' firsts' : List ℕ} (ls : ListsLoops corners (loops corners) found sizes firsts at found' sizes' firsts') where
  pub rings_room : (at.vertices ≤ length found') × (at.vertices ≤ length rings)
  rings_room = (rings_in ls, omega (arith, ls.vertices, rings_few k.known, k.rings_long))

  pub lengths_room : (at.loops ≤ length sizes') × (at.loops ≤ length lengths)
  lengths_room = (lengths_in ls, omega (arith, ls.count, loops_few k.known, k.lengths_long))

-- ---- the verdict on what stands in the lent buffers

module _ {pitch : ℕ} (words corners : List ℕ) (b : Buffers) {table : List ℕ} (k : Suited pitch words corners table b.grid b.rings b.lengths)
    {at : Listed} {firsts rings' lengths' firsts' : List ℕ} {grid' : List ℤ} (ls : ListsLoops corners (loops corners) b.rings b.lengths firsts at rings' lengths' firsts') (eg : grid' ≡ over (grid_of pitch words) b.grid) where
  abbrev g : List ℤ
  g = take (length words) grid'

  gridded : g ≡ grid_of pitch words
  gridded = grid_part pitch words b.grid grid' eg

  module _ {marks : List ℕ} (marked : Marked g corners firsts' marks) (states : List ℕ) (same : at.loops ≡ length states) where
    as_declared : Declared (rim_list g corners) (ring_list corners) marks states
    as_declared = record { rims_many = rims_here k.known ls gridded marked; marked = marks_here k.known ls gridded marked; states_many = sym same ∙ ls.count ∙ sym (as_many_loops k.known) }

    verdict_room : VerdictRoom g corners (take at.vertices rings') (take at.loops lengths') marks states
    verdict_room = record { rims = rim_list g corners; rs = ring_list corners; loops = loops_here k.known ls gridded; corners = input_here k.known; declared = as_declared }

    -- what is answered and left with the verdict v
    abbrev found_with : Answer → Outcome
    found_with v = record { answer = v; loops = at.loops; vertices = at.vertices; left = buffers grid' rings' lengths' }

    judges : (set : List ℕ) (v : Answer) → Gives g corners (take at.vertices rings') (take at.loops lengths') marks states set v
        → Judges pitch words corners states set b (found_with v)
    judges set v h =
        rw (k.none_refused, eq-eqb (length (loops corners)) (length states) (sym ls.count ∙ same))
        (v, subst (λ (y : List ℤ). Verdict y corners [] 0 0 (rim_list y corners) (ring_list corners) states set v) gridded (h (rim_list g corners) (ring_list corners) (loops_here k.known ls gridded) as_declared), left)
      where
        left : found_with v ≡ judged v pitch words corners b
        left = λ t. record { answer = v; loops = ls.count t; vertices = ls.vertices t; left = record { grid = eg t; rings = ls.all_rings t; lengths = ls.all_lengths t } }

    pub finds : {turns path : List ℕ} → EdgeRoom corners turns path
        → Ready pitch words corners states b (record { loops = at.loops; vertices = at.vertices }) (buffers grid' rings' lengths') marks turns path
    finds room = record {
      grid_in = grid_in pitch words b.grid grid' eg;
      rings_in = rings_in ls;
      lengths_in = lengths_in ls;
      room = verdict_room;
      edges = room;
      finish = judges;
    }

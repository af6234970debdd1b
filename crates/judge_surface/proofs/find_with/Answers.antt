-- `find_with` lists the loops apart, so that nothing is written before every check is done, marks the rims where the first half-edges
-- stood, and leaves the parts that were written to the verdict.
use mathlib.Core.Path.{◌∙◌, refl}
use mathlib.Core.List.{List}
use Prim.Native.Nat.{ℕ}
use Rattle.std.proofs.lemmas.Result.{err_from_is_err_and}
use Rattle.base_answers.specs.declared.Answer.TheVariants.{Done}
use Rattle.base_types.specs.Pitches.{pitch_of}
use Rattle.base_types.specs.declared.Pitch.{Pitch}
use Rattle.surface_rules.proofs.Laws.Lists.{as_long}
use Rattle.check_surface.specs.Workings.Checks.{Checked}
use Rattle.survey_rules.specs.Outcome.{Buffers, buffers, lent, needs}
use Rattle.survey_rules.proofs.Laws.Known.{Suited, suited, still_long, ready, lent_long}
use Rattle.survey_rules.proofs.Laws.Parts.{grid_part, rings_in, lengths_in, lists_laid}
use Rattle.fill_scratch.proofs.Laws.Tray.{edges_kept, scratch_turns_long, scratch_path_long, scratch_edges_room}
use Rattle.rim_mark.proofs.Laws.Listed.{mark_room}
use Rattle.judge_surface.specs.Workings.Listing.{ListingRoom}
use Rattle.judge_surface.proofs.Laws.Judging.{content_refuse, states_refuse, rings_room, lengths_room, finds}
use Rattle.judge_surface.proofs.find_with.Goals as goal

-- what is known once nothing is refused, of the table of turns that the check left
fits : {words corners turns path places found sizes marks table : List ℕ} (p : Pitch) (b : Buffers) → ListingRoom words corners turns path places found sizes marks
    → Checked (pitch_of p) words corners (lent b) (needs words corners) Done table → Suited (pitch_of p) words corners table b.grid b.rings b.lengths
fits p b room checked = suited p _ _ _ b.grid b.rings b.lengths _ room.scratch.counts checked refl

pub returns-in_err-check : goal.returns-in_err-check
returns-in_err-check c =
    let x = c.args in
    let p = err_from_is_err_and c.from_residual.result c.from_residual.ensures.1 in
    rw (p.1, p.2)
    (λ set. content_refuse x.sheet.pitch _ _ _ _ (buffers x.grid.now x.rings.now x.lengths.now) c.requires.scratch.counts c.in_err-check.ensures)

pub list_with-listed-requires : goal.list_with-listed-requires
list_with-listed-requires c =
    let x = c.args in
    let k = fits x.sheet.pitch (buffers x.grid.now x.rings.now x.lengths.now) c.requires c.in_ok-check.ensures in (
      ready k.known _ _ _ (still_long (scratch_turns_long c.requires.scratch) c.check.auto.turns) c.requires.rings_long c.requires.lengths_long
          c.requires.marks_long,
      lent_long k.known _ _ (scratch_path_long c.requires.scratch) c.requires.scratch.places_long,
    )

pub returns-then-listed-states : goal.returns-then-listed-states
returns-then-listed-states c =
    let x = c.args in
    let b = buffers x.grid.now x.rings.now x.lengths.now in
    let k = fits x.sheet.pitch b c.requires c.in_ok-check.ensures in
    λ set. states_refuse (pitch_of x.sheet.pitch) _ _ _ _ b k _ _ _ _ _ _ _ c.list_with-listed.ensures.lists_loops c.if-listed-states.true

pub lay_grid-requires : goal.lay_grid-requires
lay_grid-requires c =
    let x = c.args in
    let k = fits x.sheet.pitch (buffers x.grid.now x.rings.now x.lengths.now) c.requires c.in_ok-check.ensures in
    (k.known.on_grid, k.grid_long)

pub lay_front-requires : goal.lay_front-requires
lay_front-requires c =
    let x = c.args in
    rings_room (fits x.sheet.pitch (buffers x.grid.now x.rings.now x.lengths.now) c.requires c.in_ok-check.ensures)
    c.list_with-listed.ensures.lists_loops

pub lay_front-requires-2 : goal.lay_front-requires-2
lay_front-requires-2 c =
    let x = c.args in
    lengths_room (fits x.sheet.pitch (buffers x.grid.now x.rings.now x.lengths.now) c.requires c.in_ok-check.ensures)
    c.list_with-listed.ensures.lists_loops

pub slice_bounds-mark-end-3 : goal.slice_bounds-mark-end-3
slice_bounds-mark-end-3 c = rings_in (lists_laid c.list_with-listed.ensures.lists_loops _ _ _ _ c.lay_front.ensures c.lay_front-2.ensures)

pub slice_bounds-mark-end-4 : goal.slice_bounds-mark-end-4
slice_bounds-mark-end-4 c = as_long _ _ (rings_in (lists_laid c.list_with-listed.ensures.lists_loops _ _ _ _ c.lay_front.ensures c.lay_front-2.ensures))

pub slice_bounds-mark-end-5 : goal.slice_bounds-mark-end-5
slice_bounds-mark-end-5 c = lengths_in (lists_laid c.list_with-listed.ensures.lists_loops _ _ _ _ c.lay_front.ensures c.lay_front-2.ensures)

pub slice_bounds-mark-end-6 : goal.slice_bounds-mark-end-6
slice_bounds-mark-end-6 c = as_long _ _ (lengths_in (lists_laid c.list_with-listed.ensures.lists_loops _ _ _ _ c.lay_front.ensures c.lay_front-2.ensures))

pub mark-requires : goal.mark-requires
mark-requires c =
    let x = c.args in
    let k = fits x.sheet.pitch (buffers x.grid.now x.rings.now x.lengths.now) c.requires c.in_ok-check.ensures in
    mark_room k.known (lists_laid c.list_with-listed.ensures.lists_loops _ _ _ _ c.lay_front.ensures c.lay_front-2.ensures)
    (grid_part (pitch_of x.sheet.pitch) x.sheet.words.now _ _ c.lay_grid.ensures) c.list_with-listed.ensures.keeps_turns
    (still_long (still_long (scratch_turns_long c.requires.scratch) c.check.auto.turns) c.list_with-listed.auto.turns)
    (still_long (scratch_path_long c.requires.scratch) c.list_with-listed.auto.path)
    (still_long c.requires.scratch.pieces_long c.list_with-listed.auto.places)

pub returns : goal.returns
returns c =
    let x = c.args in
    let b = buffers x.grid.now x.rings.now x.lengths.now in
    finds x.sheet.words.now x.sheet.corners.now b (fits x.sheet.pitch b c.requires c.in_ok-check.ensures)
    (lists_laid c.list_with-listed.ensures.lists_loops _ _ _ _ c.lay_front.ensures c.lay_front-2.ensures)
    c.lay_grid.ensures c.mark.ensures _ c.if-listed-states.false
    (edges_kept (c.mark.auto.turns ∙ c.list_with-listed.auto.turns ∙ c.check.auto.turns) (c.mark.auto.path ∙ c.list_with-listed.auto.path)
    (scratch_edges_room c.requires.scratch))

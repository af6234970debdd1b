-- `patch_few` has room for few points and corners: what is checked is refused, or patched.
use Rattle.std.proofs.Common.{refl}
use Rattle.std.proofs.lemmas.Result.{err_from_is_err_and}
use lib.Dec.{lit≤}
use Rattle.base_types.specs.Pitches.{pitch_of}
use Rattle.surface_rules.proofs.Laws.Lists.{as_long}
use Rattle.survey_rules.proofs.Laws.Known.{still_long}
use Rattle.patch_surface.specs.Outcome.{Buffers, buffers}
use Rattle.patch_surface.proofs.Laws.Answering.{checked_refuse, checked_in, checked_room, points_here, checked_patches, bench_few}
use Rattle.patch.proofs.patch_few.Goals as goal

pub returns-in_err-check : goal.returns-in_err-check
returns-in_err-check c =
    let p = err_from_is_err_and c.from_residual.result c.from_residual.ensures.1 in
    rw (p.1, p.2) (checked_refuse (pitch_of c.args.sheet.pitch) c.args.sheet.words.now c.args.sheet.corners.now (buffers c.args.grid.now c.args.rings.now c.args.records.now c.args.patches.now) c.in_err-check.ensures)

pub slice_bounds-patch_checked-end-8 : goal.slice_bounds-patch_checked-end-8
slice_bounds-patch_checked-end-8 c = checked_in (pitch_of c.args.sheet.pitch) c.args.sheet.words.now c.args.sheet.corners.now (buffers c.args.grid.now c.args.rings.now c.args.records.now c.args.patches.now) c.in_ok-check.ensures refl

pub slice_bounds-patch_checked-end-9 : goal.slice_bounds-patch_checked-end-9
slice_bounds-patch_checked-end-9 c =
    as_long _ _
    (checked_in (pitch_of c.args.sheet.pitch) c.args.sheet.words.now c.args.sheet.corners.now (buffers c.args.grid.now c.args.rings.now c.args.records.now c.args.patches.now) c.in_ok-check.ensures refl)

pub patch_checked-requires : goal.patch_checked-requires
patch_checked-requires c =
    let w = c.args.sheet.words.now in let n = c.args.sheet.corners.now in
    record {
      patch_room = checked_room (pitch_of c.args.sheet.pitch) w n (buffers c.args.grid.now c.args.rings.now c.args.records.now c.args.patches.now) c.in_ok-check.ensures refl;
      bench = bench_few w c.requires.0 (points_here (pitch_of c.args.sheet.pitch) w n (buffers c.args.grid.now c.args.rings.now c.args.records.now c.args.patches.now) c.in_ok-check.ensures refl)
          c.requires.1 c.requires.2 (still_long (lit≤ tt) c.turns-2-1.given) (lit≤ tt) (lit≤ tt) (lit≤ tt) (lit≤ tt) (lit≤ tt) (lit≤ tt);
    }

pub returns : goal.returns
returns c = checked_patches (pitch_of c.args.sheet.pitch) c.args.sheet.words.now c.args.sheet.corners.now (buffers c.args.grid.now c.args.rings.now c.args.records.now c.args.patches.now) c.in_ok-check.ensures refl c.patch_checked.ensures

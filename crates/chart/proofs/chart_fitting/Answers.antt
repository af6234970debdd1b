-- `chart_fitting` has room for any surface: what is checked is refused, or charted.
use Rattle.std.proofs.Common.{refl}
use Rattle.std.proofs.lemmas.Result.{err_from_is_err_and}
use native.Mathlib.Nat.{le_trans}
use lib.Dec.{lit≤}
use lib.ListN.{length}
use Rattle.base_types.specs.Pitches.{pitch_of}
use Rattle.surface_rules.proofs.Laws.Thens.{counts_fit}
use Rattle.surface_rules.proofs.Laws.Lists.{as_long}
use Rattle.survey_rules.proofs.Laws.Known.{still_long}
use Rattle.chart_surface.specs.Outcome.{Buffers, buffers}
use Rattle.chart_surface.proofs.Laws.Answering.{checked_refuse, checked_in, checked_room, checked_charts}
use Rattle.chart.proofs.chart_fitting.Goals as goal

pub check-requires : goal.check-requires
check-requires c = record { counts = c.requires; long = le_trans (counts_fit (length c.args.sheet.words.now) (length c.args.sheet.corners.now) c.requires).few_corners (lit≤ tt) }

pub returns-in_err-check : goal.returns-in_err-check
returns-in_err-check c =
    let p = err_from_is_err_and c.from_residual.result c.from_residual.ensures.1 in
    rw (p.1, p.2) (checked_refuse (pitch_of c.args.sheet.pitch) c.args.sheet.words.now c.args.sheet.corners.now (buffers c.args.grid.now c.args.rings.now c.args.records.now c.args.report.now) c.in_err-check.ensures)

pub slice_bounds-chart_checked-end-2 : goal.slice_bounds-chart_checked-end-2
slice_bounds-chart_checked-end-2 c = checked_in (pitch_of c.args.sheet.pitch) c.args.sheet.words.now c.args.sheet.corners.now (buffers c.args.grid.now c.args.rings.now c.args.records.now c.args.report.now) c.in_ok-check.ensures refl

pub slice_bounds-chart_checked-end-3 : goal.slice_bounds-chart_checked-end-3
slice_bounds-chart_checked-end-3 c =
    as_long _ _
    (checked_in (pitch_of c.args.sheet.pitch) c.args.sheet.words.now c.args.sheet.corners.now (buffers c.args.grid.now c.args.rings.now c.args.records.now c.args.report.now) c.in_ok-check.ensures refl)

pub chart_checked-requires : goal.chart_checked-requires
chart_checked-requires c = record {
  room = checked_room (pitch_of c.args.sheet.pitch) c.args.sheet.words.now c.args.sheet.corners.now (buffers c.args.grid.now c.args.rings.now c.args.records.now c.args.report.now) c.in_ok-check.ensures refl;
  turns_long = still_long (lit≤ tt) c.turns-2-1.given;
}

pub returns : goal.returns
returns c = checked_charts (pitch_of c.args.sheet.pitch) c.args.sheet.words.now c.args.sheet.corners.now (buffers c.args.grid.now c.args.rings.now c.args.records.now c.args.report.now) c.in_ok-check.ensures refl c.chart_checked.ensures

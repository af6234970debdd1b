-- `report_at` refuses by the counts or by what the checks say, or lays the report with scratch of its own.
use Rattle.std.proofs.Common.{refl, sym}
use Rattle.std.proofs.lemmas.Result.{err_from_is_err_and}
use Prim.Native.Nat.{◌≤◌}
use native.Mathlib.Omega.{arith}
use lib.Dec.{lit≤}
use lib.ListN.{length}
use Rattle.base_answers.specs.declared.Answer.TheVariants.{Done}
use Rattle.base_types.specs.Pitches.{pitch_of}
use Rattle.base_limits.specs.Limits as limits
use Rattle.surface_rules.specs.Refusals.{count_refusal}
use Rattle.surface_rules.proofs.Laws.Thens.{counts_fit}
use Rattle.surface_rules.proofs.Laws.Deciding.{counts_pass}
use Rattle.surface_rules.proofs.Laws.Lists.{as_long}
use Rattle.survey_rules.proofs.Laws.Known.{still_long}
use Rattle.chart_surface.proofs.Laws.Answering.{alone_counts, alone_checked, alone_in, alone_room, alone_charted}
use Rattle.chart.proofs.report_at.Goals as goal

pub returns-in_err-check_counts : goal.returns-in_err-check_counts
returns-in_err-check_counts c =
    let a = c.args in
    let p = err_from_is_err_and c.from_residual.result c.from_residual.ensures.1 in
    rw (p.1, p.2) (alone_counts a.sheet.pitch a.sheet.words.now a.sheet.corners.now a.report.now c.in_err-check_counts.ensures)

pub check_with-requires : goal.check_with-requires
check_with-requires c =
    let e = sym c.in_ok-check_counts.ensures in
    (record { counts = e; long = (counts_fit (length c.args.sheet.words.now) (length c.args.sheet.corners.now) e).few_corners }, record { lent_grid = refl; needs_words = refl; some = omega arith })

pub returns-in_err-check_with : goal.returns-in_err-check_with
returns-in_err-check_with c =
    let e = sym c.in_ok-check_counts.ensures in
    let few : length c.args.sheet.words.now ≤ limits.words = (counts_fit (length c.args.sheet.words.now) (length c.args.sheet.corners.now) e).few_words in
    let a = c.args in
    let p = err_from_is_err_and c.from_residual-in_err-check_with.result c.from_residual-in_err-check_with.ensures.1 in
    rw (p.1, p.2) (alone_checked (pitch_of a.sheet.pitch) a.sheet.words.now a.sheet.corners.now a.report.now few c.in_err-check_with.ensures refl)

pub slice_bounds-grid-end : goal.slice_bounds-grid-end
slice_bounds-grid-end c =
    let e = sym c.in_ok-check_counts.ensures in
    let few : length c.args.sheet.words.now ≤ limits.words = (counts_fit (length c.args.sheet.words.now) (length c.args.sheet.corners.now) e).few_words in
    let a = c.args in
    alone_in (pitch_of a.sheet.pitch) a.sheet.words.now a.sheet.corners.now a.report.now few c.in_ok-check_with.ensures refl

pub slice_bounds-report_checked-end-2 : goal.slice_bounds-report_checked-end-2
slice_bounds-report_checked-end-2 c =
    let e = sym c.in_ok-check_counts.ensures in
    let few : length c.args.sheet.words.now ≤ limits.words = (counts_fit (length c.args.sheet.words.now) (length c.args.sheet.corners.now) e).few_words in
    let a = c.args in
    as_long _ _ (alone_in (pitch_of a.sheet.pitch) a.sheet.words.now a.sheet.corners.now a.report.now few c.in_ok-check_with.ensures refl)

pub report_checked-requires : goal.report_checked-requires
report_checked-requires c =
    let e = sym c.in_ok-check_counts.ensures in
    let few : length c.args.sheet.words.now ≤ limits.words = (counts_fit (length c.args.sheet.words.now) (length c.args.sheet.corners.now) e).few_words in
    let a = c.args in
    record {
      room = λ rings h. alone_room (pitch_of a.sheet.pitch) a.sheet.words.now a.sheet.corners.now a.report.now few c.in_ok-check_with.ensures refl h c.requires;
      turns_long = still_long (lit≤ tt) c.turns-2-1.given;
    }

pub returns : goal.returns
returns c =
    let e = sym c.in_ok-check_counts.ensures in
    let few : length c.args.sheet.words.now ≤ limits.words = (counts_fit (length c.args.sheet.words.now) (length c.args.sheet.corners.now) e).few_words in
    let a = c.args in
    alone_charted (pitch_of a.sheet.pitch) a.sheet.words.now a.sheet.corners.now a.report.now few c.in_ok-check_with.ensures refl c.report_checked.ensures.3

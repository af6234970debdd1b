-- `judge_at` refuses by the counts, or hands on what they let pass.
use mathlib.Core.Path.{sym}
use lib.Dec.{lit≤}
use native.Mathlib.Omega.{arith}
use Rattle.std.proofs.lemmas.Result.{err_from_is_err_and}
use Rattle.survey_rules.specs.Outcome.{buffers}
use Rattle.judge_surface.proofs.Laws.Judging.{counts_refuse, listing_few, listing_most}
use Rattle.judge.proofs.judge_at.Goals as goal

pub returns-in_err-check_counts : goal.returns-in_err-check_counts
returns-in_err-check_counts c =
    let a = c.args in
    let p = err_from_is_err_and c.from_residual.result c.from_residual.ensures.1 in
    rw (p.1, p.2) (counts_refuse _ _ _ _ _ (buffers a.grid.now a.rings.now a.lengths.now) c.in_err-check_counts.ensures)

pub judge_with-requires : goal.judge_with-requires
judge_with-requires c = (
  listing_few _ _ _ _ _ _ _ _
      (sym c.in_ok-check_counts.ensures)
      (omega (arith, c.of-surface.ensures.0, c.if-surface-le-FEW.true))
      c.if-sheet-le-FEW.true
      (lit≤ tt) (lit≤ tt) (lit≤ tt) (lit≤ tt) (lit≤ tt) (lit≤ tt),
  lit≤ tt,
)

pub judge_with-requires-2 : goal.judge_with-requires-2
judge_with-requires-2 c = (
  listing_most _ _ _ _ _ _ _ _
      (sym c.in_ok-check_counts.ensures)
      (lit≤ tt) (lit≤ tt) (lit≤ tt) (lit≤ tt) (lit≤ tt) (lit≤ tt),
  lit≤ tt,
)

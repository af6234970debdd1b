-- `check` is the checks with the buffers that charting is lent.
use native.Mathlib.Omega.{arith}
use lib.ListN.{length}
use Rattle.surface_rules.proofs.Laws.Thens.{counts_fit}
use Rattle.chart_surface.specs.Outcome.{Buffers, buffers}
use Rattle.chart_surface.proofs.Laws.Checking.{grid_first, checks_of}
use Rattle.chart_surface.proofs.check.Goals as goal

pub overflow_mul-needs : goal.overflow_mul-needs
overflow_mul-needs c = omega (arith, (counts_fit (length c.args.sheet.words.now) (length c.args.sheet.corners.now) c.requires.counts).few_corners)

pub overflow_mul-needs-3 : goal.overflow_mul-needs-3
overflow_mul-needs-3 c = omega (arith, (counts_fit (length c.args.sheet.words.now) (length c.args.sheet.corners.now) c.requires.counts).few_corners)

pub check_with-requires : goal.check_with-requires
check_with-requires c = (c.requires, grid_first c.args.sheet.words.now c.args.sheet.corners.now (let it : Buffers = buffers c.args.grid.now c.args.rings.now c.args.records.now c.args.report.now in it))

pub returns : goal.returns
returns c = checks_of c.args.sheet.words.now c.args.sheet.corners.now (let it : Buffers = buffers c.args.grid.now c.args.rings.now c.args.records.now c.args.report.now in it) c.check_with.ensures

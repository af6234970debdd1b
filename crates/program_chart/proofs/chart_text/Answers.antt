-- `chart_text` has room for the words and corners of the longest sheet, and hands on the report of what the text says.
use native.Mathlib.Omega.{arith}
use Rattle.std.proofs.lemmas.Result.{err_from_is_err_and}
use Rattle.surface_rules.proofs.Laws.Lists.{as_long}
use Rattle.text_sheet.proofs.Laws.Rooms.{long_words, long_corners}
use Rattle.text_read.proofs.Laws.Deliver.{whole_mapped, few_points, few_triangles, words_in, corners_inside}
use Rattle.program_chart.proofs.Laws.Taking.{fault_charts, whole_charts}
use Rattle.program_chart.proofs.chart_text.Goals as goal

pub take_in-requires : goal.take_in-requires
take_in-requires c = (long_words _, long_corners _)

pub returns-in_err-sheet : goal.returns-in_err-sheet
returns-in_err-sheet c =
    let p = err_from_is_err_and c.from_residual.result c.from_residual.ensures.1 in
    rw (p.1, p.2) (fault_charts _ c.take_in.result _ _ _ _ c.take_in.ensures c.in_err-sheet.ensures.cases _)

pub overflow_mul-words : goal.overflow_mul-words
overflow_mul-words c = omega (arith, few_points (whole_mapped c.take_in.result c.take_in.ensures c.in_ok-sheet.ensures.cases))

pub slice_bounds-words-end : goal.slice_bounds-words-end
slice_bounds-words-end c = words_in (whole_mapped c.take_in.result c.take_in.ensures c.in_ok-sheet.ensures.cases)

pub slice_bounds-report-end : goal.slice_bounds-report-end
slice_bounds-report-end c = as_long _ _ (words_in (whole_mapped c.take_in.result c.take_in.ensures c.in_ok-sheet.ensures.cases))

pub overflow_mul-corners : goal.overflow_mul-corners
overflow_mul-corners c = omega (arith, few_triangles (whole_mapped c.take_in.result c.take_in.ensures c.in_ok-sheet.ensures.cases))

pub slice_bounds-corners-end : goal.slice_bounds-corners-end
slice_bounds-corners-end c = corners_inside (whole_mapped c.take_in.result c.take_in.ensures c.in_ok-sheet.ensures.cases)

pub slice_bounds-report-end-2 : goal.slice_bounds-report-end-2
slice_bounds-report-end-2 c = as_long _ _ (corners_inside (whole_mapped c.take_in.result c.take_in.ensures c.in_ok-sheet.ensures.cases))

pub returns : goal.returns
returns c = whole_charts (whole_mapped c.take_in.result c.take_in.ensures c.in_ok-sheet.ensures.cases) _ c.report.ensures

-- `print` refuses a buffer that is too short; into any other it puts the answer where reading refuses, and has the rest written.
use mathlib.Core.Path.{refl}
use native.Mathlib.Omega.{arith}
use Rattle.surface_rules.proofs.Laws.Lists.{as_long}
use Rattle.text_sheet.proofs.Theorems.{longest}
use Rattle.program_lines.proofs.Laws.Printing.{short_prints, long_prints}
use Rattle.program_rewrite.proofs.Laws.Fronts.{sheet_within}
use Rattle.program_rewrite.proofs.Laws.Printed.{refused_rewrites, written_rewrites}
use Rattle.program_rewrite.proofs.print.Goals as goal

pub returns-then-out-lt-TEXT : goal.returns-then-out-lt-TEXT
returns-then-out-lt-TEXT c = short_prints c.if-out-lt-TEXT.true

pub slice_bounds-words-end : goal.slice_bounds-words-end
slice_bounds-words-end c = (sheet_within _ _ c.read.ensures c.in-Ok.is).0

pub slice_bounds-write-end : goal.slice_bounds-write-end
slice_bounds-write-end c = as_long _ _ (sheet_within _ _ c.read.ensures c.in-Ok.is).0

pub slice_bounds-corners-end : goal.slice_bounds-corners-end
slice_bounds-corners-end c = (sheet_within _ _ c.read.ensures c.in-Ok.is).1

pub slice_bounds-write-end-in-Ok : goal.slice_bounds-write-end-in-Ok
slice_bounds-write-end-in-Ok c = as_long _ _ (sheet_within _ _ c.read.ensures c.in-Ok.is).1

pub returns-in-Ok : goal.returns-in-Ok
returns-in-Ok c =
    let r = c.if-out-lt-TEXT.false in
    long_prints r _
    (written_rewrites _ _ c.read.ensures (omega arith) (omega arith) c.in-Ok.is c.args.out.now (λ _ x. omega (arith, longest x, r)) refl)
    c.write-bytes.ensures.1 c.write-bytes.ensures.0

pub returns-in-Err : goal.returns-in-Err
returns-in-Err c =
    long_prints c.if-out-lt-TEXT.false _
    (refused_rewrites _ _ c.read.ensures (omega arith) (omega arith) c.in-Err.is refl)
    c.put_answer-bytes.ensures.out_value.1 c.put_answer-bytes.ensures.out_value.0

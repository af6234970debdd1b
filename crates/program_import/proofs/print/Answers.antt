-- `print` refuses a buffer that is too short; into any other it puts the answer where reading refuses, and has every sheet put.
use native.Mathlib.Omega.{arith}
use Rattle.surface_rules.proofs.Laws.Lists.{as_long}
use Rattle.program_lines.proofs.Laws.Printing.{short_prints, long_prints}
use Rattle.program_import.proofs.Laws.Read.{sheet_given, refusal_imports, put_room, put_imports}
use Rattle.program_import.proofs.print.Goals as goal

pub returns-then-out-lt-TEXT : goal.returns-then-out-lt-TEXT
returns-then-out-lt-TEXT c = short_prints c.if-out-lt-TEXT.true

pub slice_bounds-words-end : goal.slice_bounds-words-end
slice_bounds-words-end c = (sheet_given _ _ _ _ c.read.ensures (omega arith) (omega arith) c.in-Ok.is).words_in

pub slice_bounds-put-end : goal.slice_bounds-put-end
slice_bounds-put-end c = as_long _ _ (sheet_given _ _ _ _ c.read.ensures (omega arith) (omega arith) c.in-Ok.is).words_in

pub slice_bounds-corners-end : goal.slice_bounds-corners-end
slice_bounds-corners-end c = (sheet_given _ _ _ _ c.read.ensures (omega arith) (omega arith) c.in-Ok.is).corners_inside

pub slice_bounds-put-end-in-Ok : goal.slice_bounds-put-end-in-Ok
slice_bounds-put-end-in-Ok c = as_long _ _ (sheet_given _ _ _ _ c.read.ensures (omega arith) (omega arith) c.in-Ok.is).corners_inside

pub put-bytes-requires : goal.put-bytes-requires
put-bytes-requires c = put_room _ _ (sheet_given _ _ _ _ c.read.ensures (omega arith) (omega arith) c.in-Ok.is) c.if-out-lt-TEXT.false

pub returns-in-Ok : goal.returns-in-Ok
returns-in-Ok c =
    let p = c.put-bytes.ensures in
    long_prints c.if-out-lt-TEXT.false p.out (put_imports _ _ (sheet_given _ _ _ _ c.read.ensures (omega arith) (omega arith) c.in-Ok.is) p) p.many p.lies

pub returns-in-Err : goal.returns-in-Err
returns-in-Err c =
    long_prints c.if-out-lt-TEXT.false _ (refusal_imports _ _ _ _ c.read.ensures (omega arith) (omega arith) c.in-Err.is)
    c.put_answer-bytes.ensures.out_value.1 c.put_answer-bytes.ensures.out_value.0

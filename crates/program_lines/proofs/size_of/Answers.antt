-- `size_of`: the digits counted and those left are all, with one counted ahead.
use native.Mathlib.Omega.{arith}
use Rattle.program_lines.proofs.Laws.Digits.{sized_more, sized_end, size_word}
use Rattle.program_lines.proofs.size_of.Goals as goal

pub overflow_add-size : goal.overflow_add-size
overflow_add-size c = omega (arith, size_word c.args.n (omega arith))

pub loop-v-preserved : goal.loop-v-preserved
loop-v-preserved c = search sized_more

pub returns : goal.returns
returns c = search sized_end

-- `run_of` adds the closing stride and then one after the other.
use Rattle.rim_mark.proofs.Laws.Running.{running_begins, running_fits, running_more, run_fits, run_is}
use Rattle.rim_mark.proofs.run_of.Goals as goal

pub loop-i-init : goal.loop-i-init
loop-i-init c = running_begins c.requires c.stride-run.ensures

pub overflow_add-run : goal.overflow_add-run
overflow_add-run c = running_fits c.requires c.loop-i.invariant c.loop-i-test.true c.stride-run-in-loop-i.ensures

pub loop-i-preserved : goal.loop-i-preserved
loop-i-preserved c = running_more c.requires c.loop-i.invariant c.loop-i-test.true c.stride-run-in-loop-i.ensures

pub overflow_cast-result : goal.overflow_cast-result
overflow_cast-result c = run_fits c.requires c.loop-i.invariant

pub returns : goal.returns
returns c = run_is c.requires c.loop-i.invariant c.loop-i-test.false

-- `check_buffers` numbers the buffers from 1.
use mathlib.Core.Path.{sym, ◌∙◌}
use native.Mathlib.Omega.{arith}
use Rattle.surface_rules.proofs.Laws.Smallest.{least_sound}
use Rattle.check_shape.proofs.Laws.Refusing.{buffer_refused, buffers_done}
use Rattle.check_shape.proofs.check_buffers.Goals as goal

pub overflow_add-result : goal.overflow_add-result
overflow_add-result c = omega (arith, (least_sound _ _ _ (sym c.first_short.ensures ∙ c.in-Some.is)).0)

pub returns-in-Some : goal.returns-in-Some
returns-in-Some c = buffer_refused _ _ c.first_short.ensures c.in-Some.is

pub returns-in-None : goal.returns-in-None
returns-in-None c = buffers_done _ _ c.first_short.ensures c.in-None.is

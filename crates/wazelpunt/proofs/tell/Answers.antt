-- `tell` tells what `place` found.
use Rattle.wazelpunt.proofs.Telling.{shifted_bits, far_bits, tell_exact, tell_shifted, tell_not_finite, tell_too_far}
use Rattle.wazelpunt.proofs.tell.Goals as goal

pub float_to_bits-rest : goal.float_to_bits-rest
float_to_bits-rest c = search shifted_bits

pub float_to_bits-rest-in-TooFar : goal.float_to_bits-rest-in-TooFar
float_to_bits-rest-in-TooFar c = search far_bits

pub returns-in-Exact : goal.returns-in-Exact
returns-in-Exact c = search tell_exact

pub returns-in-Shifted : goal.returns-in-Shifted
returns-in-Shifted c = search tell_shifted

pub returns-in-NotFinite : goal.returns-in-NotFinite
returns-in-NotFinite c = search tell_not_finite

pub returns-in-TooFar : goal.returns-in-TooFar
returns-in-TooFar c = search tell_too_far

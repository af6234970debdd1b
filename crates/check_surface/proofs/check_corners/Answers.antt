-- `check_corners` gives 4 before 5 and 5 before 6.
use Rattle.check_surface.proofs.Laws.Weaving.{unnamed_refused, woven_done, twice_refused, repeated_refused}
use Rattle.check_surface.proofs.check_corners.Goals as goal

pub returns-in-Some : goal.returns-in-Some
returns-in-Some c = unnamed_refused c.first_unnamed.ensures c.in-Some.is

pub returns-in_default-pair_all : goal.returns-in_default-pair_all
returns-in_default-pair_all c = woven_done c.requires c.pair_all.ensures c.first_unnamed.ensures c.in_default.is c.in_default-pair_all.is

pub returns-in-Some-first_twice : goal.returns-in-Some-first_twice
returns-in-Some-first_twice c = twice_refused c.requires c.pair_all.ensures c.first_unnamed.ensures c.in_default.is c.first_twice.ensures c.in-Some-first_twice.is

pub returns-in-None : goal.returns-in-None
returns-in-None c = repeated_refused c.requires c.pair_all.ensures c.first_unnamed.ensures c.in_default.is c.first_twice.ensures c.in-Some-pair_all.is c.in-None.is

-- `may_cover` says no only of a stretch that is no side, and is barred or has no apex.
use Rattle.cover_shut.proofs.Laws.Ways.{barred_none, apart_none}
use Rattle.cover_shut.proofs.may_cover.Goals as goal

pub returns-then-is_set : goal.returns-then-is_set
returns-then-is_set c = λ e. search barred_none

pub returns : goal.returns
returns c = λ e. search apart_none

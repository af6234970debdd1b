-- `patch_three` lays the only cover that there is.
use Rattle.patch_sight.proofs.Laws.Threes.{three_room, took_three}
use Rattle.patch_sight.proofs.patch_three.Goals as goal

pub lay_three-weight-requires : goal.lay_three-weight-requires
lay_three-weight-requires c = search three_room

pub returns : goal.returns
returns c = search took_three

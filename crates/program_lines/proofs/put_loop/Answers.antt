-- `put_loop`: its line, its ring and its patch, each behind the other.
use Rattle.program_lines.proofs.Laws.Loops.{counts_room, ring_room, patch_fits, patch_last}
use Rattle.program_lines.proofs.put_loop.Goals as goal

pub put_line-i-requires : goal.put_line-i-requires
put_line-i-requires c = search counts_room

pub put_ring-j-requires : goal.put_ring-j-requires
put_ring-j-requires c = search ring_room

pub put_patch-requires : goal.put_patch-requires
put_patch-requires c = search patch_fits

pub returns : goal.returns
returns c = search patch_last

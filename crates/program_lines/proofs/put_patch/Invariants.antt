-- `put_patch`: the lines left, laid over the present buffer, give the whole.
use Prim.Native.Nat.{◌*◌}
use lib.ListN.{drop}
use Rattle.text_digits.proofs.Laws.Laying.{Laying}
use Rattle.program_lines.specs.Listing.{patch_lines}
use Rattle.program_lines.proofs.put_patch.Given as goal

abbrev pub invariant-loop-i : goal.invariant-loop-i
invariant-loop-i l = Laying (patch_lines l.patch) l.at l.initial.out (patch_lines (drop (3 * l.i) l.patch)) l.place l.out

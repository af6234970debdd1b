-- `count_on` counts up from n, by what each read gives, until it is past what the count says.
use Rattle.std.proofs.Common.{◌+◌, ◌-◌, ◌<◌, ◌≤◌, ◌^◌, length, ◌≡◌}
use Rattle.importing.proofs.count_on.Given as goal

abbrev pub invariant-loop-long : goal.invariant-loop-long
invariant-loop-long g l = (l.n ≤ l.long) × (l.most < 2 ^ 40) × (length l.scratch ≡ length l.initial.scratch)

abbrev pub decreases-loop-long : goal.decreases-loop-long
decreases-loop-long g l = l.most + 1 - l.long

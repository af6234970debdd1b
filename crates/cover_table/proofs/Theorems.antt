-- Two answers for one loop are equal: it has one least weight, or no allowed cover.
use mathlib.Core.Path.{◌≡◌, refl, ap}
use mathlib.Core.Bool.{Bool}
use mathlib.Core.List.{List}
use Prim.Native.Nat.{ℕ, ◌-◌}
use lib.IntN.{ℤ}
use lib.ListN.{length}
use Rattle.cover_rules.proofs.Laws.Least.{least_unique}
use Rattle.cover_weight.specs.Edition.{naturals, tri_of, along}
use Rattle.cover_weight.proofs.Laws.Naturals.{naturals_lawful}
use Rattle.std.proofs.Common.{Option, Some, None}
use Rattle.cover_table.specs.Workings.Loops.{LeastIs}

pub least_once : (grid : List ℤ) (ring : List ℕ) (barred : ℕ → ℕ → Bool) (x y : Option ℕ) → LeastIs grid ring barred x → LeastIs grid ring barred y → x ≡ y
least_once grid ring barred (Some v) (Some w) p q = ap Some (least_unique naturals naturals_lawful (tri_of (along grid ring)) barred 0 (length ring - 1) v w p q)
least_once grid ring barred (Some v) None p q = absurd (q p.cover p.among)
least_once grid ring barred None (Some w) p q = absurd (p q.cover q.among)
least_once grid ring barred None None p q = refl

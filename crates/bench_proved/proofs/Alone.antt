-- The loops of (0,1,2),(0,2,3),(1,3,4) are alone in their pieces, so they are rims wherever the points lie.
use mathlib.Core.Path.{◌≡◌, refl, ap, ◌∙◌}
use mathlib.Core.Bool.{true}
use mathlib.Core.Logic.{⊎_elim}
use mathlib.Core.List.{List}
use native.Mathlib.Omega.{arith}
use lib.IntN.{ℤ}
use lib.ListN.{length}
use Rattle.surface_rules.specs.Smallest.{least}
use Rattle.surface_rules.specs.Edges.{following, goes, twin, is_open}
use Rattle.surface_rules.proofs.Laws.Tests.{eq_or_not}
use Rattle.loop_rules.specs.Next.{step, turn, next}
use Rattle.loop_rules.specs.Loops.{around, cycle, leads, starts_at, grow, grow_all, loops_of, loops_below, loops}
use Rattle.rim_pieces.specs.Computed.{numbers_below, many, unite, smallest_by, smallest_of, piece_of}
use Rattle.rim_rules.specs.Rims.{piece_at, is_rim}
use Rattle.rim_rules.proofs.Theorems.{alone_rim}
use Rattle.bench_proved.specs.Table.{crossed}

-- the two loops of (0,1,2),(0,2,3),(1,3,4) lie in two pieces
first_piece : piece_at crossed 0 ≡ 0
unfolding piece_at loops loops_below loops_of grow_all grow starts_at leads cycle around is_open next turn step twin goes following least numbers_below many unite smallest_by smallest_of piece_of
first_piece = refl

second_piece : piece_at crossed 1 ≡ 1
unfolding piece_at loops loops_below loops_of grow_all grow starts_at leads cycle around is_open next turn step twin goes following least numbers_below many unite smallest_by smallest_of piece_of
second_piece = refl

two : length (loops crossed) ≡ 2
unfolding loops loops_below loops_of grow_all grow starts_at leads cycle around is_open next turn step twin goes following least
two = refl

pub first : (grid : List ℤ) → is_rim grid crossed 0 ≡ true
first grid = alone_rim grid crossed 0 (λ m h e. ⊎_elim (λ (z : m ≡ 0). z) (λ (z : m ≡ 0 → ⊥). let y : piece_at crossed m ≡ 1 = ap (piece_at crossed) (omega (arith, two)) ∙ second_piece in absurd (omega (arith, first_piece))) (eq_or_not m 0))

pub second : (grid : List ℤ) → is_rim grid crossed 1 ≡ true
second grid = alone_rim grid crossed 1 (λ m h e. ⊎_elim (λ (z : m ≡ 1). z) (λ (z : m ≡ 1 → ⊥). let y : piece_at crossed m ≡ 0 = ap (piece_at crossed) (omega (arith, two)) ∙ first_piece in absurd (omega (arith, second_piece))) (eq_or_not m 1))

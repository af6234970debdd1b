-- A ring's vertices are all different, since each has its own stamp.
use Prim.Native.Nat.{ℕ}
use mathlib.Core.Path.{ap}
use mathlib.Core.List.{List}
use native.Mathlib.Omega.{arith}
use lib.ListN.{length, get_or}
use Rattle.cover_rules.specs.Covers.{vertex_of}
use Rattle.cover_rules.proofs.Laws.Closed.{Different}
use Rattle.judge_seat.specs.Workings.Seats.{Ringed}

module _ {ring : List ℕ} {base : ℕ} {stamps : List ℕ} (h : Ringed ring base stamps) where
  pub different : Different (length ring) (vertex_of ring)
  different a b la lb e =
      omega (arith, h.stamped.placed a la, h.stamped.placed b lb, ap (λ (x : ℕ). get_or stamps x 0) e)

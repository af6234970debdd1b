-- Loop after loop, from the last down, comes to stand for its piece: as its rim, or before the others.
use mathlib.Core.Path.{◌≡◌}
use mathlib.Core.List.{List}
use Prim.Native.Nat.{ℕ, ◌≤◌}
use lib.ListN.{length}
use Rattle.chart_lay.specs.Workings.Chaining.{Chains}

-- the loops from l on are chained, and the lists are as long as before
pub record Chaining (marks pieces rims₀ heads₀ links₀ : List ℕ) (n l : ℕ) (rims heads links : List ℕ) : Type 0 where
  pub within : l ≤ n
  pub rims_kept : length rims ≡ length rims₀
  pub heads_kept : length heads ≡ length heads₀
  pub links_kept : length links ≡ length links₀
  pub chains : Chains marks pieces rims₀ heads₀ l n rims heads links

-- What patching a loop of three takes and leaves.
use Rattle.std.specs.Prelude.{◌≡◌, List, ℕ, ◌+◌, ◌≤◌, ℤ, length}
use Rattle.surface_rules.specs.Buffers.{laid}
use Rattle.cover_rules.specs.Covers.{empty, apex}
use Rattle.fill_fates.specs.Fates.{Fate, patched, state_of, weighs, lays, Meets}
use Rattle.fill_scratch.specs.Workings.Rings.{RingOf}
use Rattle.patch_sight.specs.declared.Became.{Became}

-- the loop of three, which has one cover, without a tray
pub record ThreeRoom (grid : List ℤ) (ring patches : List ℕ) (p : ℕ) : Type 0 where
  pub input : List ℕ
  pub ring_of : RingOf grid input ring
  pub exactly : length ring ≡ 3
  pub room : p + 3 ≤ length patches

pub record ThreeTook (grid : List ℤ) (ring patches : List ℕ) (p e : ℕ) (r : Became) (patches' : List ℕ) : Type 0 where
  pub fate : Fate
  pub sole : fate ≡ patched (apex 1 empty empty)
  pub meets : (input before : List ℕ) → Meets grid input before ring fate
  pub three : length (lays ring fate) ≡ 3
  pub state : r.state ≡ state_of fate
  pub weight : r.weight ≡ weighs grid ring fate
  pub lay : patches' ≡ laid p (lays ring fate) patches
  pub corners : r.corners ≡ p + 3
  pub edges : r.edges ≡ e

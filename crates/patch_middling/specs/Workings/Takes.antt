-- What patching one loop takes and leaves.
use Rattle.std.specs.Prelude.{◌≡◌, List, ◌++◌, ℕ, ◌+◌, ◌-◌, ◌*◌, ◌≤◌, ℤ, length}
use Rattle.surface_rules.specs.Buffers.{laid}
use Rattle.fill_fates.specs.Fates.{Fate, state_of, weighs, lays, Meets}
use Rattle.fill_scratch.specs.Workings.Rings.{RingOf}
use Rattle.fill_scratch.specs.Workings.Tray.{Tray, TrayReady, TrayRoom}
use Rattle.patch_sight.specs.declared.Became.{Became}
use Rattle.patch_sight.specs.declared.Spot.{Spot}

pub record TakeRoom (grid : List ℤ) (ring : List ℕ) (t : Tray) (patches : List ℕ) (s : Spot) : Type 0 where
  pub input : List ℕ
  pub before : List ℕ
  pub ring_of : RingOf grid input ring
  pub ready : TrayReady input before s.edges s.base t
  pub room : TrayRoom ring s.edges s.base t
  pub patches_room : s.corners + 3 * (length ring - 2) ≤ length patches

-- the loop met its fate, its patch is laid behind the corners before it, and the tray is ready for the next loop
pub record Took (grid : List ℤ) (input before ring patches : List ℕ) (s : Spot) (r : Became) (t' : Tray) (patches' : List ℕ) : Type 0 where
  pub fate : Fate
  pub meets : Meets grid input before ring fate
  pub state : r.state ≡ state_of fate
  pub weight : r.weight ≡ weighs grid ring fate
  pub lay : patches' ≡ laid s.corners (lays ring fate) patches
  pub corners : r.corners ≡ s.corners + length (lays ring fate)
  pub ready : TrayReady input (before ++ lays ring fate) r.edges (s.base + length ring) t'
  pub few : r.edges ≤ s.edges + (length ring - 2)

-- whatever the input and the patches before it are
abbrev pub Takes : List ℤ → List ℕ → Tray → List ℕ → Spot → Became → Tray → List ℕ → Type 0
Takes grid ring t patches s r t' patches' =
    (input before : List ℕ) → RingOf grid input ring → TrayReady input before s.edges s.base t → Took grid input before ring patches s r t' patches'

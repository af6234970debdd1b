-- The course between two loops: what the first l left, whatever loops they are, and where the ring, the state and the weight of the next one stand.
use mathlib.Core.Path.{◌≡◌, refl, sym, ap, ◌∙◌}
use mathlib.Core.Bool.{Bool}
use mathlib.Core.List.{List, [], append-nil}
use Prim.Native.Nat.{ℕ, ◌+◌, ◌-◌, ◌≤◌, ◌<◌}
use native.Mathlib.Nat.{add-zero}
use native.Mathlib.Omega.{arith}
use lib.IntN.{ℤ}
use lib.ListN.{length, get_or, take, drop, set, length-set}
use lib.Seq.{set-get_or}
use Rattle.surface_rules.proofs.Laws.Laid.{laid_none}
use Rattle.base_limits.specs.Limits as limits
use Rattle.fill_fates.specs.Fates.{rim}
use Rattle.fill_fates.specs.Course.{laid_by}
use Rattle.fill_scratch.specs.Workings.Rings.{Loops, RingPlace, rim_mark}
use Rattle.fill_scratch.proofs.Laws.Reading.{as_many, length_at, ring_at_lem, places_of}
use Rattle.patch_all.specs.Workings.Courses.{Docket, docket, Lent, CourseRoom, Ran, CourseDone}
use Rattle.patch_all.proofs.Laws.Courses.{ran_begins, becomes_rim, ran_more, laid_next, ran_all}

-- the loop is one of the rings', and the next one's ring begins behind its own
module _ {grid : List ℤ} {input : List ℕ} {rs : List (List ℕ)} {rings lengths : List ℕ} (s : Loops grid input rs rings lengths) {l : ℕ} where
  pub listed : l < length lengths → l < length rs
  listed h = let a : length lengths ≡ length rs = as_many grid input rs rings lengths s in omega arith

  pub read_on : l < length rs → (r : ℕ) → r + get_or lengths l 0 ≡ r + length (get_or rs l [])
  read_on k r = ap (λ (x : ℕ). r + x) (length_at grid input rs rings lengths s l k)

-- the first l loops ran, whatever loops they are
abbrev pub Runs : List ℤ → List ℕ → List ℕ → List ℕ → Docket → ℕ → ℕ → ℕ → Docket → Type 0
Runs grid input rings lengths c₀ l r p c =
    (rims : List Bool) (rs : List (List ℕ)) → Loops grid input rs rings lengths → Lent rims rs c₀ → Ran grid input rims rs c₀ l r p c

pub record Going (grid : List ℤ) (input rings lengths : List ℕ) (c₀ : Docket) (l r p : ℕ) (c : Docket) : Type 0 where
  pub states_kept : length c.states ≡ length c₀.states
  pub weights_kept : length c.weights ≡ length c₀.weights
  pub patches_kept : length c.patches ≡ length c₀.patches
  pub ran : Runs grid input rings lengths c₀ l r p c

-- the docket once the state and the weight of loop l are written, and the patches are these
abbrev pub written : Docket → ℕ → ℕ → ℕ → List ℕ → Docket
written c l state weight patches = docket (set c.states l state) (set c.weights l weight) patches

module _ {grid : List ℤ} {input rings lengths : List ℕ} {c₀ : Docket} where
  pub going_begins : Going grid input rings lengths c₀ 0 0 0 c₀
  going_begins = record { states_kept = refl; weights_kept = refl; patches_kept = refl; ran = λ rims rs s n. ran_begins s n }

  module _ {l r p : ℕ} {c : Docket} (g : Going grid input rings lengths c₀ l r p c) where
    -- what is read behind the first l rings is the next one
    pub part_is : {rims : List Bool} {rs : List (List ℕ)} → Loops grid input rs rings lengths → Lent rims rs c₀ → l < length rs
        → take (r + get_or lengths l 0 - r) (drop r rings) ≡ get_or rs l []
    part_is {rims} {rs} s n k = ring_at_lem grid input rs rings lengths s l r k (g.ran rims rs s n).read

    -- one loop more
    unfoldable pub going_next : {r' p' : ℕ} (state weight : ℕ) {patches' : List ℕ} → length patches' ≡ length c.patches
        → Runs grid input rings lengths c₀ (l + 1) r' p' (written c l state weight patches')
        → Going grid input rings lengths c₀ (l + 1) r' p' (written c l state weight patches')
    going_next state weight kept more = record {
      states_kept = length-set c.states l state ∙ g.states_kept;
      weights_kept = length-set c.weights l weight ∙ g.weights_kept;
      patches_kept = kept ∙ g.patches_kept;
      ran = more;
    }

    -- a rim leaves its state as it is marked
    module _ (h : l < length lengths) (e : get_or c.states l 0 ≡ rim_mark) where
      pub rim_ran : Runs grid input rings lengths c₀ (l + 1) (r + get_or lengths l 0) p (docket c.states (set c.weights l 0) c.patches)
      rim_ran rims rs s n =
          let k = listed s h in
          let x = g.ran rims rs s n in
          let m : set c.states l rim_mark ≡ c.states = ap (set c.states l) (sym e) ∙ set-get_or c.states l 0 in
          ran_more s n k x rim (becomes_rim s n k x e) (read_on s k r) (sym (add-zero p)) (sym m) refl (sym (laid_none p c.patches))

      unfoldable pub going_rim : Going grid input rings lengths c₀ (l + 1) (r + get_or lengths l 0) p (docket c.states (set c.weights l 0) c.patches)
      going_rim = record {
        states_kept = g.states_kept;
        weights_kept = length-set c.weights l 0 ∙ g.weights_kept;
        patches_kept = g.patches_kept;
        ran = rim_ran;
      }

      -- and lays nothing
      pub rim_laid : (rims : List Bool) (rs : List (List ℕ)) (s : Loops grid input rs rings lengths) (n : Lent rims rs c₀)
          → laid_by (take (l + 1) rs) (going_rim.ran rims rs s n).fates ≡ laid_by (take l rs) (g.ran rims rs s n).fates
      unfolding going_rim rim_ran ran_more
      rim_laid rims rs s n = let x = g.ran rims rs s n in laid_next s n (listed s h) x rim ∙ append-nil (laid_by (take l rs) x.fates)

    pub going_ends : length lengths ≤ l → CourseDone grid input rings lengths c₀ p c
    going_ends h rims rs s n = let a : length lengths ≡ length rs = as_many grid input rs rings lengths s in ran_all s n (omega arith) (g.ran rims rs s n)

    -- ---- what the code asks of the places

    module _ (room : CourseRoom grid input rings lengths c₀) (h : l < length lengths) where
      abbrev pub here : Ran grid input room.rims room.rs c₀ l r p c
      here = g.ran room.rims room.rs room.loops room.lent

      pub places : RingPlace rings lengths l r
      places = places_of grid input room.rs rings lengths room.loops room.corners.few l r h here.read

      -- its ring stands among the rings
      pub ring_within : r + get_or lengths l 0 ≤ length rings
      ring_within = places.ring_in

      pub rings_few : length rings ≤ limits.corners
      rings_few = places.rings_few

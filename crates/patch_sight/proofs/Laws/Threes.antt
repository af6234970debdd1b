-- The loop of three has one cover, and that is its patch.
use mathlib.Core.Path.{◌≡◌, refl, ap, ◌∙◌}
use mathlib.Core.List.{List}
use Prim.Native.Nat.{ℕ, ◌+◌, ◌-◌}
use native.Mathlib.Omega.{arith}
use lib.IntN.{ℤ}
use lib.ListN.{length}
use Rattle.base_limits.specs.States as stated
use Rattle.cover_rules.specs.Covers.{empty, apex, weight}
use Rattle.cover_weight.specs.Edition.{naturals, tri_of, along}
use Rattle.cover_lay.specs.Workings.Patches as laying
use Rattle.fill_fates.specs.Fates.{patched}
use Rattle.fill_fates.proofs.Laws.Three.{three_meets}
use Rattle.patch_sight.specs.Workings.Threes.{ThreeRoom, ThreeTook}

module _ {grid : List ℤ} {ring patches : List ℕ} {p : ℕ} (room : ThreeRoom grid ring patches p) where
  pub three_room : laying.ThreeRoom grid ring patches p
  three_room =
      let n : length ring ≡ 3 = room.exactly in
      record { on = record { coordinates = room.ring_of.coordinates; named = room.ring_of.named; few = omega arith }; three = n; room = room.room }

  pub took_three : {e w : ℕ} {patches' : List ℕ} → laying.LaysThree grid ring patches p w patches'
      → ThreeTook grid ring patches p e (record { state = stated.patched; weight = w; corners = p + 3; edges = e }) patches'
  took_three l =
      let n : length ring ≡ 3 = room.exactly in
      let k : 2 ≡ length ring - 1 = omega arith in
      record {
        fate = patched (apex 1 empty empty);
        sole = refl;
        meets = λ input before. three_meets grid input before ring n;
        three = refl;
        state = refl;
        weight = l.0 ∙ ap (λ (n : ℕ). weight naturals (tri_of (along grid ring)) 0 n (apex 1 empty empty)) k;
        lay = l.1;
        corners = refl;
        edges = refl;
      }

-- One loop patched: whichever way it goes, the loop meets its fate and the tray is left for the next one.
use mathlib.Core.Path.{◌≡◌, sym, ap, ◌∙◌, subst}
use mathlib.Core.Bool.{true}
use mathlib.Core.List.{List, ◌++◌}
use Prim.Native.Nat.{ℕ, ◌+◌, ◌-◌, ◌*◌, ◌%◌, ◌<◌, ◌≤◌}
use native.Mathlib.Omega.{arith}
use lib.IntN.{ℤ}
use lib.ListN.{length, get_or, length-append}
use Rattle.base_limits.specs.Limits as limits
use Rattle.base_limits.specs.States as stated
use Rattle.surface_rules.proofs.Laws.Laid.{laid_none}
use Rattle.cover_bars.specs.Bars.{between}
use Rattle.cover_bars.specs.Workings.Chains.{Tells}
use Rattle.fill_fates.specs.Fates.{Fate, long, lays}
use Rattle.fill_fates.proofs.Laws.Sides.{three_tells}
use Rattle.fill_scratch.specs.Workings.Tray.{Tray, TrayReady}
use Rattle.fill_scratch.proofs.Laws.Tray.{tray_kept}
use Rattle.patch_sight.specs.declared.Became.{Became}
use Rattle.patch_sight.specs.declared.Spot.{Spot}
use Rattle.patch_sight.specs.Workings.Threes.{ThreeRoom, ThreeTook}
use Rattle.patch_middling.specs.Workings.Takes.{TakeRoom, Takes}

module _ {grid : List ℤ} {ring : List ℕ} {t : Tray} {patches : List ℕ} {s : Spot} (room : TakeRoom grid ring t patches s) where
  pub three_of : length ring ≡ 3 → ThreeRoom grid ring patches s.corners
  three_of n =
      record {
        input = room.input;
        ring_of = room.ring_of;
        exactly = n;
        room = let h : s.corners + 3 * (length ring - 2) ≤ length patches = room.patches_room in omega arith;
      }

  -- the stamps of this ring lie above those before it
  above : {input before : List ℕ} → TrayReady input before s.edges s.base t → (v : ℕ) → get_or t.stamps v 0 < s.base + length ring
  above b v = let h : get_or t.stamps v 0 < s.base = b.below v in omega arith

  pub takes_three : length ring ≡ 3 → {r : Became} {patches' : List ℕ} → ThreeTook grid ring patches s.corners s.edges r patches'
      → Takes grid ring t patches s r t patches'
  takes_three n {r} k input before g b =
      record {
        fate = k.fate;
        meets = k.meets input before;
        state = k.state;
        weight = k.weight;
        lay = k.lay;
        corners = k.corners ∙ ap (λ (x : ℕ). s.corners + x) (sym k.three);
        ready = record {
          tells = told;
          whole =
              let a : length (before ++ lays ring k.fate) ≡ length before + length (lays ring k.fate) = length-append before (lays ring k.fate) in
              let c : length (lays ring k.fate) ≡ 3 = k.three in
              let d : length before % 3 ≡ 0 = b.whole in
              omega arith;
          stamps_long = b.stamps_long;
          below = above b;
          rows_long = b.rows_long;
        };
        few = let h : r.edges ≡ s.edges = k.edges in omega arith;
      }
    where
      last : between input (get_or ring 2 0) (get_or ring 0 0) ≡ true
      last = let m : length ring - 1 ≡ 2 = omega arith in subst (λ (z : ℕ). between input (get_or ring z 0) (get_or ring 0 0) ≡ true) m g.closing

      told : Tells input (before ++ lays ring k.fate) r.edges t.heads t.links t.ends
      told =
          subst (λ (z : ℕ). Tells input (before ++ lays ring k.fate) z t.heads t.links t.ends) (sym k.edges)
          (subst (λ (f : Fate). Tells input (before ++ lays ring f) s.edges t.heads t.links t.ends) (sym k.sole)
          (three_tells input before ring s.edges t.heads t.links t.ends n b.whole g.sides last b.tells))

  pub takes_long : limits.longest < length ring → {r : Became} → (r.state ≡ stated.long) × (r.weight ≡ 0) × (r.corners ≡ s.corners) × (r.edges ≡ s.edges)
      → Takes grid ring t patches s r t patches
  takes_long l (state, weighing, corners, edges) input before g b =
      record {
        fate = long;
        meets = l;
        state = state;
        weight = weighing;
        lay = sym (laid_none s.corners patches);
        corners = corners ∙ omega arith;
        ready = tray_kept b edges b.stamps_long (above b) b.rows_long;
        few = omega arith;
      }

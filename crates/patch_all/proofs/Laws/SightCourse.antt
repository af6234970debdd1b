-- The course over rims, loops of three and long ones.
use mathlib.Core.Path.{◌≡◌, refl, sym, ap, ◌∙◌, subst}
use mathlib.Core.Logic.{inl, inr}
use mathlib.Core.List.{List, []}
use Prim.Native.Nat.{ℕ, ◌+◌, ◌-◌, ◌*◌, ◌≤◌, ◌<◌}
use native.Mathlib.Nat.{add-zero}
use native.Mathlib.Omega.{arith}
use lib.IntN.{ℤ}
use lib.ListN.{length, get_or, take, drop, set}
use Rattle.base_limits.specs.Limits as limits
use Rattle.base_limits.specs.States as stated
use Rattle.surface_rules.proofs.Laws.Laid.{laid_none}
use Rattle.fill_fates.specs.Fates.{long}
use Rattle.fill_scratch.specs.Workings.Rings.{RingOf, rim_mark, SightAt, AtSight}
use Rattle.fill_scratch.proofs.Laws.Reading.{length_at}
use Rattle.patch_sight.specs.declared.Became.{Became}
use Rattle.patch_sight.specs.Workings.Threes.{ThreeRoom, ThreeTook}
use Rattle.patch_all.specs.Workings.Courses.{Docket, CourseRoom}
use Rattle.patch_all.proofs.Laws.Courses.{state_kept, becomes_other, patches_in, ran_more}
use Rattle.patch_all.proofs.Laws.Going.{listed, read_on, Runs, Going, written, part_is, going_next, here}

module _ {grid : List ℤ} {input rings lengths : List ℕ} {c₀ : Docket} {l r p : ℕ} {c : Docket} (g : Going grid input rings lengths c₀ l r p c)
    (room : CourseRoom grid input rings lengths c₀) (h : l < length lengths) (other : get_or c.states l 0 ≡ rim_mark → ⊥) where
  -- ---- a long loop

  pub going_long : AtSight lengths c₀.states → 3 < get_or lengths l 0
      → Going grid input rings lengths c₀ (l + 1) (r + get_or lengths l 0) p (written c l stated.long 0 c.patches)
  going_long q m = going_next g stated.long 0 refl more
    where
      longer : SightAt lengths c₀.states l → limits.longest < get_or lengths l 0
      longer (inl x) = absurd (omega arith)
      longer (inr (inl x)) = x
      longer (inr (inr x)) = absurd (other (state_kept room.loops room.lent (listed room.loops h) (here g room h) ∙ x))

      more : Runs grid input rings lengths c₀ (l + 1) (r + get_or lengths l 0) p (written c l stated.long 0 c.patches)
      more rims rs s n =
          let k = listed s h in
          let x = g.ran rims rs s n in
          let w : limits.longest < length (get_or rs l []) =
          subst (λ (i : ℕ). limits.longest < i) (length_at grid input rs rings lengths s l k) (longer (q l h)) in
          ran_more s n k x long (becomes_other s n k x other long w) (read_on s k r) (sym (add-zero p)) refl refl (sym (laid_none p c.patches))

  -- ---- a loop of three

  module _ (m : get_or lengths l 0 ≤ 3) where
    abbrev part : List ℕ
    part = take (r + get_or lengths l 0 - r) (drop r rings)

    pub three_room : ThreeRoom grid part c.patches p
    three_room =
        let s = room.loops in
        let k = listed s h in
        let e : part ≡ get_or room.rs l [] = part_is g s room.lent k in
        let f : get_or lengths l 0 ≡ length (get_or room.rs l []) = length_at grid input room.rs rings lengths s l k in
        let three : 3 ≤ length (get_or room.rs l []) = (s.each l k).three in
        let enough : p + 3 * (length (get_or room.rs l []) - 2) ≤ length c.patches = patches_in s room.lent k (here g room h) in
        record {
          input = input;
          ring_of = subst (RingOf grid input) (sym e) (s.each l k);
          exactly = ap length e ∙ omega arith;
          room = omega arith;
        }

    pub going_three : {b : Became} {patches' : List ℕ} → length patches' ≡ length c.patches → ThreeTook grid part c.patches p 0 b patches'
        → Going grid input rings lengths c₀ (l + 1) (r + get_or lengths l 0) b.corners (written c l b.state b.weight patches')
    going_three {b} {patches'} kept t = going_next g b.state b.weight kept more
      where
        more : Runs grid input rings lengths c₀ (l + 1) (r + get_or lengths l 0) b.corners (written c l b.state b.weight patches')
        more rims rs s n =
            let k = listed s h in
            let x = g.ran rims rs s n in
            let u : ThreeTook grid (get_or rs l []) c.patches p 0 b patches' =
            subst (λ (i : List ℕ). ThreeTook grid i c.patches p 0 b patches') (part_is g s n k) t in
            ran_more s n k x u.fate (becomes_other s n k x other u.fate (u.meets input _)) (read_on s k r)
            (u.corners ∙ ap (λ (i : ℕ). p + i) (sym u.three)) (ap (set c.states l) u.state) (ap (set c.weights l) u.weight) u.lay

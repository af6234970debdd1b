-- The course over all loops, with the tray from one loop to the next.
use mathlib.Core.Path.{◌≡◌, sym, ap, ◌∙◌, subst}
use mathlib.Core.Bool.{Bool}
use mathlib.Core.List.{List, []}
use Prim.Native.Nat.{ℕ, ◌+◌, ◌-◌, ◌≤◌, ◌<◌}
use native.Mathlib.Omega.{arith}
use lib.IntN.{ℤ}
use lib.ListN.{length, get_or, take, drop, set}
use lib.Ieee.{Float}
use Rattle.base_limits.specs.Limits as limits
use Rattle.cover_bars.specs.Workings.Chains.{Tells}
use Rattle.cover_column.specs.Workings.Columns.{TableFor}
use Rattle.fill_fates.specs.Course.{laid_by}
use Rattle.fill_scratch.specs.Workings.Rings.{RingOf, Loops, rim_mark}
use Rattle.fill_scratch.specs.Workings.Tray.{Serves, Tray, tray, EdgeRoom, TrayReady}
use Rattle.fill_scratch.proofs.Laws.Reading.{length_at}
use Rattle.fill_scratch.proofs.Laws.Tray.{noughts, TrayKept, kept_begins, kept_next, Standing, standing_begins, standing_room, standing_next, standing_passed}
use Rattle.fill_scratch.proofs.Laws.Tables.{table_here}
use Rattle.patch_sight.specs.declared.Became.{Became}
use Rattle.patch_sight.specs.declared.Spot.{Spot}
use Rattle.patch_middling.specs.Workings.Takes.{TakeRoom, Took, Takes}
use Rattle.patch_all.specs.Workings.Courses.{Docket, docket, Lent, CourseRoom, Ran}
use Rattle.patch_all.proofs.Laws.Courses.{state_kept, becomes_other, patches_in, ran_more, laid_next}
use Rattle.patch_all.proofs.Laws.Going.{listed, read_on, Going, written, going_begins, part_is, going_next, going_rim, rim_laid, here, places}

-- where the next loop's turn begins: behind p corners, e edges, and the stamps of r ring vertices
abbrev spot : ℕ → ℕ → ℕ → Spot
spot p e r = record { corners = p; edges = e; base = r + 1 }

-- the first l of these loops ran, and the tray stands ready behind what they laid
record Stood (grid : List ℤ) (input : List ℕ) (rims : List Bool) (rs : List (List ℕ)) (c₀ : Docket) (l r p e : ℕ) (c : Docket) (t : Tray) : Type 0 where
  pub ran : Ran grid input rims rs c₀ l r p c
  pub standing : Standing input (laid_by (take l rs) ran.fates) r e t

-- the same, whatever loops they are, and what is lent is as long as it was
pub record AtWork (grid : List ℤ) (input rings lengths : List ℕ) (c₀ : Docket) (t₀ : Tray) (l r p e : ℕ) (c : Docket) (t : Tray) : Type 0 where
  pub kept : TrayKept t₀ t
  pub going : Going grid input rings lengths c₀ l r p c
  pub standing : (rims : List Bool) (rs : List (List ℕ)) (s : Loops grid input rs rings lengths) (n : Lent rims rs c₀)
      → Standing input (laid_by (take l rs) (going.ran rims rs s n).fates) r e t

module _ {grid : List ℤ} {input rings lengths : List ℕ} {c₀ : Docket} where
  pub work_begins : {heads links ends : List ℕ} {table : List Float} → EdgeRoom input links ends
      → Tells input [] (length input) heads links ends
      → let t = tray heads links ends (noughts limits.points) (noughts limits.longest) table in
      AtWork grid input rings lengths c₀ t 0 0 0 (length input) c₀ t
  work_begins room told = record { kept = kept_begins; going = going_begins; standing = λ rims rs s n. standing_begins room told }

  module _ {t₀ : Tray} {l r p e : ℕ} {c : Docket} {t : Tray} (g : AtWork grid input rings lengths c₀ t₀ l r p e c t)
      (room : CourseRoom grid input rings lengths c₀) where
    standing_here : Standing input (laid_by (take l room.rs) (g.going.ran room.rims room.rs room.loops room.lent).fates) r e t
    standing_here = g.standing room.rims room.rs room.loops room.lent

    module _ (h : l < length lengths) where
      abbrev part : List ℕ
      part = take (r + get_or lengths l 0 - r) (drop r rings)

      -- the table is the one that was lent, and long enough for the next loop, if that is no rim
      table_there : Serves lengths c₀.states t₀.table → (get_or c.states l 0 ≡ rim_mark → ⊥) → get_or lengths l 0 ≤ limits.longest
          → TableFor (get_or lengths l 0) t.table
      table_there serves other =
          table_here lengths c₀.states t₀.table t.table l serves h
          (λ q. other (state_kept room.loops room.lent (listed room.loops h) (here g.going room h) ∙ q)) g.kept.table_kept

      pub take_room : Serves lengths c₀.states t₀.table → (get_or c.states l 0 ≡ rim_mark → ⊥) → TakeRoom grid part t c.patches (spot p e r)
      take_room serves other =
          let s = room.loops in
          let k = listed s h in
          let x = here g.going room h in
          let q = places g.going room h in
          let f : get_or lengths l 0 ≡ length (get_or room.rs l []) = length_at grid input room.rs rings lengths s l k in
          let u : r + get_or lengths l 0 ≤ length rings = q.ring_in in
          let v : length rings ≤ length input = s.few in
          subst (λ (ring : List ℕ). TakeRoom grid ring t c.patches (spot p e r)) (sym (part_is g.going s room.lent k))
          (record {
            input = input;
            before = laid_by (take l room.rs) x.fates;
            ring_of = s.each l k;
            ready = standing_here.ready;
            room = standing_room standing_here (get_or room.rs l []) room.corners (s.each l k).three (omega arith)
                (subst (λ (n : ℕ). n ≤ limits.longest → TableFor n t.table) f (table_there serves other));
            patches_room = patches_in s room.lent k x;
          })

      -- a rim is passed over
      pub work_rim : get_or c.states l 0 ≡ rim_mark
          → AtWork grid input rings lengths c₀ t₀ (l + 1) (r + get_or lengths l 0) p e (docket c.states (set c.weights l 0) c.patches) t
      work_rim m = record {
        kept = g.kept;
        going = going_rim g.going h m;
        standing = λ rims rs s n. standing_passed (sym (rim_laid g.going h m rims rs s n)) (omega arith) (g.standing rims rs s n);
      }

      -- any other loop leaves the tray to the next one
      module _ (other : get_or c.states l 0 ≡ rim_mark → ⊥) {b : Became} {patches' : List ℕ} {t' : Tray} (kp : length patches' ≡ length c.patches)
          (kt : TrayKept t t')
          (took : Takes grid part t c.patches (spot p e r) b t' patches') where
        stands : (rims : List Bool) (rs : List (List ℕ)) → Loops grid input rs rings lengths → Lent rims rs c₀
            → Stood grid input rims rs c₀ (l + 1) (r + get_or lengths l 0) b.corners b.edges (written c l b.state b.weight patches') t'
        unfolding ran_more
        stands rims rs s n =
            let k = listed s h in
            let x = g.going.ran rims rs s n in
            let i = g.standing rims rs s n in
            let q : part ≡ get_or rs l [] = part_is g.going s n k in
            let u : Took grid input (laid_by (take l rs) x.fates) (get_or rs l []) c.patches (spot p e r) b t' patches' =
            subst (λ (ring : List ℕ). Took grid input (laid_by (take l rs) x.fates) ring c.patches (spot p e r) b t' patches') q
            (took input (laid_by (take l rs) x.fates) (subst (RingOf grid input) (sym q) (s.each l k)) i.ready) in
            record {
              ran =
                  ran_more s n k x u.fate (becomes_other s n k x other u.fate u.meets) (read_on s k r) u.corners (ap (set c.states l) u.state)
                  (ap (set c.weights l) u.weight) u.lay;
              standing =
                  standing_next i (get_or rs l []) (read_on s k r) kt u.few
                  (subst (λ (laid : List ℕ). TrayReady input laid b.edges (r + 1 + length (get_or rs l [])) t')
                  (sym (laid_next s n k x u.fate)) u.ready);
            }

        pub work_on :
            AtWork grid input rings lengths c₀ t₀ (l + 1) (r + get_or lengths l 0) b.corners b.edges (written c l b.state b.weight patches') t'
        unfolding going_next
        work_on = record {
          kept = kept_next g.kept kt;
          going = going_next g.going b.state b.weight kp (λ rims rs s n. (stands rims rs s n).ran);
          standing = λ rims rs s n. (stands rims rs s n).standing;
        }

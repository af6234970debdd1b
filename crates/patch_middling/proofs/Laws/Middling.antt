-- The loop of four or more that is not long: patched or not, it meets its fate, and the tray is left for the next one.
use mathlib.Core.Path.{◌≡◌, refl, sym, ap, ◌∙◌, subst}
use mathlib.Core.List.{List, ◌++◌, append_assoc}
use Prim.Native.Nat.{ℕ, ◌+◌, ◌-◌, ◌*◌, ◌/◌, ◌%◌, ◌^◌, ◌<◌, ◌≤◌}
use native.Mathlib.Omega.{arith}
use lib.IntN.{ℤ}
use lib.Ieee.{Float}
use lib.ListN.{length, take, drop, length-append}
use lib.Seq.{slice, take_at, drop_at, length-take-le}
use Rattle.base_limits.specs.Limits as limits
use Rattle.base_limits.specs.States as stated
use Rattle.surface_rules.specs.Buffers.{laid}
use Rattle.surface_rules.proofs.Laws.Laid.{laid_none, laid_length}
use Rattle.cover_rules.specs.Covers.{Cover, Covers, patch_of}
use Rattle.cover_rules.proofs.Laws.Corners.{patch_length}
use Rattle.cover_bars.specs.Bars.{barred}
use Rattle.cover_bars.specs.Workings.Chains.{Tells, LaidRoom, LaidDone, BarsRoom, BarsDone}
use Rattle.cover_bars.proofs.Laws.Barring.{tells_walkable}
use Rattle.cover_bars.proofs.Laws.Patches.{patch_inside}
use Rattle.std.proofs.Common.{Option, Some, None}
use Rattle.cover_table.specs.Workings.Loops.{Barring}
use Rattle.cover_trace.specs.Workings.Patches.{LaysIf, LaysPatch}
use Rattle.cover_lay.specs.Workings.Patches as laying
use Rattle.fill_fates.specs.Fates.{patched, uncovered}
use Rattle.fill_fates.proofs.Laws.Three.{sides_free}
use Rattle.fill_scratch.specs.Workings.Tray.{Tray, tray}
use Rattle.fill_scratch.proofs.Laws.Tray.{tray_kept}
use Rattle.patch_sight.specs.declared.Became.{Became}
use Rattle.patch_sight.specs.declared.Spot.{Spot}
use Rattle.patch_middling.specs.Workings.Takes.{TakeRoom, Takes}

-- ---- what is laid stands in its place

slice_laid : (p q : ℕ) (xs w : List ℕ) → p ≤ length w → q ≡ p + length xs → slice p q (laid p xs w) ≡ xs
unfolding laid
slice_laid p q xs w l e =
    let n : length (take p w) ≡ p = length-take-le p w l in
    let m : length (take p w ++ xs) ≡ q = length-append (take p w) xs ∙ ap (λ (k : ℕ). k + length xs) n ∙ sym e in
    ap (λ (r : List ℕ). drop p (take q r)) (sym (append_assoc (take p w) xs (drop (p + length xs) w)))
    ∙ ap (drop p) (take_at (take p w ++ xs) (drop (p + length xs) w) q m)
    ∙ drop_at (take p w) xs p n

-- ---- the turn

module _ {grid : List ℤ} {ring : List ℕ} {t : Tray} {patches : List ℕ} {s : Spot} (pre : TakeRoom grid ring t patches s × (length ring ≤ limits.longest) × (3 < length ring)) where
  abbrev room : TakeRoom grid ring t patches s
  room = pre.0

  abbrev told : List ℕ → List ℕ → Type 0
  told input before = Tells input before s.edges t.heads t.links t.ends

  -- where the patch ends that stands behind the corners before it
  abbrev end : ℕ
  end = s.corners + 3 * (length ring - 2)

  ends_there : (c : Cover) → Covers 0 (length ring - 1) c → end ≡ s.corners + length (patch_of ring c)
  ends_there c h = ap (λ (k : ℕ). s.corners + k) (sym (patch_length ring c h))

  pub bars_room : BarsRoom ring t.heads t.links t.ends t.stamps s.base t.rows
  bars_room =
      record {
        walkable = tells_walkable room.input room.before s.edges t.heads t.links t.ends room.ready.tells;
        long = room.ring_of.three;
        room = record {
          short = pre.1;
          few = room.room.few_stamps;
          inside = room.ring_of.inside;
          apart = room.ring_of.apart;
          stamps_long = room.ready.stamps_long;
          rows_long = room.ready.rows_long;
          below = room.ready.below;
        };
      }

  module _ {stamps' rows' : List ℕ} (bars : BarsDone ring t.heads t.links t.ends s.base stamps' rows') where
    barring : (input before : List ℕ) → told input before → Barring (barred input before ring) ring rows'
    barring input before tells = record { rows = bars.bars input before s.edges tells; sides = sides_free input before ring }

    pub patch_room : laying.PatchRoom grid ring rows' t.table patches s.corners
    patch_room =
        record {
          loop = record {
            on = record { coordinates = room.ring_of.coordinates; named = room.ring_of.named; few = pre.1 };
            some = pre.2;
            barred = barred room.input room.before ring;
            barring = barring room.input room.before room.ready.tells;
            table_long = room.room.table_room pre.1;
          };
          room = room.patches_room;
        }

    -- what was found is so by what the chains tell
    found : (least is : Option ℕ) (patches' : List ℕ) → least ≡ is → LaysPatch grid ring rows' patches s.corners least patches'
        → (input before : List ℕ) → told input before → LaysIf grid ring (barred input before ring) patches s.corners is patches'
    found least is patches' e answer input before tells =
        subst (λ (z : Option ℕ). LaysIf grid ring (barred input before ring) patches s.corners z patches') e
        (answer (barred input before ring) (barring input before tells))

    module _ {least : Option ℕ} {patches' : List ℕ} (answer : LaysPatch grid ring rows' patches s.corners least patches') where
      pub takes_none : least ≡ None → {table' : List Float} {r : Became}
          → (r.state ≡ stated.left_open) × (r.weight ≡ 0) × (r.corners ≡ s.corners) × (r.edges ≡ s.edges)
          → Takes grid ring t patches s r (tray t.heads t.links t.ends stamps' rows' table') patches'
      takes_none is (state, weighing, corners, edges) input before g b =
          let x = found least None patches' is answer input before b.tells in
          record {
            fate = uncovered;
            meets = (pre.1, x.0);
            state = state;
            weight = weighing;
            lay = x.1 ∙ sym (laid_none s.corners patches);
            corners = corners ∙ omega arith;
            ready = tray_kept b edges bars.stamped.long bars.below bars.rows_long;
            few = omega arith;
          }

      module _ {w : ℕ} (is : least ≡ Some w) where
        -- the loop is patched, and its patch stands up to the end
        stands : (c : Cover) → Covers 0 (length ring - 1) c → patches' ≡ laid s.corners (patch_of ring c) patches
            → slice s.corners end patches' ≡ patch_of ring c
        stands c h f =
            let k : end ≤ length patches = room.patches_room in
            ap (slice s.corners end) f ∙ slice_laid s.corners end (patch_of ring c) patches (omega arith) (ends_there c h)

        pub laid_room : LaidRoom patches' s.corners end t.heads t.links t.ends s.edges
        laid_room =
            let x = found least (Some w) patches' is answer room.input room.before room.ready.tells in
            let c : Cover = x.0 in
            let h : Covers 0 (length ring - 1) c = x.1.among.covers in
            let k : end ≤ length patches = room.patches_room in
            let n : length patches' ≡ length patches =
            ap length x.3 ∙ laid_length s.corners patches (patch_of ring c) (subst (λ (q : ℕ). q ≤ length patches) (ends_there c h) k) in
            let i : end ≤ length patches' = omega arith in
            record {
              forward = omega arith;
              triples = omega arith;
              within = i;
              inside = patch_inside patches' s.corners end ring c i (stands c h x.3) h room.ring_of.inside;
              heads_long = room.ready.tells.chained.heads_long;
              links_room = let l : s.edges + (length ring - 2) ≤ length t.links = room.room.links_room in omega arith;
              ends_room = let l : s.edges + (length ring - 2) ≤ length t.ends = room.room.ends_room in omega arith;
              few = let l : s.edges + (length ring - 2) < 2 ^ 16 = room.room.few_edges in omega arith;
            }

        pub takes_some : {table' : List Float} {heads' links' ends' : List ℕ} {f : ℕ}
            → LaidDone (slice s.corners end patches') t.heads t.links t.ends s.edges f heads' links' ends'
            → Takes grid ring t patches s (record { state = stated.patched; weight = w; corners = end; edges = f })
            (tray heads' links' ends' stamps' rows' table') patches'
        takes_some {f = f} done input before g b =
            let x = found least (Some w) patches' is answer input before b.tells in
            let c : Cover = x.0 in
            let h : Covers 0 (length ring - 1) c = x.1.among.covers in
            record {
              fate = patched c;
              meets = (pre.1, x.1);
              state = refl;
              weight = x.2;
              lay = x.3;
              corners = ends_there c h;
              ready = record {
                tells = done.tells input before ring c b.whole h g.sides (stands c h x.3) b.tells;
                whole =
                    let l : length (before ++ patch_of ring c) ≡ length before + length (patch_of ring c) = length-append before (patch_of ring c) in
                    let m : length (patch_of ring c) ≡ 3 * (length ring - 2) = patch_length ring c h in
                    let d : length before % 3 ≡ 0 = b.whole in
                    omega arith;
                stamps_long = bars.stamped.long;
                below = bars.below;
                rows_long = bars.rows_long;
              };
              few =
                  let l : f ≡ s.edges + length (slice s.corners end patches') / 3 = done.count in
                  let m : length (slice s.corners end patches') ≡ 3 * (length ring - 2) = ap length (stands c h x.3) ∙ patch_length ring c h in
                  omega arith;
            }

-- A loop's patch is what is listed of the whole loop as one stretch, and it weighs what its triangles do as they stand in the buffer.
use mathlib.Core.Path.{◌≡◌, refl, sym, ap, ◌∙◌, subst}
use mathlib.Core.Logic.{inl, inr}
use mathlib.Core.Bool.{Bool, true}
use mathlib.Core.List.{List, [], ◌∷◌, ◌++◌}
use Prim.Native.Nat.{ℕ, ◌+◌, ◌-◌, ◌*◌, ◌≤◌}
use native.Mathlib.Omega.{arith}
use lib.IntN.{ℤ}
use lib.ListN.{length, take, drop}
use lib.Seq.{take_at, drop_at, length-take-le}
use lib.Ieee.{Float}
use Rattle.surface_rules.specs.Buffers.{laid}
use Rattle.surface_rules.specs.Threes.{threes}
use Rattle.surface_rules.proofs.Laws.Laid.{laid_length}
use Rattle.cover_rules.specs.Covers.{Cover, empty, apex, Patch, triangles, corners_of, vertex_of, patch_of}
use Rattle.cover_rules.specs.Workings.Least as covers
use Rattle.cover_rules.proofs.Laws.Best.{patch_unique}
use Rattle.cover_rules.proofs.Laws.Corners.{patch_length}
use Rattle.cover_rules.proofs.Laws.Least.{patch_least}
use Rattle.cover_rules.proofs.Laws.Steps.{patched, Patched}
use Rattle.cover_weight.specs.Weight.{weight_of}
use Rattle.cover_weight.specs.Edition.{naturals, tri_of, along}
use Rattle.cover_weight.proofs.Laws.Naturals.{naturals_lawful}
use Rattle.cover_weight.proofs.Laws.Named.{named_on_grid}
use Rattle.cover_sum.specs.Workings.Weighing.{set_weight, WeighRoom}
use Rattle.cover_sum.proofs.Laws.Patches.{patch_weight, patch_room}
use Rattle.cover_column.specs.Workings.Columns.{quarter_of}
use Rattle.cover_shut.specs.Workings.Shut.{TellsShut}
use Rattle.std.proofs.Common.{Option, Some, None}
use Rattle.cover_table.specs.Workings.Table.{OnLoop}
use Rattle.cover_table.specs.Workings.Loops.{OnGrid, Barring, LoopRoom, TableRoom, LeastIs, Found}
use Rattle.cover_table.proofs.Theorems.{least_once}
use Rattle.cover_trace.specs.Workings.Ways.{Weighed}
use Rattle.cover_trace.specs.Workings.Lists.{ListRoom, ListsPatch}
use Rattle.cover_trace.specs.Workings.Patches.{LaysIf, LaysPatch, FindsLeast}
use Rattle.cover_lay.specs.Workings.Patches.{PatchRoom, ThreeRoom, LaysThree}

-- ---- what is laid stands in its place

-- the part of a list from p to q, as it is lent
abbrev part : ℕ → ℕ → List ℕ → List ℕ
part p q l = take (q - p) (drop p l)

part_laid : (p q : ℕ) (xs w : List ℕ) → p ≤ length w → q ≡ p + length xs → part p q (laid p xs w) ≡ xs
unfolding laid
part_laid p q xs w l e =
    ap (take (q - p)) (drop_at (take p w) (xs ++ drop (p + length xs) w) p (length-take-le p w l))
    ∙ take_at xs (drop (p + length xs) w) (q - p) (omega arith)

-- the place after a loop's patch that stands from p on
abbrev behind : ℕ → List ℕ → ℕ
behind p ring = p + 3 * (length ring - 2)

-- the loop's patch stands in the buffer from p on
record Stood (grid : List ℤ) (ring : List ℕ) (barred : ℕ → ℕ → Bool) (buffer : List ℕ) (p : ℕ) (buffer' : List ℕ) : Type 0 where
  cover : Cover
  patch : Patch naturals (tri_of (along grid ring)) barred 0 (length ring - 1) cover
  lay : buffer' ≡ laid p (patch_of ring cover) buffer
  stands : part p (behind p ring) buffer' ≡ patch_of ring cover

-- ---- the patch of a loop

-- a ring on the grid, with bars that leave its sides free, is a loop
loop_along : {grid : List ℤ} {ring bars : List ℕ} {barred : ℕ → ℕ → Bool} → OnGrid grid ring → Barring barred ring bars → OnLoop (along grid ring) barred (length ring)
loop_along {grid} o b = record { near = λ j h. named_on_grid grid o.coordinates _; few = o.few; sides = b.sides }

module _ {grid : List ℤ} {ring bars : List ℕ} {table : List Float} {buffer : List ℕ} {p : ℕ} (r : PatchRoom grid ring bars table buffer p)
    {table' : List Float} (least : Option ℕ) (f : Found grid ring bars least table') where
  -- what was found is a weight
  module _ {w : ℕ} (e : least ≡ Some w) where
    weighed : (barred : ℕ → ℕ → Bool) → Barring barred ring bars → Weighed (along grid ring) barred (quarter_of table') (length ring) table' 0 (length ring - 1) w
    weighed barred b = record {
      loop = loop_along r.loop.on b;
      filled = (f barred b).1;
      low = omega (arith, r.loop.some);
      high = omega (arith, r.loop.some);
      least = subst (LeastIs grid ring barred) e (f barred b).0;
    }

    pub list_room : ListRoom (quarter_of table') table' ring buffer p 0 (length ring - 1)
    list_room = record {
      weighable = record { at = along grid ring; barred = r.loop.barred; n = length ring; w = w; weighed = weighed r.loop.barred r.loop.barring };
      in_ring = omega (arith, r.loop.some);
      room = omega (arith, r.loop.some, r.room);
    }

    module _ {buffer' : List ℕ} (l : ListsPatch (quarter_of table') table' ring buffer p 0 (length ring - 1) buffer') where
      -- the patch by whatever bars these rows are, and where it stands
      stood : (barred : ℕ → ℕ → Bool) → Barring barred ring bars → Stood grid ring barred buffer p buffer'
      stood barred b = go (patched naturals naturals_lawful (tri_of (along grid ring)) barred 0 (length ring - 1) x.low)
        where
          x : Weighed (along grid ring) barred (quarter_of table') (length ring) table' 0 (length ring - 1) w
          x = weighed barred b

          go : Patched naturals (tri_of (along grid ring)) barred 0 (length ring - 1) → Stood grid ring barred buffer p buffer'
          go (inl (c, q)) =
              let n : length (patch_of ring c) ≡ 3 * (length ring - 2) = patch_length ring c q.among.covers in
              let i : buffer' ≡ laid p (patch_of ring c) buffer = l (along grid ring) barred (length ring) w x c q in
              record {
                cover = c;
                patch = q;
                lay = i;
                stands = ap (part p (behind p ring)) i ∙ part_laid p (behind p ring) (patch_of ring c) buffer (omega (arith, r.room)) (omega arith);
              }
          go (inr n) = absurd (n x.least.cover x.least.among)

      pub listed_in : behind p ring ≤ length buffer'
      listed_in =
          let s = stood r.loop.barred r.loop.barring in
          let n : length (patch_of ring s.cover) ≡ 3 * (length ring - 2) = patch_length ring s.cover s.patch.among.covers in
          let m : length buffer' ≡ length buffer = ap length s.lay ∙ laid_length p buffer (patch_of ring s.cover) (omega (arith, r.room)) in
          omega (arith, r.room)

      pub weigh_room : WeighRoom grid (part p (behind p ring) buffer')
      weigh_room =
          let s = stood r.loop.barred r.loop.barring in
          subst (WeighRoom grid) (sym s.stands) (patch_room grid ring r.loop.on.coordinates r.loop.on.named r.loop.on.few s.cover s.patch.among.covers)

      pub lays_some : {v : ℕ} → v ≡ set_weight grid (threes (part p (behind p ring) buffer')) → LaysPatch grid ring bars buffer p (Some v) buffer'
      lays_some h barred b =
          let s = stood barred b in
          (s.cover, s.patch, h ∙ ap (λ (t : List ℕ). set_weight grid (threes t)) s.stands ∙ patch_weight grid ring s.cover, s.lay)

  -- nothing was found
  pub lays_none : least ≡ None → LaysPatch grid ring bars buffer p None buffer
  lays_none e barred b = (subst (LeastIs grid ring barred) e (f barred b).0, refl)

-- ---- a loop that its bars shut

pub lays_shut : (grid : List ℤ) (ring bars buffer : List ℕ) (p : ℕ) {t : Bool} → TellsShut (length ring) bars t → t ≡ true
    → LaysPatch grid ring bars buffer p None buffer
lays_shut grid ring bars buffer p tells e barred b = (tells e barred b.rows, refl)

pub finds_shut : (grid : List ℤ) (ring bars : List ℕ) {t : Bool} → TellsShut (length ring) bars t → t ≡ true → FindsLeast grid ring bars None
finds_shut grid ring bars tells e barred b = tells e barred b.rows

-- any other loop takes a table
pub takes_table : {grid : List ℤ} {ring bars : List ℕ} {table : List Float} → LoopRoom grid ring bars table → (length ring ≡ 4 → ⊥)
    → TableRoom grid ring bars table
takes_table r n = (r, omega (arith, r.some))

-- ---- two answers for one loop are equal

module _ (grid : List ℤ) (ring bars : List ℕ) (table : List Float) (buffer : List ℕ) (p : ℕ) (r : PatchRoom grid ring bars table buffer p) where
  lays_least : (barred : ℕ → ℕ → Bool) (x : Option ℕ) (b : List ℕ) → LaysIf grid ring barred buffer p x b → LeastIs grid ring barred x
  lays_least barred (Some w) b h =
      subst (covers.Least naturals (tri_of (along grid ring)) barred 0 (length ring - 1)) (sym h.2)
      (patch_least naturals naturals_lawful (tri_of (along grid ring)) barred 0 (length ring - 1) h.0 h.1)
  lays_least barred None b h = h.0

  same_buffer : (barred : ℕ → ℕ → Bool) (x : Option ℕ) (b c : List ℕ) → LaysIf grid ring barred buffer p x b → LaysIf grid ring barred buffer p x c → b ≡ c
  same_buffer barred (Some w) b c h g =
      h.3
      ∙ ap (λ (u : Cover). laid p (patch_of ring u) buffer) (patch_unique naturals naturals_lawful (tri_of (along grid ring)) barred 0 (length ring - 1) h.0 g.0 h.1 g.1)
      ∙ sym g.3
  same_buffer barred None b c h g = h.1 ∙ sym g.1

  pub lays_once : (x y : Option ℕ) (b c : List ℕ) → LaysPatch grid ring bars buffer p x b → LaysPatch grid ring bars buffer p y c → (x ≡ y) × (b ≡ c)
  lays_once x y b c h g = (same, same_buffer barred y b c (subst (λ (z : Option ℕ). LaysIf grid ring barred buffer p z b) same h') g')
    where
      barred : ℕ → ℕ → Bool
      barred = r.loop.barred

      h' : LaysIf grid ring barred buffer p x b
      h' = h barred r.loop.barring

      g' : LaysIf grid ring barred buffer p y c
      g' = g barred r.loop.barring

      same : x ≡ y
      same = least_once grid ring barred x y (lays_least barred x b h') (lays_least barred y c g')

-- ---- the least weight alone

pub found_least : (grid : List ℤ) (ring bars : List ℕ) (r : Option ℕ) {table : List Float} → Found grid ring bars r table → FindsLeast grid ring bars r
found_least grid ring bars r f barred k = (f barred k).0

-- ---- the patch of four

-- ---- the patch of three

module _ {grid : List ℤ} {ring buffer : List ℕ} {p : ℕ} (r : ThreeRoom grid ring buffer p) where
  pub lays_three : {w : ℕ} {buffer' : List ℕ} → buffer' ≡ laid p (vertex_of ring 0 ∷ vertex_of ring 2 ∷ vertex_of ring 1 ∷ []) buffer
      → w ≡ weight_of (along grid ring 0) (along grid ring 2) (along grid ring 1)
      → LaysThree grid ring buffer p w buffer'
  lays_three e f = (
    f ∙ omega arith,
    e ∙ ap (λ (n : ℕ). laid p (corners_of (vertex_of ring) (triangles 0 (n - 1) (apex 1 empty empty))) buffer) (sym r.three),
  )

-- The marks laid over a buffer's start tell which loops are rims.
use mathlib.Core.Path.{◌≡◌, refl, sym, ap, ◌∙◌, subst}
use mathlib.Core.Bool.{Bool, true, false}
use mathlib.Core.List.{List, [], map}
use Prim.Native.Nat.{ℕ, ◌≤◌, ◌<◌}
use native.Mathlib.Omega.{arith}
use lib.Dec.{eqb}
use lib.IntN.{ℤ}
use lib.ListN.{length, get_or, length-map}
use Rattle.surface_rules.specs.Buffers.{over}
use Rattle.surface_rules.proofs.Laws.Lists.{map_at}
use Rattle.surface_rules.proofs.Laws.Over.{over_long, front_at}
use Rattle.loop_rules.specs.Loops.{loops}
use Rattle.loop_cut.specs.Listing.{first_of}
use Rattle.rim_pieces.proofs.Laws.Uniting.{numbers_length}
use Rattle.rim_pieces.specs.Computed.{numbers_below}
use Rattle.fill_scratch.specs.Workings.Rings.{rim_mark, Marks}
use Rattle.rim_rules.specs.Rims.{loop_at, is_rim, rim_list}
use Rattle.rim_mark.specs.Workings.Marking.{mark_of, Marked}

mark_read : (b : Bool) → eqb (mark_of b) rim_mark ≡ b
mark_read true = refl
mark_read false = refl

pub marks_told : (rims : List Bool) (states : List ℕ) → length rims ≤ length states → Marks rims (over (map mark_of rims) states)
marks_told rims states h = record {
  long = omega (arith, length-map rims mark_of, over_long (map mark_of rims) states (omega (arith, length-map rims mark_of)));
  told = λ l k.
      ap (λ (x : ℕ). eqb x rim_mark) (front_at (map mark_of rims) states l 0 (omega (arith, length-map rims mark_of)) ∙ map_at mark_of false 0 rims l k)
      ∙ mark_read (get_or rims l false);
}

-- a rim or not, for each loop
pub rims_many : (grid : List ℤ) (corners : List ℕ) → length (rim_list grid corners) ≡ length (loops corners)
rims_many grid corners = length-map (numbers_below (length (loops corners))) (is_rim grid corners) ∙ numbers_length (length (loops corners))

-- so they do wherever there was room for one of each loop
pub marks_stand : (grid : List ℤ) (corners before : List ℕ) {marks : List ℕ} → length (loops corners) ≤ length before → Marked grid corners before marks → Marks (rim_list grid corners) marks
marks_stand grid corners before h e = subst (Marks (rim_list grid corners)) (sym e) (marks_told (rim_list grid corners) before (omega (arith, rims_many grid corners)))

-- the first half-edges, read from where they were listed
pub first_at : (corners firsts : List ℕ) (l : ℕ) → l < length (loops corners) → get_or (over (map first_of (loops corners)) firsts) l 0 ≡ first_of (loop_at corners l)
first_at corners firsts l h = front_at (map first_of (loops corners)) firsts l 0 (omega (arith, length-map (loops corners) first_of)) ∙ map_at first_of [] 0 (loops corners) l h

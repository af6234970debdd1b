-- The parts of the buffers that were written, cut off again, are the grid, all rings and all lengths.
use mathlib.Core.Path.{◌≡◌, sym, ap, ◌∙◌, subst}
use mathlib.Core.List.{List, map}
use Prim.Native.Nat.{ℕ, ◌≤◌}
use lib.IntN.{ℤ}
use lib.ListN.{length, take, length-map}
use Rattle.surface_rules.specs.Buffers.{over}
use Rattle.surface_rules.proofs.Laws.Over.{start_of, front_in}
use Rattle.loop_cut.specs.Listing.{ListsLoops, rings_of}
use Rattle.loop_cut.specs.declared.Listed.{Listed}
use Rattle.survey_grid.specs.Grid.{whole_of, grid_of}

-- ---- the grid

module _ (pitch : ℕ) (words : List ℕ) (grid grid' : List ℤ) (e : grid' ≡ over (grid_of pitch words) grid) where
  pub grid_in : length words ≤ length grid'
  grid_in = front_in (grid_of pitch words) grid grid' (length words) (sym (length-map words (whole_of pitch))) e

  pub grid_part : take (length words) grid' ≡ grid_of pitch words
  grid_part = ap (take (length words)) e ∙ start_of (grid_of pitch words) grid (length words) (sym (length-map words (whole_of pitch)))

-- ---- the rings and the lengths

module _ {corners : List ℕ} {ls : List (List ℕ)} {rings lengths firsts : List ℕ} {at : Listed} {rings' lengths' firsts' : List ℕ} (l : ListsLoops corners ls rings lengths firsts at rings' lengths' firsts') where
  pub rings_in : at.vertices ≤ length rings'
  rings_in = front_in (rings_of corners ls) rings rings' at.vertices l.vertices l.all_rings

  pub rings_part : take at.vertices rings' ≡ rings_of corners ls
  rings_part = ap (take at.vertices) l.all_rings ∙ start_of (rings_of corners ls) rings at.vertices l.vertices

  counted : at.loops ≡ length (map length ls)
  counted = l.count ∙ sym (length-map ls length)

  pub lengths_in : at.loops ≤ length lengths'
  lengths_in = front_in (map length ls) lengths lengths' at.loops counted l.all_lengths

  pub lengths_part : take at.loops lengths' ≡ map length ls
  lengths_part = ap (take at.loops) l.all_lengths ∙ start_of (map length ls) lengths at.loops counted

  -- what was listed apart and then laid over other buffers is as if it were listed there
  pub lists_laid : (found sizes found' sizes' : List ℕ) → found' ≡ over (take at.vertices rings') found → sizes' ≡ over (take at.loops lengths') sizes
      → ListsLoops corners ls found sizes firsts at found' sizes' firsts'
  lists_laid found sizes found' sizes' r s = record {
    count = l.count;
    vertices = l.vertices;
    all_rings = r ∙ ap (λ (x : List ℕ). over x found) rings_part;
    all_lengths = s ∙ ap (λ (x : List ℕ). over x sizes) lengths_part;
    all_firsts = l.all_firsts;
  }

  -- what holds of the grid, the rings and the lengths holds of these parts
  pub of_parts : (pitch : ℕ) (words : List ℕ) (g : List ℤ) → g ≡ grid_of pitch words → (P : List ℤ → List ℕ → List ℕ → Type 0)
      → P (grid_of pitch words) (rings_of corners ls) (map length ls) → P g (take at.vertices rings') (take at.loops lengths')
  of_parts pitch words g e P h =
      subst (λ (x : List ℤ). P x (take at.vertices rings') (take at.loops lengths')) (sym e)
      (subst (λ (r : List ℕ). P (grid_of pitch words) r (take at.loops lengths')) (sym rings_part) (subst (P (grid_of pitch words) (rings_of corners ls)) (sym lengths_part) h))

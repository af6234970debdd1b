-- A listing goes from section to section: it begins, goes on behind each section, and may go on in an emptied buffer.
use mathlib.Core.Path.{◌≡◌, sym, ap, ◌∙◌}
use mathlib.Core.Logic.{⊎_elim}
use mathlib.Core.List.{List, [], map, flatten}
use Prim.Native.Nat.{ℕ, ◌+◌, ◌<◌, ◌≤◌}
use native.Mathlib.Nat.{eq-or-lt_of_le}
use native.Mathlib.Omega.{arith}
use lib.ListN.{length, take}
use Rattle.base_answers.specs.declared.Answer.{Answer}
use Rattle.program_lines.specs.declared.Progress.{Progress}
use Rattle.program_lines.specs.Listing.{Shown}
use Rattle.program_lines.specs.Workings.Telling.{Inventory}
use Rattle.program_roll.specs.Workings.Listed.{Listed}
use Rattle.program_roll.specs.Sections.{between}
use Rattle.program_roll.specs.Workings.Roll.{Begins, Going, Fills, FillsOn}
use Rattle.program_roll.proofs.Laws.Between.{between_none}

-- where a loop is left and there is room for it, it is told
pub goes_on : {most : ℕ} {loops : List Shown} {m r : Progress} {before after : List ℕ} → Fills most loops m r before after
    → m.loops < length loops → m.bytes + most ≤ length before → m.loops < r.loops
goes_on {loops = loops} {m = m} {r = r} p h room = ⊎_elim (λ (e : m.loops ≡ r.loops). absurd (stands e)) (λ (l : m.loops < r.loops). l) (eq-or-lt_of_le p.puts.from)
  where
    stands : m.loops ≡ r.loops → ⊥
    stands e =
        let n : between m.loops r.loops loops ≡ [] = ap (λ (k : ℕ). between m.loops k loops) (sym e) ∙ between_none m.loops loops in
        omega (arith, p.full (omega (arith, e, h)), p.puts.bytes_are, ap length n, room)

-- the same place, with nothing in the buffer
abbrev pub emptied : Progress → Progress
emptied m = record { loops = m.loops; vertices = m.vertices; corners = m.corners; bytes = 0 }

module _ {w : Inventory} {count : ℕ} where
  unfoldable pub going_begins : {a : Answer} {loops : ℕ} {r : Progress} {before after : List ℕ} → Listed w count → Begins a loops r before after → Going w count r
  unfolding flatten
  going_begins l b =
      record {
        listed = l;
        told = record {
          vertices_are = b.no_vertices ∙ sym (ap (λ (k : ℕ). length (flatten (map (λ (s : Shown). s.ring) (take k l.loops)))) b.no_loops);
          corners_are = b.no_corners ∙ sym (ap (λ (k : ℕ). length (flatten (map (λ (s : Shown). s.patch) (take k l.loops)))) b.no_loops);
        };
        upto = omega (arith, b.no_loops);
      }

  pub going_emptied : {m : Progress} → Going w count m → Going w count (emptied m)
  going_emptied g = record { listed = g.listed; told = record { vertices_are = g.told.vertices_are; corners_are = g.told.corners_are }; upto = g.upto }

  module _ {most : ℕ} {m r : Progress} {before after : List ℕ} (g : Going w count m) (f : FillsOn most w count m r before after) where
    pub going_on : Going w count r
    going_on = record { listed = g.listed; told = (f.fills g).puts.tells; upto = omega (arith, (f.fills g).puts.upto, g.listed.many) }

    pub going_within : r.bytes ≤ length before
    going_within = (f.fills g).puts.within

    pub going_from : m.loops ≤ r.loops
    going_from = (f.fills g).puts.from

    pub going_further : m.loops < count → m.bytes + most ≤ length before → m.loops < r.loops
    going_further h = goes_on (f.fills g) (omega (arith, h, g.listed.many))

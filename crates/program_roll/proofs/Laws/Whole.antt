-- A whole listing: there is room for all its loops where there is room for every listing, so all are told.
use mathlib.Core.Path.{◌≡◌, refl, ap, ap₂, ◌∙◌}
use mathlib.Core.Bool.{Bool, true, false}
use mathlib.Core.List.{List, ◌++◌, map, flatten}
use Prim.Native.Nat.{ℕ, zero, suc, ◌+◌, ◌*◌, ◌<◌, ◌≤◌}
use native.Mathlib.Nat.{le_antisymm}
use native.Mathlib.Numerals.{add-one}
use native.Mathlib.Omega.{arith}
use lib.Dec.{leb}
use lib.ListN.{length, take, get_or, length-append}
use lib.Seq.{take_all}
use borrow.Author.Tests.{leb-true, leb-false}
use Rattle.base_answers.specs.declared.Answer.{Answer}
use Rattle.surface_rules.specs.Buffers.{over, laid}
use Rattle.surface_rules.proofs.Laws.Laid.{laid_over}
use Rattle.program_lines.specs.declared.Progress.{Progress}
use Rattle.program_lines.specs.Listing.{Shown, loop_lines}
use Rattle.program_lines.specs.Workings.Telling.{Inventory, nothing, NextRoom}
use Rattle.program_lines.proofs.Laws.Answering.{line_most}
use Rattle.program_lines.proofs.Laws.Nexts.{Typed, next_width}
use Rattle.program_lines.proofs.Laws.Parts.{part_within, part_next}
use Rattle.program_lines.proofs.Laws.Widths.{widest, width_share}
use Rattle.program_roll.specs.declared.TheConstants.{HEAD, LISTING}
use Rattle.program_roll.specs.Sections.{head, between}
use Rattle.program_roll.specs.Workings.Listed.{Listed}
use Rattle.program_roll.specs.Workings.Roll.{Begins, Fills, FillsOn, Few, whole, PutsAll}
use Rattle.program_roll.proofs.Laws.Between.{between_none, between_more}
use Rattle.program_roll.proofs.Laws.Going.{going_begins}

-- how many bytes the code says that the lines before the loops have at most, and that every listing has room in
abbrev pub head_most : ℕ
head_most = HEAD

abbrev pub listing_most : ℕ
listing_most = LISTING

-- the vertices of the first loops
abbrev vertices : ℕ → List Shown → ℕ
vertices n loops = length (flatten (map (λ (s : Shown). s.ring) (take n loops)))

module _ {w : Inventory} {count : ℕ} (l : Listed w count) (t : Typed w) where
  one_width : (n : ℕ) → n < length l.loops → length (loop_lines (get_or l.loops n nothing)) ≤ line_most + 30 * length (get_or l.loops n nothing).ring
  one_width n h =
      let corners = length (flatten (map (λ (s : Shown). s.patch) (take n l.loops))) in
      let m : Progress = record { loops = n; vertices = vertices n l.loops; corners = corners; bytes = 0 } in
      let room : NextRoom w m = record { loops = l.loops; lying = l.lying; told = record { vertices_are = refl; corners_are = refl }; more = h; fits = l.fits n h } in
      omega (arith, next_width room t, width_share (get_or l.loops n nothing) (l.fits n h))

  first_width : (n : ℕ) → n ≤ length l.loops → length (between 0 n l.loops) ≤ line_most * n + 30 * vertices n l.loops
  first_width zero h = omega (arith, ap length (between_none 0 l.loops))
  first_width (suc n) h =
      let s = get_or l.loops n nothing in
      let lines : length (between 0 (n + 1) l.loops) ≡ length (between 0 n l.loops) + length (loop_lines s) = ap length (between_more 0 n l.loops (omega arith) h) ∙ length-append (between 0 n l.loops) (loop_lines s) in
      let ring = part_next (λ (s : Shown). s.ring) nothing l.loops n h in
      let all : length (between 0 (n + 1) l.loops) ≤ line_most * (n + 1) + 30 * vertices (n + 1) l.loops = omega (arith, first_width n (omega (arith, h)), one_width n h, lines, ring) in
      rw (add-one n) at all

  -- as long as a loop is left to tell, the lines so far leave room for it
  pub first_few : Few w.rings w.patches count → (n : ℕ) → n < length l.loops → head_most + length (between 0 n l.loops) + widest ≤ listing_most
  first_few few n h =
      omega (
        arith,
        first_width n (omega (arith, h)),
        l.many,
        few.few_loops,
        few.few_vertices,
        part_within (λ (s : Shown). s.ring) nothing l.loops n h,
        ap length l.lying.rings_are,
      )

-- what lies in the buffer, from its start
module _ {most count : ℕ} {a : Answer} {loops : List Shown} {m r : Progress} {before one two : List ℕ} (p : Begins a count m before one) (q : Fills most loops m r one two) where
  pub first_put : two ≡ over (head a count ++ between 0 r.loops loops) before
  first_put =
      q.puts.put
      ∙ ap₂ (λ (k : ℕ) (l : List ℕ). laid m.bytes (between k r.loops loops) l) p.no_loops p.put
      ∙ laid_over (head a count) (between 0 r.loops loops) before m.bytes p.bytes_are

  pub first_bytes : r.bytes ≡ length (head a count ++ between 0 r.loops loops)
  first_bytes = omega (arith, q.puts.bytes_are, p.bytes_are, length-append (head a count) (between 0 r.loops loops), ap (λ (k : ℕ). length (between k r.loops loops)) p.no_loops)

module _ {w : Inventory} {count : ℕ} {a : Answer} {m r : Progress} {before one two : List ℕ} (t : Typed w) (few : Few w.rings w.patches count)
    (p : Begins a count m before one) (small : m.bytes ≤ head_most) (room : listing_most ≤ length one) (f : FillsOn widest w count m r one two) where
  module _ (l : Listed w count) where
    filled : Fills widest l.loops m r one two
    unfolding going_begins
    filled = f.fills (going_begins l p)

    all_told : r.loops ≡ length l.loops
    all_told = go (leb (length l.loops) r.loops) refl
      where
        go : (b : Bool) → leb (length l.loops) r.loops ≡ b → r.loops ≡ length l.loops
        go true e = le_antisymm filled.puts.upto (leb-true (length l.loops) r.loops e)
        go false e =
            let h = leb-false (length l.loops) r.loops e in
            absurd
            (omega (arith, filled.full h, filled.puts.bytes_are, ap (λ (k : ℕ). length (between k r.loops l.loops)) p.no_loops, first_few l t few r.loops h, small, room))

    all_lines : head a count ++ between 0 r.loops l.loops ≡ whole a count l.loops
    all_lines =
        ap (λ (k : ℕ). head a count ++ between 0 k l.loops) all_told
        ∙ ap (λ (k : List Shown). head a count ++ flatten (map loop_lines k)) (take_all (length l.loops) l.loops (omega arith))

  pub all_put : PutsAll w a count r.bytes before two
  all_put = record {
    put = λ l. first_put p (filled l) ∙ ap (λ (x : List ℕ). over x before) (all_lines l);
    bytes_are = λ l. first_bytes p (filled l) ∙ ap length (all_lines l);
  }

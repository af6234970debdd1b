-- The next loop, as it stands in the buffers: where its parts lie, that its lines are not too wide, and what is told after it.
use mathlib.Core.Path.{◌≡◌, refl, sym, ap, ◌∙◌}
use mathlib.Core.Bool.{cond}
use mathlib.Core.List.{List, map, flatten}
use Prim.Native.Nat.{ℕ, ◌+◌, ◌-◌, ◌*◌, ◌<◌, ◌≤◌}
use native.Mathlib.Omega.{arith}
use lib.Dec.{eqb}
use lib.ListN.{length, take, drop, get_or}
use mir.Val as val
use mir.Syntax.{w16}
use Rattle.base_limits.specs.Limits as limits
use Rattle.base_limits.specs.States as stated
use Rattle.surface_rules.specs.Buffers.{laid}
use Rattle.patch_records.specs.declared.Record.{Record}
use Rattle.patch_records.specs.Records.{record_in}
use Rattle.program_lines.specs.declared.Progress.{Progress}
use Rattle.program_lines.specs.Lines.{PutAt}
use Rattle.program_lines.specs.Listing.{Shown, loop_lines}
use Rattle.program_lines.specs.Workings.Telling.{Inventory, shown, nothing, next, NextRoom, Tells, TellsNext}
use Rattle.program_lines.proofs.Laws.Parts.{part_is, part_within, part_next}
use Rattle.program_lines.proofs.Laws.Records.{records_length, record_is}
use Rattle.program_lines.proofs.Laws.Widths.{widest, short_part, width, width_most, loop_wide}

-- every vertex and every corner in the buffers is one of its type
pub record Typed (w : Inventory) : Type 0 where
  pub rings_short : (i : ℕ) → val.Fits w16 (get_or w.rings i 0)
  pub patches_short : (i : ℕ) → val.Fits w16 (get_or w.patches i 0)

-- the record of the next loop
abbrev pub kept_in : Inventory → Progress → Record
kept_in w m = record_in w.records m.loops

-- how many corners the patch of a loop has
abbrev pub share : Record → ℕ
share r = cond (eqb r.state stated.patched) (3 * (r.length - 2)) 0

-- what the code hands on, a record and a patch of k corners among it
abbrev pub handed : Inventory → Progress → Record → ℕ → Shown
handed w m r k =
    shown (take (m.vertices + r.length - m.vertices) (drop m.vertices w.rings)) r (take (m.corners + k - m.corners) (drop m.corners w.patches))

-- what is told after it
abbrev pub after : Progress → Record → ℕ → ℕ → Progress
after m r k b = record { loops = m.loops + 1; vertices = m.vertices + r.length; corners = m.corners + k; bytes = b }

-- where the next loop stands, of which that is the record
pub record NextPlace (w : Inventory) (m : Progress) (r : Record) : Type 0 where
  pub within : m.loops < length w.records
  pub three : 3 ≤ r.length
  pub few : r.length ≤ limits.corners
  pub ring_in : m.vertices + r.length ≤ length w.rings

module _ {w : Inventory} {m : Progress} (room : NextRoom w m) where
  abbrev here : Shown
  here = next room.loops m

  -- so many vertices or corners lie behind those of the loops before it
  module _ (f : Shown → List ℕ) {l : List ℕ} (e : l ≡ flatten (map f room.loops)) {n k : ℕ}
      (p : n ≡ length (flatten (map f (take m.loops room.loops)))) (q : k ≡ length (f here)) where
    part_in : n + k ≤ length l
    part_in = omega (arith, p, q, ap length e, part_within f nothing room.loops m.loops room.more)

    part_there : take k (drop n l) ≡ f here
    part_there = rw (e, p, q) (part_is f nothing room.loops m.loops room.more)

    part_ends : n + k ≡ length (flatten (map f (take (m.loops + 1) room.loops)))
    part_ends = omega (arith, p, q, part_next f nothing room.loops m.loops room.more)

  ring_there : {n : ℕ} → n ≡ length here.ring → take n (drop m.vertices w.rings) ≡ here.ring
  ring_there = part_there (λ (s : Shown). s.ring) room.lying.rings_are room.told.vertices_are

  patch_there : {k : ℕ} → k ≡ length here.patch → take k (drop m.corners w.patches) ≡ here.patch
  patch_there = part_there (λ (s : Shown). s.patch) room.lying.patches_are room.told.corners_are

  pub next_width : Typed w → length (loop_lines here) ≤ width here
  next_width t =
      let short = rw (ring_there refl) at (short_part m.vertices (length here.ring) w.rings t.rings_short) in
      let small = rw (patch_there refl) at (short_part m.corners (length here.patch) w.patches t.patches_short) in
      loop_wide here room.fits short small

  module _ {r : Record} (d : r ≡ kept_in w m) where
    kept_is : r ≡ here.kept
    kept_is =
        d
        ∙ ap (λ (l : List ℕ). record_in l m.loops) room.lying.records_are
        ∙ record_is (λ (s : Shown). s.kept) nothing room.loops m.loops room.more

    length_is : r.length ≡ length here.ring
    length_is = ap (λ (k : Record). k.length) kept_is ∙ room.fits.as_long

    pub next_place : NextPlace w m r
    next_place = record {
      within = omega (arith, room.more, ap length room.lying.records_are, records_length (λ (s : Shown). s.kept) nothing room.loops);
      three = omega (arith, length_is, room.fits.three);
      few = omega (arith, length_is, room.fits.few);
      ring_in = part_in (λ (s : Shown). s.ring) room.lying.rings_are room.told.vertices_are length_is;
    }

    module _ {k : ℕ} (e : k ≡ share r) where
      share_is : k ≡ length here.patch
      share_is = e ∙ rw (length_is, kept_is) (sym room.fits.share)

      pub patch_in : m.corners + k ≤ length w.patches
      patch_in = part_in (λ (s : Shown). s.patch) room.lying.patches_are room.told.corners_are share_is

      -- what is handed on is the next loop
      handed_is : handed w m r k ≡ here
      handed_is =
          let x : m.vertices + r.length - m.vertices ≡ r.length = omega arith in
          let y : m.corners + k - m.corners ≡ k = omega arith in
          rw (x, y, ring_there length_is, patch_there share_is, kept_is)

      pub next_wide : Typed w → length (loop_lines (handed w m r k)) ≤ widest
      next_wide t = omega (arith, next_width t, width_most here room.fits, ap (λ (s : Shown). length (loop_lines s)) handed_is)

      tells_on : (b : ℕ) (before out : List ℕ) → PutAt m.bytes (loop_lines (handed w m r k)) before b out → Tells room.loops m (after m r k b) before out
      tells_on b before out q = record {
        put = q.put ∙ ap (λ (s : Shown). laid m.bytes (loop_lines s) before) handed_is;
        bytes_are = q.behind ∙ ap (λ (s : Shown). m.bytes + length (loop_lines s)) handed_is;
        one_more = refl;
        tells = record {
          vertices_are = part_ends (λ (s : Shown). s.ring) room.lying.rings_are room.told.vertices_are length_is;
          corners_are = part_ends (λ (s : Shown). s.patch) room.lying.patches_are room.told.corners_are share_is;
        };
      }

-- once its lines were put, it is told
pub next_tells : {w : Inventory} {m : Progress} {r : Record} {k b : ℕ} {before out : List ℕ} → r ≡ kept_in w m → k ≡ share r
    → PutAt m.bytes (loop_lines (handed w m r k)) before b out → TellsNext w m (after m r k b) before out
next_tells {b = b} {before = before} {out = out} d e q = record { tells = λ room. tells_on room d e b before out q }

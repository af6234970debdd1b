-- The lines of one loop: the line `loop=`, the ring, and the patch.
use mathlib.Core.Path.{refl}
use mathlib.Core.List.{List, ◌++◌}
use Prim.Native.Nat.{ℕ, ◌+◌, ◌≤◌}
use lib.ListN.{length}
use Rattle.text_digits.proofs.Laws.Laying.{Laying, laying_begins, laying_room, laying_more, laying_last, laying_left, laying_ends}
use Rattle.patch_records.specs.declared.Record.{Record}
use Rattle.program_lines.specs.Lines.{line, loop=, ring=, PutAt}
use Rattle.program_lines.specs.Listing.{told, loop_lines, patch_lines}
use Rattle.program_lines.specs.Workings.Telling.{shown}

module _ (ring : List ℕ) (kept : Record) (patch out : List ℕ) (at : ℕ) (room : at + length (loop_lines (shown ring kept patch)) ≤ length out) where
  begins : Laying (loop_lines (shown ring kept patch)) at out (line loop= (told kept) ++ (line ring= ring ++ patch_lines patch)) at out
  unfolding loop_lines
  begins = laying_begins (loop_lines (shown ring kept patch)) out at room

  pub counts_room : at + length (line loop= (told kept)) ≤ length out
  counts_room = laying_room begins (line loop= (told kept)) (line ring= ring ++ patch_lines patch) refl

  module _ {i : ℕ} {one : List ℕ} (p : PutAt at (line loop= (told kept)) out i one) where
    counted : Laying (loop_lines (shown ring kept patch)) at out (line ring= ring ++ patch_lines patch) i one
    counted = laying_more begins (line loop= (told kept)) (line ring= ring ++ patch_lines patch) refl p.put p.behind

    pub ring_room : i + length (line ring= ring) ≤ length one
    ring_room = laying_room counted (line ring= ring) (patch_lines patch) refl

    module _ {j : ℕ} {two : List ℕ} (s : PutAt i (line ring= ring) one j two) where
      ringed : Laying (loop_lines (shown ring kept patch)) at out (patch_lines patch) j two
      ringed = laying_more counted (line ring= ring) (patch_lines patch) refl s.put s.behind

      pub patch_fits : j + length (patch_lines patch) ≤ length two
      patch_fits = (laying_left ringed).room

      pub patch_last : {k : ℕ} {three : List ℕ} → PutAt j (patch_lines patch) two k three → PutAt at (loop_lines (shown ring kept patch)) out k three
      patch_last u = let e = laying_ends (laying_last ringed u.put u.behind) refl in record { put = e.0; behind = e.1 }

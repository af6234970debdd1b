-- The record of a loop. "The record kept for a loop must carry its first half-edge, its piece number (from 0, in the order of their smallest
-- triangles) and its run, beside length, state and weight": seven numbers with a count, which is 0.
use Rattle.std.specs.Prelude.{cond, ℕ, ◌+◌, ◌*◌, ◌/◌, ltb, ℤ, length, get_or}
use mathlib.Core.List.{List, [], ◌∷◌, map, flatten}
use Rattle.base_limits.specs.Limits as limits
use Rattle.loop_rules.specs.Loops.{loops, ring}
use Rattle.loop_cut.specs.Listing.{first_of}
use Rattle.fill_fates.specs.Fates.{Fate, rim, state_of, weighs}
use Rattle.rim_pieces.specs.Computed.{numbers_below}
use Rattle.rim_rules.specs.Rims.{loop_at, piece_at, run_at}
use Rattle.patch_records.specs.declared.Record.{Record}

-- its numbers, in their order
abbrev pub numbers : Record → List ℕ
numbers r = r.length ∷ r.state ∷ r.weight ∷ r.count ∷ r.first ∷ r.piece ∷ r.run ∷ []

-- what became of loop l
abbrev pub fate_at : List Fate → ℕ → Fate
fate_at fates l = get_or fates l rim

-- the record of loop l: "its first half-edge" is the one that it is listed from
abbrev pub record_of : List ℤ → List ℕ → List Fate → ℕ → Record
record_of grid corners fates l = record {
  length = length (loop_at corners l);
  state = state_of (fate_at fates l);
  weight = weighs grid (ring corners (loop_at corners l)) (fate_at fates l);
  count = 0;
  first = first_of (loop_at corners l);
  piece = piece_at corners l;
  run = run_at grid corners l;
}

-- the numbers of all records, in listed order
unfoldable pub records_of : List ℤ → List ℕ → List Fate → List ℕ
records_of grid corners fates = flatten (map (λ (l : ℕ). numbers (record_of grid corners fates l)) (numbers_below (length (loops corners))))

-- record l out of a buffer, or seven times 0 where it has none
abbrev pub none : Record
none = record { length = 0; state = 0; weight = 0; count = 0; first = 0; piece = 0; run = 0 }

abbrev pub record_from : List ℕ → ℕ → Record
record_from buffer i = record {
  length = get_or buffer i 0;
  state = get_or buffer (i + 1) 0;
  weight = get_or buffer (i + 2) 0;
  count = get_or buffer (i + 3) 0;
  first = get_or buffer (i + 4) 0;
  piece = get_or buffer (i + 5) 0;
  run = get_or buffer (i + 6) 0;
}

abbrev pub record_in : List ℕ → ℕ → Record
record_in buffer l = cond (ltb l (length buffer / limits.record_numbers)) (record_from buffer (limits.record_numbers * l)) none

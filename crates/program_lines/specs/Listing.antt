-- The listing: "prints `answer=number,place`; if the number is 0, then `loops=`, and for each loop `loop=length,state,weight`, `ring=` its
-- vertices, and one `patch=` line for each triangle"; and "the listing's `loop=` line gains the three at its end in that order", first half-edge,
-- piece and run.
use mathlib.Core.List.{List, [], ◌∷◌, ◌++◌, map, flatten}
use Rattle.std.specs.Prelude.{ℕ, length}
use Rattle.base_answers.specs.declared.Answer.TheVariants.{Done}
use Rattle.surface_rules.specs.Threes.{Three, threes}
use Rattle.patch_records.specs.declared.Record.{Record}
use Rattle.program_lines.specs.Lines.{line, answer_line, loops=, loop=, ring=, patch=}

-- what is told of a loop: the vertices of its ring, its record, and the corners of its patch
pub record Shown : Type 0 where
  pub ring : List ℕ
  pub kept : Record
  pub patch : List ℕ

abbrev pub patch_line : Three → List ℕ
patch_line t = line patch= (t.first ∷ t.second ∷ t.third ∷ [])

unfoldable pub patch_lines : List ℕ → List ℕ
patch_lines patch = flatten (map patch_line (threes patch))

-- what the line `loop=` tells of a record: all but the count
abbrev pub told : Record → List ℕ
told r = r.length ∷ r.state ∷ r.weight ∷ r.first ∷ r.piece ∷ r.run ∷ []

unfoldable pub loop_lines : Shown → List ℕ
loop_lines s = line loop= (told s.kept) ++ (line ring= s.ring ++ patch_lines s.patch)

-- the listing of a sheet that is not refused
unfoldable pub listing : List Shown → List ℕ
listing loops = answer_line Done ++ (line loops= (length loops ∷ []) ++ flatten (map loop_lines loops))

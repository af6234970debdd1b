-- What writing a file of facets answers and leaves: "Write the surface with the laid patches after it as binary STL ... Refusals: 1, 2 (the
-- patch corner count may reach 9,216), 3 for a file buffer too short for this file (number 1), 4 (counted on through the patches), in that
-- order." The answer counts the bytes; what lies past them stays.
use Rattle.std.specs.Prelude.{cond, List, [], ◌∷◌, ◌++◌, ℕ, ◌/◌, length}
use Rattle.base_answers.specs.Numbers.{refusing}
use Rattle.base_answers.specs.declared.Answer.{Answer}
use Rattle.base_answers.specs.Answers.{Corners}
use Rattle.base_answers.specs.declared.Answer.TheVariants.{Done}
use Rattle.base_types.specs.Counts.{threes}
use Rattle.base_limits.specs.Limits as limits
use Rattle.surface_rules.specs.Buffers.{over}
use Rattle.surface_rules.specs.Refusals.{then_check, count_refusal, buffer_refusal, unnamed_refusal}
use Rattle.text_write.specs.Outcome.{WriteOutcome}
use Rattle.stl_file.specs.Bytes.{file_of}

-- the surface's triangles "with the laid patches after it", as one list of corners
abbrev pub after : List ℕ → List ℕ → List ℕ
after corners patches = corners ++ patches

-- 1 and 2, by the counts of words, corners and patch corners
unfoldable pub counts_refusal : ℕ → ℕ → ℕ → Answer
counts_refusal words corners patches = then_check (count_refusal words corners) (cond (threes limits.set_corners patches) Done Corners)

unfoldable pub write_refusal : List ℕ → List ℕ → List ℕ → List ℕ → Answer
write_refusal words corners patches buffer =
    then_check (counts_refusal (length words) (length corners) (length patches))
    (then_check (buffer_refusal (length buffer ∷ []) (length (file_of words (after corners patches)) ∷ []))
    (unnamed_refusal (after corners patches) (length words / 3)))

unfoldable pub writes_file : List ℕ → List ℕ → List ℕ → List ℕ → WriteOutcome
writes_file words corners patches buffer =
    let a = write_refusal words corners patches buffer in
    let f = file_of words (after corners patches) in
    cond (refusing a) (record { answer = a; count = 0; bytes = buffer })
    (record { answer = Done; count = length f; bytes = over f buffer })

-- What reading a file of facets answers and leaves: "The outcome is a surface as if it had come by sheet text", one without a line of a
-- pitch.
use Rattle.std.specs.Prelude.{cond, List, [], ◌∷◌, ℕ, ◌*◌, leb, length}
use Rattle.base_answers.specs.Numbers.{refusing}
use Rattle.base_answers.specs.declared.Answer.{Answer}
use Rattle.base_answers.specs.Answers.{Words, Corners, Misfit}
use Rattle.base_answers.specs.declared.Answer.TheVariants.{Done}
use Rattle.base_limits.specs.Limits as limits
use Rattle.surface_rules.specs.Buffers.{over}
use Rattle.surface_rules.specs.Refusals.{then_check, buffer_refusal}
use Rattle.surface_rules.specs.Threes.{Three, three, flat}
use Rattle.text_read.specs.Outcome.{ReadOutcome, not_read}
use Rattle.stl_facets.specs.Facets.{facets}
use Rattle.stl_rules.specs.FirstUse.{first_uses, numbers}
use Rattle.stl_rules.specs.File.{fits, corners_to, agree}

abbrev pub none : Three
none = three 0 0 0

-- the file's corners, its distinct points, and the number of each corner's point
abbrev pub all_corners : List ℕ → List Three
all_corners b = corners_to b (3 * facets b)

unfoldable pub points_in : List ℕ → List Three
points_in b = first_uses agree none (all_corners b)

unfoldable pub corners_in : List ℕ → List ℕ
corners_in b = numbers agree none (all_corners b)

-- by a file's length and count: "16 ... comes first of all; then 2 for more than 1,024 facets"
unfoldable pub size_refusal : ℕ → ℕ → Answer
size_refusal long count = then_check (cond (fits long count) Done Misfit) (cond (leb count limits.triangles) Done Corners)

-- by the file alone, whatever is lent: then "1 for more than 1,024 distinct points"
unfoldable pub file_refusal : List ℕ → Answer
file_refusal b = then_check (size_refusal (length b) (facets b)) (cond (leb (length (points_in b)) limits.points) Done Words)

-- "3 for short buffers (words 1, corners 2)"
unfoldable pub read_refusal : List ℕ → List ℕ → List ℕ → Answer
read_refusal b words corners =
    then_check (file_refusal b) (buffer_refusal (length words ∷ length corners ∷ []) (3 * length (points_in b) ∷ 3 * facets b ∷ []))

unfoldable pub reads_file : List ℕ → List ℕ → List ℕ → ReadOutcome
reads_file b words corners =
    let a = read_refusal b words corners in
    cond (refusing a) (not_read a words corners)
    (record { answer = Done; pitch = 1; word_count = 3 * length (points_in b); corner_count = 3 * facets b; words = over (flat (points_in b)) words; corners = over (corners_in b) corners })

-- What reading a written file back gives: "surface and patches as one surface, points renumbered by first use, provided no two points have
-- the same three words after that change. Unused points are lost."
use Rattle.std.specs.Prelude.{◌≡◌, true, List, map, ℕ, ◌*◌, ◌/◌, ◌<◌, eqb, length}
use Rattle.surface_rules.specs.Buffers.{over}
use Rattle.surface_rules.specs.Threes.{Three, flat}
use Rattle.base_answers.specs.declared.Answer.TheVariants.{Done}
use Rattle.text_read.specs.Outcome.{ReadOutcome}
use Rattle.stl_rules.specs.File.{agree}
use Rattle.stl_rules.specs.FirstUse.{first_uses, numbers}
use Rattle.stl_file.specs.Bytes.{point_of}

-- "no two points have the same three words after that change"
abbrev pub NoTwoAlike : List ℕ → Type 0
NoTwoAlike words = (u v : ℕ) → u < length words / 3 → v < length words / 3 → agree (point_of words u) (point_of words v) ≡ true → u ≡ v

-- the numbers of the points that triangles use, "by first use"; a point that none uses is not among them
abbrev pub used : List ℕ → List ℕ
used corners = first_uses eqb 0 corners

-- the points of these numbers, in that order, and the corners by their new numbers
abbrev pub points_again : List ℕ → List ℕ → List Three
points_again words corners = map (point_of words) (used corners)

abbrev pub corners_again : List ℕ → List ℕ
corners_again corners = numbers eqb 0 corners

-- what is read into lent words and corners
abbrev pub read_again : List ℕ → List ℕ → List ℕ → List ℕ → ReadOutcome
read_again words corners ws cs = record {
  answer = Done;
  pitch = 1;
  word_count = 3 * length (points_again words corners);
  corner_count = length corners;
  words = over (flat (points_again words corners)) ws;
  corners = over (corners_again corners) cs;
}

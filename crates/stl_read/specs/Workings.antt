-- Definitions that serve the code: contracts of inner functions name them, and no promise of an entry point does.
use Rattle.std.specs.Prelude.{◌≡◌, false, cond, List, [], ◌∷◌, ℕ, ◌<◌, length}
use Rattle.base_answers.specs.Numbers.{refusing}
use Rattle.base_answers.specs.declared.Answer.TheVariants.{Done}
use Rattle.base_limits.specs.Limits as limits
use Rattle.surface_rules.specs.Buffers.{over}
use Rattle.surface_rules.specs.Refusals.{buffer_refusal}
use Rattle.text_read.specs.Outcome.{ReadOutcome, not_read}
use Rattle.stl_facets.specs.Facets.{facets}
use Rattle.stl_rules.specs.Reading.{points_in, size_refusal}
use Rattle.stl_gather.specs.Gathering.{GatherRoom}

-- a file that is refused with neither 16 nor 2, and its count
pub record Fitting (file : List ℕ) (n : ℕ) : Type 0 where
  pub fits : refusing (size_refusal (length file) (facets file)) ≡ false
  pub count : n ≡ facets file

-- scratch for its points; where there are more of them than links, they are more than a surface has
pub record ReadRoom (file ws cs heads links : List ℕ) (n : ℕ) : Type 0 where
  pub fitting : Fitting file n
  pub room : GatherRoom file ws cs heads links
  pub many : length links < length (points_in file) → limits.points < length (points_in file)

-- the words ws and corners cs go into the lent buffers, if these are long enough
unfoldable pub handed : List ℕ → List ℕ → List ℕ → List ℕ → ReadOutcome
handed ws cs words corners =
    let a = buffer_refusal (length words ∷ length corners ∷ []) (length ws ∷ length cs ∷ []) in
    cond (refusing a) (not_read a words corners)
    (record { answer = Done; pitch = 1; word_count = length ws; corner_count = length cs; words = over ws words; corners = over cs corners })

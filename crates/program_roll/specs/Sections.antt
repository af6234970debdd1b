-- The sections in which a listing is written, one after the other: "prints `answer=number,place`; if the number is 0, then `loops=`, and for
-- each loop ...".
use Rattle.std.specs.Prelude.{cond, ℕ, ◌≤◌, length, take, drop}
use mathlib.Core.List.{List, [], ◌∷◌, ◌++◌, map, flatten}
use Rattle.base_answers.specs.Numbers.{refusing}
use Rattle.base_answers.specs.declared.Answer.{Answer}
use Rattle.base_answers.specs.declared.Answer.TheVariants.{Done}
use Rattle.program_lines.specs.Lines.{line, answer_line, loops=}
use Rattle.program_lines.specs.Listing.{Shown, loop_lines}

-- the lines before the first loop
abbrev pub head : Answer → ℕ → List ℕ
head a loops = cond (refusing a) (answer_line a) (answer_line a ++ line loops= (loops ∷ []))

-- the lines of the loops from k on, up to n
abbrev pub between : ℕ → ℕ → List Shown → List ℕ
between k n loops = flatten (map loop_lines (drop k (take n loops)))

-- the sections so far, up to loop n: the first has the lines before the loops too, and each other goes on where the one before it ended
pub data Sections (loops : List Shown) : ℕ → List (List ℕ) → Type 0 where
  first : (n : ℕ) → Sections loops n ((head Done (length loops) ++ between 0 n loops) ∷ [])
  next : (k n : ℕ) (sections : List (List ℕ)) → k ≤ n → Sections loops k sections → Sections loops n (sections ++ (between k n loops ∷ []))

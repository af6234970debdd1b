-- The lines that the programs print: a key, and numbers joined by commas.
use Rattle.std.specs.Prelude.{◌≡◌, List, [], ◌∷◌, ◌++◌, ℕ, ◌+◌, length}
use Rattle.base_answers.specs.Numbers.{number_of, place_of}
use Rattle.base_answers.specs.declared.Answer.{Answer}
use Rattle.surface_rules.specs.Buffers.{laid}
use Rattle.text_digits.specs.Numeral.{decimal}
use Rattle.text_rules.specs.Text.{feed}
use Rattle.text_sheet.specs.Sheet.{comma}

-- numbers with a comma after each but the last, which the line feed ends
unfoldable pub joined : List ℕ → List ℕ
joined [] = []
joined (n ∷ []) = decimal n ++ (feed ∷ [])
joined (n ∷ m ∷ l) = decimal n ++ (comma ∷ joined (m ∷ l))

unfoldable pub line : List ℕ → List ℕ → List ℕ
line key numbers = key ++ joined numbers

-- `answer=`, `loops=`, `loop=`, `ring=`, `patch=`, `entries=` and `entry=`
abbrev pub answer= : List ℕ
answer= = 97 ∷ 110 ∷ 115 ∷ 119 ∷ 101 ∷ 114 ∷ 61 ∷ []

abbrev pub loops= : List ℕ
loops= = 108 ∷ 111 ∷ 111 ∷ 112 ∷ 115 ∷ 61 ∷ []

abbrev pub loop= : List ℕ
loop= = 108 ∷ 111 ∷ 111 ∷ 112 ∷ 61 ∷ []

abbrev pub ring= : List ℕ
ring= = 114 ∷ 105 ∷ 110 ∷ 103 ∷ 61 ∷ []

abbrev pub patch= : List ℕ
patch= = 112 ∷ 97 ∷ 116 ∷ 99 ∷ 104 ∷ 61 ∷ []

abbrev pub entries= : List ℕ
entries= = 101 ∷ 110 ∷ 116 ∷ 114 ∷ 105 ∷ 101 ∷ 115 ∷ 61 ∷ []

abbrev pub entry= : List ℕ
entry= = 101 ∷ 110 ∷ 116 ∷ 114 ∷ 121 ∷ 61 ∷ []

-- bytes were put into a buffer from a place on, and r is the place behind them
pub record PutAt (at : ℕ) (bytes before : List ℕ) (r : ℕ) (after : List ℕ) : Type 0 where
  pub put : after ≡ laid at bytes before
  pub behind : r ≡ at + length bytes

-- "`answer=number,place`"
abbrev pub answer_line : Answer → List ℕ
answer_line a = line answer= (number_of a ∷ place_of a ∷ [])

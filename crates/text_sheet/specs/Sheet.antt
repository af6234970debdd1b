-- The sheet text.
use Rattle.std.specs.Prelude.{◌≡◌, true, cond, List, [], ◌∷◌, ◌++◌, ℕ, ◌^◌, ◌<◌, eqb}
use Rattle.base_types.specs.Pitches.{is_pitch}
use Rattle.base_limits.specs.Limits as limits
use Rattle.surface_rules.specs.Threes.{Three, threes, flat}
use Rattle.text_digits.specs.Numeral.{hex, decimal}
use Rattle.text_rules.specs.Text.{Format, feed, count, Part, Both, both, parts, Under, under, headed}
use Rattle.text_rules.specs.Text as texts

-- each of the three has a property
pub record Every (P : ℕ → Type 0) (t : Three) : Type 0 where
  pub first_has : P t.first
  pub second_has : P t.second
  pub third_has : P t.third

-- "The three are joined by single commas, and a line has no other bytes."
abbrev pub comma : ℕ
comma = 44

unfoldable pub row : List ℕ → (ℕ → List ℕ) → Three → List ℕ
row key show t = key ++ (show t.first ++ (comma ∷ (show t.second ++ (comma ∷ (show t.third ++ (feed ∷ []))))))

-- `p=`, `t=`, `pitch=`, `points=` and `triangles=`
abbrev pub p= : List ℕ
p= = 112 ∷ 61 ∷ []

abbrev pub t= : List ℕ
t= = 116 ∷ 61 ∷ []

abbrev pub pitch= : List ℕ
pitch= = 112 ∷ 105 ∷ 116 ∷ 99 ∷ 104 ∷ 61 ∷ []

abbrev pub points= : List ℕ
points= = 112 ∷ 111 ∷ 105 ∷ 110 ∷ 116 ∷ 115 ∷ 61 ∷ []

abbrev pub triangles= : List ℕ
triangles= = 116 ∷ 114 ∷ 105 ∷ 97 ∷ 110 ∷ 103 ∷ 108 ∷ 101 ∷ 115 ∷ 61 ∷ []

-- "`points=N`; N lines `p=` with three words of eight lower-case hexadecimal digits"
abbrev pub points : Part Three
points = record { key = points=; most = limits.points; show = row p= hex; Valid = Every (λ w. w < 2 ^ 32) }

-- "`triangles=T`; T lines `t=` with three corners"
abbrev pub triangles : Part Three
triangles = record { key = triangles=; most = limits.triangles; show = row t= decimal; Valid = Every (λ c. c < limits.points) }

-- "The sheet text gets a first line `pitch=`; a text that begins with `points=` is pitch 1, and pitch 1 is written without the line"
unfoldable pub head : ℕ → List (List ℕ)
head pitch = cond (eqb pitch 1) [] (count pitch= pitch ∷ [])

-- what a sheet's text says: a pitch, points and triangles
abbrev pub Sheet : Type 0
Sheet = Under ℕ (Both Three Three)

abbrev pub sheet_of : ℕ → List Three → List Three → Sheet
sheet_of pitch ps ts = under pitch (both ps ts)

abbrev pub sheet : Format Sheet
sheet = headed (λ pitch. is_pitch pitch ≡ true) head (parts points triangles)

-- its pitch, its words and its corners
abbrev pub pitch_said : Sheet → ℕ
pitch_said s = s.head

abbrev pub words_said : Sheet → List ℕ
words_said s = flat s.body.firsts

abbrev pub corners_said : Sheet → List ℕ
corners_said s = flat s.body.seconds

-- the text of the sheet with this pitch and these words and corners
abbrev pub text : ℕ → List ℕ → List ℕ → List ℕ
text pitch words corners = texts.text sheet (sheet_of pitch (threes words) (threes corners))

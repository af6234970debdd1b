-- The text of a patch set.
use Rattle.std.specs.Prelude.{List, [], ◌∷◌, ◌++◌, ℕ, ◌<◌}
use Rattle.base_limits.specs.Limits as limits
use Rattle.surface_rules.specs.Threes.{Three}
use Rattle.text_digits.specs.Numeral.{byte_of}
use Rattle.text_rules.specs.Text.{Format, feed, Part, Both, parts}
use Rattle.text_sheet.specs.Sheet as sheet

-- `s=` and `states=`
abbrev pub s= : List ℕ
s= = 115 ∷ 61 ∷ []

abbrev pub states= : List ℕ
states= = 115 ∷ 116 ∷ 97 ∷ 116 ∷ 101 ∷ 115 ∷ 61 ∷ []

-- `s=` with one digit
unfoldable pub state : ℕ → List ℕ
state s = s= ++ (byte_of s ∷ feed ∷ [])

-- "`states=S`, S lines `s=` with one digit"
abbrev pub states : Part ℕ
states = record { key = states=; most = limits.states; show = state; Valid = λ s. s < 10 }

-- "`triangles=P`, P lines `t=`": those of a sheet, of which there may be more
abbrev pub triangles : Part Three
triangles = record { key = (sheet.triangles).key; most = limits.patches; show = (sheet.triangles).show; Valid = (sheet.triangles).Valid }

-- what a set's text says: states and triangles
abbrev pub set : Format (Both ℕ Three)
set = parts states triangles

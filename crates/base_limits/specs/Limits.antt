-- The limits that the types of `base_types` state, for the definitions of every crate above. No number stands here.
use Rattle.std.specs.Prelude.{ℕ}
use Rattle.base_types.specs.declared.TheConstants.Surface as surface_type
use Rattle.base_types.specs.declared.TheConstants.PatchSet as patch_set_type
use Rattle.base_types.specs.declared.TheConstants.Grid as grid_type
use Rattle.base_types.specs.declared.TheConstants.Loop as loop_type

-- how many points and triangles a surface has at most, and how many words and corners those have
abbrev pub points : ℕ
points = surface_type.POINTS

abbrev pub triangles : ℕ
triangles = surface_type.TRIANGLES

abbrev pub words : ℕ
words = surface_type.WORDS

abbrev pub corners : ℕ
corners = surface_type.CORNERS

-- how many states and triangles a patch set has at most, and how many corners those have
abbrev pub states : ℕ
states = patch_set_type.STATES

abbrev pub patches : ℕ
patches = patch_set_type.TRIANGLES

abbrev pub set_corners : ℕ
set_corners = patch_set_type.CORNERS

-- how far from 0 the grid reaches
abbrev pub greatest : ℕ
greatest = grid_type.GREATEST

-- how many edges a loop has at most that is not long
abbrev pub longest : ℕ
longest = loop_type.LONGEST

-- how many numbers a loop's record has
abbrev pub record_numbers : ℕ
record_numbers = loop_type.RECORD

-- how many bytes the longest sheet text has, and the longest text of a patch set
abbrev pub sheet_text : ℕ
sheet_text = surface_type.TEXT

abbrev pub set_text : ℕ
set_text = patch_set_type.TEXT

-- how many bytes the longest file of facets has
abbrev pub file : ℕ
file = surface_type.FILE

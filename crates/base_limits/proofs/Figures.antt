-- Figures of the scope that follow from the limits. They hold at these limits and at no others, so none can be moved unseen.
use Prim.Native.Nat.{◌+◌, ◌-◌, ◌*◌, ◌/◌}
use mathlib.Core.Path.{◌≡◌, refl}
use Rattle.base_limits.specs.States as state
use Rattle.base_limits.specs.Limits.{points, triangles, words, corners, states, patches, set_corners, greatest, longest, record_numbers, sheet_text, set_text, file}

-- three words a point and three corners a triangle
pub words_are : words ≡ 3 * points
words_are = refl

pub corners_are : corners ≡ 3 * triangles
corners_are = refl

-- A patch set has room for a state of each loop, and for a triangle for each open edge.
pub states_are : states ≡ triangles
states_are = refl

pub patches_are : patches ≡ corners
patches_are = refl

pub set_corners_are : set_corners ≡ 9 * triangles
set_corners_are = refl

-- The longest texts: two counts of four digits, 29 bytes a point or 4 a state, and 17 a triangle with corners of four digits; and before a
-- sheet's a pitch of two.
pub sheet_text_is : sheet_text ≡ 9 + (12 + 29 * points + (15 + 17 * triangles))
sheet_text_is = refl

pub set_text_is : set_text ≡ 12 + 4 * states + (15 + 17 * patches)
set_text_is = refl

pub longest_text : sheet_text ≡ 47140
longest_text = refl

pub longest_set : set_text ≡ 56347
longest_set = refl

-- The longest file of facets: a header and a count, and 50 bytes a triangle.
pub file_is : file ≡ 84 + 50 * triangles
file_is = refl

pub longest_file : file ≡ 51284
longest_file = refl

-- The greatest weight that is promised: three components, each the difference of two products of differences.
pub greatest_weight : 3 * (2 * (2 * greatest * (2 * greatest))) ≡ 25768230936
greatest_weight = refl

-- The pairs of positions in the longest loop that is patched.
pub pairs : longest * (longest - 1) / 2 ≡ 2016
pairs = refl

-- The numbers that all records of a surface take.
pub most_records : record_numbers * triangles ≡ 7168
most_records = refl

-- The numbers of the states.
pub patched_is : state.patched ≡ 1
patched_is = refl

pub long_is : state.long ≡ 2
long_is = refl

pub open_is : state.left_open ≡ 3
open_is = refl

pub rim_is : state.rim ≡ 4
rim_is = refl

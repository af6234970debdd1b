-- What stands at a place of a file of facets: a word of four bytes, the lowest first; the count; a corner of three floats; a facet of three corners.
use Rattle.std.specs.Prelude.{Bool, cond, Option, Some, None, List, [], ◌∷◌, ℕ, ◌+◌, ◌*◌, ◌^◌, eqb, leb, length, get_or, Float}
use Rattle.std.specs.Float.{binary32}
use Rattle.std.specs.Float.Ieee.{of_bits}
use Rattle.stl_facets.specs.declared.Corner.{Corner}
use Rattle.stl_facets.specs.declared.Facet.{Facet}

-- "80 header bytes, a little-endian 32-bit count, then 50 bytes a triangle: normal, three corners of three floats, a 16-bit attribute"
abbrev pub front : ℕ
front = 84

abbrev pub facet_bytes : ℕ
facet_bytes = 50

-- four bytes, the lowest first
unfoldable pub word_at : List ℕ → ℕ → ℕ
word_at b at = get_or b at 0 + 256 * get_or b (at + 1) 0 + 65536 * get_or b (at + 2) 0 + 16777216 * get_or b (at + 3) 0

-- the count, behind the header
abbrev pub facets : List ℕ → ℕ
facets b = word_at b 80

-- "negative zero read as zero"
unfoldable pub plain_zero : ℕ → ℕ
plain_zero w = cond (eqb w (2 ^ 31)) 0 w

abbrev pub plain_at : List ℕ → ℕ → ℕ
plain_at b at = plain_zero (word_at b at)

-- the floats whose bits are three words in a row
unfoldable pub corner_at : List ℕ → ℕ → Corner
corner_at b at = record { x = of_bits binary32 (plain_at b at); y = of_bits binary32 (plain_at b (at + 4)); z = of_bits binary32 (plain_at b (at + 8)) }

-- after the normal's twelve bytes
unfoldable pub facet_of : List ℕ → ℕ → Facet
facet_of b at = record { a = corner_at b (at + 12); b = corner_at b (at + 24); c = corner_at b (at + 36) }

-- the fifty bytes of a facet can begin at a place
abbrev pub holds_facet : List ℕ → ℕ → Bool
holds_facet b at = leb (at + facet_bytes) (length b)

-- "hands out one facet at a time": that at a place, or nothing at the end
unfoldable pub facet_at : List ℕ → ℕ → Option Facet
facet_at b at = cond (holds_facet b at) (Some (facet_of b at)) None

-- the place behind the facet at a place, or that place itself at the end
unfoldable pub behind : List ℕ → ℕ → ℕ
behind b at = cond (holds_facet b at) (at + facet_bytes) at

-- the nine floats of a facet, corner after corner
unfoldable pub floats_of : Facet → List Float
floats_of f = f.a.x ∷ f.a.y ∷ f.a.z ∷ f.b.x ∷ f.b.y ∷ f.b.z ∷ f.c.x ∷ f.c.y ∷ f.c.z ∷ []

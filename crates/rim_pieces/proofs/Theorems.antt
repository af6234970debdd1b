-- What the demands cite of pieces: to be joined is the least equivalence that has triangles with a shared edge together, the computed numbers are the numbers of the pieces, no other numbering is, so many numbers are given, and a loop lies in one piece.
use mathlib.Core.Path.{◌≡◌, refl}
use mathlib.Core.List.{List, [], ◌∷◌}
use Prim.Native.Nat.{ℕ, ◌/◌, ◌<◌}
use lib.ListN.{length, get_or}
use Rattle.surface_rules.specs.Smallest.{least}
use Rattle.surface_rules.specs.Edges.{Sound, following, goes, twin}
use Rattle.loop_rules.specs.Loops.{loops}
use Rattle.rim_pieces.specs.Pieces.{triangle_count, Shares, Joined, itself, onward, Numbered}
use Rattle.rim_pieces.specs.Computed.{smallest_by, numbers_below, unite, many, smallest_of, piece_of, piece_numbers, piece_count}
use Rattle.rim_pieces.specs.Workings.Flooding.{Numbers}
use Rattle.rim_pieces.proofs.Laws.Joining.{numbered_once}
use Rattle.rim_pieces.proofs.Laws.Uniting.{pieces_numbered, pieces_same, number_below, number_given, count_only}
use Rattle.rim_pieces.proofs.Laws.OnePiece.{loop_in_one_piece}

-- Whatever holds between triangles that share an edge, of each and itself, and is handed on, holds between joined ones.
pub joined_least : (corners : List ℕ) (R : ℕ → ℕ → Type 0) → ((t : ℕ) → R t t) → ((t u v : ℕ) → R t u → R u v → R t v)
    → ((t u : ℕ) → Shares corners t u → R t u) → (t u : ℕ) → Joined corners t u → R t u
joined_least corners R same on share t u itself = same t
joined_least corners R same on share t u (onward x y j s) = on t x y (joined_least corners R same on share t x j) (share x y s)

module _ (corners : List ℕ) (sound : Sound corners) where
  -- Two triangles have one number exactly if they are joined, and numbers go from 0 on in the order of the smallest triangles.
  pub numbered : Numbered corners (piece_numbers corners)
  numbered = pieces_numbered corners sound

  -- No other numbers are such.
  pub numbered_so : (pieces : List ℕ) → Numbered corners pieces → (t : ℕ) → t < triangle_count corners → get_or pieces t 0 ≡ get_or (piece_numbers corners) t 0
  numbered_so pieces q = numbered_once corners pieces (piece_numbers corners) q numbered

  -- Each triangle's number is below the count of the pieces,
  pub piece_below : (t : ℕ) → t < triangle_count corners → piece_of corners t < piece_count corners
  piece_below = number_below corners sound

  -- and each number below it is that of some triangle.
  pub piece_given : (n : ℕ) → n < piece_count corners → (t : ℕ) × (t < triangle_count corners) × (piece_of corners t ≡ n)
  piece_given = number_given corners sound

  -- Whoever numbers all pieces, and gives each number below a count and no other, counts them so.
  pub count_is : (count : ℕ) (pieces : List ℕ) → Numbers corners count pieces → count ≡ piece_count corners
  count_is = count_only corners sound

  -- Joined triangles have one number.
  pub joined_alike : (t u : ℕ) → Joined corners t u → piece_of corners t ≡ piece_of corners u
  joined_alike = pieces_same corners sound

  -- A loop lies in one piece.
  pub in_one_piece : (l i j : ℕ) → l < length (loops corners) → i < length (get_or (loops corners) l []) → j < length (get_or (loops corners) l [])
      → Joined corners (get_or (get_or (loops corners) l []) i 0 / 3) (get_or (get_or (loops corners) l []) j 0 / 3)
  in_one_piece l i j h = loop_in_one_piece corners sound l h i j

-- The bow tie is two pieces, which share a vertex; a frame of six triangles round a hole is one; a triangle before it is another.
bow_tie_lem : piece_numbers (0 ∷ 1 ∷ 2 ∷ 0 ∷ 3 ∷ 4 ∷ []) ≡ 0 ∷ 1 ∷ []
unfolding numbers_below piece_of many smallest_of smallest_by unite twin goes following least
bow_tie_lem = refl

frame : piece_numbers (6 ∷ 7 ∷ 8 ∷ 0 ∷ 1 ∷ 3 ∷ 1 ∷ 4 ∷ 3 ∷ 1 ∷ 2 ∷ 4 ∷ 2 ∷ 5 ∷ 4 ∷ 2 ∷ 0 ∷ 5 ∷ 0 ∷ 3 ∷ 5 ∷ []) ≡ 0 ∷ 1 ∷ 1 ∷ 1 ∷ 1 ∷ 1 ∷ 1 ∷ []
unfolding numbers_below piece_of many smallest_of smallest_by unite twin goes following least
frame = refl

-- Loops chained by their pieces: for each piece its rim and the first of its other loops, and for each of those the next.
use Rattle.std.specs.Prelude.{◌≡◌, Bool, true, false, not, ◌&&◌, ◌⊎◌, List, ℕ, ◌+◌, ◌<◌, ◌≤◌, eqb, length, get_or}
use Rattle.base_limits.specs.Limits as limits
use Rattle.fill_scratch.specs.Workings.Rings.{rim_mark}
use Rattle.rim_pieces.specs.Workings.Flooding.{none}

-- m is the first from k on, and below n, that p holds of
pub record Foremost (p : ℕ → Bool) (k n m : ℕ) : Type 0 where
  pub from : k ≤ m
  pub below : m < n
  pub holds : p m ≡ true
  pub first : (j : ℕ) → k ≤ j → j < m → p j ≡ false

-- it is, or it says that there is none
abbrev pub First : (ℕ → Bool) → ℕ → ℕ → ℕ → Type 0
First p k n m = ((m ≡ none) × ((j : ℕ) → k ≤ j → j < n → p j ≡ false)) ⊎ Foremost p k n m

-- by its mark loop l is a rim
abbrev pub is_marked : List ℕ → ℕ → Bool
is_marked marks l = eqb (get_or marks l 0) rim_mark

-- a rim of piece p, and another loop of it
abbrev pub marked_in : List ℕ → List ℕ → ℕ → ℕ → Bool
marked_in marks pieces p l = eqb (get_or pieces l 0) p && is_marked marks l

abbrev pub unmarked_in : List ℕ → List ℕ → ℕ → ℕ → Bool
unmarked_in marks pieces p l = eqb (get_or pieces l 0) p && not (is_marked marks l)

-- room for the chains of n loops
pub record ChainRoom (marks pieces rims heads links : List ℕ) (n : ℕ) : Type 0 where
  pub few : n ≤ limits.triangles
  pub marks_long : n ≤ length marks
  pub pieces_long : n ≤ length pieces
  pub links_long : n ≤ length links
  pub rims_there : (l : ℕ) → l < n → get_or pieces l 0 < length rims
  pub heads_there : (l : ℕ) → l < n → get_or pieces l 0 < length heads

-- the loops from k on are chained: what is told of a piece for which none stood, and of a loop of such a piece
pub record Chains (marks pieces rims heads : List ℕ) (k n : ℕ) (rims' heads' links' : List ℕ) : Type 0 where
  pub rims_are : (p : ℕ) → get_or rims p 0 ≡ none → First (marked_in marks pieces p) k n (get_or rims' p 0)
  pub heads_are : (p : ℕ) → get_or heads p 0 ≡ none → First (unmarked_in marks pieces p) k n (get_or heads' p 0)
  pub links_are : (l : ℕ) → k ≤ l → l < n → is_marked marks l ≡ false → get_or heads (get_or pieces l 0) 0 ≡ none
      → First (unmarked_in marks pieces (get_or pieces l 0)) (l + 1) n (get_or links' l 0)

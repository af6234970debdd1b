-- How often a report tells of something. "Each loop is to stand in exactly one place."
use Rattle.std.specs.Prelude.{◌≡◌, Bool, true, not, ◌&&◌, cond, List, [], ◌∷◌, ℕ, suc, ◌<◌, eqb}
use Rattle.chart_rules.specs.declared.Entry.{Entry}

-- how many of the entries p holds of
unfoldable pub tally : (Entry → Bool) → List Entry → ℕ
tally p [] = 0
tally p (e ∷ es) = let rest = tally p es in cond (p e) (suc rest) rest

-- an entry for loop l: of any kind but that of pieces
abbrev pub of_loop : ℕ → Entry → Bool
of_loop l e = not (eqb e.kind 0) && eqb e.number l

-- an entry for piece p
abbrev pub of_piece : ℕ → Entry → Bool
of_piece p e = eqb e.kind 0 && eqb e.number p

-- among n entries p holds of one and no other
pub record OnePlace (n : ℕ) (at : ℕ → Entry) (p : Entry → Bool) : Type 0 where
  pub place : ℕ
  pub there : place < n
  pub holds : p (at place) ≡ true
  pub only : (i : ℕ) → i < n → p (at i) ≡ true → i ≡ place

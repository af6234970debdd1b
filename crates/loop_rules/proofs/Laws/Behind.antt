-- What a walk lists is put behind what was listed before and does not depend on it, since a cut looks only at the path; so a walk can be
-- taken in parts.
use Rattle.std.specs.Prelude.{Option, Some, None}
use mathlib.Core.Path.{◌≡◌, refl, ap, ◌∙◌}
use mathlib.Core.List.{List, [], ◌∷◌, ◌++◌, append-nil, append_assoc}
use Prim.Native.Nat.{ℕ}
use Rattle.surface_rules.specs.Edges.{end_of}
use Rattle.loop_rules.specs.Loops.{Split, starts_at, cut, grow, grow_all}

-- a path, and nothing listed
abbrev pub path_only : List ℕ → Split
path_only p = record { path = p; listed = [] }

-- the loops of t behind ls
abbrev pub behind : List (List ℕ) → Split → Split
behind ls t = record { path = t.path; listed = ls ++ t.listed }

module _ (corners : List ℕ) where
  pub grow_behind : (ls : List (List ℕ)) (t : Split) (e : ℕ) → grow corners (behind ls t) e ≡ behind ls (grow corners t e)
  unfolding grow
  grow_behind ls t e = go (starts_at corners (t.path ++ (e ∷ [])) (end_of corners e))
    where
      go : (f : Option ℕ) → cut f (t.path ++ (e ∷ [])) (ls ++ t.listed) ≡ behind ls (cut f (t.path ++ (e ∷ [])) t.listed)
      go (Some j) = rw append_assoc
      go None = refl

  pub grow_all_behind : (ls : List (List ℕ)) (t : Split) (es : List ℕ) → grow_all corners (behind ls t) es ≡ behind ls (grow_all corners t es)
  unfolding grow_all
  grow_all_behind ls t [] = refl
  grow_all_behind ls t (e ∷ es) = ap (λ (z : Split). grow_all corners z es) (grow_behind ls t e) ∙ grow_all_behind ls (grow corners t e) es

  behind_none : (t : Split) → behind t.listed (path_only t.path) ≡ t
  behind_none t = ap (λ (z : List (List ℕ)). record { path = t.path; listed = z }) (append-nil t.listed)

  -- one part of a walk after the other
  pub grow_all_append : (t : Split) (a b : List ℕ) → grow_all corners t (a ++ b) ≡ grow_all corners (grow_all corners t a) b
  unfolding grow_all
  grow_all_append t [] b = refl
  grow_all_append t (e ∷ a) b = grow_all_append (grow corners t e) a b

  pub grow_all_snoc : (t : Split) (a : List ℕ) (e : ℕ) → grow_all corners t (a ++ (e ∷ [])) ≡ grow corners (grow_all corners t a) e
  unfolding grow_all
  grow_all_snoc t a e = grow_all_append t a (e ∷ [])

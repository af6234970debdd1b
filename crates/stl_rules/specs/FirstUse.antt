-- "Points are numbered by first use": of a list of things, those that are met, each where it is met first, and the number of each.
use Rattle.std.specs.Prelude.{Bool, cond, List, [], ◌∷◌, ◌++◌, map, ℕ, length, get_or, Option, Some, None}
use Rattle.surface_rules.specs.Smallest.{least, any}

-- `same` says which things are one; `no` stands where there is none
module _ {A : Type 0} (same : A → A → Bool) (no : A) where
  -- where x stands among those met
  unfoldable pub stands : List A → A → Option ℕ
  stands met x = least (λ (k : ℕ). same (get_or met k no) x) (length met)

  -- x is met after those
  unfoldable pub meet : List A → A → List A
  meet met x = cond (any (stands met x)) met (met ++ (x ∷ []))

  unfoldable pub meet_all : List A → List A → List A
  meet_all met [] = met
  meet_all met (x ∷ l) = meet_all (meet met x) l

  -- all that are met in l, in the order of their first use
  unfoldable pub first_uses : List A → List A
  first_uses l = meet_all [] l

  abbrev pub index_or : Option ℕ → ℕ
  index_or (Some k) = k
  index_or None = 0

  -- the number of each
  unfoldable pub numbers : List A → List ℕ
  numbers l = map (λ (x : A). index_or (stands (first_uses l) x)) l

-- "The smallest index reported": the smallest index with a property, or none.
use Rattle.std.specs.Prelude.{Bool, true, false, cond, ℕ, zero, suc, Option, Some, None}

-- the first of two
abbrev pub or_else : Option ℕ → Option ℕ → Option ℕ
or_else (Some i) g = Some i
or_else None g = g

-- the smallest index below n at which p holds
unfoldable pub least : (ℕ → Bool) → ℕ → Option ℕ
least p zero = None
least p (suc n) = or_else (least p n) (cond (p n) (Some n) None)

-- there is one
abbrev pub any : Option ℕ → Bool
any (Some i) = true
any None = false

-- That a loop has no allowed cover, as its rows of bars tell it.
use Rattle.std.specs.Prelude.{◌≡◌, Bool, true, false, List, ℕ, ◌+◌, ◌-◌, ◌<◌, ◌≤◌, length, get_or}
use Rattle.base_limits.specs.Limits as limits
use Rattle.cover_bits.specs.Workings.Masks.{bit, Rows}
use Rattle.cover_rules.specs.Covers.{Cover, Allowed, NoCover}

-- the bars that the rows tell
abbrev pub told_by : List ℕ → ℕ → ℕ → Bool
told_by bars a b = bit (get_or bars a 0) b

pub record ShutRoom (n : ℕ) (bars : List ℕ) : Type 0 where
  pub long : 1 < n
  pub short : n ≤ limits.longest
  pub rows : n ≤ length bars

-- r is true only if the loop of n has no allowed cover, whatever pairs are barred that the rows tell
abbrev pub TellsShut : ℕ → List ℕ → Bool → Type 0
TellsShut n bars r = r ≡ true → (barred : ℕ → ℕ → Bool) → Rows n barred bars → NoCover barred 0 (n - 1)

-- i..k is no side, and it is barred by the row of i, or no apex m has both i..m and m..k marked
pub record NoWay (row i k before after : ℕ) : Type 0 where
  pub no_side : i + 1 ≡ k → ⊥
  pub no_apex : bit row k ≡ false → (m : ℕ) → bit before m ≡ true → bit after m ≡ true → ⊥

-- each stretch that ends before k and has an allowed cover is marked in the word of its first position; others may be
pub record Marked (bars : List ℕ) (k : ℕ) (words : List ℕ) : Type 0 where
  pub long : length words ≡ limits.longest
  pub marks : (i j : ℕ) → j < k → (c : Cover) → Allowed (told_by bars) i j c → bit (get_or words i 0) j ≡ true

pub record ColumnRoom (bars : List ℕ) (k : ℕ) (words : List ℕ) : Type 0 where
  pub short : k < limits.longest
  pub rows : k < length bars
  pub marked : Marked bars k words

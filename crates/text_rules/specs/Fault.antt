-- At which line a text that is none has its fault: "A text that ends too soon has its fault at the line then due, an unended line being
-- wrong itself; anything after the last line is" the line after it.
use Rattle.std.specs.Prelude.{◌≡◌, ℕ, suc, ◌≤◌, length, take}
use mathlib.Core.List.{List, ◌++◌, flatten}
use Rattle.text_rules.specs.Text.{Format, TextOf}

module _ {S : Type 0} (F : Format S) where
  -- the first k lines of the bytes are the first k lines of some text
  pub record Starts (bytes : List ℕ) (k : ℕ) : Type 0 where
    pub said : S
    pub rest : List ℕ
    pub says : F.Says said
    pub has : k ≤ length (F.lines said)
    pub are : bytes ≡ flatten (take k (F.lines said)) ++ rest

  -- the line after the last that is right, in bytes that are no text; lines are counted from 1
  pub record Fault (bytes : List ℕ) (line : ℕ) : Type 0 where
    pub none : (s : S) → TextOf F bytes s → ⊥
    pub before : ℕ
    pub next : line ≡ suc before
    pub right : Starts bytes before
    pub wrong : Starts bytes line → ⊥

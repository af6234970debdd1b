-- What a triangle may weigh. The definitions ask for four things alone; what the laws about them ask for besides is `Lawful`.
use Rattle.std.specs.Prelude.{◌≡◌, ◌⊎◌}

-- a kind of weight: what nothing weighs, adding, and "is lighter than"
pub record Weights : Type 1 where
  pub W : Type 0
  pub none : W
  pub add : W → W → W
  pub ◌≺◌ : W → W → Type 0
  infixl 20 ◌≺◌

module _ (𝓦 : Weights) where
  open 𝓦 use {W, none, add, ◌≺◌}

  -- "any totally ordered weight whose adding is commutative and associative and keeps the strict order"
  pub record Lawful : Type 0 where
    pub none_add : (a : W) → add none a ≡ a
    pub comm : (a b : W) → add a b ≡ add b a
    pub assoc : (a b c : W) → add (add a b) c ≡ add a (add b c)
    pub total : (a b : W) → (a ≺ b) ⊎ ((a ≡ b) ⊎ (b ≺ a))
    pub irrefl : (a : W) → a ≺ a → ⊥
    pub trans : (a b c : W) → a ≺ b → b ≺ c → a ≺ c
    pub keeps : (a b c : W) → a ≺ b → add c a ≺ add c b

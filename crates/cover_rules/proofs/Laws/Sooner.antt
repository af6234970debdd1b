-- Two covers of which each comes no later than the other are equal, because the tie rule compares them apex by apex.
use Prim.Native.Nat.{ℕ}
use mathlib.Core.Path.{◌≡◌, refl, sym}
use mathlib.Core.Logic.{inl, inr}
use native.Mathlib.Omega.{arith}
use Rattle.cover_rules.specs.Covers.{Cover, empty, apex, Sooner}

pub sooner_antisym : (c d : Cover) → Sooner c d → Sooner d c → c ≡ d
sooner_antisym empty empty h g = refl
sooner_antisym empty (apex n d₁ d₂) h g = absurd g
sooner_antisym (apex m c₁ c₂) empty h g = absurd h
sooner_antisym (apex m c₁ c₂) (apex n d₁ d₂) (inl h) (inl g) = absurd (omega arith)
sooner_antisym (apex m c₁ c₂) (apex n d₁ d₂) (inl h) (inr g) = let e : m ≡ n = sym g.0 in absurd (omega arith)
sooner_antisym (apex m c₁ c₂) (apex n d₁ d₂) (inr h) (inl g) = let e : m ≡ n = h.0 in absurd (omega arith)
sooner_antisym (apex m c₁ c₂) (apex n d₁ d₂) (inr h) (inr g) =
    let p : c₁ ≡ d₁ = sooner_antisym c₁ d₁ h.1 g.1 in
    let q : c₂ ≡ d₂ = sooner_antisym c₂ d₂ h.2 g.2 in
    let e : m ≡ n = h.0 in
    cc

-- under the same apex the parts are compared by themselves
pub sooner_parts : (m : ℕ) (c₁ c₂ d₁ d₂ : Cover) → Sooner (apex m c₁ c₂) (apex m d₁ d₂) → Sooner c₁ d₁ × Sooner c₂ d₂
sooner_parts m c₁ c₂ d₁ d₂ (inl h) = absurd (omega arith)
sooner_parts m c₁ c₂ d₁ d₂ (inr h) = (h.1, h.2)

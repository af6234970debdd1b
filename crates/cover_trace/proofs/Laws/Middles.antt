-- The first way that makes up the least weight is found by trying the apexes in order; there is one, so it is the last if no other is.
use mathlib.Core.Path.{◌≡◌, subst}
use mathlib.Core.Bool.{Bool, true, false}
use mathlib.Core.List.{List}
use Prim.Native.Nat.{ℕ, suc, ◌+◌, ◌-◌, ◌≤◌, ◌<◌}
use native.Mathlib.Omega.{arith}
use native.Mathlib.Decide.{dec_lt}
use lib.Ieee.{Float}
use borrow.Author.Count.{below_more}
use Rattle.cover_rules.specs.Workings.Least.{MadeAt}
use Rattle.cover_rules.proofs.Laws.Least.{some_apex}
use Rattle.cover_weight.specs.declared.Point.{Point}
use Rattle.cover_weight.specs.Edition.{naturals, tri_of}
use Rattle.cover_weight.proofs.Laws.Naturals.{naturals_lawful}
use Rattle.cover_trace.specs.Workings.Ways.{Weighed, IsWay, Middle}

-- no apex below m makes it up
pub record Seeking (quarter : ℕ) (table : List Float) (i k m : ℕ) : Type 0 where
  pub low : i < m
  pub high : m < k
  pub none : (at : ℕ → Point) (barred : ℕ → ℕ → Bool) (n w : ℕ) → Weighed at barred quarter n table i k w → (j : ℕ) → j < m → MadeAt naturals (tri_of at) barred i k w j → ⊥

module _ {quarter : ℕ} {table : List Float} {i k : ℕ} where
  pub seeking_begins : suc i < k → Seeking quarter table i k (i + 1)
  seeking_begins h = record {
    low = omega arith;
    high = omega arith;
    none = λ at barred n w p j g a. let l : i < j = a.low in omega arith;
  }

  pub seeking_more : {m : ℕ} {r : Bool} → m + 1 < k → Seeking quarter table i k m → IsWay quarter table i k m r → r ≡ false → Seeking quarter table i k (m + 1)
  seeking_more {m} h s f e =
      let l : i < m = s.low in
      record {
        low = omega arith;
        high = omega arith;
        none = λ at barred n w p. below_more (λ j. MadeAt naturals (tri_of at) barred i k w j → ⊥) m (s.none at barred n w p) ((f at barred n w p).1 e);
      }

  pub sought : {m : ℕ} {r : Bool} → Seeking quarter table i k m → IsWay quarter table i k m r → r ≡ true → Middle quarter table i k m
  sought s f e at barred n w p = record { made = (f at barred n w p).0 e; none_before = s.none at barred n w p }

  -- where none before it makes it up, the last one does
  pub last_found : {m : ℕ} → suc i < k → k ≤ m + 1 → Seeking quarter table i k m → Middle quarter table i k (k - 1)
  last_found {m} h g s at barred n w p = record {
    made = subst (MadeAt naturals (tri_of at) barred i k w) same a.1;
    none_before = λ j l. s.none at barred n w p j (omega (arith, s.high));
  }
    where
      a : (j : ℕ) × MadeAt naturals (tri_of at) barred i k w j
      a = some_apex naturals naturals_lawful (tri_of at) barred i k w h p.least

      same : a.0 ≡ k - 1
      same = go (dec_lt a.0 m)
        where
          go : Dec (a.0 < m) → a.0 ≡ k - 1
          go (yes l) = absurd (s.none at barred n w p a.0 l a.1)
          go (no l) = omega (arith, a.1.high)

-- The front of a list is laid over a buffer number by number.
use mathlib.Core.Path.{◌≡◌, sym, ap, ◌∙◌}
use mathlib.Core.List.{List}
use Prim.Native.Nat.{ℕ, ◌+◌, ◌≤◌, ◌<◌}
use native.Mathlib.Numerals.{add-one}
use native.Mathlib.Omega.{arith}
use lib.ListN.{length, get_or, take, set, length-set}
use lib.Seq.{take-suc, length-take-le}
use Rattle.surface_rules.specs.Buffers.{over}
use Rattle.surface_rules.proofs.Laws.Over.{over_none, over_snoc}

-- the first i numbers are laid
pub record Laying (from : List ℕ) (n : ℕ) (before : List ℕ) (i : ℕ) (now : List ℕ) : Type 0 where
  pub most : i ≤ n
  pub kept : length now ≡ length before
  pub laid : now ≡ over (take i from) before

module _ {from : List ℕ} {n : ℕ} {before : List ℕ} where
  pub laying_begins : Laying from n before 0 before
  laying_begins = record { most = omega arith; kept = λ t. length before; laid = sym (over_none before) }

  pub laying_more : {i : ℕ} {now : List ℕ} → n ≤ length from → n ≤ length before → i < n → Laying from n before i now → Laying from n before (i + 1) (set now i (get_or from i 0))
  laying_more {i} {now} f b h g =
      let m : i ≡ length (take i from) = sym (length-take-le i from (omega arith)) in
      record {
        most = omega arith;
        kept = length-set now i (get_or from i 0) ∙ g.kept;
        laid =
            ap (λ (x : List ℕ). set x i (get_or from i 0)) g.laid
            ∙ over_snoc (take i from) before (get_or from i 0) 0 i m (omega arith)
            ∙ ap (λ (x : List ℕ). over x before) (sym (take-suc from i 0 (omega arith)) ∙ ap (λ (k : ℕ). take k from) (sym (add-one i)));
      }

  pub laying_ends : {i : ℕ} {now : List ℕ} → n ≤ i → Laying from n before i now → now ≡ over (take n from) before
  laying_ends {i} h g = let q : i ≤ n = g.most in let e : i ≡ n = omega arith in g.laid ∙ ap (λ (k : ℕ). over (take k from) before) e

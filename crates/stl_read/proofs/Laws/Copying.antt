-- A list is laid over a buffer item by item.
use mathlib.Core.Path.{◌≡◌, refl, sym, ap, ◌∙◌}
use mathlib.Core.List.{List, [], ◌∷◌, ◌++◌}
use Prim.Native.Nat.{ℕ, ◌+◌, ◌≤◌, ◌<◌}
use native.Mathlib.Numerals.{add-one}
use native.Mathlib.Omega.{arith}
use lib.ListN.{length, get_or, take, set, length-set}
use lib.Seq.{take-suc, take-length, length-take-le}
use Rattle.surface_rules.specs.Buffers.{over}
use Rattle.surface_rules.proofs.Laws.Over.{over_none, over_snoc}

-- the first i items are laid
pub record Copying {A : Type 0} (from before : List A) (i : ℕ) (now : List A) : Type 0 where
  pub most : i ≤ length from
  pub kept : length now ≡ length before
  pub laid : now ≡ over (take i from) before

module _ {A : Type 0} {from before : List A} where
  pub copying_begins : Copying from before 0 before
  copying_begins = record { most = omega arith; kept = refl; laid = sym (over_none before) }

  pub copying_more : {i : ℕ} {now : List A} {v : A} → length from ≤ length before → i < length from → v ≡ get_or from i v → Copying from before i now → Copying from before (i + 1) (set now i v)
  copying_more {i} {now} {v} room h e g =
      let m : i ≡ length (take i from) = sym (length-take-le i from (omega arith)) in
      let t : take (i + 1) from ≡ take i from ++ (v ∷ []) = ap (λ (k : ℕ). take k from) (add-one i) ∙ take-suc from i v h ∙ ap (λ (x : A). take i from ++ (x ∷ [])) (sym e) in
      record {
        most = omega arith;
        kept = length-set now i v ∙ g.kept;
        laid =
            ap (λ (x : List A). set x i v) g.laid
            ∙ over_snoc (take i from) before v v i m (omega arith)
            ∙ ap (λ (x : List A). over x before) (sym t);
      }

  pub copying_ends : {i : ℕ} {now : List A} → length from ≤ i → Copying from before i now → now ≡ over from before
  copying_ends {i} h g =
      let q : i ≤ length from = g.most in
      let e : i ≡ length from = omega arith in
      g.laid ∙ ap (λ (x : List A). over x before) (ap (λ (k : ℕ). take k from) e ∙ take-length from)

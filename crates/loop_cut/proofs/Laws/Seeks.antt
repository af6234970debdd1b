-- An edge of the path that starts at x stands at x's place, if any does: so one look there tells where, or that there is none.
use Rattle.std.specs.Prelude.{Some, None}
use mathlib.Core.Path.{◌≡◌, sym, ap, ◌∙◌}
use mathlib.Core.Bool.{false}
use mathlib.Core.List.{List}
use Prim.Native.Nat.{ℕ, ◌<◌, ◌≤◌}
use native.Mathlib.Omega.{arith}
use lib.Dec.{eqb}
use lib.ListN.{length, get_or, take}
use lib.Seq.{get_or-take, length-take-le}
use borrow.Author.Tests.{eq-eqb, ne_eqb}
use Rattle.surface_rules.specs.Edges.{start_of}
use Rattle.surface_rules.proofs.Laws.Smallest.{least_at, never_least}
use Rattle.loop_rules.specs.Loops.{starts_at}
use Rattle.loop_cut.specs.Workings.Growing.{Sought}

module _ {corners path : List ℕ} {depth : ℕ} {places : List ℕ} {x : ℕ} (s : Sought corners path depth places x) where
  n : length (take depth path) ≡ depth
  n = length-take-le depth path s.long

  not_there : (k : ℕ) → k < depth → (get_or places x 0 ≡ k → ⊥) → eqb (start_of corners (get_or (take depth path) k 0)) x ≡ false
  not_there k l no' = rw (get_or-take depth path k 0 l) (ne_eqb _ _ (λ q. no' (s.placed k l q)))

  pub seek_past : depth ≤ get_or places x 0 → None ≡ starts_at corners (take depth path) x
  unfolding starts_at
  seek_past l = sym (never_least _ (length (take depth path)) (λ k m. not_there k (omega (arith, n)) (λ q. omega (arith, n))))

  pub seek_found : get_or places x 0 < depth → start_of corners (get_or path (get_or places x 0) 0) ≡ x → Some (get_or places x 0) ≡ starts_at corners (take depth path) x
  unfolding starts_at
  seek_found l q =
      sym
      (least_at _ (get_or places x 0) (length (take depth path))
      (never_least _ (get_or places x 0) (λ k m. not_there k (omega arith) (λ z. omega arith)))
      (rw (get_or-take depth path (get_or places x 0) 0 l) (eq-eqb _ _ q))
      (rw n l))

  pub seek_other : get_or places x 0 < depth → (start_of corners (get_or path (get_or places x 0) 0) ≡ x → ⊥) → None ≡ starts_at corners (take depth path) x
  unfolding starts_at
  seek_other l no' =
      sym
      (never_least _ (length (take depth path))
      (λ k m.
      let b : k < depth = omega (arith, n) in
      rw (get_or-take depth path k 0 b) (ne_eqb _ _ (λ q. no' (ap (λ (i : ℕ). start_of corners (get_or path i 0)) (s.placed k b q) ∙ q)))))

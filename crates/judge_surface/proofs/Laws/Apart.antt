-- The rings of a sound surface have three or more different vertices each.
use mathlib.Core.Path.{◌≡◌, sym, subst}
use mathlib.Core.List.{List, []}
use Prim.Native.Nat.{ℕ, ◌≤◌, ◌<◌}
use native.Mathlib.Omega.{arith}
use lib.ListN.{length, get_or, length-map, get_or-map}
use Rattle.surface_rules.specs.Edges.{Sound, start_of}
use Rattle.loop_rules.specs.Loops.{loops, ring}
use Rattle.loop_rules.proofs.Laws.Distinct.{Distinct}
use Rattle.loop_rules.proofs.Theorems.{three_or_more, no_vertex_twice}
use Rattle.fill_fates.specs.Course.{ring_list}
use Rattle.judge_rules.proofs.Theorems.{RingsApart}

module _ (corners : List ℕ) (sound : Sound corners) where
  ring_three : (l : ℕ) → l < length (loops corners) → 3 ≤ length (ring corners (get_or (loops corners) l []))
  ring_three l h = subst (λ (n : ℕ). 3 ≤ n) (sym (length-map (get_or (loops corners) l []) (start_of corners))) (three_or_more corners sound l h)

  ring_apart : (l : ℕ) → l < length (loops corners) → (i j : ℕ) → i < length (ring corners (get_or (loops corners) l [])) → j < length (ring corners (get_or (loops corners) l []))
      → get_or (ring corners (get_or (loops corners) l [])) i 0 ≡ get_or (ring corners (get_or (loops corners) l [])) j 0 → i ≡ j
  unfolding Distinct
  ring_apart l h = no_vertex_twice corners sound l h

  below : (l : ℕ) → l < length (ring_list corners) → l < length (loops corners)
  below l h = let n : length (ring_list corners) ≡ length (loops corners) = length-map (loops corners) (ring corners) in omega arith

  at : (l : ℕ) → ring corners (get_or (loops corners) l []) ≡ get_or (ring_list corners) l []
  at l = sym (get_or-map (ring corners) (loops corners) l [])

  pub rings_apart : RingsApart (ring_list corners)
  rings_apart = record {
    three = λ l h. subst (λ (r : List ℕ). 3 ≤ length r) (at l) (ring_three l (below l h));
    different = λ l h. subst (λ (r : List ℕ). (i j : ℕ) → i < length r → j < length r → get_or r i 0 ≡ get_or r j 0 → i ≡ j) (at l) (ring_apart l (below l h));
  }

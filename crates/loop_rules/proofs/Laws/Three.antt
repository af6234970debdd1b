-- Every loop has 3 edges or more: one edge alone would end where it starts, and two would run opposite to each other.
use mathlib.Core.Path.{◌≡◌, refl, sym}
use mathlib.Core.List.{List, [], ◌∷◌, ◌++◌}
use Prim.Native.Nat.{ℕ, ◌*◌, ◌≤◌}
use native.Mathlib.Nat.{not-suc-le-zero}
use native.Mathlib.Omega.{arith}
use lib.ListN.{length, get_or}
use Rattle.surface_rules.specs.Edges.{start_of, end_of}
use Rattle.loop_rules.specs.Loops.{grow_all}
use Rattle.loop_rules.proofs.Laws.Counts.{Among}
use Rattle.loop_rules.proofs.Laws.Each.{Each, each_at, at_each, each_append}
use Rattle.loop_rules.proofs.Laws.Linked.{Linked}
use Rattle.loop_rules.proofs.Laws.Paths.{Loop, fresh, linked_loops}
use Rattle.loop_rules.proofs.Laws.Kept.{total}
use Rattle.loop_rules.proofs.Laws.Places.{listed_within}

-- no edge of es starts where it ends, and none runs opposite to another
pub record Proper (corners es : List ℕ) : Type 0 where
  pub not_flat : (e : ℕ) → Among e es → start_of corners e ≡ end_of corners e → ⊥
  pub not_opposite : (e f : ℕ) → Among e es → Among f es → start_of corners f ≡ end_of corners e → end_of corners f ≡ start_of corners e → ⊥

unfoldable pub Threes : List (List ℕ) → Type 0
Threes ls = Each (λ (l : List ℕ). 3 ≤ length l) ls

pub threes_total : (ls : List (List ℕ)) → Threes ls → 3 * length ls ≤ total ls
unfolding Threes Each total
threes_total [] t = omega arith
threes_total (l ∷ ls) t = let q : 3 * length ls ≤ total ls = threes_total ls t.1 in let m : 3 ≤ length l = t.0 in omega arith

pub threes_append : (a b : List (List ℕ)) → Threes a → Threes b → Threes (a ++ b)
unfolding Threes
threes_append a b = each_append (λ (l : List ℕ). 3 ≤ length l) a b

module _ (corners : List ℕ) where
  pub loop_three : (l : List ℕ) → Loop corners l → Proper corners l → 3 ≤ length l
  unfolding Linked
  loop_three [] h p = absurd (not-suc-le-zero h.some)
  loop_three (e ∷ []) h p = absurd (p.not_flat e (record { place = 0; below = omega arith; is = refl }) (sym (h.closed.closes 0 refl)))
  loop_three (e ∷ f ∷ []) h p =
      absurd
      (p.not_opposite e f (record { place = 0; below = omega arith; is = refl }) (record { place = 1; below = omega arith; is = refl })
      (sym (h.closed.linked 0 (omega arith)))
      (h.closed.closes 1 refl))
  loop_three (e ∷ f ∷ g ∷ l) h p = omega arith

  -- an edge that ends where it starts runs opposite to itself, so it is enough that none runs opposite to one
  pub not_opposite_proper : (es : List ℕ) → ((e f : ℕ) → Among e es → Among f es → start_of corners f ≡ end_of corners e → end_of corners f ≡ start_of corners e → ⊥) → Proper corners es
  not_opposite_proper es h = record { not_flat = λ e m q. h e e m m q (sym q); not_opposite = h }

  -- edges among proper ones are proper
  pub proper_among : (a es : List ℕ) → ((e : ℕ) → Among e a → Among e es) → Proper corners es → Proper corners a
  proper_among a es w p =
      record {
        not_flat = λ e m. p.not_flat e (w e m);
        not_opposite = λ e f m n. p.not_opposite e f (w e m) (w f n);
      }

  -- every loop that a walk lists has 3 edges or more
  pub linked_threes : (es : List ℕ) → Linked corners es → Proper corners es → Threes (grow_all corners fresh es).listed
  unfolding Threes
  linked_threes es h p =
      at_each (λ (l : List ℕ). 3 ≤ length l) (grow_all corners fresh es).listed
      (λ i n.
      let l : List ℕ = get_or (grow_all corners fresh es).listed i [] in
      let within : (e : ℕ) → Among e l → Among e es = λ e m. listed_within corners es e (record { loop = i; loop_below = n; at = m.place; at_below = m.below; is = m.is }) in
      loop_three l (each_at (Loop corners) (grow_all corners fresh es).listed (linked_loops corners es h) i n)
      (proper_among l es within p))

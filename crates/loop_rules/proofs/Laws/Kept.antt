-- A walk loses no edge and makes none: counts and lengths, or whatever adds up over lists in a row, come to the same over the listed
-- loops with the path as over the edges walked, since a cut only parts the path.
use Rattle.std.specs.Prelude.{Option, Some, None}
use mathlib.Core.Path.{◌≡◌, refl, sym, ap, ◌∙◌}
use mathlib.Core.List.{List, [], ◌∷◌, ◌++◌, flatten, append-nil}
use Prim.Native.Nat.{ℕ, ◌+◌}
use native.Mathlib.Omega.{arith}
use lib.ListN.{length, take, drop, length-append, take-append-drop}
use Rattle.surface_rules.specs.Edges.{end_of}
use Rattle.surface_rules.proofs.Laws.Lists.{flatten_append}
use Rattle.loop_rules.specs.Loops.{Split, starts_at, cut, grow, grow_all}
use Rattle.loop_rules.proofs.Laws.Counts.{count, count_none, count_append, Same}
use Rattle.loop_rules.proofs.Laws.Linked.{Closed}
use Rattle.loop_rules.proofs.Laws.Paths.{fresh, closed_empties}

pub flatten_snoc : (a : List (List ℕ)) (l : List ℕ) → flatten (a ++ (l ∷ [])) ≡ flatten a ++ l
unfolding flatten
flatten_snoc a l = flatten_append a (l ∷ []) ∙ ap (λ (z : List ℕ). flatten a ++ z) (append-nil l)

-- ---- what adds up

module _ (m : List ℕ → ℕ) (adds : (a b : List ℕ) → m (a ++ b) ≡ m a + m b) where
  cut_adds : (f : Option ℕ) (p : List ℕ) (ls : List (List ℕ)) → m (flatten (cut f p ls).listed) + m (cut f p ls).path ≡ m (flatten ls) + m p
  cut_adds None p ls = refl
  cut_adds (Some j) p ls =
      let a : m (flatten (ls ++ (drop j p ∷ []))) ≡ m (flatten ls) + m (drop j p) = ap m (flatten_snoc ls (drop j p)) ∙ adds (flatten ls) (drop j p) in
      let b : m p ≡ m (take j p) + m (drop j p) = ap m (sym (take-append-drop j p)) ∙ adds (take j p) (drop j p) in
      omega arith

  module _ (corners : List ℕ) where
    pub grow_adds : (t : Split) (e : ℕ) → m (flatten (grow corners t e).listed) + m (grow corners t e).path ≡ m (flatten t.listed) + m t.path + m (e ∷ [])
    unfolding grow
    grow_adds t e =
        let p : List ℕ = t.path ++ (e ∷ []) in
        let a : m (flatten (grow corners t e).listed) + m (grow corners t e).path ≡ m (flatten t.listed) + m p = cut_adds (starts_at corners p (end_of corners e)) p t.listed in
        let b : m p ≡ m t.path + m (e ∷ []) = adds t.path (e ∷ []) in
        omega arith

    pub grow_all_adds : (t : Split) (es : List ℕ) → m (flatten (grow_all corners t es).listed) + m (grow_all corners t es).path ≡ m (flatten t.listed) + m t.path + m es
    unfolding grow_all
    grow_all_adds t [] = let z : m [] ≡ m [] + m [] = adds [] [] in omega arith
    grow_all_adds t (e ∷ es) =
        let a : m (flatten (grow_all corners (grow corners t e) es).listed) + m (grow_all corners (grow corners t e) es).path ≡ m (flatten (grow corners t e).listed) + m (grow corners t e).path + m es = grow_all_adds (grow corners t e) es in
        let b : m (flatten (grow corners t e).listed) + m (grow corners t e).path ≡ m (flatten t.listed) + m t.path + m (e ∷ []) = grow_adds t e in
        let c : m (e ∷ es) ≡ m (e ∷ []) + m es = adds (e ∷ []) es in
        omega arith

-- ---- how many edges the loops have

unfoldable pub total : List (List ℕ) → ℕ
total [] = 0
total (l ∷ ls) = length l + total ls

pub total_flatten : (ls : List (List ℕ)) → length (flatten ls) ≡ total ls
unfolding total flatten
total_flatten [] = refl
total_flatten (l ∷ ls) = length-append l (flatten ls) ∙ ap (λ (n : ℕ). length l + n) (total_flatten ls)

pub total_append : (a b : List (List ℕ)) → total (a ++ b) ≡ total a + total b
unfolding total
total_append [] b = omega arith
total_append (l ∷ a) b = let r : total (a ++ b) ≡ total a + total b = total_append a b in omega arith

module _ (corners : List ℕ) where
  pub grow_total : (t : Split) (e : ℕ) → total (grow corners t e).listed + length (grow corners t e).path ≡ total t.listed + length t.path + 1
  grow_total t e = omega (arith, grow_adds length length-append corners t e, total_flatten (grow corners t e).listed, total_flatten t.listed)

  pub grow_all_total : (t : Split) (es : List ℕ) → total (grow_all corners t es).listed + length (grow_all corners t es).path ≡ total t.listed + length t.path + length es
  grow_all_total t es = omega (arith, grow_all_adds length length-append corners t es, total_flatten (grow_all corners t es).listed, total_flatten t.listed)

  pub grow_all_count : (e : ℕ) (t : Split) (es : List ℕ) → count e (flatten (grow_all corners t es).listed) + count e (grow_all corners t es).path ≡ count e (flatten t.listed) + count e t.path + count e es
  grow_all_count e t es = grow_all_adds (count e) (count_append e) corners t es

  -- the loops of a walk that comes back to where it began have its edges
  pub closed_same : (es : List ℕ) → Closed corners es → Same (flatten (grow_all corners fresh es).listed) es
  unfolding Same flatten
  closed_same es h e =
      let a : count e (flatten (grow_all corners fresh es).listed) + count e (grow_all corners fresh es).path ≡ count e [] + count e [] + count e es = grow_all_count e fresh es in
      let b : count e (grow_all corners fresh es).path ≡ count e [] = ap (count e) (closed_empties corners es h) in
      omega (arith, count_none e)

  pub closed_total : (es : List ℕ) → Closed corners es → total (grow_all corners fresh es).listed ≡ length es
  unfolding total
  closed_total es h =
      let a : total (grow_all corners fresh es).listed + length (grow_all corners fresh es).path ≡ 0 + 0 + length es = grow_all_total fresh es in
      let b : length (grow_all corners fresh es).path ≡ 0 = ap length (closed_empties corners es h) in
      omega arith

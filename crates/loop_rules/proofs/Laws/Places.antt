-- Each edge of a walk of different edges that comes back to where it began lies in exactly one loop, at one place of it, since the loops
-- in a row have the walk's edges, each as often.
use mathlib.Core.Path.{◌≡◌, refl, sym, ap, ◌∙◌}
use mathlib.Core.List.{List, [], ◌∷◌, ◌++◌, flatten}
use mathlib.Core.Logic.{⊎_elim}
use Prim.Native.Nat.{ℕ, zero, suc, ◌+◌, ◌-◌, ◌<◌}
use native.Mathlib.Nat.{not-suc-le-zero}
use native.Mathlib.Omega.{arith}
use lib.ListN.{length, get_or, length-append, get_or-append}
use lib.Seq.{get_or-append-add}
use Rattle.loop_rules.specs.Loops.{grow_all}
use Rattle.loop_rules.proofs.Laws.Distinct.{Distinct, append_at}
use Rattle.loop_rules.proofs.Laws.Parts.{distinct_front, distinct_back}
use Rattle.loop_rules.proofs.Laws.Counts.{count, count_none, count_among, among_count, Among, Same, same_among, same_distinct}
use Rattle.loop_rules.proofs.Laws.Linked.{Closed}
use Rattle.loop_rules.proofs.Laws.Paths.{fresh}
use Rattle.loop_rules.proofs.Laws.Kept.{grow_all_count, closed_same}

-- e stands at a place of one of the loops ls
pub record Place (ls : List (List ℕ)) (e : ℕ) : Type 0 where
  pub loop : ℕ
  pub loop_below : loop < length ls
  pub at : ℕ
  pub at_below : at < length (get_or ls loop [])
  pub is : get_or (get_or ls loop []) at 0 ≡ e

-- each of es lies in exactly one of the loops ls, at exactly one place, and no other edge lies there
pub record Parted (ls : List (List ℕ)) (es : List ℕ) : Type 0 where
  pub placed : (e : ℕ) → Among e es → Place ls e
  pub once : (e : ℕ) (a b : Place ls e) → (a.loop ≡ b.loop) × (a.at ≡ b.at)
  pub within : (e : ℕ) → Place ls e → Among e es

pub among_front : (e : ℕ) (a b : List ℕ) → Among e a → Among e (a ++ b)
among_front e a b m =
    let l : m.place < length a = m.below in
    let n : length (a ++ b) ≡ length a + length b = length-append a b in
    record { place = m.place; below = omega arith; is = get_or-append a b 0 m.place l ∙ m.is }

pub among_back : (e : ℕ) (a b : List ℕ) → Among e b → Among e (a ++ b)
among_back e a b m =
    let l : m.place < length b = m.below in
    let n : length (a ++ b) ≡ length a + length b = length-append a b in
    record { place = length a + m.place; below = omega arith; is = get_or-append-add a b m.place 0 ∙ m.is }

-- no number stands in both of two lists that are different numbers in all
pub distinct_apart : (e : ℕ) (a b : List ℕ) → Distinct (a ++ b) → Among e a → Among e b → ⊥
unfolding Distinct
distinct_apart e a b d m w =
    let l : m.place < length a = m.below in
    let k : w.place < length b = w.below in
    let n : length (a ++ b) ≡ length a + length b = length-append a b in
    let q : m.place ≡ length a + w.place = d m.place (length a + w.place) (omega arith) (omega arith) (get_or-append a b 0 m.place l ∙ m.is ∙ sym w.is ∙ sym (get_or-append-add a b w.place 0)) in
    omega arith

pub place_among : (ls : List (List ℕ)) (e : ℕ) → Place ls e → Among e (flatten ls)
unfolding flatten
place_among ls e w = go ls w.loop w.loop_below w.at w.at_below w.is
  where
    go : (ls : List (List ℕ)) (i : ℕ) → i < length ls → (k : ℕ) → k < length (get_or ls i []) → get_or (get_or ls i []) k 0 ≡ e → Among e (flatten ls)
    go [] i h k l q = absurd (not-suc-le-zero h)
    go (x ∷ ls) zero h k l q = among_front e x (flatten ls) (record { place = k; below = l; is = q })
    go (x ∷ ls) (suc i) h k l q = among_back e x (flatten ls) (go ls i (omega arith) k l q)

later : (x : List ℕ) (ls : List (List ℕ)) (e : ℕ) → Place ls e → Place (x ∷ ls) e
later x ls e w = record { loop = suc w.loop; loop_below = let b = w.loop_below in omega arith; at = w.at; at_below = w.at_below; is = w.is }

pub among_place : (ls : List (List ℕ)) (e : ℕ) → Among e (flatten ls) → Place ls e
unfolding flatten
among_place [] e m = absurd (not-suc-le-zero m.below)
among_place (x ∷ ls) e m =
    ⊎_elim (λ w. record { loop = 0; loop_below = omega arith; at = m.place; at_below = w.0; is = sym w.1 ∙ m.is })
    (λ w. later x ls e (among_place ls e (record { place = m.place - length x; below = w.1; is = sym w.2 ∙ m.is })))
    (append_at x (flatten ls) m.place m.below)

pub place_once : (ls : List (List ℕ)) (e : ℕ) → Distinct (flatten ls) → (a b : Place ls e) → (a.loop ≡ b.loop) × (a.at ≡ b.at)
unfolding flatten Distinct
place_once ls e d a b = go ls d a.loop a.loop_below a.at a.at_below a.is b.loop b.loop_below b.at b.at_below b.is
  where
    among : (ls : List (List ℕ)) (i : ℕ) → i < length ls → (k : ℕ) → k < length (get_or ls i []) → get_or (get_or ls i []) k 0 ≡ e → Among e (flatten ls)
    among ls i h k l q = place_among ls e (record { loop = i; loop_below = h; at = k; at_below = l; is = q })

    go : (ls : List (List ℕ)) → Distinct (flatten ls) → (i : ℕ) → i < length ls → (k : ℕ) → k < length (get_or ls i []) → get_or (get_or ls i []) k 0 ≡ e → (i' : ℕ) → i' < length ls → (k' : ℕ) → k' < length (get_or ls i' []) → get_or (get_or ls i' []) k' 0 ≡ e → (i ≡ i') × (k ≡ k')
    go [] d i h k l q i' h' k' l' q' = absurd (not-suc-le-zero h)
    go (x ∷ ls) d zero h k l q zero h' k' l' q' = (refl, distinct_front x (flatten ls) d k k' l l' (q ∙ sym q'))
    go (x ∷ ls) d zero h k l q (suc i') h' k' l' q' = absurd (distinct_apart e x (flatten ls) d (record { place = k; below = l; is = q }) (among ls i' (omega arith) k' l' q'))
    go (x ∷ ls) d (suc i) h k l q zero h' k' l' q' = absurd (distinct_apart e x (flatten ls) d (record { place = k'; below = l'; is = q' }) (among ls i (omega arith) k l q))
    go (x ∷ ls) d (suc i) h k l q (suc i') h' k' l' q' = let r = go ls (distinct_back x (flatten ls) d) i (omega arith) k l q i' (omega arith) k' l' q' in (ap suc r.0, r.1)

same_sym : (a b : List ℕ) → Same a b → Same b a
unfolding Same
same_sym a b h e = sym (h e)

-- loops with the same edges as es, which are different
pub same_parted : (ls : List (List ℕ)) (es : List ℕ) → Same (flatten ls) es → Distinct es → Parted ls es
same_parted ls es h d =
    record {
      placed = λ e m. among_place ls e (same_among es (flatten ls) (same_sym (flatten ls) es h) e m);
      once = λ e. place_once ls e (same_distinct (flatten ls) es h d);
      within = λ e w. same_among (flatten ls) es h e (place_among ls e w);
    }

module _ (corners es : List ℕ) where
  -- an edge of a listed loop was walked
  pub listed_within : (e : ℕ) → Place (grow_all corners fresh es).listed e → Among e es
  unfolding flatten
  listed_within e w =
      let a : count e (flatten (grow_all corners fresh es).listed) + count e (grow_all corners fresh es).path ≡ count e [] + count e [] + count e es = grow_all_count corners e fresh es in
      let b : 0 < count e (flatten (grow_all corners fresh es).listed) = among_count e _ (place_among (grow_all corners fresh es).listed e w) in
      count_among e es (omega (arith, count_none e))

  -- and so was an edge of the path
  pub path_within : (e : ℕ) → Among e (grow_all corners fresh es).path → Among e es
  unfolding flatten
  path_within e w =
      let a : count e (flatten (grow_all corners fresh es).listed) + count e (grow_all corners fresh es).path ≡ count e [] + count e [] + count e es = grow_all_count corners e fresh es in
      let b : 0 < count e (grow_all corners fresh es).path = among_count e _ w in
      count_among e es (omega (arith, count_none e))

  -- each edge of a closed walk lies in exactly one of its loops
  pub closed_parted : Closed corners es → Distinct es → Parted (grow_all corners fresh es).listed es
  closed_parted h d = same_parted (grow_all corners fresh es).listed es (closed_same corners es h) d

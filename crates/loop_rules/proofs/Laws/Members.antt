-- Lists of different numbers with the same members are equally long, since the places that one list's numbers have in the other are
-- different; and each number stands in both as often, once or not at all.
use mathlib.Core.Path.{◌≡◌, refl, sym, ap, ◌∙◌}
use mathlib.Core.Bool.{Bool, true, false, cond}
use mathlib.Core.List.{List, [], ◌∷◌, ◌++◌, map}
use mathlib.Core.Logic.{⊎_elim}
use Prim.Native.Nat.{ℕ, zero, suc, ◌-◌, ◌<◌, ◌≤◌}
use native.Mathlib.Nat.{not-suc-le-zero}
use native.Mathlib.Omega.{arith}
use lib.Dec.{eqb}
use lib.ListN.{length, get_or, length-map}
use borrow.Author.Tests.{eqb-true, eqb-false}
use Rattle.surface_rules.proofs.Laws.Tests.{lt_or_le}
use Rattle.surface_rules.proofs.Laws.Lists.{map_at}
use Rattle.loop_rules.proofs.Laws.Distinct.{Distinct, Bounded, append_at, distinct_bound}
use Rattle.loop_rules.proofs.Laws.Counts.{count, Among, Same, among_count, count_among, distinct_count}

-- what stands in two lists in a row stands in one of them
pub among_either : (e : ℕ) (a b : List ℕ) (P : Type 0) → (Among e a → P) → (Among e b → P) → Among e (a ++ b) → P
among_either e a b P f g m =
    ⊎_elim (λ w. f (record { place = m.place; below = w.0; is = sym w.1 ∙ m.is }))
    (λ w. g (record { place = m.place - length a; below = w.1; is = sym w.2 ∙ m.is }))
    (append_at a b m.place m.below)

-- all that stands in a stands in b
unfoldable pub Within : List ℕ → List ℕ → Type 0
Within a b = (e : ℕ) → Among e a → Among e b

-- the first place of e in l, or the length of l
unfoldable place_of : List ℕ → ℕ → ℕ
place_of [] e = 0
place_of (x ∷ l) e = cond (eqb e x) 0 (suc (place_of l e))

place_here : (x : ℕ) (l : List ℕ) (e : ℕ) → (Among e l → (place_of l e < length l) × (get_or l (place_of l e) 0 ≡ e)) → (i : ℕ) → i < length (x ∷ l) → get_or (x ∷ l) i 0 ≡ e → (place_of (x ∷ l) e < length (x ∷ l)) × (get_or (x ∷ l) (place_of (x ∷ l) e) 0 ≡ e)
unfolding place_of
place_here x l e r i h q = go i h q (eqb e x) refl
  where
    go : (i : ℕ) → i < length (x ∷ l) → get_or (x ∷ l) i 0 ≡ e → (t : Bool) → eqb e x ≡ t → (cond t 0 (suc (place_of l e)) < length (x ∷ l)) × (get_or (x ∷ l) (cond t 0 (suc (place_of l e))) 0 ≡ e)
    go i h q true d = (omega arith, sym (eqb-true e x d))
    go zero h q false d = absurd (eqb-false e x d (sym q))
    go (suc i) h q false d = let s = r (record { place = i; below = omega arith; is = q }) in (omega (arith, s.0), s.1)

place_of_lem : (l : List ℕ) (e : ℕ) → Among e l → (place_of l e < length l) × (get_or l (place_of l e) 0 ≡ e)
place_of_lem [] e m = absurd (not-suc-le-zero m.below)
place_of_lem (x ∷ l) e m = place_here x l e (place_of_lem l e) m.place m.below m.is

-- different numbers that all stand in b are no more than b has
pub within_length : (a b : List ℕ) → Distinct a → Within a b → length a ≤ length b
unfolding Distinct Bounded Within
within_length a b d w =
    let n : length (map (place_of b) a) ≡ length a = length-map a (place_of b) in
    let there : (i : ℕ) → i < length a → (place_of b (get_or a i 0) < length b) × (get_or b (place_of b (get_or a i 0)) 0 ≡ get_or a i 0) =
    λ i l. place_of_lem b (get_or a i 0) (w (get_or a i 0) (record { place = i; below = l; is = refl })) in
    let at : (i : ℕ) → i < length a → get_or (map (place_of b) a) i 0 ≡ place_of b (get_or a i 0) = map_at (place_of b) 0 0 a in
    let apart : Distinct (map (place_of b) a) =
    λ i j hi hj e.
    let li : i < length a = omega arith in
    let lj : j < length a = omega arith in
    let q : place_of b (get_or a i 0) ≡ place_of b (get_or a j 0) = sym (at i li) ∙ e ∙ at j lj in
    d i j li lj (sym (there i li).1 ∙ ap (λ (k : ℕ). get_or b k 0) q ∙ (there j lj).1) in
    let below : Bounded (length b) (map (place_of b) a) =
    λ i hi.
    let li : i < length a = omega arith in
    rw (at i li) (there i li).0 in
    omega (arith, distinct_bound (length b) (map (place_of b) a) apart below)

pub members_length : (a b : List ℕ) → Distinct a → Distinct b → Within a b → Within b a → length a ≡ length b
members_length a b da db w v = omega (arith, within_length a b da w, within_length b a db v)

pub members_same : (a b : List ℕ) → Distinct a → Distinct b → Within a b → Within b a → Same a b
unfolding Same Within
members_same a b da db w v e =
    let m : count e a ≤ 1 = distinct_count e a da in
    let n : count e b ≤ 1 = distinct_count e b db in
    let there : 0 < count e a → 0 < count e b = λ l. among_count e b (w e (count_among e a l)) in
    let back : 0 < count e b → 0 < count e a = λ l. among_count e a (v e (count_among e b l)) in
    ⊎_elim (λ l. omega (arith, there l)) (λ l. ⊎_elim (λ k. omega (arith, back k)) (λ k. omega arith) (lt_or_le 0 (count e b))) (lt_or_le 0 (count e a))

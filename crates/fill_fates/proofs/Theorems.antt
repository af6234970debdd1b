-- A course has one outcome at most: a loop that has a patch is neither long nor without a cover, and its patch is unique.
use mathlib.Core.Path.{◌≡◌, refl, sym, ap, ap₂, subst, ◌∙◌}
use mathlib.Core.Bool.{Bool, true, false}
use mathlib.Core.List.{List, [], ◌∷◌, ◌++◌}
use Prim.Native.Nat.{ℕ, ◌-◌, ◌<◌, ◌≤◌}
use native.Mathlib.Omega.{arith}
use lib.IntN.{ℤ}
use lib.ListN.{length}
use Rattle.base_limits.specs.Limits as limits
use Rattle.cover_rules.proofs.Laws.Best.{patch_unique}
use Rattle.cover_weight.specs.Edition.{naturals, tri_of, along}
use Rattle.cover_weight.proofs.Laws.Naturals.{naturals_lawful}
use Rattle.cover_bars.specs.Bars.{barred}
use Rattle.fill_fates.specs.Fates.{Fate, patched, long, uncovered, lays, Meets, Becomes, rim}
use Rattle.fill_fates.specs.Course.{Course}

-- no ring is longer than the longest that is patched, and not longer
pub no_longer : (ring : List ℕ) → length ring ≤ limits.longest → limits.longest < length ring → ⊥
no_longer ring a b = omega arith

pub meets_once : (grid : List ℤ) (input laid ring : List ℕ) (f g : Fate) → Meets grid input laid ring f → Meets grid input laid ring g → f ≡ g
meets_once grid input laid ring (patched c) (patched d) p q =
    ap patched (patch_unique naturals naturals_lawful (tri_of (along grid ring)) (barred input laid ring) 0 (length ring - 1) c d p.1 q.1)
meets_once grid input laid ring (patched c) long p q = absurd (no_longer ring p.0 q)
meets_once grid input laid ring (patched c) uncovered p q = absurd (q.1 c p.1.among)
meets_once grid input laid ring long (patched d) p q = absurd (no_longer ring q.0 p)
meets_once grid input laid ring long long p q = refl
meets_once grid input laid ring long uncovered p q = absurd (no_longer ring q.0 p)
meets_once grid input laid ring uncovered (patched d) p q = absurd (p.1 d q.1.among)
meets_once grid input laid ring uncovered long p q = absurd (no_longer ring p.0 q)
meets_once grid input laid ring uncovered uncovered p q = refl
meets_once grid input laid ring (patched c) rim p q = elim q [ ]
meets_once grid input laid ring long rim p q = elim q [ ]
meets_once grid input laid ring uncovered rim p q = elim q [ ]
meets_once grid input laid ring rim g p q = elim p [ ]

pub becomes_once : (grid : List ℤ) (input laid : List ℕ) (k : Bool) (ring : List ℕ) (f g : Fate) → Becomes grid input laid k ring f → Becomes grid input laid k ring g → f ≡ g
becomes_once grid input laid true ring f g p q = p ∙ sym q
becomes_once grid input laid false ring f g p q = meets_once grid input laid ring f g p q

pub course_once : (grid : List ℤ) (input laid : List ℕ) (rims : List Bool) (rings : List (List ℕ)) (fs gs : List Fate) → Course grid input laid rims rings fs → Course grid input laid rims rings gs → fs ≡ gs
course_once grid input laid [] [] [] [] p q = refl
course_once grid input laid [] [] [] (g ∷ gs) p q = absurd q
course_once grid input laid [] [] (f ∷ fs) gs p q = absurd p
course_once grid input laid [] (r ∷ rings) fs gs p q = absurd p
course_once grid input laid (k ∷ rims) [] fs gs p q = absurd p
course_once grid input laid (k ∷ rims) (r ∷ rings) [] gs p q = absurd p
course_once grid input laid (k ∷ rims) (r ∷ rings) (f ∷ fs) [] p q = absurd q
course_once grid input laid (k ∷ rims) (r ∷ rings) (f ∷ fs) (g ∷ gs) p q =
    let e : f ≡ g = becomes_once grid input laid k r f g p.0 q.0 in
    ap₂ (λ (x : Fate) (xs : List Fate). x ∷ xs) e
    (course_once grid input (laid ++ lays r f) rims rings fs gs p.1
    (subst (λ (x : Fate). Course grid input (laid ++ lays r x) rims rings gs) (sym e) q.1))

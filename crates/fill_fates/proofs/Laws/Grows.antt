-- One loop more at the end of a course.
use mathlib.Core.Path.{◌≡◌, refl, sym, ap, ◌∙◌, subst}
use mathlib.Core.Bool.{Bool}
use mathlib.Core.List.{List, [], ◌∷◌, ◌++◌, append-nil, append_assoc}
use Prim.Native.Nat.{ℕ, suc}
use native.Mathlib.Omega.{arith}
use lib.IntN.{ℤ}
use lib.ListN.{length}
use Rattle.fill_fates.specs.Fates.{Fate, state_of, weighs, lays, Becomes}
use Rattle.fill_fates.specs.Course.{Course, weights_of, laid_by, states_of}

pub course_length : (grid : List ℤ) (input laid : List ℕ) (rims : List Bool) (rings : List (List ℕ)) (fs : List Fate) → Course grid input laid rims rings fs → length fs ≡ length rings
course_length grid input laid [] [] [] p = refl
course_length grid input laid [] [] (f ∷ fs) p = absurd p
course_length grid input laid [] (r ∷ rings) fs p = absurd p
course_length grid input laid (k ∷ rims) [] fs p = absurd p
course_length grid input laid (k ∷ rims) (r ∷ rings) [] p = absurd p
course_length grid input laid (k ∷ rims) (r ∷ rings) (f ∷ fs) p = ap suc (course_length grid input (laid ++ lays r f) rims rings fs p.1)

-- the loop behind the others meets its fate with all that they laid
pub course_more : (grid : List ℤ) (input laid : List ℕ) (rims : List Bool) (rings : List (List ℕ)) (fs : List Fate) (k : Bool) (ring : List ℕ) (f : Fate) → Course grid input laid rims rings fs
    → Becomes grid input (laid ++ laid_by rings fs) k ring f → Course grid input laid (rims ++ (k ∷ [])) (rings ++ (ring ∷ [])) (fs ++ (f ∷ []))
course_more grid input laid [] [] [] k ring f p m = (subst (λ (z : List ℕ). Becomes grid input z k ring f) (append-nil laid) m, tt)
course_more grid input laid [] [] (g ∷ fs) k ring f p m = absurd p
course_more grid input laid [] (r ∷ rings) fs k ring f p m = absurd p
course_more grid input laid (j ∷ rims) [] fs k ring f p m = absurd p
course_more grid input laid (j ∷ rims) (r ∷ rings) [] k ring f p m = absurd p
course_more grid input laid (j ∷ rims) (r ∷ rings) (g ∷ fs) k ring f p m = (
  p.0,
  course_more grid input (laid ++ lays r g) rims rings fs k ring f p.1
      (subst (λ (z : List ℕ). Becomes grid input z k ring f) (sym (append_assoc laid (lays r g) (laid_by rings fs))) m),
)

pub laid_more : (rings : List (List ℕ)) (fs : List Fate) (ring : List ℕ) (f : Fate) → length fs ≡ length rings → laid_by (rings ++ (ring ∷ [])) (fs ++ (f ∷ [])) ≡ laid_by rings fs ++ lays ring f
laid_more [] [] ring f e = append-nil (lays ring f)
laid_more [] (g ∷ fs) ring f e = absurd (omega arith)
laid_more (r ∷ rings) [] ring f e = absurd (omega arith)
laid_more (r ∷ rings) (g ∷ fs) ring f e =
    ap (λ (z : List ℕ). lays r g ++ z) (laid_more rings fs ring f (omega arith)) ∙ sym (append_assoc (lays r g) (laid_by rings fs) (lays ring f))

pub weights_more : (grid : List ℤ) (rings : List (List ℕ)) (fs : List Fate) (ring : List ℕ) (f : Fate) → length fs ≡ length rings → weights_of grid (rings ++ (ring ∷ [])) (fs ++ (f ∷ [])) ≡ weights_of grid rings fs ++ (weighs grid ring f ∷ [])
weights_more grid [] [] ring f e = refl
weights_more grid [] (g ∷ fs) ring f e = absurd (omega arith)
weights_more grid (r ∷ rings) [] ring f e = absurd (omega arith)
weights_more grid (r ∷ rings) (g ∷ fs) ring f e = ap (λ (z : List ℕ). weighs grid r g ∷ z) (weights_more grid rings fs ring f (omega arith))

pub states_more : (fs : List Fate) (f : Fate) → states_of (fs ++ (f ∷ [])) ≡ states_of fs ++ (state_of f ∷ [])
states_more [] f = refl
states_more (g ∷ fs) f = ap (λ (z : List ℕ). state_of g ∷ z) (states_more fs f)

-- How much a course lays: whole triangles, fewer than its loops have edges, on the loops' own vertices.
use mathlib.Core.Path.{◌≡◌, refl, ap}
use mathlib.Core.Bool.{Bool, true, false}
use mathlib.Core.List.{List, [], ◌∷◌, ◌++◌, flatten}
use Prim.Native.Nat.{ℕ, suc, ◌+◌, ◌-◌, ◌*◌, ◌%◌, ◌≤◌, zero-le}
use native.Mathlib.Omega.{arith}
use lib.IntN.{ℤ}
use lib.ListN.{length, length-append}
use Rattle.cover_rules.specs.Covers.{patch_of}
use Rattle.cover_rules.proofs.Laws.Corners.{patch_length}
use Rattle.fill_fates.specs.Fates.{Fate, patched, long, uncovered, lays, Meets, Becomes, rim}
use Rattle.fill_fates.specs.Course.{Course, weights_of, laid_by, states_of}

-- ---- one loop

module _ (grid : List ℤ) (input laid ring : List ℕ) where
  pub lays_length : (f : Fate) → Meets grid input laid ring f → length (lays ring f) ≤ 3 * (length ring - 2)
  lays_length (patched c) m = let e : length (patch_of ring c) ≡ 3 * (length ring - 2) = patch_length ring c m.1.among.covers in omega arith
  lays_length long m = zero-le
  lays_length uncovered m = zero-le
  lays_length rim m = elim m [ ]

  pub lays_whole : (f : Fate) → Meets grid input laid ring f → length (lays ring f) % 3 ≡ 0
  lays_whole (patched c) m = let e : length (patch_of ring c) ≡ 3 * (length ring - 2) = patch_length ring c m.1.among.covers in omega arith
  lays_whole long m = refl
  lays_whole uncovered m = refl
  lays_whole rim m = elim m [ ]

  pub kept_length : (k : Bool) (f : Fate) → Becomes grid input laid k ring f → length (lays ring f) ≤ 3 * (length ring - 2)
  kept_length true f e = rw e zero-le
  kept_length false f m = lays_length f m

  pub kept_whole : (k : Bool) (f : Fate) → Becomes grid input laid k ring f → length (lays ring f) % 3 ≡ 0
  kept_whole true f e = rw e
  kept_whole false f m = lays_whole f m

-- ---- all loops

pub laid_length : (grid : List ℤ) (input laid : List ℕ) (rims : List Bool) (rings : List (List ℕ)) (fs : List Fate) → Course grid input laid rims rings fs → length (laid_by rings fs) ≤ 3 * length (flatten rings)
unfolding flatten
laid_length grid input laid [] [] [] p = zero-le
laid_length grid input laid [] [] (f ∷ fs) p = absurd p
laid_length grid input laid [] (r ∷ rings) fs p = absurd p
laid_length grid input laid (k ∷ rims) [] fs p = absurd p
laid_length grid input laid (k ∷ rims) (r ∷ rings) [] p = absurd p
laid_length grid input laid (k ∷ rims) (r ∷ rings) (f ∷ fs) p =
    let a : length (lays r f ++ laid_by rings fs) ≡ length (lays r f) + length (laid_by rings fs) = length-append (lays r f) (laid_by rings fs) in
    let b : length (r ++ flatten rings) ≡ length r + length (flatten rings) = length-append r (flatten rings) in
    let c : length (lays r f) ≤ 3 * (length r - 2) = kept_length grid input laid r k f p.0 in
    let d : length (laid_by rings fs) ≤ 3 * length (flatten rings) = laid_length grid input (laid ++ lays r f) rims rings fs p.1 in
    omega arith

pub laid_whole : (grid : List ℤ) (input laid : List ℕ) (rims : List Bool) (rings : List (List ℕ)) (fs : List Fate) → Course grid input laid rims rings fs → length (laid_by rings fs) % 3 ≡ 0
laid_whole grid input laid [] [] [] p = refl
laid_whole grid input laid [] [] (f ∷ fs) p = absurd p
laid_whole grid input laid [] (r ∷ rings) fs p = absurd p
laid_whole grid input laid (k ∷ rims) [] fs p = absurd p
laid_whole grid input laid (k ∷ rims) (r ∷ rings) [] p = absurd p
laid_whole grid input laid (k ∷ rims) (r ∷ rings) (f ∷ fs) p =
    let a : length (lays r f ++ laid_by rings fs) ≡ length (lays r f) + length (laid_by rings fs) = length-append (lays r f) (laid_by rings fs) in
    let c : length (lays r f) % 3 ≡ 0 = kept_whole grid input laid r k f p.0 in
    let d : length (laid_by rings fs) % 3 ≡ 0 = laid_whole grid input (laid ++ lays r f) rims rings fs p.1 in
    omega arith

pub weights_length : (grid : List ℤ) (rings : List (List ℕ)) (fs : List Fate) → length fs ≡ length rings → length (weights_of grid rings fs) ≡ length fs
weights_length grid [] [] e = refl
weights_length grid [] (f ∷ fs) e = absurd (omega arith)
weights_length grid (r ∷ rings) [] e = absurd (omega arith)
weights_length grid (r ∷ rings) (f ∷ fs) e = ap suc (weights_length grid rings fs (omega arith))

pub states_length : (fs : List Fate) → length (states_of fs) ≡ length fs
states_length [] = refl
states_length (f ∷ fs) = ap suc (states_length fs)

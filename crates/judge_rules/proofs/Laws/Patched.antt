-- What a course leaves is right, loop by loop: a patch is the listing of an allowed cover that none is lighter than.
use mathlib.Core.Path.{◌≡◌, refl, sym, ap, subst}
use mathlib.Core.Bool.{Bool, true, false}
use mathlib.Core.List.{List, [], ◌∷◌, ◌++◌}
use Prim.Native.Nat.{ℕ}
use lib.IntN.{ℤ}
use lib.ListN.{length, take, drop}
use lib.Seq.{take_at, drop_at}
use Rattle.cover_rules.proofs.Laws.Corners.{patch_length}
use Rattle.fill_fates.specs.Fates.{Fate, patched, long, uncovered, state_of, lays, Meets, Becomes, rim}
use Rattle.fill_fates.specs.Course.{Course, laid_by, states_of}
use Rattle.judge_rules.specs.Faults as faults
use Rattle.judge_rules.specs.Verdicts.{taken, AllRight}
use Rattle.judge_rules.proofs.Laws.Listing.{patch_is_cover}

module _ (grid : List ℤ) (input laid ring : List ℕ) where
  -- what a loop lays is as long as what it takes,
  lays_taken : (f : Fate) → Meets grid input laid ring f → length (lays ring f) ≡ taken ring (state_of f)
  lays_taken (patched c) m = patch_length ring c m.1.among.covers
  lays_taken long m = refl
  lays_taken uncovered m = refl
  lays_taken rim m = elim m [ ]

  -- and a loop that meets its fate is right, whatever comes behind what it lays
  pub meets_right : (f : Fate) (rest : List ℕ) → Meets grid input laid ring f
      → faults.Right grid input laid ring (state_of f) (lays ring f ++ rest)
  meets_right (patched c) rest m =
      faults.patched refl m.0 c (patch_is_cover ring c rest m.1.among.covers) m.1.among
      (λ x. m.1.least x.other x.allowed x.lighter)
  meets_right long rest m = faults.long refl m
  meets_right uncovered rest m = faults.open_left refl m.0 m.1
  meets_right rim rest m = elim m [ ]

  -- a rim lays nothing, takes nothing and is declared a rim
  kept_taken : (k : Bool) (f : Fate) → Becomes grid input laid k ring f → length (lays ring f) ≡ taken ring (state_of f)
  kept_taken true f e = rw e
  kept_taken false f m = lays_taken f m

  pub becomes_right : (k : Bool) (f : Fate) (rest : List ℕ) → Becomes grid input laid k ring f → faults.RightIf grid input laid k ring (state_of f) (lays ring f ++ rest)
  becomes_right true f rest e = ap state_of e
  becomes_right false f rest m = meets_right f rest m

  -- it takes what it laid, and leaves the rest
  takes_laid : (k : Bool) (f : Fate) (rest : List ℕ) → Becomes grid input laid k ring f → take (taken ring (state_of f)) (lays ring f ++ rest) ≡ lays ring f
  takes_laid k f rest m = take_at (lays ring f) rest (taken ring (state_of f)) (kept_taken k f m)

  leaves_rest : (k : Bool) (f : Fate) (rest : List ℕ) → Becomes grid input laid k ring f → drop (taken ring (state_of f)) (lays ring f ++ rest) ≡ rest
  leaves_rest k f rest m = drop_at (lays ring f) rest (taken ring (state_of f)) (kept_taken k f m)

pub course_right : (grid : List ℤ) (input laid : List ℕ) (rims : List Bool) (rings : List (List ℕ)) (fates : List Fate)
    → Course grid input laid rims rings fates → AllRight grid input laid rims rings (states_of fates) (laid_by rings fates)
course_right grid input laid [] [] [] p = refl
course_right grid input laid [] [] (f ∷ fates) p = absurd p
course_right grid input laid [] (r ∷ rings) fates p = absurd p
course_right grid input laid (k ∷ rims) [] fates p = absurd p
course_right grid input laid (k ∷ rims) (r ∷ rings) [] p = absurd p
course_right grid input laid (k ∷ rims) (r ∷ rings) (f ∷ fates) p =
    let rest = laid_by rings fates in (
      becomes_right grid input laid r k f rest p.0,
      subst (λ (s : List ℕ). AllRight grid input (laid ++ s) rims rings (states_of fates) (drop (taken r (state_of f)) (lays r f ++ rest)))
          (sym (takes_laid grid input laid r k f rest p.0))
          (subst (AllRight grid input (laid ++ lays r f) rims rings (states_of fates))
          (sym (leaves_rest grid input laid r k f rest p.0))
          (course_right grid input (laid ++ lays r f) rims rings fates p.1)),
    )

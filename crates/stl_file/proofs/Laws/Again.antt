-- Corners under the numbers of first use: as many as before, two of them the same point exactly if they were, and so the same edges open.
use Rattle.std.specs.Prelude.{Option}
use mathlib.Core.Path.{◌≡◌, refl, sym, ap, ap₂, ◌∙◌}
use mathlib.Core.Bool.{Bool, true, not, ◌&&◌}
use mathlib.Core.List.{List}
use mathlib.Core.Logic.{⊎_elim}
use Prim.Native.Nat.{ℕ, ◌%◌, ◌<◌}
use native.Mathlib.Omega.{arith}
use lib.Dec.{eqb}
use lib.ListN.{length, get_or, length-map}
use borrow.Author.Tests.{eq-eqb, ne_eqb, eqb-true}
use Rattle.surface_rules.specs.Smallest.{least, any}
use Rattle.surface_rules.specs.Edges.{following, start_of, end_of, goes, twin, is_open}
use Rattle.surface_rules.proofs.Laws.Edges.{following_below}
use Rattle.surface_rules.proofs.Laws.Lists.{map_at}
use Rattle.surface_rules.proofs.Laws.Smallest.{least_same}
use Rattle.surface_rules.proofs.Laws.Tests.{eq_or_not}
use Rattle.stl_rules.specs.FirstUse.{stands, first_uses, index_or, numbers}
use Rattle.stl_rules.specs.Reading.{none}
use Rattle.stl_rules.proofs.Laws.Uses.{number_stands, number_below}
use Rattle.stl_file.specs.Bytes.{point_of}
use Rattle.stl_file.specs.Again.{used, points_again, corners_again}
use Rattle.stl_file.proofs.Laws.Renamed.{All, all_at, at_all, uses_keep}

-- two pairs of numbers that are equal together are told apart together
eqb_same : {a b c d : ℕ} → (a ≡ b → c ≡ d) → (c ≡ d → a ≡ b) → eqb a b ≡ eqb c d
eqb_same {a} {b} {c} {d} f g = ⊎_elim (λ (e : a ≡ b). eq-eqb a b e ∙ sym (eq-eqb c d (f e))) (λ (n : a ≡ b → ⊥). ne_eqb a b n ∙ sym (ne_eqb c d (λ e. n (g e)))) (eq_or_not a b)

module _ (corners : List ℕ) where
  pub again_length : length (corners_again corners) ≡ length corners
  unfolding numbers
  again_length = length-map corners _

  again_is : (i : ℕ) → i < length corners → get_or (corners_again corners) i 0 ≡ index_or eqb 0 (stands eqb 0 (used corners) (get_or corners i 0))
  unfolding numbers
  again_is i h = map_at (λ (v : ℕ). index_or eqb 0 (stands eqb 0 (used corners) v)) 0 0 corners i h

  self : (v : ℕ) → eqb v v ≡ true
  self v = eq-eqb v v refl

  -- a new number is that of a point that is used, and that point is the corner's
  pub again_below : (i : ℕ) → i < length corners → get_or (corners_again corners) i 0 < length (used corners)
  again_below i h = rw (again_is i h) (number_below eqb 0 self corners i h)

  pub again_names : (i : ℕ) → i < length corners → get_or (used corners) (get_or (corners_again corners) i 0) 0 ≡ get_or corners i 0
  again_names i h = ap (λ (k : ℕ). get_or (used corners) k 0) (again_is i h) ∙ eqb-true _ _ (number_stands eqb 0 self corners i h)

  -- every point that is used is some corner's
  pub used_are : (k : ℕ) → k < length (used corners) → (i : ℕ) × (i < length corners) × (get_or corners i 0 ≡ get_or (used corners) k 0)
  used_are k h =
      let P : ℕ → Type 0 = λ v. (i : ℕ) × (i < length corners) × (get_or corners i 0 ≡ v) in
      all_at 0 P (used corners) (uses_keep 0 P eqb corners (at_all 0 P corners (λ i l. (i, l, refl)))) k h

  module _ (i j : ℕ) (l : i < length corners) (m : j < length corners) where
    pub again_same : get_or (corners_again corners) i 0 ≡ get_or (corners_again corners) j 0 → get_or corners i 0 ≡ get_or corners j 0
    again_same e = sym (again_names i l) ∙ ap (λ (k : ℕ). get_or (used corners) k 0) e ∙ again_names j m

    pub same_again : get_or corners i 0 ≡ get_or corners j 0 → get_or (corners_again corners) i 0 ≡ get_or (corners_again corners) j 0
    same_again e = again_is i l ∙ ap (λ (v : ℕ). index_or eqb 0 (stands eqb 0 (used corners) v)) e ∙ sym (again_is j m)

    again_eqb : eqb (get_or (corners_again corners) i 0) (get_or (corners_again corners) j 0) ≡ eqb (get_or corners i 0) (get_or corners j 0)
    again_eqb = eqb_same again_same same_again

  -- the words of a corner's point stay
  pub again_words : (words : List ℕ) (i : ℕ) → i < length corners → get_or (points_again words corners) (get_or (corners_again corners) i 0) none ≡ point_of words (get_or corners i 0)
  again_words words i h = map_at (point_of words) 0 none (used corners) (get_or (corners_again corners) i 0) (again_below i h) ∙ ap (point_of words) (again_names i h)

  module _ (t : length corners % 3 ≡ 0) (h : ℕ) (l : h < length corners) where
    again_goes : (g : ℕ) → g < length corners
        → goes (corners_again corners) (end_of (corners_again corners) h) (start_of (corners_again corners) h) g ≡ goes corners (end_of corners h) (start_of corners h) g
    unfolding goes
    again_goes g m =
        let after = following_below (length corners) in
        ap₂ (λ (s t : Bool). s && t) (again_eqb g (following h) m (after h t l)) (again_eqb (following g) h (after g t m) l)

    pub again_open : is_open (corners_again corners) h ≡ is_open corners h
    unfolding is_open twin
    again_open =
        ap (λ (f : Option ℕ). not (any f))
        (ap (least (goes (corners_again corners) (end_of (corners_again corners) h) (start_of (corners_again corners) h))) again_length ∙ least_same _ _ (length corners) again_goes)

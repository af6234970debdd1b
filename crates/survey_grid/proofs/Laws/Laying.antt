-- Words that the refusals 7 and 8 let pass have a whole number each, and these are laid over the grid one by one.
use mathlib.Core.Path.{◌≡◌, sym, ap, ◌∙◌}
use mathlib.Core.Bool.{true≢false}
use mathlib.Core.List.{List, [], ◌∷◌, ◌++◌, map-append}
use Prim.Native.Nat.{ℕ, ◌+◌, ◌≤◌, ◌<◌}
use mathlib.Core.Logic.{⊎_elim}
use native.Mathlib.Numerals.{add-one}
use native.Mathlib.Omega.{arith}
use lib.IntN.{ℤ, pos}
use lib.ListN.{length, get_or, take, set, length-map}
use lib.Seq.{take_all, take-suc, length-take-le}
use lib.Ieee.{binary32, of_bits}
use Rattle.grid_coordinate.specs.Places.{Places}
use Rattle.grid_coordinate.specs.declared.Coordinate.TheVariants.{NotFinite, TooFar}
use Rattle.grid_coordinate.proofs.Laws.Floats.{field, no_number}
use Rattle.grid_place.proofs.Laws.Placing.{beyond}
use Rattle.surface_rules.specs.Buffers.{over}
use Rattle.surface_rules.specs.Refusals.{not_finite, too_far}
use Rattle.surface_rules.proofs.Laws.Tests.{eq_or_not, lt_or_le}
use Rattle.surface_rules.proofs.Laws.Smallest.{least_never}
use Rattle.surface_rules.proofs.Laws.Over.{over_none, over_snoc}
use Rattle.check_words.proofs.Laws.Words.{not_finite_is, too_far_is}
use Rattle.check_words.specs.Workings.OnGrid.{OnGrid}
use Rattle.survey_grid.specs.Grid.{whole_of, grid_of}

-- of the answers for a coordinate two are not met
module _ (pitch : ℕ) (some : 0 < pitch) (most : pitch ≤ 10) (words : List ℕ) (i : ℕ) (on : OnGrid pitch words) (l : i < length words) where
  pub no_nan : Places pitch (of_bits binary32 (get_or words i 0)) NotFinite → ⊥
  no_nan p = true≢false (sym (not_finite_is pitch words i NotFinite p) ∙ least_never (not_finite words) (length words) on.numbers i l)

  pub not_far : (x : lib.Ieee.Float) → Places pitch (of_bits binary32 (get_or words i 0)) (TooFar x) → ⊥
  not_far x p = true≢false (sym (too_far_is pitch words i (TooFar x) p) ∙ least_never (too_far pitch words) (length words) on.near i l)

  -- so the exponent's field is none that belongs to them
  pub low_field : field (get_or words i 0) < 149
  low_field = ⊎_elim (λ (h : field (get_or words i 0) < 149). h) (λ (h : 149 ≤ field (get_or words i 0)). absurd (high h)) (lt_or_le (field (get_or words i 0)) 149)
    where
      high : 149 ≤ field (get_or words i 0) → ⊥
      high h =
          ⊎_elim
          (λ (e : field (get_or words i 0) ≡ 255). no_nan (no_number (get_or words i 0) e))
          (λ (n : field (get_or words i 0) ≡ 255 → ⊥). not_far (of_bits binary32 (get_or words i 0)) (beyond (get_or words i 0) pitch some most h n))
          (eq_or_not (field (get_or words i 0)) 255)

-- the first i words are laid
unfoldable pub Laid : ℕ → List ℕ → List ℤ → ℕ → List ℤ → Type 0
Laid pitch words before i now = now ≡ over (grid_of pitch (take i words)) before

pub laid_none : (pitch : ℕ) (words : List ℕ) (before : List ℤ) → Laid pitch words before 0 before
unfolding Laid
laid_none pitch words before = sym (over_none before)

pub laid_more : (pitch : ℕ) (words : List ℕ) (before : List ℤ) (i : ℕ) (now : List ℤ) (v : ℤ) → Laid pitch words before i now → i < length words → length words ≤ length before → v ≡ whole_of pitch (get_or words i 0) → Laid pitch words before (i + 1) (set now i v)
unfolding Laid
laid_more pitch words before i now v h l m e =
    let n : i ≡ length (grid_of pitch (take i words)) = sym (length-map (take i words) (whole_of pitch) ∙ length-take-le i words (omega arith)) in
    ap (λ (g : List ℤ). set g i v) h
    ∙ over_snoc (grid_of pitch (take i words)) before v (pos 0) i n (omega arith)
    ∙ ap (λ (z : ℤ). over (grid_of pitch (take i words) ++ (z ∷ [])) before) e
    ∙ ap (λ (g : List ℤ). over g before) (sym (map-append (whole_of pitch) (take i words) (get_or words i 0 ∷ [])) ∙ ap (grid_of pitch) (sym (take-suc words i 0 l) ∙ ap (λ (k : ℕ). take k words) (sym (add-one i))))

pub laid_all : (pitch : ℕ) (words : List ℕ) (before : List ℤ) (i : ℕ) (now : List ℤ) → Laid pitch words before i now → length words ≤ i → now ≡ over (grid_of pitch words) before
unfolding Laid
laid_all pitch words before i now h l = h ∙ ap (λ (w : List ℕ). over (grid_of pitch w) before) (take_all i words l)

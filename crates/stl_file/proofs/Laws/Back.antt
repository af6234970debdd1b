-- A written file that is read: its corners are the triangles' corners, point by point; it has no more points than the surface; and where no two
-- points are alike, it is the surface under the numbers of first use.
use Rattle.std.specs.Prelude.{Option, Some, None}
use mathlib.Core.Path.{◌≡◌, refl, sym, ap, ap₂, ◌∙◌, subst}
use mathlib.Core.Bool.{Bool, true, false, true≢false, cond, ◌&&◌}
use mathlib.Core.List.{List, [], ◌∷◌, map}
use mathlib.Core.Logic.{⊎_elim}
use Prim.Native.Nat.{ℕ, ◌+◌, ◌*◌, ◌/◌, ◌^◌, ◌<◌, ◌≤◌}
use native.Mathlib.Omega.{arith}
use lib.Dec.{eqb}
use lib.ListN.{length, get_or, length-map}
use lib.Seq.{ext_get_or}
use borrow.Author.Tests.{eq-eqb, ne_eqb, le-leb, leb-false}
use Rattle.base_answers.specs.Answers.{Corners, Words, Unnamed}
use Rattle.base_answers.specs.declared.Answer.TheVariants.{Done}
use Rattle.base_limits.specs.Limits as limits
use Rattle.surface_rules.specs.Smallest.{least}
use Rattle.surface_rules.specs.Refusals.{then_check, refuse_at, unnamed, unnamed_refusal, buffer_refusal}
use Rattle.surface_rules.specs.Threes.{Three}
use Rattle.surface_rules.proofs.Laws.Lists.{map_at}
use Rattle.surface_rules.proofs.Laws.Smallest.{least_never}
use Rattle.surface_rules.proofs.Laws.Tests.{not_so, eq_or_not}
use Rattle.surface_rules.proofs.Laws.Thens.{two_long}
use Rattle.loop_rules.proofs.Laws.Distinct.{Distinct as Once, Bounded, distinct_bound}
use Rattle.stl_facets.specs.Facets.{front, facet_bytes, facets}
use Rattle.stl_rules.specs.FirstUse.{first_uses, numbers}
use Rattle.stl_rules.specs.File.{fits, corners_to, agree}
use Rattle.stl_rules.specs.Reading.{none, all_corners, points_in, corners_in, size_refusal, file_refusal, read_refusal}
use Rattle.stl_rules.proofs.Laws.Files.{agree_self, corners_to_length, corners_to_at}
use Rattle.stl_rules.proofs.Laws.Sizes.{fits_many, fits_done}
use Rattle.stl_rules.proofs.Laws.Uses.{Distinct, uses_distinct}
use Rattle.stl_file.specs.Bytes.{point_of, file_of}
use Rattle.stl_file.specs.Again.{NoTwoAlike, points_again, corners_again}
use Rattle.stl_file.proofs.Laws.Sizes.{file_length}
use Rattle.stl_file.proofs.Laws.Renamed.{All, all_at, at_all, uses_keep, uses_map, numbers_map}
use Rattle.stl_file.proofs.Laws.Written.{Small, file_count, corner_point}

-- ---- corners that name points

-- every corner names one of so many points
abbrev pub Named : ℕ → List ℕ → Type 0
Named points corners = (i : ℕ) → i < length corners → get_or corners i 0 < points

pub named_says : (points : ℕ) (corners : List ℕ) → unnamed_refusal corners points ≡ Done → Named points corners
unfolding unnamed
named_says points corners d = go (least (unnamed corners points) (length corners)) refl d
  where
    go : (f : Option ℕ) → least (unnamed corners points) (length corners) ≡ f → refuse_at Unnamed f ≡ Done → Named points corners
    go (Some i) e q = let z : ◌≡◌ {A = ℕ} 0 1 = cc in absurd (omega arith)
    go None e q = λ i h. leb-false _ _ (least_never (unnamed corners points) (length corners) e i h)

-- what is met of numbers below n are at most n, each met once: by the pigeonhole
module _ (same : ℕ → ℕ → Bool) (self : (v : ℕ) → same v v ≡ true) (l : List ℕ) where
  uses_once : Once (first_uses same 0 l)
  unfolding Once Distinct
  uses_once i j a b e =
      let apart : (j k : ℕ) → j < k → k < length (first_uses same 0 l) → get_or (first_uses same 0 l) j 0 ≡ get_or (first_uses same 0 l) k 0 → ⊥ =
      λ j k p q f. true≢false (sym (self _) ∙ ap (same _) f ∙ uses_distinct same 0 l j k p q) in
      let before : i < j → ⊥ = λ p. apart i j p b e in
      let after : j < i → ⊥ = λ p. apart j i p a (sym e) in
      omega arith

  uses_below : (n : ℕ) → Named n l → length (first_uses same 0 l) ≤ n
  unfolding Bounded
  uses_below n w = distinct_bound n (first_uses same 0 l) uses_once (all_at 0 (λ (v : ℕ). v < n) (first_uses same 0 l) (uses_keep 0 (λ (v : ℕ). v < n) same l (at_all 0 (λ (v : ℕ). v < n) l w)))

-- ---- the file

-- some words of 32 bits, and n triangles
module _ (words corners : List ℕ) (small : Small words) (n : ℕ) (h : length corners ≡ 3 * n) (b : n < 2 ^ 32) where
  abbrev file : List ℕ
  file = file_of words corners

  pub count_back : facets file ≡ n
  count_back = file_count words corners (omega arith) ∙ (let z : length corners / 3 ≡ n = omega arith in z)

  long : length file ≡ front + facet_bytes * facets file
  long = omega (arith, file_length words corners, count_back)

  pub file_fits : fits (length file) (facets file) ≡ true
  unfolding fits
  file_fits = ap₂ (λ (s t : Bool). s && t) (le-leb front (length file) (omega (arith, long))) (eq-eqb (length file) (front + facet_bytes * facets file) long)

  -- every triangle comes back with its words
  pub corners_back : all_corners file ≡ map (point_of words) corners
  corners_back =
      let m : 3 * facets file ≡ length corners = omega (arith, count_back) in
      ap (corners_to file) m
      ∙ ext_get_or none (corners_to file (length corners)) (map (point_of words) corners) (corners_to_length file (length corners) ∙ sym (length-map corners (point_of words)))
      (λ i l.
      let s : i < length corners = rw (← corners_to_length file (length corners)) l in
      corners_to_at file (length corners) i s ∙ corner_point words corners small n h i s ∙ sym (map_at (point_of words) 0 none corners i s))

  -- more triangles than a surface has are refused by their count
  pub many_refused : limits.triangles < n → (ws cs : List ℕ) → read_refusal file ws cs ≡ Corners
  unfolding read_refusal file_refusal
  many_refused many ws cs = rw (← fits_many (length file) (facets file) (omega (arith, long)) long (omega (arith, count_back)))

  module _ (named : Named (length words / 3) corners) where
    -- no more points than the surface has, also where two of them are alike
    pub points_few : length (points_in file) ≤ length words / 3
    unfolding points_in
    points_few =
        let alike : ℕ → ℕ → Bool = λ u v. agree (point_of words u) (point_of words v) in
        let e : length (first_uses agree none (all_corners file)) ≡ length (first_uses alike 0 corners) =
        ap (λ (s : List Three). length (first_uses agree none s)) corners_back
        ∙ ap length (uses_map alike 0 agree none (λ (v : ℕ). v < length words / 3) (point_of words) (λ u v p q. refl) corners (at_all 0 (λ (v : ℕ). v < length words / 3) corners named))
        ∙ length-map (first_uses alike 0 corners) (point_of words) in
        omega (arith, e, uses_below alike (λ v. agree_self (point_of words v)) corners (length words / 3) named)

    pub few_done : n ≤ limits.triangles → length words / 3 ≤ limits.points → (ws cs : List ℕ) → length words ≤ length ws → length corners ≤ length cs → read_refusal file ws cs ≡ Done
    unfolding read_refusal file_refusal
    few_done few fit ws cs wide tall =
        let p = points_few in
        rw (
          ← fits_done (length file) (facets file) (omega (arith, long)) long (omega (arith, count_back)),
          le-leb (length (points_in file)) limits.points (omega arith),
          two_long (length ws) (length cs) (3 * length (points_in file)) (3 * facets file) (omega arith) (omega (arith, count_back)),
        )

    -- where no two points are alike, corners are one point exactly if they have one number
    module _ (apart : NoTwoAlike words) where
      faithful : (u v : ℕ) → u < length words / 3 → v < length words / 3 → agree (point_of words u) (point_of words v) ≡ eqb u v
      faithful u v a b =
          ⊎_elim
          (λ (e : u ≡ v). ap (λ (x : ℕ). agree (point_of words u) (point_of words x)) (sym e) ∙ agree_self (point_of words u) ∙ sym (eq-eqb u v e))
          (λ (d : u ≡ v → ⊥). not_so _ (λ e. d (apart u v a b e)) ∙ sym (ne_eqb u v d))
          (eq_or_not u v)

      pub points_back : points_in file ≡ points_again words corners
      unfolding points_in
      points_back =
          ap (first_uses agree none) corners_back
          ∙ uses_map eqb 0 agree none (λ (v : ℕ). v < length words / 3) (point_of words) faithful corners (at_all 0 (λ (v : ℕ). v < length words / 3) corners named)

      pub numbers_back : corners_in file ≡ corners_again corners
      unfolding corners_in
      numbers_back =
          ap (numbers agree none) corners_back
          ∙ numbers_map eqb 0 agree none (λ (v : ℕ). v < length words / 3) (point_of words) faithful corners (at_all 0 (λ (v : ℕ). v < length words / 3) corners named)

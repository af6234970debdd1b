-- The input and the patches of all its loops together: no directed edge occurs in two of them. A side turned round is no edge of the input,
-- because the side is open, and of one loop only; and a diagonal is joined neither in the input nor in an earlier patch.
use Prim.Native.Nat.{ℕ, ◌<◌, ◌≤◌, ◌%◌, ◌+◌}
use mathlib.Core.Path.{◌≡◌, ap, ◌∙◌}
use mathlib.Core.Logic.{◌⊎◌, inl, inr, ⊎_elim}
use mathlib.Core.List.{List, [], ◌++◌, flatten}
use native.Mathlib.Omega.{arith}
use native.Mathlib.Decide.{dec_lt}
use lib.ListN.{length, get_or}
use Rattle.fill_edges.proofs.Laws.Times.{times, times_append, times_none}
use Rattle.fill_edges.proofs.Laws.Filled.{Laid}
use Rattle.fill_edges.proofs.Laws.Sums.{Wholes, flat_part, flat_found, flat_once}

-- What is asked of the loops' sides, each turned round: the side is an edge of the input, its turn is none, and it lies in one loop.
pub record Sides (input : List ℕ) (many : ℕ) (Side : ℕ → ℕ → ℕ → Type 0) : Type 0 where
  pub there : (l u v : ℕ) → l < many → Side l u v → 0 < times input v u
  pub opens : (l u v : ℕ) → l < many → Side l u v → times input u v ≡ 0
  pub one_loop : (l m u v : ℕ) → l < many → m < many → Side l u v → Side m u v → l ≡ m

-- u to v is a diagonal in loop l: it is joined neither in the input nor in another patch
pub record Diagonal (input : List ℕ) (ps : List (List ℕ)) (l u v : ℕ) : Type 0 where
  pub not_along : times input u v ≡ 0
  pub not_against : times input v u ≡ 0
  pub others_along : (m : ℕ) → m < length ps → (m ≡ l → ⊥) → times (get_or ps m []) u v ≡ 0
  pub others_against : (m : ℕ) → m < length ps → (m ≡ l → ⊥) → times (get_or ps m []) v u ≡ 0

module _ (input : List ℕ) (input_whole : length input % 3 ≡ 0) (Side : ℕ → ℕ → ℕ → Type 0) (ps : List (List ℕ))
    (sides : Sides input (length ps) Side) (laid : (l : ℕ) → l < length ps → Laid input [] (Side l) ps l) where
  abbrev patch : ℕ → List ℕ
  patch l = get_or ps l []

  abbrev together : List ℕ
  together = input ++ flatten ps

  pub together_wholes : Wholes ps
  together_wholes l k = (laid l k).lies.whole

  sum : (u v : ℕ) → times together u v ≡ times input u v + times (flatten ps) u v
  sum u v = times_append input (flatten ps) input_whole u v

  -- ---- two patches

  -- an edge of a patch is in no earlier one
  earlier_apart : (l m : ℕ) → l < length ps → m < l → (u v : ℕ) → 0 < times (patch l) u v → 0 < times (patch m) u v → ⊥
  earlier_apart l m k q u v s t =
      let r : m < length ps = omega arith in
      ⊎_elim
      (λ x.
      ⊎_elim
      (λ y. let e : l ≡ m = sides.one_loop l m u v k r x y in omega arith)
      (λ y. omega (arith, sides.there l u v k x, y.not_turned))
      ((laid m r).lies.kind u v t))
      (λ x. omega (arith, x.not_laid, (laid l k).earlier m q u v))
      ((laid l k).lies.kind u v s)

  one_patch : (l m : ℕ) → l < length ps → m < length ps → (u v : ℕ) → 0 < times (patch l) u v → 0 < times (patch m) u v → l ≡ m
  one_patch l m k q u v s t = go (dec_lt m l) (dec_lt l m)
    where
      go : Dec (m < l) → Dec (l < m) → l ≡ m
      go (yes x) y = absurd (earlier_apart l m k x u v s t)
      go (no x) (yes y) = absurd (earlier_apart m l q y u v t s)
      go (no x) (no y) = omega arith

  other_none : (l m : ℕ) → l < length ps → m < length ps → (m ≡ l → ⊥) → (u v : ℕ) → 0 < times (patch l) u v → times (patch m) u v ≡ 0
  other_none l m k q n u v s = go (dec_lt 0 (times (patch m) u v))
    where
      go : Dec (0 < times (patch m) u v) → times (patch m) u v ≡ 0
      go (yes t) = absurd (n (one_patch m l q k u v t s))
      go (no t) = omega arith

  -- ---- a patch and the input

  not_in_input : (l : ℕ) → l < length ps → (u v : ℕ) → 0 < times (patch l) u v → times input u v ≡ 0
  not_in_input l k u v s = ⊎_elim (λ x. sides.opens l u v k x) (λ x. x.not_input) ((laid l k).lies.kind u v s)

  -- no edge occurs twice
  pub together_once : ((u v : ℕ) → times input u v ≤ 1) → (u v : ℕ) → times (input ++ flatten ps) u v ≤ 1
  together_once one u v = go (dec_lt 0 (times (flatten ps) u v))
    where
      patches_once : times (flatten ps) u v ≤ 1
      patches_once = flat_once u v ps together_wholes (λ l k. (laid l k).lies.once u v) (λ l m k q s t. one_patch l m k q u v s t)

      go : Dec (0 < times (flatten ps) u v) → times together u v ≤ 1
      go (yes s) =
          let y = flat_found u v ps together_wholes s in
          omega (arith, sum u v, patches_once, not_in_input y.0 y.1 u v y.2)
      go (no s) = omega (arith, sum u v, one u v)

  -- ---- which edges are met

  -- an edge of a patch is met by another
  pub patch_met : (u v : ℕ) → 0 < times (flatten ps) u v → 0 < times (input ++ flatten ps) v u
  patch_met u v s =
      let y = flat_found u v ps together_wholes s in
      ⊎_elim
      (λ x. omega (arith, sum v u, sides.there y.0 u v y.1 x))
      (λ x. omega (arith, sum v u, x.goes_back, flat_part v u ps together_wholes y.0 y.1))
      ((laid y.0 y.1).lies.kind u v y.2)

  -- so is a side of a loop in which something was laid,
  pub side_met : (l u v : ℕ) → l < length ps → Side l u v → times (input ++ flatten ps) u v ≡ 0 → get_or ps l [] ≡ []
  side_met l u v k x z =
      ⊎_elim
      (λ e. e)
      (λ f. absurd (omega (arith, sum u v, f u v x, flat_part u v ps together_wholes l k)))
      (laid l k).lies.closes

  -- and one of a loop in which nothing was laid is not
  pub side_left : (l u v : ℕ) → l < length ps → Side l u v → get_or ps l [] ≡ [] → times (input ++ flatten ps) u v ≡ 0
  side_left l u v k x e = go (dec_lt 0 (times (flatten ps) u v))
    where
      empty : times (patch l) u v ≡ 0
      empty = ap (λ (p : List ℕ). times p u v) e ∙ times_none u v

      go : Dec (0 < times (flatten ps) u v) → times together u v ≡ 0
      go (yes s) =
          let y = flat_found u v ps together_wholes s in
          ⊎_elim
          (λ a.
          let f : y.0 ≡ l = sides.one_loop y.0 l u v y.1 k a x in
          absurd (omega (arith, y.2, ap (λ (m : ℕ). times (patch m) u v) f, empty)))
          (λ a. absurd (omega (arith, a.not_turned, sides.there l u v k x)))
          ((laid y.0 y.1).lies.kind u v y.2)
      go (no s) = omega (arith, sum u v, sides.opens l u v k x)

  -- ---- the edges of one patch

  -- an edge of a patch is a side turned round, or a diagonal that the input and the other patches have in neither direction
  pub patch_edge : (l u v : ℕ) → l < length ps → 0 < times (get_or ps l []) u v → Side l u v ⊎ Diagonal input ps l u v
  patch_edge l u v k s =
      ⊎_elim
      inl
      (λ x.
      inr (record {
        not_along = x.not_input;
        not_against = x.not_turned;
        others_along = λ m q n. other_none l m k q n u v s;
        others_against = λ m q n. other_none l m k q n v u (omega (arith, x.goes_back));
      }))
      ((laid l k).lies.kind u v s)

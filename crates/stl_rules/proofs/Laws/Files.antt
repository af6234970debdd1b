-- The corners of a file, the points that they are, and the points' numbers.
use mathlib.Core.Path.{◌≡◌, refl, sym, ap, ◌∙◌, subst}
use mathlib.Core.Bool.{Bool, true, false, true≢false, cond, ◌&&◌}
use mathlib.Core.Logic.{⊎_elim}
use mathlib.Core.List.{List, [], ◌∷◌, ◌++◌}
use Prim.Native.Nat.{ℕ, zero, suc, ◌+◌, ◌*◌, ◌/◌, ◌<◌, ◌≤◌}
use native.Mathlib.Omega.{arith}
use native.Mathlib.Nat.{eq-or-lt_of_le}
use lib.Dec.{eqb}
use lib.ListN.{length, get_or, length-append, length-map}
use borrow.Author.Tests.{eq-eqb, eqb-true, lt-leb}
use Rattle.base_answers.specs.Answers.{Unnamed}
use Rattle.base_answers.specs.declared.Answer.TheVariants.{Done}
use Rattle.surface_rules.specs.Smallest.{any}
use Rattle.surface_rules.specs.Refusals.{unnamed, refuse_at, unnamed_refusal}
use Rattle.surface_rules.specs.Threes.{Three, three, flat}
use Rattle.surface_rules.proofs.Laws.Lists.{map_at}
use Rattle.surface_rules.proofs.Laws.Smallest.{never_least}
use Rattle.surface_rules.proofs.Laws.Tests.{both_true, lt_or_le}
use Rattle.surface_rules.proofs.Laws.Threes.{flat_length}
use Rattle.stl_facets.specs.Facets.{facets}
use Rattle.stl_rules.specs.FirstUse.{stands, meet, meet_all, first_uses, index_or, numbers}
use Rattle.stl_rules.specs.File.{point_at, corner_place, corners_to, agree}
use Rattle.stl_rules.specs.Reading.{none, all_corners, points_in, corners_in}
use Rattle.stl_rules.proofs.Laws.Uses.{more_before, more_last, more_length, uses_more, Distinct, uses_distinct, number_stands, number_below}

-- ---- points that agree

pub all_three : {a b c x y z : ℕ} → a ≡ x → b ≡ y → c ≡ z → three a b c ≡ three x y z
all_three p q r = rw (p, q, r)

pub agree_says : (p q : Three) → agree p q ≡ true → p ≡ q
unfolding agree
agree_says p q e =
    let s = both_true (eqb p.first q.first && eqb p.second q.second) (eqb p.third q.third) e in
    let t = both_true (eqb p.first q.first) (eqb p.second q.second) s.0 in
    all_three (eqb-true _ _ t.0) (eqb-true _ _ t.1) (eqb-true _ _ s.1)

pub agree_self : (p : Three) → agree p p ≡ true
unfolding agree
agree_self p = rw (eq-eqb p.first p.first refl, eq-eqb p.second p.second refl, eq-eqb p.third p.third refl)

agree_same : {p q : Three} → p ≡ q → agree p q ≡ true
agree_same {p} e = ap (agree p) (sym e) ∙ agree_self p

-- ---- the corners

pub corners_to_length : (b : List ℕ) (n : ℕ) → length (corners_to b n) ≡ n
unfolding corners_to
corners_to_length b zero = refl
corners_to_length b (suc n) = length-append (corners_to b n) (_ ∷ []) ∙ (let e = corners_to_length b n in omega arith)

pub corners_to_at : (b : List ℕ) (n i : ℕ) → i < n → get_or (corners_to b n) i none ≡ point_at b (corner_place i)
unfolding corners_to
corners_to_at b zero i h = absurd (omega arith)
corners_to_at b (suc n) i h =
    let last = point_at b (corner_place n) in
    ⊎_elim
    (λ (e : i ≡ n).
    ap (λ (z : ℕ). get_or (corners_to b n ++ (last ∷ [])) z none) (e ∙ sym (corners_to_length b n))
    ∙ more_last none (corners_to b n) last
    ∙ ap (λ (z : ℕ). point_at b (corner_place z)) (sym e))
    (λ (l : i < n). more_before none (corners_to b n) last i (rw (corners_to_length b n) l) ∙ corners_to_at b n i l)
    (eq-or-lt_of_le (omega arith))

-- ---- the points and their numbers

module _ (b : List ℕ) where
  corners_many : length (all_corners b) ≡ 3 * facets b
  corners_many = corners_to_length b (3 * facets b)

  pub corners_count : length (corners_in b) ≡ 3 * facets b
  unfolding corners_in numbers
  corners_count = length-map (all_corners b) _ ∙ corners_many

  -- the number of corner i's point
  corner_number : (i : ℕ) → i < 3 * facets b → get_or (corners_in b) i 0 ≡ index_or agree none (stands agree none (first_uses agree none (all_corners b)) (get_or (all_corners b) i none))
  unfolding corners_in numbers
  corner_number i h = map_at (λ (x : Three). index_or agree none (stands agree none (first_uses agree none (all_corners b)) x)) none 0 (all_corners b) i (rw corners_many h)

  pub corner_below : (i : ℕ) → i < 3 * facets b → get_or (corners_in b) i 0 < length (points_in b)
  unfolding points_in
  corner_below i h = rw (corner_number i h) (number_below agree none agree_self (all_corners b) i (rw corners_many h))

  -- corner i names the point whose words stand at corner i's place
  pub corner_words : (i : ℕ) → i < 3 * facets b → get_or (points_in b) (get_or (corners_in b) i 0) none ≡ point_at b (corner_place i)
  unfolding points_in
  corner_words i h =
      ap (λ (z : ℕ). get_or (first_uses agree none (all_corners b)) z none) (corner_number i h)
      ∙ agree_says _ _ (number_stands agree none agree_self (all_corners b) i (rw corners_many h))
      ∙ corners_to_at b (3 * facets b) i h

  -- no two points agree in all three words
  pub points_differ : (j k : ℕ) → j < k → k < length (points_in b) → agree (get_or (points_in b) j none) (get_or (points_in b) k none) ≡ false
  unfolding points_in Distinct
  points_differ = uses_distinct agree none (all_corners b)

  -- every corner names a point
  pub all_named : unnamed_refusal (corners_in b) (length (flat (points_in b)) / 3) ≡ Done
  unfolding unnamed
  all_named =
      ap (unnamed_refusal (corners_in b)) (let e = flat_length (points_in b) in let z : length (flat (points_in b)) / 3 ≡ length (points_in b) = omega arith in z)
      ∙ ap (refuse_at Unnamed) (never_least (unnamed (corners_in b) (length (points_in b))) (length (corners_in b)) (λ i h. lt-leb _ _ (corner_below i (rw (← corners_count) h))))

-- ---- by first use

-- the points met in the first n corners
abbrev met_by : List ℕ → ℕ → List Three
met_by b n = first_uses agree none (corners_to b n)

-- point p stands among those met, before place v
abbrev Before : List Three → ℕ → Three → Type 0
Before met v p = (u : ℕ) × (u < v) × (get_or met u none ≡ p)

-- Point v is met first at a corner before which every corner has a point that stands before it.
record Met (b : List ℕ) (n : ℕ) (met : List Three) (v : ℕ) : Type 0 where
  corner : ℕ
  there : corner < n
  is : get_or met v none ≡ point_at b (corner_place corner)
  before : (j : ℕ) → j < corner → Before met v (point_at b (corner_place j))

met_stands : (b : List ℕ) (n j : ℕ) → j < n → Before (met_by b n) (length (met_by b n)) (point_at b (corner_place j))
met_stands b n j h =
    let l = corners_to b n in
    let m : j < length l = rw (corners_to_length b n) h in
    (_, number_below agree none agree_self l j m, agree_says _ _ (number_stands agree none agree_self l j m) ∙ corners_to_at b n j h)

module _ (b : List ℕ) (n : ℕ) (met : List Three) (all : (v : ℕ) → v < length met → Met b n met v)
    (stand : (j : ℕ) → j < n → Before met (length met) (point_at b (corner_place j))) where
  abbrev next : Three
  next = point_at b (corner_place n)

  keeps : (v : ℕ) (p : Three) → v ≤ length met → Before met v p → Before (met ++ (next ∷ [])) v p
  keeps v p l q = let w = q.1 in (q.0, w, more_before none met next q.0 (omega arith) ∙ q.2)

  one_more : (t : Bool) (v : ℕ) → v < length (cond t met (met ++ (next ∷ []))) → Met b (suc n) (cond t met (met ++ (next ∷ []))) v
  one_more true v h = let m = all v h in record { corner = m.corner; there = let l = m.there in omega arith; is = m.is; before = m.before }
  one_more false v h =
      ⊎_elim
      (λ (e : v ≡ length met).
      record {
        corner = n;
        there = omega arith;
        is = ap (λ (z : ℕ). get_or (met ++ (next ∷ [])) z none) e ∙ more_last none met next;
        before = λ j l. keeps v (point_at b (corner_place j)) (omega arith) (rw e (stand j l));
      })
      (λ (l : v < length met).
      let m = all v l in
      record {
        corner = m.corner;
        there = let q = m.there in omega arith;
        is = more_before none met next v l ∙ m.is;
        before = λ j q. keeps v (point_at b (corner_place j)) (omega arith) (m.before j q);
      })
      (eq-or-lt_of_le (let q : v < length met + 1 = rw (← more_length none met next) h in omega arith))

met_first : (b : List ℕ) (n v : ℕ) → v < length (met_by b n) → Met b n (met_by b n) v
unfolding corners_to first_uses meet_all meet
met_first b zero v h = absurd (omega arith)
met_first b (suc n) v h =
    let x = point_at b (corner_place n) in
    let e = uses_more agree none (corners_to b n) x in
    subst (λ (z : List Three). Met b (suc n) z v) (sym e)
    (one_more b n (met_by b n) (met_first b n) (met_stands b n) (any (stands agree none (met_by b n) x)) v (subst (λ (z : List Three). v < length z) e h))

module _ (b : List ℕ) where
  -- a point stands in one place
  one_place : {p : Three} (u v : ℕ) → u < length (points_in b) → v < length (points_in b) → get_or (points_in b) u none ≡ p → get_or (points_in b) v none ≡ p → u ≡ v
  one_place u v l m e f =
      ⊎_elim
      (λ (q : u < v). absurd (true≢false (sym (agree_same (e ∙ sym f)) ∙ points_differ b u v q m)))
      (λ (q : v ≤ u). ⊎_elim (λ (z : v ≡ u). sym z) (λ (z : v < u). absurd (true≢false (sym (agree_same (f ∙ sym e)) ∙ points_differ b v u z l))) (eq-or-lt_of_le q))
      (lt_or_le u v)

  -- two corners that are the same point have one number
  pub same_number : (i j : ℕ) → i < 3 * facets b → j < 3 * facets b → point_at b (corner_place i) ≡ point_at b (corner_place j) → get_or (corners_in b) i 0 ≡ get_or (corners_in b) j 0
  same_number i j l m e = one_place _ _ (corner_below b i l) (corner_below b j m) (corner_words b i l ∙ e) (corner_words b j m)

  -- Where point v is used first, every corner before has a smaller number.
  pub first_use : (v : ℕ) → v < length (points_in b) → (i : ℕ) × (i < 3 * facets b) × (get_or (corners_in b) i 0 ≡ v) × ((j : ℕ) → j < i → get_or (corners_in b) j 0 < v)
  unfolding points_in
  first_use v l =
      let m = met_first b (3 * facets b) v l in
      let i = m.corner in
      let h = m.there in (
        i,
        h,
        one_place _ v (corner_below b i h) l (corner_words b i h) m.is,
        λ j q.
            let k = m.before j q in
            let s = k.1 in
            rw (one_place _ k.0 (corner_below b j (omega arith)) (omega arith) (corner_words b j (omega arith)) k.2) s,
      )

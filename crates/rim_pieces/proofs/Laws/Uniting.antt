-- The computed numbers are the numbers of the pieces: two triangles have one smallest exactly if they are joined, since what is equal stays equal
-- and what is made equal is joined; and there are as many smaller smallest ones as numbers before.
use Rattle.std.specs.Prelude.{Option, Some, None}
use mathlib.Core.Path.{◌≡◌, refl, sym, ap, ◌∙◌, subst}
use mathlib.Core.Bool.{Bool, true, false, cond}
use mathlib.Core.List.{List, [], ◌∷◌, ◌++◌, map}
use mathlib.Core.Logic.{◌⊎◌, inl, inr, ⊎_elim}
use Prim.Native.Nat.{ℕ, zero, suc, ◌+◌, ◌/◌, ◌<◌, ◌≤◌}
use native.Mathlib.Nat.{not-suc-le-zero, le_of_suc-le-suc, eq-or-lt_of_le}
use native.Mathlib.Omega.{arith}
use lib.Dec.{eqb, leb}
use lib.ListN.{length, get_or, length-append, get_or-append}
use lib.Seq.{get_or-append-add}
use borrow.Author.Tests.{eq-eqb, eqb-true, leb-true, leb-false}
use Rattle.surface_rules.specs.Edges.{Sound, twin}
use Rattle.surface_rules.proofs.Laws.Edges.{twin_says}
use Rattle.rim_pieces.specs.Pieces.{triangle_count, Shares, Joined, itself, onward, Numbered}
use Rattle.rim_pieces.specs.Computed.{many, numbers_below, lesser, greater, unite, unite_across, smallest_by, smallest_of, piece_of, piece_numbers, piece_count}
use Rattle.rim_pieces.specs.Workings.Flooding.{Numbers}
use Rattle.rim_pieces.proofs.Laws.Many.{many_apart, many_find}
use Rattle.rim_pieces.proofs.Laws.Joining.{join_on, join_one, join_back, twin_shares, shares_twin, numbered_once}

-- ---- lists

map_length : (f : ℕ → ℕ) (l : List ℕ) → length (map f l) ≡ length l
map_length f [] = refl
map_length f (x ∷ l) = ap suc (map_length f l)

pub map_at : (f : ℕ → ℕ) (l : List ℕ) (i : ℕ) → i < length l → get_or (map f l) i 0 ≡ f (get_or l i 0)
map_at f [] i h = absurd (not-suc-le-zero h)
map_at f (x ∷ l) zero h = refl
map_at f (x ∷ l) (suc i) h = map_at f l i (omega arith)

pub numbers_length : (n : ℕ) → length (numbers_below n) ≡ n
unfolding numbers_below
numbers_length zero = refl
numbers_length (suc n) = let e = numbers_length n in let f : length (numbers_below n ++ (n ∷ [])) ≡ length (numbers_below n) + 1 = length-append (numbers_below n) (n ∷ []) in omega arith

pub numbers_at : (n i : ℕ) → i < n → get_or (numbers_below n) i 0 ≡ i
unfolding numbers_below
numbers_at zero i h = absurd (not-suc-le-zero h)
numbers_at (suc n) i h =
    let e : length (numbers_below n) ≡ n = numbers_length n in
    ⊎_elim
    (λ (q : i ≡ n).
    let k : i ≡ length (numbers_below n) + 0 = omega arith in
    ap (λ (x : ℕ). get_or (numbers_below n ++ (n ∷ [])) x 0) k ∙ get_or-append-add (numbers_below n) (n ∷ []) 0 0 ∙ sym q)
    (λ (q : i < n). get_or-append (numbers_below n) (n ∷ []) 0 i (omega arith) ∙ numbers_at n i q)
    (eq-or-lt_of_le (le_of_suc-le-suc h))

-- ---- the lesser and the greater of two

abbrev one : ℕ → ℕ → ℕ → ℕ
one a b x = cond (eqb x (greater a b)) (lesser a b) x

-- either way round
by_order : (P : ℕ → ℕ → Type 0) (a b : ℕ) → (a ≤ b → P a b) → (b ≤ a → P b a) → P (lesser a b) (greater a b)
by_order P a b f g = go (leb a b) refl
  where
    go : (t : Bool) → leb a b ≡ t → P (cond t a b) (cond t b a)
    go true e = f (leb-true a b e)
    go false e = g (let l = leb-false a b e in omega arith)

one_hit : (a b x : ℕ) → x ≡ greater a b → one a b x ≡ lesser a b
one_hit a b x e = rw (eq-eqb x (greater a b) e)

one_or : (a b x : ℕ) → ((x ≡ greater a b) × (one a b x ≡ lesser a b)) ⊎ (one a b x ≡ x)
one_or a b x = go (eqb x (greater a b)) refl
  where
    go : (t : Bool) → eqb x (greater a b) ≡ t → ((x ≡ greater a b) × (cond t (lesser a b) x ≡ lesser a b)) ⊎ (cond t (lesser a b) x ≡ x)
    go true e = inl (eqb-true x (greater a b) e, refl)
    go false e = inr refl

one_lesser : (a b : ℕ) → one a b (lesser a b) ≡ lesser a b
one_lesser a b = ⊎_elim (λ w. w.1) (λ w. w) (one_or a b (lesser a b))

one_both : (a b : ℕ) → one a b a ≡ one a b b
one_both a b = go (leb a b) refl
  where
    go : (t : Bool) → leb a b ≡ t → one a b a ≡ one a b b
    go true e = let x : lesser a b ≡ a = rw e in let y : greater a b ≡ b = rw e in ap (one a b) (sym x) ∙ one_lesser a b ∙ sym (one_hit a b b (sym y))
    go false e = let x : lesser a b ≡ b = rw e in let y : greater a b ≡ a = rw e in one_hit a b a (sym y) ∙ sym (one_lesser a b) ∙ ap (one a b) x

-- ---- half-edge by half-edge

record Merged (corners : List ℕ) (k : ℕ) (l : List ℕ) : Type 0 where
  pub long : length l ≡ triangle_count corners
  pub low : (t : ℕ) → t < triangle_count corners → get_or l t 0 ≤ t
  pub kin : (t : ℕ) → t < triangle_count corners → Joined corners t (get_or l t 0)
  pub made : (h g : ℕ) → h < k → twin corners h ≡ Some g → get_or l (h / 3) 0 ≡ get_or l (g / 3) 0

module _ (corners : List ℕ) (sound : Sound corners) where
  abbrev n : ℕ
  n = triangle_count corners

  third_in : (h : ℕ) → h < length corners → h / 3 < n
  third_in h l = let c = sound.triples in omega arith

  merge_none : (k : ℕ) (l : List ℕ) → twin corners k ≡ None → Merged corners k l → Merged corners (suc k) l
  merge_none k l e m = record {
    long = m.long;
    low = m.low;
    kin = m.kin;
    made = λ h g i t. ⊎_elim (λ (q : h ≡ k). absurd (let d : twin corners k ≡ Some g = ap (twin corners) (sym q) ∙ t in let z : ◌≡◌ {A = ℕ} 0 1 = cc in omega arith)) (λ (q : h < k). m.made h g q t) (eq-or-lt_of_le (le_of_suc-le-suc i));
  }

  module _ (k g : ℕ) (l : List ℕ) (i : k < length corners) (e : twin corners k ≡ Some g) (m : Merged corners k l) where
    abbrev a : ℕ
    a = get_or l (k / 3) 0

    abbrev b : ℕ
    b = get_or l (g / 3) 0

    g_in : g / 3 < n
    g_in = third_in g (twin_says corners k g e).0

    united_at : (t : ℕ) → t < n → get_or (unite a b l) t 0 ≡ one a b (get_or l t 0)
    unfolding unite
    united_at t h = map_at (one a b) l t (let z = m.long in omega arith)

    between : Joined corners a b
    between = join_on (join_back (m.kin (k / 3) (third_in k i))) (join_on (join_one (twin_shares corners k g i e)) (m.kin (g / 3) g_in))

    down : Joined corners (greater a b) (lesser a b)
    down = by_order (λ (x y : ℕ). Joined corners y x) a b (λ h. join_back between) (λ h. between)

    lower : lesser a b ≤ greater a b
    lower = by_order (λ (x y : ℕ). x ≤ y) a b (λ h. h) (λ h. h)

    united_low : (t : ℕ) → t < n → one a b (get_or l t 0) ≤ t
    united_low t h =
        let z = m.low t h in
        ⊎_elim (λ w. let x = w.0 in let y = w.1 in let v = lower in omega arith) (λ w. omega arith) (one_or a b (get_or l t 0))

    united_kin : (t : ℕ) → t < n → Joined corners t (one a b (get_or l t 0))
    united_kin t h =
        let z = m.kin t h in
        ⊎_elim (λ w. subst (Joined corners t) (sym w.1) (join_on (subst (Joined corners t) w.0 z) down)) (λ w. subst (Joined corners t) (sym w) z) (one_or a b (get_or l t 0))

    united_long : length (unite a b l) ≡ n
    unfolding unite
    united_long = map_length (one a b) l ∙ m.long

    merge_at : Merged corners (suc k) (unite a b l)
    merge_at = record {
      long = united_long;
      low = λ t h. subst (λ (x : ℕ). x ≤ t) (sym (united_at t h)) (united_low t h);
      kin = λ t h. subst (Joined corners t) (sym (united_at t h)) (united_kin t h);
      made = λ h f j t.
          let hi : h < length corners = omega arith in
          let x = united_at (h / 3) (third_in h hi) in
          let y = united_at (f / 3) (third_in f (twin_says corners h f t).0) in
          ⊎_elim
          (λ (q : h ≡ k).
          let w : f ≡ g = let d : twin corners k ≡ Some f = ap (twin corners) (sym q) ∙ t in cc in
          x ∙ ap (λ (v : ℕ). one a b (get_or l (v / 3) 0)) q ∙ one_both a b ∙ ap (λ (v : ℕ). one a b (get_or l (v / 3) 0)) (sym w) ∙ sym y)
          (λ (q : h < k). x ∙ ap (one a b) (m.made h f q t) ∙ sym y)
          (eq-or-lt_of_le (le_of_suc-le-suc j));
    }

  merged : (k : ℕ) → k ≤ length corners → Merged corners k (smallest_by corners k)
  unfolding smallest_by
  merged zero l = record {
    long = numbers_length n;
    low = λ t h. let e = numbers_at n t h in omega arith;
    kin = λ t h. subst (Joined corners t) (sym (numbers_at n t h)) itself;
    made = λ h g i t. absurd (not-suc-le-zero i);
  }
  merged (suc k) l = go (merged k (omega arith)) (twin corners k) refl
    where
      go : Merged corners k (smallest_by corners k) → (f : Option ℕ) → twin corners k ≡ f → Merged corners (suc k) (unite_across f k (smallest_by corners k))
      go m (Some g) e = merge_at k g (smallest_by corners k) l e m
      go m None e = merge_none k (smallest_by corners k) e m

  -- ---- the smallest of a piece

  pub smallest_low : (t : ℕ) → t < n → smallest_of corners t ≤ t
  unfolding smallest_of
  smallest_low = (merged (length corners) (omega arith)).low

  pub smallest_joined : (t : ℕ) → t < n → Joined corners t (smallest_of corners t)
  unfolding smallest_of
  smallest_joined = (merged (length corners) (omega arith)).kin

  smallest_across : (t u : ℕ) → Shares corners t u → smallest_of corners u ≡ smallest_of corners t
  unfolding smallest_of
  smallest_across t u s =
      let m = merged (length corners) (omega arith) in
      let e = m.made s.here s.there s.here_in (shares_twin corners sound t u s) in
      let l : List ℕ = smallest_by corners (length corners) in
      ap (λ (v : ℕ). get_or l v 0) (sym s.of_second) ∙ sym e ∙ ap (λ (v : ℕ). get_or l v 0) s.of_first

  -- joined triangles have one smallest,
  pub joined_smallest : (t u : ℕ) → Joined corners t u → smallest_of corners u ≡ smallest_of corners t
  joined_smallest t u itself = refl
  joined_smallest t u (onward x y j s) = smallest_across x u s ∙ joined_smallest t x j

  -- and two that have one are joined
  pub smallest_one : (t u : ℕ) → t < n → u < n → smallest_of corners t ≡ smallest_of corners u → Joined corners t u
  smallest_one t u lt lu e = join_on (smallest_joined t lt) (subst (λ (v : ℕ). Joined corners v u) (sym e) (join_back (smallest_joined u lu)))

  -- ---- its number

  abbrev first : ℕ → Bool
  first s = eqb (smallest_of corners s) s

  smallest_first : (t : ℕ) → t < n → first (smallest_of corners t) ≡ true
  smallest_first t l = eq-eqb _ _ (joined_smallest t (smallest_of corners t) (smallest_joined t l))

  numbers_apart : (t u : ℕ) → t < n → u < n → piece_of corners t ≡ piece_of corners u → smallest_of corners t ≡ smallest_of corners u
  unfolding piece_of
  numbers_apart t u lt lu e =
      let a : smallest_of corners t < smallest_of corners u → ⊥ = λ h. let z = many_apart first _ _ (smallest_first t lt) h in omega arith in
      let b : smallest_of corners u < smallest_of corners t → ⊥ = λ h. let z = many_apart first _ _ (smallest_first u lu) h in omega arith in
      omega arith

  numbers_in_order : (t k : ℕ) → t < n → k < piece_of corners t → (u : ℕ) × (u < t) × (piece_of corners u ≡ k)
  unfolding piece_of
  numbers_in_order t k l h =
      let f = many_find first (smallest_of corners t) k h in
      let e : smallest_of corners f.0 ≡ f.0 = eqb-true _ _ f.2 in
      (f.0, (let a = f.1 in let b = smallest_low t l in omega arith), ap (many first) e ∙ f.3)

  pub pieces_same : (t u : ℕ) → Joined corners t u → piece_of corners t ≡ piece_of corners u
  unfolding piece_of
  pieces_same t u j = ap (many first) (sym (joined_smallest t u j))

  -- in the list of all numbers each triangle has its own
  pub number_at : (t : ℕ) → t < n → get_or (piece_numbers corners) t 0 ≡ piece_of corners t
  number_at t l = map_at (piece_of corners) (numbers_below n) t (let e = numbers_length n in omega arith) ∙ ap (piece_of corners) (numbers_at n t l)

  -- The computed numbers are the numbers of the pieces.
  pub pieces_numbered : Numbered corners (piece_numbers corners)
  pieces_numbered = record {
    alike = λ t u lt lu j. number_at t lt ∙ pieces_same t u j ∙ sym (number_at u lu);
    apart = λ t u lt lu e. smallest_one t u lt lu (numbers_apart t u lt lu (sym (number_at t lt) ∙ e ∙ number_at u lu));
    in_order = λ t k l h.
        let w = numbers_in_order t k l (subst (λ (x : ℕ). k < x) (number_at t l) h) in
        (w.0, w.1, number_at w.0 (let a = w.1 in omega arith) ∙ w.2);
  }

  -- ---- how many there are

  -- each number is below the count of the smallest triangles,
  pub number_below : (t : ℕ) → t < n → piece_of corners t < piece_count corners
  unfolding piece_of piece_count
  number_below t l = many_apart first (smallest_of corners t) n (smallest_first t l) (let a = smallest_low t l in omega arith)

  -- and each below that is one's number
  pub number_given : (k : ℕ) → k < piece_count corners → (t : ℕ) × (t < n) × (piece_of corners t ≡ k)
  unfolding piece_of piece_count
  number_given k h = let f = many_find first n k h in (f.0, f.1, ap (many first) (eqb-true _ _ f.2) ∙ f.3)

  -- so there is no other count of numbers that are all below it and all given
  pub count_only : (count : ℕ) (pieces : List ℕ) → Numbers corners count pieces → count ≡ piece_count corners
  count_only count pieces given =
      let same : (t : ℕ) → t < n → get_or pieces t 0 ≡ piece_of corners t = λ t l. numbered_once corners pieces (piece_numbers corners) given.numbered pieces_numbered t l ∙ number_at t l in
      let fewer : count < piece_count corners → ⊥ = λ h. let w = number_given count h in omega (arith, w.2, same w.0 w.1, given.below w.0 w.1) in
      let more : piece_count corners < count → ⊥ = λ h. let w = given.all_given (piece_count corners) h in omega (arith, w.2, same w.0 w.1, number_below w.0 w.1) in
      omega arith

-- Each piece that has a loop has exactly one rim: of the loops of a piece one comes before all others, found by going through them in listed order. A
-- loop that is alone in its piece is its rim.
use mathlib.Core.Path.{◌≡◌, refl, sym, ap, ◌∙◌}
use mathlib.Core.Bool.{Bool, true, false, not, ◌&&◌, ◌||◌, true≢false}
use mathlib.Core.Logic.{◌⊎◌, inl, inr, ⊎_elim}
use mathlib.Core.List.{List}
use Prim.Native.Nat.{ℕ, zero, suc, ◌/◌, ◌<◌, ◌≤◌}
use native.Mathlib.Nat.{not-suc-le-zero, le_of_suc-le-suc, eq-or-lt_of_le}
use native.Mathlib.Omega.{arith}
use lib.Dec.{eqb, ltb}
use lib.IntN.{ℤ}
use lib.ListN.{length, get_or}
use borrow.Author.Tests.{eq-eqb, eqb-true, ltb-true, lt-ltb, not-true}
use Rattle.surface_rules.specs.Edges.{Sound, is_open}
use Rattle.surface_rules.proofs.Laws.Tests.{both_true, eq_or_not, lt_or_le}
use Rattle.surface_rules.proofs.Laws.Smallest.{any_never, never_any}
use Rattle.loop_rules.specs.Loops.{loops}
use Rattle.loop_rules.proofs.Theorems as facts
use Rattle.rim_pieces.specs.Computed.{piece_of}
use Rattle.rim_pieces.proofs.Theorems as pieces
use Rattle.rim_rules.specs.Rims.{loop_at, run_at, piece_at, outruns, is_rim}

module _ (grid : List ℤ) (corners : List ℕ) where
  abbrev n : ℕ
  n = length (loops corners)

  -- m comes before l
  pub record Before (l m : ℕ) : Type 0 where
    pub same : piece_at corners m ≡ piece_at corners l
    pub more : (run_at grid corners l < run_at grid corners m) ⊎ ((run_at grid corners l ≡ run_at grid corners m) × (m < l))

  outruns_says : (l m : ℕ) → outruns grid corners l m ≡ true → Before l m
  unfolding outruns
  outruns_says l m e =
      let a = both_true _ _ e in
      record { same = eqb-true _ _ a.0; more = go (ltb (run_at grid corners l) (run_at grid corners m)) refl a.1 }
    where
      go : (t : Bool) → ltb (run_at grid corners l) (run_at grid corners m) ≡ t → (t || eqb (run_at grid corners l) (run_at grid corners m) && ltb m l) ≡ true
          → (run_at grid corners l < run_at grid corners m) ⊎ ((run_at grid corners l ≡ run_at grid corners m) × (m < l))
      go true d h = inl (ltb-true _ _ d)
      go false d h = let b = both_true _ _ h in inr (eqb-true _ _ b.0, ltb-true _ _ b.1)

  says_outruns : (l m : ℕ) → Before l m → outruns grid corners l m ≡ true
  unfolding outruns
  says_outruns l m b =
      ⊎_elim (λ (w : run_at grid corners l < run_at grid corners m). rw (eq-eqb _ _ b.same, lt-ltb _ _ w))
      (λ w. let f : ltb (run_at grid corners l) (run_at grid corners m) ≡ false = not_less _ _ w.0 in rw (eq-eqb _ _ b.same, f, eq-eqb _ _ w.0, lt-ltb _ _ w.1))
      b.more
    where
      not_less : (x y : ℕ) → x ≡ y → ltb x y ≡ false
      not_less x y e = go (ltb x y) refl
        where
          go : (t : Bool) → ltb x y ≡ t → t ≡ false
          go true d = let l = ltb-true x y d in absurd (omega arith)
          go false d = refl

  -- l is the rim exactly if none of its piece comes before it
  pub rim_says : (l m : ℕ) → is_rim grid corners l ≡ true → m < n → Before l m → ⊥
  unfolding is_rim
  rim_says l m r h b = true≢false (sym (says_outruns l m b) ∙ any_never (outruns grid corners l) n (not-true _ r) m h)

  pub none_rim : (l : ℕ) → ((m : ℕ) → m < n → Before l m → ⊥) → is_rim grid corners l ≡ true
  unfolding is_rim
  none_rim l w = ap not (never_any (outruns grid corners l) n (λ k h. no k h (outruns grid corners l k) refl))
    where
      no : (k : ℕ) → k < n → (t : Bool) → outruns grid corners l k ≡ t → outruns grid corners l k ≡ false
      no k h true e = absurd (w k h (outruns_says l k e))
      no k h false e = e

  -- none comes before itself
  pub not_itself : (l m : ℕ) → m ≡ l → Before l m → ⊥
  not_itself l m e b =
      let z : run_at grid corners m ≡ run_at grid corners l = ap (run_at grid corners) e in
      ⊎_elim (λ (w : run_at grid corners l < run_at grid corners m). omega arith) (λ w. let v = w.1 in omega arith) b.more

  -- A loop that is alone in its piece is its rim, wherever the points lie.
  pub alone_rim : (l : ℕ) → ((m : ℕ) → m < n → piece_at corners m ≡ piece_at corners l → m ≡ l) → is_rim grid corners l ≡ true
  alone_rim l h = none_rim l (λ m k b. not_itself l m (h m k b.same) b)

  -- ---- the first of a piece's loops below k

  record Best (p k b : ℕ) : Type 0 where
    pub here : b < k
    pub piece : piece_at corners b ≡ p
    pub best : (m : ℕ) → m < k → Before b m → ⊥

  next_best : (p k b : ℕ) → Best p k b → (piece_at corners k ≡ p) ⊎ (piece_at corners k ≡ p → ⊥) → (c : ℕ) × Best p (suc k) c
  next_best p k b w (inr n) = (b, record { here = let h = w.here in omega arith; piece = w.piece; best = λ m l x. ⊎_elim (λ (q : m ≡ k). n (ap (piece_at corners) (sym q) ∙ x.same ∙ w.piece)) (λ (q : m < k). w.best m q x) (eq-or-lt_of_le (le_of_suc-le-suc l)) })
  next_best p k b w (inl e) =
      ⊎_elim
      (λ (q : run_at grid corners b < run_at grid corners k). (
        k,
        record {
          here = omega arith;
          piece = e;
          best = λ m l x. ⊎_elim
              (λ (i : m ≡ k). ⊎_elim (λ h. let z : run_at grid corners m ≡ run_at grid corners k = ap (run_at grid corners) i in omega arith) (λ h. let z = h.1 in omega arith) x.more)
              (λ (i : m < k). w.best m i (record { same = x.same ∙ e ∙ sym w.piece; more = inl (⊎_elim (λ h. omega arith) (λ h. let z = h.0 in omega arith) x.more) }))
              (eq-or-lt_of_le (le_of_suc-le-suc l));
        },
      ))
      (λ (q : run_at grid corners k ≤ run_at grid corners b). (
        b,
        record {
          here = let h = w.here in omega arith;
          piece = w.piece;
          best = λ m l x. ⊎_elim
              (λ (i : m ≡ k). let z : run_at grid corners m ≡ run_at grid corners k = ap (run_at grid corners) i in let y = w.here in ⊎_elim (λ h. omega arith) (λ h. let v = h.1 in omega arith) x.more)
              (λ (i : m < k). w.best m i x)
              (eq-or-lt_of_le (le_of_suc-le-suc l));
        },
      ))
      (lt_or_le (run_at grid corners b) (run_at grid corners k))

  -- of the loops of piece p below k one is the first, or there is none
  best_or : (p k : ℕ) → ((b : ℕ) × Best p k b) ⊎ ((m : ℕ) → m < k → piece_at corners m ≡ p → ⊥)
  best_or p zero = inr (λ m i x. absurd (not-suc-le-zero i))
  best_or p (suc k) =
      ⊎_elim (λ w. inl (next_best p k w.0 w.1 (eq_or_not (piece_at corners k) p)))
      (λ (w : (m : ℕ) → m < k → piece_at corners m ≡ p → ⊥).
      ⊎_elim
      (λ (e : piece_at corners k ≡ p).
      inl (
        k,
        record {
          here = omega arith;
          piece = e;
          best = λ m l x. ⊎_elim
              (λ (i : m ≡ k). let z : run_at grid corners m ≡ run_at grid corners k = ap (run_at grid corners) i in ⊎_elim (λ h. omega arith) (λ h. let v = h.1 in omega arith) x.more)
              (λ (i : m < k). w m i (x.same ∙ e))
              (eq-or-lt_of_le (le_of_suc-le-suc l));
        },
      ))
      (λ (e : piece_at corners k ≡ p → ⊥). inr (λ m l x. ⊎_elim (λ (i : m ≡ k). e (ap (piece_at corners) (sym i) ∙ x)) (λ (i : m < k). w m i x) (eq-or-lt_of_le (le_of_suc-le-suc l))))
      (eq_or_not (piece_at corners k) p))
      (best_or p k)

  -- ---- the rim of a piece

  -- Each piece in which a loop lies has a rim,
  pub has_rim : (l : ℕ) → l < n → (r : ℕ) × (r < n) × (piece_at corners r ≡ piece_at corners l) × (is_rim grid corners r ≡ true)
  has_rim l h =
      ⊎_elim (λ b. (b.0, b.1.here, b.1.piece, none_rim b.0 b.1.best)) (λ (w : (m : ℕ) → m < n → piece_at corners m ≡ piece_at corners l → ⊥). absurd (w l h refl)) (best_or (piece_at corners l) n)

  -- and no more than one.
  pub one_rim : (l m : ℕ) → l < n → m < n → is_rim grid corners l ≡ true → is_rim grid corners m ≡ true → piece_at corners l ≡ piece_at corners m → l ≡ m
  one_rim l m hl hm rl rm e =
      let a : Before l m → ⊥ = rim_says l m rl hm in
      let b : Before m l → ⊥ = rim_says m l rm hl in
      let x : run_at grid corners l < run_at grid corners m → ⊥ = λ q. a (record { same = sym e; more = inl q }) in
      let y : run_at grid corners m < run_at grid corners l → ⊥ = λ q. b (record { same = e; more = inl q }) in
      let z : run_at grid corners l ≡ run_at grid corners m = omega arith in
      let v : m < l → ⊥ = λ q. a (record { same = sym e; more = inr (z, q) }) in
      let w : l < m → ⊥ = λ q. b (record { same = e; more = inr (sym z, q) }) in
      omega arith

-- the loops that lie in the piece of triangle t
module _ (grid : List ℤ) (corners : List ℕ) (sound : Sound corners) where
  -- Each piece that has an open edge has exactly one rim.
  pub record TheRim (e : ℕ) : Type 0 where
    pub rim : ℕ
    pub there : rim < length (loops corners)
    pub its_piece : piece_at corners rim ≡ piece_of corners (e / 3)
    pub is_a_rim : is_rim grid corners rim ≡ true
    pub only : (l : ℕ) → l < length (loops corners) → is_rim grid corners l ≡ true → piece_at corners l ≡ piece_of corners (e / 3) → l ≡ rim

  -- an edge of loop l lies in the loop's piece
  pub edge_piece : (l i : ℕ) → l < length (loops corners) → i < length (loop_at corners l) → piece_of corners (get_or (loop_at corners l) i 0 / 3) ≡ piece_at corners l
  unfolding piece_at
  edge_piece l i h k = pieces.joined_alike corners sound _ _ (pieces.in_one_piece corners sound l i 0 h k (let t = facts.three_or_more corners sound l h in omega arith))

  pub the_rim : (e : ℕ) → e < length corners → is_open corners e ≡ true → TheRim e
  the_rim e l o =
      let w = (facts.one_loop corners sound).placed e l o in
      let q : piece_of corners (e / 3) ≡ piece_at corners w.loop = ap (λ (x : ℕ). piece_of corners (x / 3)) (sym w.is) ∙ edge_piece w.loop w.at w.loop_below w.at_below in
      let r = has_rim grid corners w.loop w.loop_below in
      record {
        rim = r.0;
        there = r.1;
        its_piece = r.2 ∙ sym q;
        is_a_rim = r.3;
        only = λ m h x y. one_rim grid corners m r.0 h r.1 x r.3 (y ∙ q ∙ sym r.2);
      }

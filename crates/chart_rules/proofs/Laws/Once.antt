-- A loop is told among the entries of its own piece, once, and a piece among its own; so each is told once in all, since its number is one of those below the
-- count, and there are as many entries as pieces and loops.
use mathlib.Core.Path.{◌≡◌, refl, sym, ap, ap₂, ◌∙◌}
use mathlib.Core.Bool.{Bool, true, false, not, ◌&&◌, cond}
use mathlib.Core.Logic.{◌⊎◌, inl, inr, ⊎_elim}
use mathlib.Core.List.{List, ◌++◌, map, flatten}
use Prim.Native.Nat.{ℕ, zero, suc, ◌+◌, ◌<◌}
use native.Mathlib.Omega.{arith}
use lib.Dec.{eqb}
use lib.IntN.{ℤ}
use lib.ListN.{length, length-append, length-map}
use borrow.Author.Tests.{eq-eqb, ne_eqb}
use Rattle.surface_rules.proofs.Laws.Tests.{eq_or_not}
use Rattle.loop_rules.specs.Loops.{loops}
use Rattle.rim_pieces.specs.Computed.{many, numbers_below}
use Rattle.rim_pieces.proofs.Laws.Uniting.{numbers_length}
use Rattle.rim_rules.specs.Rims.{piece_at, is_rim}
use Rattle.chart_rules.specs.declared.Entry.{Entry}
use Rattle.chart_rules.specs.Report.{entry, pick, touches, kind_at, of_kind, entries_of}
use Rattle.chart_rules.specs.Tallies.{tally, of_loop, of_piece}
use Rattle.chart_rules.proofs.Laws.Picking.{pick_many}
use Rattle.chart_rules.proofs.Laws.Sums.{sum_same, sum_both, sum_ones, sum_count, flat_sum, count_below, many_each}
use Rattle.chart_rules.proofs.Laws.Tallies.{tally_none, tally_append, picked_none, picked}

-- ---- the entries of a piece

module _ (grid : List ℤ) (corners : List ℕ) where
  abbrev n : ℕ
  n = length (loops corners)

  -- each loop has one of the three kinds
  pub three_kinds : (l : ℕ) → (kind_at grid corners l ≡ 1) ⊎ ((kind_at grid corners l ≡ 2) ⊎ (kind_at grid corners l ≡ 3))
  unfolding kind_at
  three_kinds l = go (is_rim grid corners l) (touches grid corners l)
    where
      go : (a b : Bool) → (◌≡◌ {A = ℕ} (cond a 1 (cond b 2 3)) 1) ⊎ ((◌≡◌ {A = ℕ} (cond a 1 (cond b 2 3)) 2) ⊎ (◌≡◌ {A = ℕ} (cond a 1 (cond b 2 3)) 3))
      go true b = inl refl
      go false true = inr (inl refl)
      go false false = inr (inr refl)

  -- the loops of piece p that are of this kind
  abbrev pub among : ℕ → ℕ → ℕ → Bool
  among p k l = eqb (piece_at corners l) p && eqb (kind_at grid corners l) k

  -- one in each of the three parts, or in none
  parted : (a : Bool) (k : ℕ) → (k ≡ 1) ⊎ ((k ≡ 2) ⊎ (k ≡ 3)) → cond (a && eqb k 1) 1 0 + (cond (a && eqb k 2) 1 0 + cond (a && eqb k 3) 1 0) ≡ cond a 1 0
  parted false k h = refl
  parted true k (inl e) = rw e
  parted true k (inr (inl e)) = rw e
  parted true k (inr (inr e)) = rw e

  module _ (l : ℕ) (h : l < n) where
    loop_of_kind : (p k : ℕ) → (k ≡ 0 → ⊥) → tally (of_loop l) (of_kind grid corners p k) ≡ cond (among p k l) 1 0
    unfolding of_kind
    loop_of_kind p k z =
        let no : not (eqb k 0) ≡ true = ap not (ne_eqb k 0 z) in
        picked (of_loop l) k l (rw (no, eq-eqb l l refl)) (λ x q. rw (no, ne_eqb x l q)) (among p k) (numbers_below n)
        ∙ ap (λ (m : ℕ). cond (among p k l) m 0) (count_below l n h)

    -- loop l is told in its own piece, once, and in no other
    loop_of_piece : (p : ℕ) → tally (of_loop l) (entries_of grid corners p) ≡ cond (eqb (piece_at corners l) p) 1 0
    unfolding entries_of tally
    loop_of_piece p =
        let one : List Entry = of_kind grid corners p 1 in
        let two : List Entry = of_kind grid corners p 2 in
        let three : List Entry = of_kind grid corners p 3 in
        let a = loop_of_kind p 1 (λ e. omega arith) in
        let b = loop_of_kind p 2 (λ e. omega arith) in
        let c = loop_of_kind p 3 (λ e. omega arith) in
        tally_append (of_loop l) one (two ++ three)
        ∙ ap (λ (m : ℕ). tally (of_loop l) one + m) (tally_append (of_loop l) two three)
        ∙ ap₂ (λ (x y : ℕ). x + y) a (ap₂ (λ (x y : ℕ). x + y) b c)
        ∙ parted (eqb (piece_at corners l) p) (kind_at grid corners l) (three_kinds l)

  piece_of_kind : (q p k : ℕ) → (k ≡ 0 → ⊥) → tally (of_piece q) (of_kind grid corners p k) ≡ 0
  unfolding of_kind
  piece_of_kind q p k z = picked_none (of_piece q) k (λ x. rw (ne_eqb k 0 z)) (pick (among p k) (numbers_below n))

  -- piece q is told among its own entries, once, and among no others
  piece_of_piece : (q p : ℕ) → tally (of_piece q) (entries_of grid corners p) ≡ cond (eqb q p) 1 0
  unfolding entries_of tally
  piece_of_piece q p =
      let one : List Entry = of_kind grid corners p 1 in
      let two : List Entry = of_kind grid corners p 2 in
      let three : List Entry = of_kind grid corners p 3 in
      let a = tally_append (of_piece q) one (two ++ three) in
      let b = tally_append (of_piece q) two three in
      let c = piece_of_kind q p 1 (λ e. omega arith) in
      let d = piece_of_kind q p 2 (λ e. omega arith) in
      let e = piece_of_kind q p 3 (λ e. omega arith) in
      let none : tally (of_piece q) (one ++ (two ++ three)) ≡ 0 = omega arith in
      rw none (⊎_elim (λ (i : p ≡ q). rw (eq-eqb p q i, eq-eqb q p (sym i))) (λ (i : p ≡ q → ⊥). rw (ne_eqb p q i, ne_eqb q p (λ j. i (sym j)))) (eq_or_not p q))

  -- those of each kind are together those of the piece
  many_parted : (p m : ℕ) → many (among p 1) m + (many (among p 2) m + many (among p 3) m) ≡ many (λ (l : ℕ). eqb (piece_at corners l) p) m
  unfolding many
  many_parted p zero = refl
  many_parted p (suc m) = go (eqb (piece_at corners m) p) (kind_at grid corners m) (three_kinds m) (many (among p 1) m) (many (among p 2) m) (many (among p 3) m) (many (λ (l : ℕ). eqb (piece_at corners l) p) m) (many_parted p m)
    where
      go : (a : Bool) (k : ℕ) → (k ≡ 1) ⊎ ((k ≡ 2) ⊎ (k ≡ 3)) → (x y z w : ℕ) → x + (y + z) ≡ w
          → cond (a && eqb k 1) (suc x) x + (cond (a && eqb k 2) (suc y) y + cond (a && eqb k 3) (suc z) z) ≡ cond a (suc w) w
      go false k h x y z w e = e
      go true k (inl q) x y z w e = rw q (omega arith)
      go true k (inr (inl q)) x y z w e = rw q (omega arith)
      go true k (inr (inr q)) x y z w e = rw q (omega arith)

  kind_long : (p k : ℕ) → length (of_kind grid corners p k) ≡ many (among p k) n
  unfolding of_kind
  kind_long p k = length-map (pick (among p k) (numbers_below n)) (entry k) ∙ pick_many (among p k) n

  -- an entry for the piece and one for each of its loops
  piece_long : (p : ℕ) → length (entries_of grid corners p) ≡ 1 + many (λ (l : ℕ). eqb (piece_at corners l) p) n
  unfolding entries_of
  piece_long p =
      let one : List Entry = of_kind grid corners p 1 in
      let two : List Entry = of_kind grid corners p 2 in
      let three : List Entry = of_kind grid corners p 3 in
      let a = length-append one (two ++ three) in
      let b = length-append two three in
      omega (arith, kind_long p 1, kind_long p 2, kind_long p 3, many_parted p n)

-- ---- the entries of all pieces

module _ (grid : List ℤ) (corners : List ℕ) (count_of : ℕ) where
  abbrev all_entries : List Entry
  all_entries = flatten (map (entries_of grid corners) (numbers_below count_of))

  pub loop_once : (l : ℕ) → l < length (loops corners) → piece_at corners l < count_of → tally (of_loop l) all_entries ≡ 1
  loop_once l h k =
      flat_sum (tally (of_loop l)) (tally_none (of_loop l)) (tally_append (of_loop l)) (entries_of grid corners) (numbers_below count_of)
      ∙ sum_same (λ (p : ℕ). tally (of_loop l) (entries_of grid corners p)) (λ (p : ℕ). cond (eqb (piece_at corners l) p) 1 0) (loop_of_piece grid corners l h) (numbers_below count_of)
      ∙ sum_count (piece_at corners l) (numbers_below count_of)
      ∙ count_below (piece_at corners l) count_of k

  pub piece_once : (q : ℕ) → q < count_of → tally (of_piece q) all_entries ≡ 1
  piece_once q k =
      flat_sum (tally (of_piece q)) (tally_none (of_piece q)) (tally_append (of_piece q)) (entries_of grid corners) (numbers_below count_of)
      ∙ sum_same (λ (p : ℕ). tally (of_piece q) (entries_of grid corners p)) (λ (p : ℕ). cond (eqb q p) 1 0) (piece_of_piece grid corners q) (numbers_below count_of)
      ∙ sum_count q (numbers_below count_of)
      ∙ count_below q count_of k

  -- as many as pieces and loops
  pub entries_count : ((l : ℕ) → l < length (loops corners) → piece_at corners l < count_of) → length all_entries ≡ count_of + length (loops corners)
  entries_count h =
      let ps : List ℕ = numbers_below count_of in
      let loops_in : ℕ → ℕ = λ p. many (λ (l : ℕ). eqb (piece_at corners l) p) (length (loops corners)) in
      flat_sum length refl length-append (entries_of grid corners) ps
      ∙ sum_same (λ (p : ℕ). length (entries_of grid corners p)) (λ (p : ℕ). 1 + loops_in p) (piece_long grid corners) ps
      ∙ sum_both (λ (p : ℕ). 1) loops_in ps
      ∙ ap₂ (λ (x y : ℕ). x + y) (sum_ones ps ∙ numbers_length count_of) (many_each (piece_at corners) ps (length (loops corners)) (λ l k. count_below (piece_at corners l) count_of (h l k)))

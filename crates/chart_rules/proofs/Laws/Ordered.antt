-- The entries of a piece are its own and stand in order: itself, and then those of each kind, by their numbers. So do those of all pieces, since pieces
-- ascend.
use mathlib.Core.Path.{◌≡◌, refl, sym, ap, ◌∙◌}
use mathlib.Core.Bool.{true, cond}
use mathlib.Core.Logic.{inl, inr}
use mathlib.Core.List.{List, ◌++◌}
use Prim.Native.Nat.{ℕ, ◌<◌}
use native.Mathlib.Omega.{arith}
use lib.Dec.{eqb}
use lib.IntN.{ℤ}
use lib.ListN.{length}
use borrow.Author.Tests.{eqb-true, ne_eqb}
use Rattle.surface_rules.proofs.Laws.Tests.{both_true}
use Rattle.loop_rules.specs.Loops.{loops}
use Rattle.rim_pieces.specs.Computed.{piece_count}
use Rattle.rim_rules.specs.Rims.{piece_at}
use Rattle.chart_rules.specs.declared.Entry.{Entry}
use Rattle.chart_rules.specs.Report.{entry, kind_at, of_kind, entries_of, report_of}
use Rattle.chart_rules.specs.Order.{Tells, home_of, Sooner}
use Rattle.chart_rules.proofs.Laws.Once.{among}
use Rattle.chart_rules.proofs.Laws.Entries.{Every, Ascends, every_first, every_append, every_so, every_picked, every_listed, every_cross, ascends_first, ascends_append, ascends_picked, ascends_listed}

module _ (grid : List ℤ) (corners : List ℕ) where
  -- an entry of this kind among those of piece p
  record Of (p k : ℕ) (e : Entry) : Type 0 where
    pub tells : (e.number < length (loops corners)) × (e.kind ≡ kind_at grid corners e.number)
    pub home : home_of corners e ≡ p
    pub its_kind : e.kind ≡ k
    pub no_piece : 0 < e.kind

  -- what is said of a loop that is picked
  loop_picked : (p k l : ℕ) → among grid corners p k l ≡ true → (piece_at corners l ≡ p) × (kind_at grid corners l ≡ k)
  loop_picked p k l e =
      let b = both_true (eqb (piece_at corners l) p) (eqb (kind_at grid corners l) k) e in
      (eqb-true (piece_at corners l) p b.0, eqb-true (kind_at grid corners l) k b.1)

  -- a loop is at home in its piece
  loop_home : (p k l : ℕ) → 0 < k → among grid corners p k l ≡ true → home_of corners (entry k l) ≡ p
  loop_home p k l z e = ap (λ t. cond t l (piece_at corners l)) (ne_eqb k 0 (λ (q : k ≡ 0). omega arith)) ∙ (loop_picked p k l e).0

  kind_told : (p k : ℕ) → 0 < k → Every (Of p k) (of_kind grid corners p k)
  unfolding of_kind
  kind_told p k z =
      every_picked (Of p k) (among grid corners p k) k (length (loops corners))
      (λ l h e. record { tells = (h, sym (loop_picked p k l e).1); home = loop_home p k l z e; its_kind = refl; no_piece = z })

  kind_ascends : (p k : ℕ) → 0 < k → Ascends (Sooner corners) (of_kind grid corners p k)
  unfolding of_kind
  kind_ascends p k z =
      ascends_picked (Sooner corners) (among grid corners p k) k (length (loops corners))
      (λ l m h d e. inr (loop_home p k l z d ∙ sym (loop_home p k m z e), inr (refl, h)))

  -- what holds of those of each kind
  each_kind : (P : Entry → Type 0) (p : ℕ) → ((k : ℕ) (e : Entry) → Of p k e → P e) → Every P (of_kind grid corners p 1 ++ (of_kind grid corners p 2 ++ of_kind grid corners p 3))
  each_kind P p h =
      let one : List Entry = of_kind grid corners p 1 in
      let two : List Entry = of_kind grid corners p 2 in
      let three : List Entry = of_kind grid corners p 3 in
      every_append P one (two ++ three) (every_so (Of p 1) P (h 1) one (kind_told p 1 (omega arith)))
      (every_append P two three (every_so (Of p 2) P (h 2) two (kind_told p 2 (omega arith))) (every_so (Of p 3) P (h 3) three (kind_told p 3 (omega arith))))

  pub piece_tells : (p : ℕ) → p < piece_count corners → Every (Tells grid corners) (entries_of grid corners p)
  unfolding entries_of
  piece_tells p h =
      every_first (Tells grid corners) (entry 0 p) (of_kind grid corners p 1 ++ (of_kind grid corners p 2 ++ of_kind grid corners p 3)) (inl (refl, h))
      (each_kind (Tells grid corners) p (λ k e o. inr o.tells))

  piece_home : (p : ℕ) → Every (λ (e : Entry). home_of corners e ≡ p) (entries_of grid corners p)
  unfolding entries_of
  piece_home p =
      every_first (λ (e : Entry). home_of corners e ≡ p) (entry 0 p) (of_kind grid corners p 1 ++ (of_kind grid corners p 2 ++ of_kind grid corners p 3)) refl
      (each_kind (λ (e : Entry). home_of corners e ≡ p) p (λ k e o. o.home))

  -- those of a smaller kind come before
  kinds_cross : (p i j : ℕ) → i < j → (e f : Entry) → Of p i e → Of p j f → Sooner corners e f
  kinds_cross p i j h e f a b = inr (a.home ∙ sym b.home, inl (omega (arith, a.its_kind, b.its_kind)))

  piece_ascends : (p : ℕ) → Ascends (Sooner corners) (entries_of grid corners p)
  unfolding entries_of
  piece_ascends p =
      let one : List Entry = of_kind grid corners p 1 in
      let two : List Entry = of_kind grid corners p 2 in
      let three : List Entry = of_kind grid corners p 3 in
      let a = kind_told p 1 (omega arith) in
      let b = kind_told p 2 (omega arith) in
      let c = kind_told p 3 (omega arith) in
      let behind : Ascends (Sooner corners) (two ++ three) =
      ascends_append (Sooner corners) two three (kind_ascends p 2 (omega arith)) (kind_ascends p 3 (omega arith))
      (every_cross (Sooner corners) (Of p 2) (Of p 3) (kinds_cross p 2 3 (omega arith)) two three b c) in
      let after : Every (λ (f : Entry). (home_of corners f ≡ p) × (1 < f.kind)) (two ++ three) =
      every_append (λ (f : Entry). (home_of corners f ≡ p) × (1 < f.kind)) two three
      (every_so (Of p 2) (λ (f : Entry). (home_of corners f ≡ p) × (1 < f.kind)) (λ f o. (o.home, omega (arith, o.its_kind))) two b)
      (every_so (Of p 3) (λ (f : Entry). (home_of corners f ≡ p) × (1 < f.kind)) (λ f o. (o.home, omega (arith, o.its_kind))) three c) in
      let loops_ascend : Ascends (Sooner corners) (one ++ (two ++ three)) =
      ascends_append (Sooner corners) one (two ++ three) (kind_ascends p 1 (omega arith)) behind
      (every_cross (Sooner corners) (Of p 1) (λ (f : Entry). (home_of corners f ≡ p) × (1 < f.kind))
      (λ e f x y. inr (x.home ∙ sym y.0, inl (omega (arith, x.its_kind, y.1)))) one (two ++ three) a after) in
      ascends_first (Sooner corners) (entry 0 p) (one ++ (two ++ three)) (each_kind (Sooner corners (entry 0 p)) p (λ k e o. inr (sym o.home, inl o.no_piece))) loops_ascend

  -- ---- so do those of all pieces

  pub report_tells : Every (Tells grid corners) (report_of grid corners)
  unfolding report_of
  report_tells = every_listed (Tells grid corners) (entries_of grid corners) (piece_count corners) piece_tells

  pub report_ascends : Ascends (Sooner corners) (report_of grid corners)
  unfolding report_of
  report_ascends =
      ascends_listed (Sooner corners) (entries_of grid corners) (piece_count corners) piece_ascends
      (λ p q h.
      every_cross (Sooner corners) (λ (e : Entry). home_of corners e ≡ p) (λ (e : Entry). home_of corners e ≡ q) (λ e f x y. inl (omega (arith, x, y)))
      (entries_of grid corners p) (entries_of grid corners q) (piece_home p) (piece_home q))

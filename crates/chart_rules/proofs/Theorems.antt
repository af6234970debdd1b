-- What the demands cite of the report: each loop stands in it once, under its own kind, and each piece once; the entries are as many as pieces and loops, and in
-- order; a piece with an open edge shows its one rim, and one without nothing but itself; and the kinds are what they are called.
use mathlib.Core.Path.{◌≡◌, refl, sym, ap, ap₂, ◌∙◌}
use mathlib.Core.Bool.{Bool, true, false, not, ◌&&◌, cond, true≢false}
use mathlib.Core.Logic.{◌⊎◌, inl, inr, ⊎_elim}
use mathlib.Core.List.{List, [], ◌∷◌, map}
use Prim.Native.Nat.{ℕ, ◌+◌, ◌*◌, ◌/◌, ◌<◌, ◌≤◌}
use native.Mathlib.Omega.{arith}
use lib.Dec.{eqb}
use lib.IntN.{ℤ}
use lib.ListN.{length, get_or}
use borrow.Author.Tests.{eq-eqb, ne_eqb, eqb-true, eqb-false, not-true}
use Rattle.surface_rules.specs.Edges.{Sound, is_open}
use Rattle.surface_rules.proofs.Laws.Tests.{both_true, eq_or_not, not_so}
use Rattle.loop_rules.specs.Loops.{loops}
use Rattle.loop_rules.proofs.Theorems as facts
use Rattle.rim_pieces.specs.Pieces.{triangle_count}
use Rattle.rim_pieces.specs.Computed.{smallest_of, piece_of, piece_count}
use Rattle.rim_pieces.proofs.Theorems as pieces
use Rattle.rim_rules.specs.Rims.{loop_at, piece_at, is_rim}
use Rattle.rim_rules.proofs.Theorems as rims
use Rattle.chart_rules.specs.declared.Entry.{Entry}
use Rattle.chart_rules.specs.Report.{entry, nothing, ring_at, touches, kind_at, of_kind, entries_of, report_of}
use Rattle.chart_rules.specs.Touching.{Meeting, Touching, Called}
use Rattle.chart_rules.specs.Tallies.{tally, of_loop, of_piece, OnePlace}
use Rattle.chart_rules.specs.Order.{Tells, home_of, of_rim, Sooner}
use Rattle.chart_rules.proofs.Laws.Picking.{pick_none, pick_one, many_few}
use Rattle.chart_rules.proofs.Laws.Touches.{touches_says, says_touches}
use Rattle.chart_rules.proofs.Laws.Tallies.{tally_place, tally_single}
use Rattle.chart_rules.proofs.Laws.Once.{three_kinds, among, loop_once, piece_once, entries_count}
use Rattle.chart_rules.proofs.Laws.Entries.{every_at, ascends_at}
use Rattle.chart_rules.proofs.Laws.Ordered.{report_tells, report_ascends}

-- what is tallied once has one place
pub one_place : (p : Entry → Bool) (es : List Entry) → tally p es ≡ 1 → OnePlace (length es) (λ (i : ℕ). get_or es i nothing) p
one_place p es e =
    let w = tally_place p es (omega arith) in
    record { place = w.0; there = w.1; holds = w.2; only = λ i h d. tally_single p es (omega arith) i w.0 h w.1 d w.2 }

-- ---- the kinds

module _ (grid : List ℤ) (corners : List ℕ) (l : ℕ) where
  -- "1 its rim",
  pub rim_kind : is_rim grid corners l ≡ true → kind_at grid corners l ≡ 1
  unfolding kind_at
  rim_kind r = rw r

  pub kind_rim : kind_at grid corners l ≡ 1 → is_rim grid corners l ≡ true
  unfolding kind_at
  kind_rim = go (is_rim grid corners l) (touches grid corners l)
    where
      go : (a b : Bool) → ◌≡◌ {A = ℕ} (cond a 1 (cond b 2 3)) 1 → a ≡ true
      go true b e = refl
      go false true e = absurd (omega arith)
      go false false e = absurd (omega arith)

  -- "2 a tide pool": no rim, and it "shares a vertex with its own piece's rim";
  pub pool_kind : is_rim grid corners l ≡ false → Touching grid corners l → kind_at grid corners l ≡ 2
  unfolding kind_at
  pool_kind r t = rw (r, says_touches grid corners l t)

  pub kind_pool : kind_at grid corners l ≡ 2 → (is_rim grid corners l ≡ false) × Touching grid corners l
  unfolding kind_at
  kind_pool = go (is_rim grid corners l) refl (touches grid corners l) refl
    where
      go : (a : Bool) → is_rim grid corners l ≡ a → (b : Bool) → touches grid corners l ≡ b → ◌≡◌ {A = ℕ} (cond a 1 (cond b 2 3)) 2 → (is_rim grid corners l ≡ false) × Touching grid corners l
      go true d b f e = absurd (omega arith)
      go false d true f e = (d, touches_says grid corners l f)
      go false d false f e = absurd (omega arith)

  -- "3 a lake": no rim, and it shares none.
  pub lake_kind : is_rim grid corners l ≡ false → (Touching grid corners l → ⊥) → kind_at grid corners l ≡ 3
  unfolding kind_at
  lake_kind r n = rw (r, not_so (touches grid corners l) (λ t. n (touches_says grid corners l t)))

  pub kind_lake : kind_at grid corners l ≡ 3 → (is_rim grid corners l ≡ false) × (Touching grid corners l → ⊥)
  unfolding kind_at
  kind_lake = go (is_rim grid corners l) refl (touches grid corners l) refl
    where
      go : (a : Bool) → is_rim grid corners l ≡ a → (b : Bool) → touches grid corners l ≡ b → ◌≡◌ {A = ℕ} (cond a 1 (cond b 2 3)) 3 → (is_rim grid corners l ≡ false) × (Touching grid corners l → ⊥)
      go true d b f e = absurd (omega arith)
      go false d true f e = absurd (omega arith)
      go false d false f e = (d, λ t. true≢false (sym (says_touches grid corners l t) ∙ f))

  -- So each loop is called by its kind, and by nothing else.
  pub called : Called grid corners l (kind_at grid corners l)
  called =
      ⊎_elim (λ (e : kind_at grid corners l ≡ 1). inl (e, kind_rim e))
      (λ f. ⊎_elim (λ (e : kind_at grid corners l ≡ 2). inr (inl (e, (kind_pool e).0, (kind_pool e).1))) (λ (e : kind_at grid corners l ≡ 3). inr (inr (e, (kind_lake e).0, (kind_lake e).1))) f)
      (three_kinds grid corners l)

  pub called_so : (k : ℕ) → Called grid corners l k → k ≡ kind_at grid corners l
  called_so k (inl c) = c.0 ∙ sym (rim_kind c.1)
  called_so k (inr (inl c)) = c.0 ∙ sym (pool_kind c.1 c.2)
  called_so k (inr (inr c)) = c.0 ∙ sym (lake_kind c.1 c.2)

  -- The rim of its piece is one loop, so it is enough to look at that: m is it.
  module _ (m : ℕ) (m_in : m < length (loops corners)) (m_rim : is_rim grid corners m ≡ true) (same : piece_at corners m ≡ piece_at corners l) where
    pub touching_it : Touching grid corners l → Meeting (ring_at corners l) (ring_at corners m)
    touching_it t =
        let e : t.rim ≡ m = rims.one_rim grid corners t.rim m t.rim_in m_in t.is_a_rim m_rim (t.its_piece ∙ sym same) in
        rw e at t.meeting

    pub it_touching : Meeting (ring_at corners l) (ring_at corners m) → Touching grid corners l
    it_touching w = record { rim = m; rim_in = m_in; is_a_rim = m_rim; its_piece = same; meeting = w }

-- ---- an entry that tells of a piece or of a loop under its own kind

module _ (grid : List ℤ) (corners : List ℕ) (x : Entry) (tells : Tells grid corners x) where
  home_is : (x.kind ≡ 0 → ⊥) → home_of corners x ≡ piece_at corners x.number
  home_is n = ap (λ t. cond t x.number (piece_at corners x.number)) (ne_eqb x.kind 0 n)

  -- that of a rim is the rim of its piece,
  rim_shown : (r p : ℕ) → is_rim grid corners r ≡ true → piece_at corners r ≡ p → of_loop r x ≡ true → of_rim corners p x ≡ true
  rim_shown r p i q t =
      let b = both_true (not (eqb x.kind 0)) (eqb x.number r) t in
      let n : x.kind ≡ 0 → ⊥ = eqb-false x.kind 0 (not-true (eqb x.kind 0) b.0) in
      let e : x.number ≡ r = eqb-true x.number r b.1 in
      ⊎_elim (λ w. absurd (n w.0))
      (λ w.
      ap₂ (λ (y z : Bool). y && z) (eq-eqb x.kind 1 (w.1 ∙ ap (kind_at grid corners) e ∙ rim_kind grid corners r i))
      (eq-eqb (home_of corners x) p (home_is n ∙ ap (piece_at corners) e ∙ q)))
      tells

  -- and the other way round, where that has but one
  shown_rim : (r p : ℕ) → ((l : ℕ) → l < length (loops corners) → is_rim grid corners l ≡ true → piece_at corners l ≡ p → l ≡ r) → of_rim corners p x ≡ true → of_loop r x ≡ true
  shown_rim r p only t =
      let b = both_true (eqb x.kind 1) (eqb (home_of corners x) p) t in
      let k : x.kind ≡ 1 = eqb-true x.kind 1 b.0 in
      let n : x.kind ≡ 0 → ⊥ = λ z. omega arith in
      ⊎_elim (λ w. absurd (n w.0))
      (λ w.
      ap₂ (λ (y z : Bool). y && z) (ap not (ne_eqb x.kind 0 n))
      (eq-eqb x.number r (only x.number w.0 (kind_rim grid corners x.number (sym w.1 ∙ k)) (sym (home_is n) ∙ eqb-true (home_of corners x) p b.1))))
      tells

  -- where no loop is at home it is a piece's
  shown_alone : (p : ℕ) → ((l : ℕ) → l < length (loops corners) → piece_at corners l ≡ p → ⊥) → home_of corners x ≡ p → x.kind ≡ 0
  shown_alone p none q = go (eq_or_not x.kind 0)
    where
      go : (x.kind ≡ 0) ⊎ (x.kind ≡ 0 → ⊥) → x.kind ≡ 0
      go (inl e) = e
      go (inr n) = ⊎_elim (λ w. w.0) (λ w. absurd (none x.number w.0 (sym (home_is n) ∙ q))) tells

-- ---- the report of a sound surface

module _ (grid : List ℤ) (corners : List ℕ) (sound : Sound corners) where
  -- ---- what stands in it

  -- the first edge of a loop is an open one of its piece
  first_open : (l : ℕ) → l < length (loops corners) → (e : ℕ) × (e < length corners) × (is_open corners e ≡ true) × (piece_of corners (e / 3) ≡ piece_at corners l)
  first_open l h =
      let three = facts.three_or_more corners sound l h in
      let o = (facts.one_loop corners sound).nothing_else _ (record { loop = l; loop_below = h; at = 0; at_below = omega arith; is = refl }) in
      (get_or (loop_at corners l) 0 0, o.0, o.1, rims.edge_piece grid corners sound l 0 h (omega arith))

  -- A loop's piece is one of those that are told.
  pub home_below : (l : ℕ) → l < length (loops corners) → piece_at corners l < piece_count corners
  home_below l h =
      let (e, e_in, opens, same) = first_open l h in
      let t : e / 3 < triangle_count corners = let c = sound.triples in omega arith in
      omega (arith, same, pieces.piece_below corners sound (e / 3) t)

  -- "Each loop is to stand in exactly one place",
  pub once_in_the_report : (l : ℕ) → l < length (loops corners) → tally (of_loop l) (report_of grid corners) ≡ 1
  unfolding report_of
  once_in_the_report l h = loop_once grid corners (piece_count corners) l h (home_below l h)

  -- and so does each piece.
  pub piece_in_the_report : (p : ℕ) → p < piece_count corners → tally (of_piece p) (report_of grid corners) ≡ 1
  unfolding report_of
  piece_in_the_report p h = piece_once grid corners (piece_count corners) p h

  -- Nothing else does: an entry tells of a piece, or of a loop under its own kind.
  pub each_tells : (i : ℕ) → i < length (report_of grid corners) → Tells grid corners (get_or (report_of grid corners) i nothing)
  each_tells = every_at (Tells grid corners) (report_of grid corners) (report_tells grid corners)

  -- "Pieces ascend", and each has "its rim, its tide pools and its lakes, in listed order".
  pub in_order : (i j : ℕ) → i < j → j < length (report_of grid corners) → Sooner corners (get_or (report_of grid corners) i nothing) (get_or (report_of grid corners) j nothing)
  in_order = ascends_at (Sooner corners) (report_of grid corners) (report_ascends grid corners)

  -- There are as many entries as pieces and loops,
  pub entries_many : length (report_of grid corners) ≡ piece_count corners + length (loops corners)
  unfolding report_of
  entries_many = entries_count grid corners (piece_count corners) home_below

  -- so no more than two for each triangle.
  pub entries_few : length (report_of grid corners) ≤ 2 * (length corners / 3)
  unfolding piece_count
  entries_few = omega (arith, entries_many, many_few (λ s. eqb (smallest_of corners s) s) (triangle_count corners), facts.loops_third corners sound)

  -- ---- by pieces

  -- A piece with an open edge shows one rim, its own.
  pub shows_its_rim : (e : ℕ) (h : e < length corners) (o : is_open corners e ≡ true) → of_kind grid corners (piece_of corners (e / 3)) 1 ≡ entry 1 (rims.the_rim grid corners sound e h o).rim ∷ []
  unfolding of_kind
  shows_its_rim e h o =
      let r = rims.the_rim grid corners sound e h o in
      let p : ℕ = piece_of corners (e / 3) in
      let its : among grid corners p 1 r.rim ≡ true = rw (eq-eqb (piece_at corners r.rim) p r.its_piece, rim_kind grid corners r.rim r.is_a_rim) in
      let no_other : (l : ℕ) → l < length (loops corners) → (l ≡ r.rim → ⊥) → among grid corners p 1 l ≡ false =
      λ l k n. not_so (among grid corners p 1 l) (λ t.
      let b = both_true (eqb (piece_at corners l) p) (eqb (kind_at grid corners l) 1) t in
      n (r.only l k (kind_rim grid corners l (eqb-true (kind_at grid corners l) 1 b.1)) (eqb-true (piece_at corners l) p b.0))) in
      ap (map (entry 1)) (pick_one (among grid corners p 1) (length (loops corners)) r.rim r.there its no_other)

  -- One in which no loop lies shows no loop of any kind,
  pub shows_no_loop : (p k : ℕ) → ((l : ℕ) → l < length (loops corners) → piece_at corners l ≡ p → ⊥) → of_kind grid corners p k ≡ []
  unfolding of_kind
  shows_no_loop p k n =
      ap (map (entry k))
      (pick_none (among grid corners p k) (length (loops corners)) (λ l h. ap (λ t. t && eqb (kind_at grid corners l) k) (ne_eqb (piece_at corners l) p (n l h))))

  -- so nothing but itself.
  pub shows_itself : (p : ℕ) → ((l : ℕ) → l < length (loops corners) → piece_at corners l ≡ p → ⊥) → entries_of grid corners p ≡ entry 0 p ∷ []
  unfolding entries_of
  shows_itself p n = rw (shows_no_loop p 1 n, shows_no_loop p 2 n, shows_no_loop p 3 n)

  -- A piece without open edges is such a one.
  pub closed_piece : (p : ℕ) → ((e : ℕ) → e < length corners → is_open corners e ≡ true → piece_of corners (e / 3) ≡ p → ⊥) → (l : ℕ) → l < length (loops corners) → piece_at corners l ≡ p → ⊥
  closed_piece p n l h q = let (e, e_in, opens, same) = first_open l h in n e e_in opens (same ∙ q)

  -- So in the report a piece with an open edge has its rim at one place,
  pub rim_once : (e : ℕ) → e < length corners → is_open corners e ≡ true
      → OnePlace (length (report_of grid corners)) (λ (i : ℕ). get_or (report_of grid corners) i nothing) (of_rim corners (piece_of corners (e / 3)))
  rim_once e h o =
      let r = rims.the_rim grid corners sound e h o in
      let p : ℕ = piece_of corners (e / 3) in
      let w = one_place (of_loop r.rim) (report_of grid corners) (once_in_the_report r.rim r.there) in
      record {
        place = w.place;
        there = w.there;
        holds = rim_shown grid corners (get_or (report_of grid corners) w.place nothing) (each_tells w.place w.there) r.rim p r.is_a_rim r.its_piece w.holds;
        only = λ i k t. w.only i k (shown_rim grid corners (get_or (report_of grid corners) i nothing) (each_tells i k) r.rim p r.only t);
      }

  -- and one without has there no entry but its own.
  pub closed_alone : (p : ℕ) → ((e : ℕ) → e < length corners → is_open corners e ≡ true → piece_of corners (e / 3) ≡ p → ⊥)
      → (i : ℕ) → i < length (report_of grid corners) → home_of corners (get_or (report_of grid corners) i nothing) ≡ p → (get_or (report_of grid corners) i nothing).kind ≡ 0
  closed_alone p n i h q = shown_alone grid corners (get_or (report_of grid corners) i nothing) (each_tells i h) p (closed_piece p n) q

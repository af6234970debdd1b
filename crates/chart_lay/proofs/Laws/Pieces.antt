-- The entries of one piece, by its rim and the first of its other loops: without a rim it has no loops, and its rim is one.
use mathlib.Core.Path.{◌≡◌, refl, sym, ap, ap₂, ◌∙◌, subst}
use mathlib.Core.Bool.{Bool, true, false, not, ◌&&◌, true≢false}
use mathlib.Core.List.{List, [], ◌∷◌, ◌++◌, map}
use Prim.Native.Nat.{ℕ, ◌+◌, ◌*◌, ◌<◌, ◌≤◌}
use native.Mathlib.Omega.{arith}
use lib.Dec.{eqb}
use lib.IntN.{ℤ}
use lib.ListN.{length, get_or, length-append, length-map}
use borrow.Author.Tests.{eq-eqb, eqb-true}
use Rattle.base_limits.specs.Limits as limits
use Rattle.surface_rules.specs.Buffers.{laid}
use Rattle.surface_rules.proofs.Laws.Tests.{both_true, not_so}
use Rattle.loop_rules.specs.Loops.{loops, ring}
use Rattle.fill_scratch.specs.Workings.Rings.{RingPlace}
use Rattle.rim_pieces.specs.Workings.Flooding.{none}
use Rattle.rim_rules.specs.Rims.{piece_at, is_rim}
use Rattle.rim_rules.proofs.Theorems.{has_rim, one_rim}
use Rattle.chart_rules.specs.declared.Entry.{Entry}
use Rattle.chart_rules.specs.Report.{entry, numbers, kind_at, of_kind, entries_of}
use Rattle.chart_rules.proofs.Laws.Picking.{pick_none, pick_one}
use Rattle.chart_rules.proofs.Laws.Once.{among}
use Rattle.chart_lay.specs.Workings.Coast.{Coast}
use Rattle.chart_lay.specs.Workings.Chaining.{Foremost}
use Rattle.chart_lay.specs.Workings.Stamping.{Inside, Stamps}
use Rattle.chart_lay.specs.Workings.Entering.{Enters}
use Rattle.chart_lay.specs.Workings.Others.{is_rim_of, is_other_of, Others, others_of, OthersRoom, OthersLaid}
use Rattle.chart_lay.specs.Workings.Pieces.{Fresh, Piece, PieceRoom, PieceLaid}
use Rattle.chart_lay.proofs.Laws.Firsts.{first_there, first_none}
use Rattle.chart_lay.proofs.Laws.Entering.{enters_one, enters_then, enters_same}
use Rattle.chart_lay.proofs.Laws.Kinds.{rim_sort, no_pool, no_lake}
use Rattle.chart_lay.proofs.Laws.Rings.{ring_place, start_in, length_in, part_of, part_is, part_inside}
use Rattle.chart_lay.proofs.Laws.Touching.{stamp_touches, next_fresh}

module _ {grid : List ℤ} {corners : List ℕ} {coast : Coast} {rim head p : ℕ} (c : Piece grid corners coast rim head p) where
  abbrev n : ℕ
  n = length (loops corners)

  few_loops : n ≤ none
  few_loops = let a = c.chained.listed.few_loops in let b = length-map (loops corners) (ring corners) in omega arith

  -- ---- no rim

  module _ (e : rim ≡ none) where
    no_rim : (l : ℕ) → l < n → is_rim_of grid corners p l ≡ false
    no_rim l h = first_none few_loops e c.rim_is l (omega arith) h

    no_loop : (l : ℕ) → l < n → eqb (piece_at corners l) p ≡ false
    no_loop l h = not_so _ (λ t.
        let r = has_rim grid corners l h in
        true≢false (sym (ap₂ ◌&&◌ (eq-eqb _ _ (r.2 ∙ eqb-true _ _ t)) r.3) ∙ no_rim r.0 r.1))

    none_of : (k : ℕ) → of_kind grid corners p k ≡ []
    unfolding of_kind
    none_of k = ap (map (entry k)) (pick_none (among grid corners p k) n (λ l h. ap (λ (t : Bool). t && eqb (kind_at grid corners l) k) (no_loop l h)))

    bare : entries_of grid corners p ≡ entry 0 p ∷ []
    unfolding entries_of
    bare = ap (λ (x : List Entry). entry 0 p ∷ x) (ap₂ ◌++◌ (none_of 1) (ap₂ ◌++◌ (none_of 2) (none_of 3)))

  -- ---- a rim

  module _ (e : rim ≡ none → ⊥) where
    the_rim : Foremost (is_rim_of grid corners p) 0 n rim
    the_rim = first_there e c.rim_is

    rim_in : rim < n
    rim_in = the_rim.below

    its_home : piece_at corners rim ≡ p
    its_home = eqb-true _ _ (both_true (eqb (piece_at corners rim) p) (is_rim grid corners rim) the_rim.holds).0

    its_mark : is_rim grid corners rim ≡ true
    its_mark = (both_true (eqb (piece_at corners rim) p) (is_rim grid corners rim) the_rim.holds).1

    only_rim : (l : ℕ) → l < n → (l ≡ rim → ⊥) → among grid corners p 1 l ≡ false
    only_rim l h z = rim_sort grid corners p l ∙ not_so _ (λ t.
        let b = both_true (eqb (piece_at corners l) p) (is_rim grid corners l) t in
        z (one_rim grid corners l rim h rim_in b.1 its_mark (eqb-true _ _ b.0 ∙ sym its_home)))

    rims_are : of_kind grid corners p 1 ≡ entry 1 rim ∷ []
    unfolding of_kind
    rims_are = ap (map (entry 1)) (pick_one (among grid corners p 1) n rim rim_in (rim_sort grid corners p rim ∙ the_rim.holds) only_rim)

    with_rim : entries_of grid corners p ≡ (entry 0 p ∷ entry 1 rim ∷ []) ++ others_of grid corners p
    unfolding entries_of
    with_rim = ap (λ (x : List Entry). entry 0 p ∷ (x ++ others_of grid corners p)) rims_are

    alone : head ≡ none → entries_of grid corners p ≡ entry 0 p ∷ entry 1 rim ∷ []
    unfolding of_kind
    alone h =
        with_rim
        ∙ ap (λ (x : List Entry). (entry 0 p ∷ entry 1 rim ∷ []) ++ x)
        (ap₂ ◌++◌ (ap (map (entry 2)) (pick_none (among grid corners p 2) n (λ l i. no_pool grid corners p l (no_others l i))))
        (ap (map (entry 3)) (pick_none (among grid corners p 3) n (λ l i. no_lake grid corners p l (no_others l i)))))
      where
        no_others : (l : ℕ) → l < n → is_other_of grid corners p l ≡ false
        no_others l i = first_none few_loops h c.head_is l (omega arith) i

    -- its ring is stamped
    others_stamped : {stamps stamps' : List ℕ} → Fresh p stamps → Stamps (part_of coast rim) stamps (p + 1) stamps' → limits.points ≤ length stamps' → Others grid corners p coast stamps' head (p + 1)
    others_stamped {stamps} {stamps'} fresh s long = record {
      chained = c.chained;
      head_is = c.head_is;
      stamps_long = long;
      told = λ l h o.
          stamp_touches grid corners l rim rim_in its_mark (its_home ∙ sym (eqb-true _ _ (both_true (eqb (piece_at corners l) p) (not (is_rim grid corners l)) o).0)) {stamps = stamps} {stamps' = stamps'} fresh
          (subst (λ (x : List ℕ). Stamps x stamps (p + 1) stamps') (part_is c.chained rim_in) s);
    }

-- ---- the whole piece

module _ {coast : Coast} {rim head : ℕ} {stamps lakes report : List ℕ} {p at : ℕ} (room : PieceRoom coast rim head stamps lakes report p at) where
  -- the piece's own entry
  pub own_room : 2 * at + 2 ≤ length report
  unfolding entries_of
  own_room = let a = room.room in omega arith

  pub laid_bare : {report' : List ℕ} → rim ≡ none → report' ≡ laid (2 * at) (numbers (entry 0 p)) report → PieceLaid coast rim head report p at (at + 1) stamps report'
  laid_bare e q = record {
    told = λ grid corners c. enters_same (sym (bare c e)) refl (enters_one (entry 0 p) q);
    fresh = λ v. let a = room.fresh v in omega arith;
  }

  module _ (e : rim ≡ none → ⊥) where
    long : length (entries_of room.grid room.corners p) ≡ 2 + length (others_of room.grid room.corners p)
    long = ap length (with_rim room.piece e) ∙ length-append (entry 0 p ∷ entry 1 rim ∷ []) (others_of room.grid room.corners p)

    pub rim_room : 2 * (at + 1) + 2 ≤ length report
    rim_room = let a = room.room in let b = long in omega arith

    -- both entries
    module _ {report₁ report₂ : List ℕ} (q : report₁ ≡ laid (2 * at) (numbers (entry 0 p)) report) (r : report₂ ≡ laid (2 * (at + 1)) (numbers (entry 1 rim)) report₁) where
      both : Enters at (entry 0 p ∷ entry 1 rim ∷ []) report (at + 2) report₂
      both = enters_same refl (let z : at + 1 + 1 ≡ at + 2 = omega arith in z) (enters_then (let a = rim_room in omega arith) (enters_one (entry 0 p) q) (enters_one (entry 1 rim) r))

      pub laid_alone : head ≡ none → PieceLaid coast rim head report p at (at + 2) stamps report₂
      laid_alone h = record {
        told = λ grid corners c. enters_same (sym (alone c e h)) refl both;
        fresh = λ v. let a = room.fresh v in omega arith;
      }

      -- and the others
      pub laid_all : {stamps' : List ℕ} {s : ℕ} {report' : List ℕ} → Stamps (part_of coast rim) stamps (p + 1) stamps'
          → length stamps' ≡ length stamps → OthersLaid coast stamps' head report₂ (p + 1) (at + 2) s report' → PieceLaid coast rim head report p at s stamps' report'
      laid_all {stamps'} {s} {report'} t l o = record {
        told = λ grid corners c.
            enters_same (sym (with_rim c e)) refl (enters_then (let a = rim_room in omega arith) both (o grid corners p (others_stamped c e {stamps = stamps} {stamps' = stamps'} room.fresh t (let x = room.stamps_long in omega arith))));
        fresh = next_fresh {stamps = stamps} room.fresh t;
      }

    rim_there : rim < length (loops room.corners)
    rim_there = rim_in room.piece e

    pub place : RingPlace coast.rings coast.lengths rim (get_or coast.starts rim 0)
    place = ring_place room.piece.chained rim_there

    pub start_there : rim < length coast.starts
    start_there = start_in room.piece.chained rim_there

    pub length_there : rim < length coast.lengths
    length_there = length_in room.piece.chained rim_there

    pub part_there : Inside (part_of coast rim) stamps
    part_there = part_inside room.piece.chained rim_there stamps room.stamps_long

    -- what the others take
    pub others_room : {stamps' report₂ : List ℕ} → Stamps (part_of coast rim) stamps (p + 1) stamps'
        → length stamps' ≡ length stamps → length report₂ ≡ length report → OthersRoom coast stamps' head lakes report₂ (p + 1) (at + 2)
    others_room {stamps'} {report₂} t l k = record {
      grid = room.grid;
      corners = room.corners;
      p = p;
      others = others_stamped room.piece e {stamps = stamps} {stamps' = stamps'} room.fresh t (let x = room.stamps_long in omega arith);
      lakes_long = room.lakes_long;
      room = let a = room.room in let b = long in omega arith;
    }

-- Piece after piece is laid: the entries so far are those of the pieces before.
use mathlib.Core.Path.{◌≡◌, refl, sym, ap, ◌∙◌, subst}
use mathlib.Core.List.{List, []}
use Prim.Native.Nat.{ℕ, zero, suc, ◌+◌, ◌*◌, ◌<◌, ◌≤◌}
use mathlib.Core.Logic.{⊎_elim}
use native.Mathlib.Nat.{eq-or-lt_of_le}
use native.Mathlib.Numerals.{add-one}
use native.Mathlib.Omega.{arith}
use lib.IntN.{ℤ}
use lib.ListN.{length, replicate, length-append, length-replicate}
use Rattle.base_limits.specs.Limits as limits
use Rattle.surface_rules.specs.Buffers.{over, laid}
use Rattle.surface_rules.proofs.Laws.Laid.{laid_over}
use Rattle.surface_rules.proofs.Laws.Over.{over_none}
use Rattle.rim_pieces.specs.Computed.{piece_count}
use Rattle.chart_rules.specs.declared.Entry.{Entry}
use Rattle.chart_rules.specs.Report.{entries_of, report_of, entry_numbers}
use Rattle.chart_rules.proofs.Laws.Entries.{listed, listed_none, listed_next}
use Rattle.chart_rules.proofs.Theorems.{entries_few}
use Rattle.chart_lay.specs.Workings.Coast.{Coast}
use Rattle.chart_lay.specs.Workings.Entering.{Enters}
use Rattle.chart_lay.specs.Workings.Pieces.{Fresh, Piece, PieceRoom, PieceLaid}
use Rattle.chart_lay.specs.Workings.Laying.{Shores, LayRoom, Lays}
use Rattle.chart_lay.proofs.Laws.Entering.{enters_none, enters_then, enters_same}
use Rattle.chart_lay.proofs.Laws.Shores.{few_pieces, few_loops}

-- what is laid from the start on
laid_start : (xs w : List ℕ) → laid 0 xs w ≡ over xs w
laid_start xs w = ap (laid 0 xs) (sym (over_none w)) ∙ laid_over [] xs w 0 refl

-- where no vertex was stamped, the stamps are fresh
all_fresh : (n : ℕ) → Fresh 0 (replicate n 0)
all_fresh zero v = omega arith
all_fresh (suc n) zero = omega arith
all_fresh (suc n) (suc v) = all_fresh n v

-- more pieces have no fewer entries
listed_more : (f : ℕ → List Entry) (m n : ℕ) → m ≤ n → length (listed f m) ≤ length (listed f n)
listed_more f m zero h = let e : length (listed f m) ≡ length (listed f 0) = ap (λ (x : ℕ). length (listed f x)) (let z : m ≡ 0 = omega arith in z) in omega arith
listed_more f m (suc n) h =
    ⊎_elim (λ (e : m ≡ suc n). let g : length (listed f m) ≡ length (listed f (suc n)) = ap (λ (x : ℕ). length (listed f x)) e in omega arith)
    (λ (e : m < suc n).
    let a = listed_more f m n (omega arith) in
    let b : length (listed f (suc n)) ≡ length (listed f n) + length (f n) = ap (λ (x : ℕ). length (listed f x)) (sym (add-one n)) ∙ ap length (listed_next f n) ∙ length-append (listed f n) (f n) in
    omega arith)
    (eq-or-lt_of_le h)

-- p pieces are laid
pub record Reporting (rings lengths marks pieces report₀ : List ℕ) (count : ℕ) (report lakes stamps : List ℕ) (at p : ℕ) : Type 0 where
  pub within : p ≤ count
  pub report_long : length report ≡ length report₀
  pub lakes_long : length lakes ≡ limits.triangles
  pub stamps_long : length stamps ≡ limits.points
  pub fresh : Fresh p stamps
  pub so_far : (grid : List ℤ) (corners : List ℕ) → Shores grid corners rings lengths marks pieces count → Enters 0 (listed (entries_of grid corners) p) report₀ at report

module _ {rings lengths marks pieces report₀ : List ℕ} {count : ℕ} (room : LayRoom rings lengths marks pieces report₀ count) where
  pub reporting_begins : Reporting rings lengths marks pieces report₀ count report₀ (replicate limits.triangles 0) (replicate limits.points 0) 0 0
  reporting_begins = record {
    within = omega arith;
    report_long = refl;
    lakes_long = length-replicate {A = ℕ} limits.triangles 0;
    stamps_long = length-replicate {A = ℕ} limits.points 0;
    fresh = all_fresh limits.points;
    so_far = λ grid corners s. enters_same (sym (listed_none (entries_of grid corners))) refl (enters_none 0 report₀);
  }

  module _ {report lakes stamps : List ℕ} {at p : ℕ} (w : Reporting rings lengths marks pieces report₀ count report lakes stamps at p) where
    pub reporting_ends : count ≤ p → Lays rings lengths marks pieces report₀ count at report
    unfolding report_of
    reporting_ends h grid corners s =
        let a = w.within in
        let e : p ≡ piece_count corners = let b = s.counted in omega arith in
        let x = subst (λ (k : ℕ). Enters 0 (listed (entries_of grid corners) k) report₀ at report) e (w.so_far grid corners s) in
        (let y = x.counted in omega arith, x.laid_are ∙ laid_start (entry_numbers (report_of grid corners)) report₀)

    module _ (h : p < count) where
      -- the entries so far are the first of all
      next_entries : (grid : List ℤ) (corners : List ℕ) → length (listed (entries_of grid corners) (p + 1)) ≡ length (listed (entries_of grid corners) p) + length (entries_of grid corners p)
      next_entries grid corners = ap length (listed_next (entries_of grid corners) p) ∙ length-append (listed (entries_of grid corners) p) (entries_of grid corners p)

      whole_room : 2 * (at + length (entries_of room.grid room.corners p)) ≤ length report
      unfolding report_of
      whole_room =
          let s = room.shores in
          let a = listed_more (entries_of room.grid room.corners) (p + 1) (piece_count room.corners) (let c = s.counted in omega arith) in
          let b = next_entries room.grid room.corners in
          let c = entries_few room.grid room.corners s.sound in
          let d = (w.so_far room.grid room.corners s).counted in
          let e = w.report_long in
          let f = room.room in
          omega arith

      module _ {coast : Coast} {rim head : ℕ}
          (piece_of : (grid : List ℤ) (corners : List ℕ) → Shores grid corners rings lengths marks pieces count → Piece grid corners coast rim head p) where
        pub piece_room : PieceRoom coast rim head stamps lakes report p at
        piece_room = record {
          grid = room.grid;
          corners = room.corners;
          piece = piece_of room.grid room.corners room.shores;
          few = let a = few_pieces room.shores in omega arith;
          stamps_long = let a = w.stamps_long in omega arith;
          fresh = w.fresh;
          lakes_long = let a = w.lakes_long in let b = few_loops room.shores in omega arith;
          room = whole_room;
        }

        pub reporting_more : {stamps' lakes' report' : List ℕ} {r : ℕ} → length stamps' ≡ limits.points → length lakes' ≡ limits.triangles → length report' ≡ length report
            → PieceLaid coast rim head report p at r stamps' report' → Reporting rings lengths marks pieces report₀ count report' lakes' stamps' r (p + 1)
        reporting_more a b c l = record {
          within = omega arith;
          report_long = c ∙ w.report_long;
          lakes_long = b;
          stamps_long = a;
          fresh = l.fresh;
          so_far = λ grid corners s.
              enters_same (sym (listed_next (entries_of grid corners) p)) refl
              (enters_then (let x = whole_room in let y = w.report_long in omega arith) (w.so_far grid corners s) (l.told grid corners (piece_of grid corners s)));
        }

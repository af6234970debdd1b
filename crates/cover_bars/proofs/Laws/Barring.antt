-- The rows that are left when the ring is stamped, all edges are met and the sides are cleared are the bars.
use mathlib.Core.Path.{◌≡◌, refl, sym, ap, ap₂, ◌∙◌}
use mathlib.Core.Bool.{Bool, true, false, not, ◌&&◌, ◌||◌, and_comm}
use mathlib.Core.List.{List}
use Prim.Native.Nat.{ℕ, ◌<◌}
use lib.Dec.{eqb, ltb}
use lib.ListN.{length, get_or}
use borrow.Author.Tests.{lt-ltb}
use Rattle.cover_bars.specs.Bars.{follows, diagonal, between, barred}
use Rattle.cover_bars.specs.Workings.Chains.{Edge, joins, Walkable, Tells, touches, met, cleared_below, StampDone, RowsRoom, AllDone, SidesDone, BarsRoom, BarsDone}
use Rattle.cover_bars.proofs.Laws.Rows.{rows_same}

-- what tells something can be walked
pub tells_walkable : (input laid : List ℕ) (n : ℕ) (heads links ends : List ℕ) → Tells input laid n heads links ends → Walkable heads links ends
tells_walkable input laid n heads links ends t = record { edges = t.edges; chained = t.chained }

by_tests : (s x y : Bool) → ((s && x) && not (s && y)) ≡ ((s && not y) && x)
by_tests true x y = and_comm x (not y)
by_tests false x y = refl

met_barred : (input laid ring : List ℕ) (es : List Edge) → ((u v : ℕ) → joins es u v ≡ (between input u v || between laid u v)) → (a b : ℕ) → a < length ring
    → cleared_below (length ring) (length ring) (met es ring) a b ≡ barred input laid ring a b
unfolding cleared_below met touches barred diagonal
met_barred input laid ring es same a b l =
    let n : ℕ = length ring in
    let u : ℕ = get_or ring a 0 in
    let v : ℕ = get_or ring b 0 in
    let near : Bool = (eqb a b || follows n a b) || follows n b a in
    ap₂ (λ (s t : Bool). (ltb b n && t) && not (s && (ltb b n && near))) (lt-ltb a n l) (same u v)
    ∙ by_tests (ltb b n) (between input u v || between laid u v) near
    ∙ sym (ap (λ (s : Bool). ((s && ltb b n) && not near) && (between input u v || between laid u v)) (lt-ltb a n l))

module _ {ring heads links ends stamps₀ : List ℕ} {base : ℕ} {rows₀ : List ℕ} (room : BarsRoom ring heads links ends stamps₀ base rows₀)
    {stamps rows : List ℕ} (stamp : StampDone ring base stamps rows) where
  pub bars_room : RowsRoom ring heads links ends stamps base rows
  bars_room =
      record {
        walkable = room.walkable;
        stamped = stamp.stamped;
        short = room.room.short;
        inside = room.room.inside;
        rows_long = stamp.rows_long;
      }

  pub bars_done : {rows₁ rows₂ : List ℕ} → AllDone ring heads links ends rows₁ → SidesDone (length ring) rows₁ rows₂
      → BarsDone ring heads links ends base stamps rows₂
  bars_done all sides =
      record {
        stamped = stamp.stamped;
        below = stamp.below;
        rows_long = sides.rows_long;
        bars =
            λ input laid n t.
            rows_same (sides.cleared (met t.edges ring) (all.all t.edges t.chained))
            (λ a b l _. met_barred input laid ring t.edges t.same a b l);
      }

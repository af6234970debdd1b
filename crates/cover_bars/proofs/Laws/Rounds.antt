-- Position after position is walked from, and when all are, two positions stand in each other's row exactly if an edge joins them.
use mathlib.Core.Path.{◌≡◌, sym, ap, ap₂, ◌∙◌, subst}
use mathlib.Core.Bool.{Bool, false, ◌&&◌, ◌||◌, and-or_distrib_left, and-or_distrib_right}
use mathlib.Core.List.{List}
use mathlib.Core.Logic.{⊎_elim}
use Prim.Native.Nat.{ℕ, ◌+◌, ◌<◌, ◌≤◌, zero-le}
use native.Mathlib.Omega.{arith}
use lib.Dec.{eqb, ltb}
use lib.ListN.{length, get_or}
use borrow.Author.Tests.{ne_eqb, lt-ltb, le-ltb}
use Rattle.surface_rules.proofs.Laws.Tests.{eq_or_not}
use Rattle.cover_bits.specs.Workings.Masks.{Rows}
use Rattle.cover_bars.specs.Workings.Chains.{Edge, reaches, Chained, leads, with_from, met_below, met, RowsRoom, FromDone, AllDone}
use Rattle.cover_bars.proofs.Laws.Reaches.{joins_reaches}
use Rattle.cover_bars.proofs.Laws.Rows.{rows_same, rows_clear}
use Rattle.cover_bars.proofs.Laws.Tests.{paired, ltb_more}

-- the positions below j were walked from
pub record Rounding (ring heads links ends stamps : List ℕ) (base : ℕ) (rows : List ℕ) (j : ℕ) : Type 0 where
  pub room : RowsRoom ring heads links ends stamps base rows
  pub within : j ≤ length ring
  pub told : (es : List Edge) → Chained es heads links ends → Rows (length ring) (met_below es ring j) rows

-- ---- one position more

module _ (es : List Edge) (ring : List ℕ) (j : ℕ) where
  -- what leads from j leads from a where a is j
  from_here : (a b : ℕ) → (eqb a j && leads es ring j b) ≡ (eqb a j && leads es ring a b)
  from_here a b =
      ⊎_elim
      (λ (e : a ≡ j). ap (λ (z : ℕ). eqb a j && leads es ring z b) (sym e))
      (λ (e : a ≡ j → ⊥). ap (λ (t : Bool). t && leads es ring j b) (ne_eqb a j e) ∙ sym (ap (λ (t : Bool). t && leads es ring a b) (ne_eqb a j e)))
      (eq_or_not a j)

  met_more : (a b : ℕ) → with_from es ring j (met_below es ring j) a b ≡ met_below es ring (j + 1) a b
  unfolding with_from met_below
  met_more a b =
      let x : Bool = leads es ring a b in
      let y : Bool = leads es ring b a in
      ap₂ (λ (s t : Bool). (((ltb a j && x) || (ltb b j && y)) || s) || t) (from_here a b) (from_here b a)
      ∙ paired (ltb a j && x) (ltb b j && y) (eqb a j && x) (eqb b j && y)
      ∙ sym (ap₂ (λ (s t : Bool). s || t) (and-or_distrib_right (ltb a j) (eqb a j) x) (and-or_distrib_right (ltb b j) (eqb b j) y))
      ∙ sym (ap₂ (λ (s t : Bool). (s && x) || (t && y)) (ltb_more a j) (ltb_more b j))

met_none : (es : List Edge) (ring : List ℕ) (a b : ℕ) → met_below es ring 0 a b ≡ false
unfolding met_below
met_none es ring a b = ap₂ (λ (s t : Bool). (s && leads es ring a b) || (t && leads es ring b a)) (le-ltb a 0 zero-le) (le-ltb b 0 zero-le)

met_all : (es : List Edge) (ring : List ℕ) (a b : ℕ) → a < length ring → met_below es ring (length ring) a b ≡ met es ring a b
unfolding met_below met leads
met_all es ring a b l =
    let n : ℕ = length ring in
    let x : Bool = reaches es (get_or ring a 0) (get_or ring b 0) in
    let y : Bool = reaches es (get_or ring b 0) (get_or ring a 0) in
    ap (λ (t : Bool). (t && (ltb b n && x)) || (ltb b n && (t && y))) (lt-ltb a n l)
    ∙ sym (and-or_distrib_left (ltb b n) x y)
    ∙ ap (λ (t : Bool). ltb b n && t) (sym (joins_reaches es (get_or ring a 0) (get_or ring b 0)))

-- ---- all positions

module _ {ring heads links ends stamps : List ℕ} {base : ℕ} {rows : List ℕ} where
  pub round_begins : RowsRoom ring heads links ends stamps base rows → ((j : ℕ) → j < length ring → get_or rows j 0 ≡ 0)
      → Rounding ring heads links ends stamps base rows 0
  round_begins room clear = record { room = room; within = zero-le; told = λ es c. rows_clear room.rows_long clear (met_none es ring) }

  module _ {j : ℕ} (round : Rounding ring heads links ends stamps base rows j) where
    pub round_ends : length ring ≤ j → AllDone ring heads links ends rows
    round_ends l =
        let w : j ≤ length ring = round.within in
        let e : j ≡ length ring = omega arith in
        record {
          rows_long = round.room.rows_long;
          all =
              λ es c.
              rows_same (subst (λ (z : ℕ). Rows (length ring) (met_below es ring z) rows) e (round.told es c))
              (λ a b m _. met_all es ring a b m);
        }

    pub round_more : {rows' : List ℕ} → j < length ring → FromDone ring heads links ends j rows rows' → Rounding ring heads links ends stamps base rows' (j + 1)
    round_more l d =
        let room = round.room in
        record {
          room = record { walkable = room.walkable; stamped = room.stamped; short = room.short; inside = room.inside; rows_long = d.rows_long };
          within = omega arith;
          told = λ es c. rows_same (d.more es c (met_below es ring j) (round.told es c)) (λ a b _ _. met_more es ring j a b);
        }

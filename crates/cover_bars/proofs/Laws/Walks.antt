-- The walk along the chain of a position's vertex: for each edge passed that leads to a position of the ring, the two stand in each other's row.
use mathlib.Core.Path.{◌≡◌, sym, ap, ap₂, ◌∙◌, subst}
use mathlib.Core.Bool.{Bool, true, false, ◌&&◌, ◌||◌, or-false, and-false, and_comm, or_comm, or_assoc, and-or_distrib_left}
use mathlib.Core.List.{List}
use mathlib.Core.Logic.{⊎_elim}
use Prim.Native.Nat.{ℕ, suc, ◌+◌, ◌-◌, ◌*◌, ◌%◌, ◌^◌, ◌<◌, ◌≤◌}
use native.Mathlib.Nat.{le_refl}
use native.Mathlib.Omega.{arith}
use lib.Bits.{bit_or}
use lib.Dec.{eqb, ltb}
use lib.ListN.{length, get_or, set, drop, length-set}
use borrow.Author.Tests.{eq-eqb, ne_eqb, lt-ltb, le-ltb, eqb-true}
use Rattle.base_limits.specs.Limits as limits
use Rattle.surface_rules.proofs.Laws.Tests.{eq_or_not, lt_or_le}
use Rattle.surface_twins.specs.Workings.Chains.{top}
use Rattle.surface_twins.proofs.Laws.Tops.{top_le, top_says}
use Rattle.cover_bits.specs.Workings.Masks.{Rows}
use Rattle.cover_bars.specs.Workings.Chains.{Edge, edge_of, reaches, leaves, Chained, Stamped, leads, with_from, RowsRoom, FromDone}
use Rattle.cover_bars.proofs.Laws.Reaches.{reaches_none, met_here, reaches_top}
use Rattle.cover_bars.proofs.Laws.Rows.{one, rows_same, rows_one}
use Rattle.cover_bars.proofs.Laws.Tests.{paired}

-- the walk from position j is at g, numbered from 1
pub record Walked (ring : List ℕ) (j : ℕ) (rows₀ : List ℕ) (es : List Edge) (rows : List ℕ) (g : ℕ) : Type 0 where
  pub within : g ≤ length es
  pub here : 0 < g → leaves es (get_or ring j 0) (g - 1) ≡ true
  pub told : (p : ℕ → ℕ → Bool) → Rows (length ring) p rows₀ → Rows (length ring) (with_from (drop g es) ring j p) rows

-- the same for whichever edges are chained
pub record Walking (ring heads links ends stamps : List ℕ) (base j : ℕ) (rows₀ rows : List ℕ) (g : ℕ) : Type 0 where
  pub room : RowsRoom ring heads links ends stamps base rows₀
  pub from : j < length ring
  pub rows_long : length rows ≡ limits.longest
  pub all : (es : List Edge) → Chained es heads links ends → Walked ring j rows₀ es rows g

-- ---- what one more edge leads to

module _ (ring : List ℕ) (j : ℕ) (es fs : List Edge) where
  -- with lists of edges that lead to the same positions the rows are the same
  with_same : ((b : ℕ) → leads es ring j b ≡ leads fs ring j b) → (p : ℕ → ℕ → Bool) (a b : ℕ) → with_from es ring j p a b ≡ with_from fs ring j p a b
  unfolding with_from
  with_same w p a b = ap₂ (λ (s t : Bool). (p a b || (eqb a j && s)) || (eqb b j && t)) (w b) (w a)

  more_pairs : (p a b x y s t : Bool) → ((((p || (a && x)) || (b && y)) || (a && s)) || (t && b)) ≡ ((p || (a && (x || s))) || (b && (y || t)))
  more_pairs p a b x y s t =
      ap (λ (z : Bool). (((p || (a && x)) || (b && y)) || (a && s)) || z) (and_comm t b)
      ∙ paired (p || (a && x)) (b && y) (a && s) (b && t)
      ∙ ap (λ (z : Bool). z || ((b && y) || (b && t))) (or_assoc p (a && x) (a && s))
      ∙ sym (ap₂ (λ (z w : Bool). (p || z) || w) (and-or_distrib_left a x s) (and-or_distrib_left b y t))

  -- with one position q more, it and j are set in each other's row
  with_more : (q : ℕ) → ((b : ℕ) → leads fs ring j b ≡ (leads es ring j b || eqb b q)) → (p : ℕ → ℕ → Bool) (a b : ℕ) → one (one (with_from es ring j p) j q) q j a b ≡ with_from fs ring j p a b
  unfolding with_from
  with_more q w p a b =
      more_pairs (p a b) (eqb a j) (eqb b j) (leads es ring j b) (leads es ring j a) (eqb b q) (eqb a q)
      ∙ sym (ap₂ (λ (s t : Bool). (p a b || (eqb a j && s)) || (eqb b j && t)) (w b) (w a))

-- nothing is led to: the rows are as they were
with_none : (ring : List ℕ) (j : ℕ) (es : List Edge) → ((b : ℕ) → leads es ring j b ≡ false) → (p : ℕ → ℕ → Bool) (a b : ℕ) → p a b ≡ with_from es ring j p a b
unfolding with_from
with_none ring j es w p a b =
    sym
    (ap₂ (λ (s t : Bool). (p a b || (eqb a j && s)) || (eqb b j && t)) (w b) (w a)
    ∙ ap₂ (λ (s t : Bool). (p a b || s) || t) (and-false (eqb a j)) (and-false (eqb b j))
    ∙ or-false (p a b || false)
    ∙ or-false (p a b))

-- ---- one step

-- edges of a list that lead from j to b, where those of another do or where an edge to w does
module _ {ring stamps : List ℕ} {base : ℕ} (stamped : Stamped ring base stamps) (j : ℕ) (es fs : List Edge) (w : ℕ) (inside : w < limits.points)
    (reached : (v : ℕ) → reaches fs (get_or ring j 0) v ≡ (eqb w v || reaches es (get_or ring j 0) v)) where
  -- the vertex at b has the stamp of b
  stamped_at : (b : ℕ) → b < length ring → w ≡ get_or ring b 0 → get_or stamps w 0 ≡ base + b
  stamped_at b l e = ap (λ (z : ℕ). get_or stamps z 0) e ∙ stamped.placed b l

  leads_in : (b : ℕ) → b < length ring → leads fs ring j b ≡ (eqb w (get_or ring b 0) || leads es ring j b)
  unfolding leads
  leads_in b l = rw (lt-ltb b (length ring) l) (reached (get_or ring b 0))

  leads_out : (gs : List Edge) (b : ℕ) → length ring ≤ b → leads gs ring j b ≡ false
  unfolding leads
  leads_out gs b l = rw (le-ltb b (length ring) l)

  leads_same : get_or stamps w 0 < base → (b : ℕ) → leads es ring j b ≡ leads fs ring j b
  leads_same l b =
      ⊎_elim
      (λ (m : b < length ring).
      sym (leads_in b m ∙ ap (λ (t : Bool). t || leads es ring j b) (ne_eqb w (get_or ring b 0) (λ e. let q = stamped_at b m e in absurd (omega arith)))))
      (λ (m : length ring ≤ b). leads_out es b m ∙ sym (leads_out fs b m))
      (lt_or_le b (length ring))

  leads_more : base ≤ get_or stamps w 0 → (b : ℕ) → leads fs ring j b ≡ (leads es ring j b || eqb b (get_or stamps w 0 - base))
  leads_more l b =
      let o = stamped.only w inside l in
      let s : get_or stamps w 0 - base < length ring = o.0 in
      ⊎_elim
      (λ (m : b < length ring).
      leads_in b m
      ∙ or_comm (eqb w (get_or ring b 0)) (leads es ring j b)
      ∙ ap (λ (t : Bool). leads es ring j b || t)
      (⊎_elim
      (λ (e : b ≡ get_or stamps w 0 - base). eq-eqb w (get_or ring b 0) (sym (ap (λ (z : ℕ). get_or ring z 0) e ∙ o.1)) ∙ sym (eq-eqb b (get_or stamps w 0 - base) e))
      (λ (e : b ≡ get_or stamps w 0 - base → ⊥). ne_eqb w (get_or ring b 0) (λ f. let q = stamped_at b m f in e (omega arith)) ∙ sym (ne_eqb b (get_or stamps w 0 - base) e))
      (eq_or_not b (get_or stamps w 0 - base))))
      (λ (m : length ring ≤ b).
      leads_out fs b m
      ∙ sym (ap₂ (λ (t s : Bool). t || s) (leads_out es b m) (ne_eqb b (get_or stamps w 0 - base) (λ e. absurd (omega arith)))))
      (lt_or_le b (length ring))

-- ---- the walk

module _ {ring heads links ends stamps : List ℕ} {base j : ℕ} {rows₀ : List ℕ} (room : RowsRoom ring heads links ends stamps base rows₀) (l : j < length ring) where
  abbrev head : ℕ
  head = get_or heads (get_or ring j 0) 0

  head_is : (es : List Edge) → Chained es heads links ends → head ≡ top (leaves es (get_or ring j 0)) (length es)
  head_is es c = c.headed (get_or ring j 0) (room.inside j l)

  head_most : (es : List Edge) → Chained es heads links ends → head ≤ length es
  head_most es c = omega (arith, head_is es c, top_le (leaves es (get_or ring j 0)) (length es))

  -- nothing is led to from the head of the chain on
  nothing : (es : List Edge) → Chained es heads links ends → (b : ℕ) → leads (drop head es) ring j b ≡ false
  unfolding leads
  nothing es c b =
      let u : ℕ = get_or ring j 0 in
      ap (λ (t : Bool). ltb b (length ring) && t)
      (ap (λ (z : ℕ). reaches (drop z es) u (get_or ring b 0)) (head_is es c)
      ∙ reaches_top es u (get_or ring b 0) (length es) (le_refl (length es))
      ∙ reaches_none es u (get_or ring b 0))
      ∙ and-false (ltb b (length ring))

  pub walk_begins : Walking ring heads links ends stamps base j rows₀ rows₀ (get_or heads (get_or ring j 0) 0)
  walk_begins =
      record {
        room = room;
        from = l;
        rows_long = room.rows_long;
        all =
            λ es c.
            record {
              within = head_most es c;
              here = λ s. top_says (leaves es (get_or ring j 0)) (length es) (head - 1) (sym (head_is es c) ∙ omega arith);
              told = λ p t. rows_same t (λ a b _ _. with_none ring j (drop head es) (nothing es c) p a b);
            };
      }

module _ {ring heads links ends stamps : List ℕ} {base j : ℕ} {rows₀ rows : List ℕ} {g : ℕ} (walk : Walking ring heads links ends stamps base j rows₀ rows g) where
  pub walk_ends : g ≤ 0 → FromDone ring heads links ends j rows₀ rows
  walk_ends l =
      let e : g ≡ 0 = omega arith in
      record {
        rows_long = walk.rows_long;
        more = λ es c p t. subst (λ (z : ℕ). Rows (length ring) (with_from (drop z es) ring j p) rows) e ((walk.all es c).told p t);
      }

  module _ (more : 0 < g) where
    abbrev end : ℕ
    end = get_or ends (g - 1) 0

    abbrev link : ℕ
    link = get_or links (g - 1) 0

    abbrev place : ℕ
    place = get_or stamps end 0 - base

    inside : (es : List Edge) → Chained es heads links ends → g - 1 < length es
    inside es c = omega (arith, (walk.all es c).within)

    end_is : (es : List Edge) → Chained es heads links ends → end ≡ (get_or es (g - 1) (edge_of 0 0)).to
    end_is es c = c.ended (g - 1) (inside es c)

    pub walk_inside : (g - 1 < length links) × (g - 1 < length ends) × (get_or ends (g - 1) 0 < limits.points)
    walk_inside =
        let es : List Edge = walk.room.walkable.edges in
        let c : Chained es heads links ends = walk.room.walkable.chained in
        let l = inside es c in
        let a : length es ≤ length links = c.links_room in
        let b : length es ≤ length ends = c.ends_room in
        (omega arith, omega arith, subst (λ (z : ℕ). z < limits.points) (sym (end_is es c)) (c.inside (g - 1) l).1)

    pub walk_place : base ≤ get_or stamps (get_or ends (g - 1) 0) 0 → get_or stamps (get_or ends (g - 1) 0) 0 - base < length ring
    walk_place l = (walk.room.stamped.only end walk_inside.2 l).0

    link_is : (es : List Edge) → Chained es heads links ends → link ≡ top (leaves es (get_or ring j 0)) (g - 1)
    unfolding leaves
    link_is es c = c.linked (g - 1) (inside es c) ∙ ap (λ (z : ℕ). top (leaves es z) (g - 1)) (eqb-true _ _ ((walk.all es c).here more))

    pub walk_less : get_or links (g - 1) 0 < g
    walk_less =
        let es : List Edge = walk.room.walkable.edges in
        omega (arith, link_is es walk.room.walkable.chained, top_le (leaves es (get_or ring j 0)) (g - 1))

    reached : (es : List Edge) → Chained es heads links ends → (v : ℕ) → reaches (drop link es) (get_or ring j 0) v ≡ (eqb end v || reaches (drop g es) (get_or ring j 0) v)
    reached es c v =
        let l = inside es c in
        let u : ℕ = get_or ring j 0 in
        let s : suc (g - 1) ≡ g = omega arith in
        ap (λ (z : ℕ). reaches (drop z es) u v) (link_is es c)
        ∙ reaches_top es u v (g - 1) (omega arith)
        ∙ met_here es u v (g - 1) l ((walk.all es c).here more)
        ∙ ap₂ (λ (y z : ℕ). eqb y v || reaches (drop z es) u v) (sym (end_is es c)) s

    -- on to the link, with the rows that the step leaves
    onward : {rows' : List ℕ} → length rows' ≡ limits.longest
        → ((es : List Edge) → Chained es heads links ends → (p : ℕ → ℕ → Bool) → Rows (length ring) (with_from (drop g es) ring j p) rows
        → Rows (length ring) (with_from (drop link es) ring j p) rows')
        → Walking ring heads links ends stamps base j rows₀ rows' link
    onward long step =
        record {
          room = walk.room;
          from = walk.from;
          rows_long = long;
          all =
              λ es c.
              record {
                within = omega (arith, (walk.all es c).within, walk_less);
                here = λ s. top_says (leaves es (get_or ring j 0)) (g - 1) (link - 1) (sym (link_is es c) ∙ omega arith);
                told = λ p t. step es c p ((walk.all es c).told p t);
              };
        }

    pub walk_passes : {rows' : List ℕ} → rows' ≡ rows → get_or stamps (get_or ends (g - 1) 0) 0 < base
        → Walking ring heads links ends stamps base j rows₀ rows' (get_or links (g - 1) 0)
    walk_passes e l =
        onward (ap length e ∙ walk.rows_long)
        (λ es c p t.
        rows_same (rw e t)
        (λ a b _ _.
        with_same ring j (drop g es) (drop link es) (leads_same walk.room.stamped j (drop g es) (drop link es) end walk_inside.2 (reached es c) l) p a b))

    -- row i with k set too
    abbrev set_too : List ℕ → ℕ → ℕ → List ℕ
    set_too r i k = set r i (bit_or (get_or r i 0) (1 * 2 ^ k % 2 ^ limits.longest))

    pub walk_bars : {rows' : List ℕ} → rows' ≡ set_too (set_too rows j place) place j → base ≤ get_or stamps (get_or ends (g - 1) 0) 0
        → Walking ring heads links ends stamps base j rows₀ rows' (get_or links (g - 1) 0)
    walk_bars e l =
        let n : length ring ≤ limits.longest = walk.room.short in
        onward (ap length e ∙ length-set (set_too rows j place) place _ ∙ length-set rows j _ ∙ walk.rows_long)
        (λ es c p t.
        rows_same (rw e (rows_one n place (walk_place l) (rows_one n j walk.from t place) j))
        (λ a b _ _.
        with_more ring j (drop g es) (drop link es) place (leads_more walk.room.stamped j (drop g es) (drop link es) end walk_inside.2 (reached es c) l) p a b))

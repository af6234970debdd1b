-- The loops of the whole surface have exactly its open half-edges, each once: the cycles of the leaders, taken in a row, hold every open
-- half-edge, since each has a leader, and none twice, since no two leaders' cycles share an edge.
use mathlib.Core.Path.{◌≡◌, refl, sym, ap, ◌∙◌}
use mathlib.Core.Bool.{Bool, true, false, cond}
use mathlib.Core.List.{List, [], ◌++◌, append-nil}
use mathlib.Core.Logic.{⊎_elim}
use Prim.Native.Nat.{ℕ, zero, suc, ◌<◌, ◌≤◌}
use native.Mathlib.Nat.{not-suc-le-zero, le_refl, le_of_suc-le-suc, eq-or-lt_of_le}
use native.Mathlib.Omega.{arith}
use lib.ListN.{length, get_or}
use Rattle.surface_rules.specs.Edges.{Sound, is_open}
use Rattle.loop_rules.specs.Loops.{cycle, leads, loops_of, loops_below, loops}
use Rattle.loop_rules.proofs.Laws.Distinct.{Distinct, Bounded, distinct_append, distinct_none, distinct_bound}
use Rattle.loop_rules.proofs.Laws.Cycles.{cycle_some, cycle_begins, cycle_distinct}
use Rattle.loop_rules.proofs.Laws.Leaders.{Led, leads_open, leads_least, leader_once, leader_of}
use Rattle.loop_rules.proofs.Laws.Counts.{Among}
use Rattle.loop_rules.proofs.Laws.Places.{among_front, among_back}
use Rattle.loop_rules.proofs.Laws.Members.{among_either}
use Rattle.loop_rules.proofs.Laws.Walks.{Walks, walks_none, walks_append}
use Rattle.loop_rules.proofs.Laws.Rounds.{cycle_walks, cycle_among}

-- the edges of the cycles whose leader is below k, cycle after cycle: those that the loops below k are made of
unfoldable pub edges_below : List ℕ → ℕ → List ℕ
edges_below corners zero = []
edges_below corners (suc k) = let before = edges_below corners k in before ++ cond (leads corners k) (cycle corners k) []

-- k adds its cycle where it leads one, and nothing otherwise
pub edges_leader : (corners : List ℕ) (k : ℕ) → leads corners k ≡ true → edges_below corners (suc k) ≡ edges_below corners k ++ cycle corners k
unfolding edges_below
edges_leader corners k t = ap (λ (b : Bool). edges_below corners k ++ cond b (cycle corners k) []) t

pub edges_other : (corners : List ℕ) (k : ℕ) → leads corners k ≡ false → edges_below corners (suc k) ≡ edges_below corners k
unfolding edges_below
edges_other corners k t = ap (λ (b : Bool). edges_below corners k ++ cond b (cycle corners k) []) t ∙ append-nil (edges_below corners k)

-- and its loops
pub loops_leader : (corners : List ℕ) (k : ℕ) → leads corners k ≡ true → loops_below corners (suc k) ≡ loops_below corners k ++ loops_of corners k
unfolding loops_below
loops_leader corners k t = ap (λ (b : Bool). loops_below corners k ++ cond b (loops_of corners k) []) t

pub loops_other : (corners : List ℕ) (k : ℕ) → leads corners k ≡ false → loops_below corners (suc k) ≡ loops_below corners k
unfolding loops_below
loops_other corners k t = ap (λ (b : Bool). loops_below corners k ++ cond b (loops_of corners k) []) t ∙ append-nil (loops_below corners k)

-- an edge whose leader is below k is there
pub led_edge : (corners : List ℕ) (k e g : ℕ) → g < k → Led corners e g → Among e (edges_below corners k)
unfolding edges_below
led_edge corners zero e g l w = absurd (not-suc-le-zero l)
led_edge corners (suc k) e g l w =
    ⊎_elim
    (λ (q : g ≡ k).
    let t : leads corners k ≡ true = rw q at w.leading in
    let m : Among e (cycle corners g) = record { place = w.place; below = w.within; is = w.there } in
    rw (edges_leader corners k t) (among_back e (edges_below corners k) (cycle corners k) (rw q at m)))
    (λ (q : g < k). among_front e (edges_below corners k) _ (led_edge corners k e g q w))
    (eq-or-lt_of_le (le_of_suc-le-suc l))

module _ (corners : List ℕ) (sound : Sound corners) where
  -- and no other edge is
  pub edge_led : (k : ℕ) → k ≤ length corners → (e : ℕ) → Among e (edges_below corners k) → (g : ℕ) × (g < k) × Led corners e g
  unfolding edges_below
  edge_led zero l e m = absurd (not-suc-le-zero m.below)
  edge_led (suc k) l e m = go (edge_led k (omega arith) e) (leads corners k) refl m
    where
      go : (Among e (edges_below corners k) → (g : ℕ) × (g < k) × Led corners e g) → (t : Bool) → leads corners k ≡ t → Among e (edges_below corners k ++ cond t (cycle corners k) []) → (g : ℕ) × (g < suc k) × Led corners e g
      go r true d m =
          among_either e (edges_below corners k) (cycle corners k) _ (λ w. let s = r w in (s.0, omega (arith, s.1), s.2))
          (λ w. (k, le_refl (suc k), record { below = l; leading = d; place = w.place; within = w.below; there = w.is }))
          m
      go r false d m = among_either e (edges_below corners k) [] _ (λ w. let s = r w in (s.0, omega (arith, s.1), s.2)) (λ w. absurd (not-suc-le-zero w.below)) m

  -- so an edge of a leader's cycle is in no cycle before it
  pub cycle_new : (k : ℕ) → k < length corners → leads corners k ≡ true → (e : ℕ) → Among e (cycle corners k) → Among e (edges_below corners k) → ⊥
  cycle_new k l t e m a =
      let w = edge_led k (omega arith) e a in
      let s : w.0 ≡ k = leader_once corners sound w.0 k w.2.below l w.2.leading t w.2.place m.place w.2.within m.below (w.2.there ∙ sym m.is) in
      omega (arith, w.1)

  -- no edge is there twice
  pub edges_distinct : (k : ℕ) → k ≤ length corners → Distinct (edges_below corners k)
  unfolding edges_below
  edges_distinct zero l = distinct_none
  edges_distinct (suc k) l = go (edges_distinct k (omega arith)) (leads corners k) refl
    where
      go : Distinct (edges_below corners k) → (t : Bool) → leads corners k ≡ t → Distinct (edges_below corners k ++ cond t (cycle corners k) [])
      go r true d =
          distinct_append (edges_below corners k) (cycle corners k) r (cycle_distinct corners sound k l (leads_open corners k d))
          (λ i j a b q. cycle_new k l d (get_or (edges_below corners k) i 0) (record { place = j; below = b; is = sym q }) (record { place = i; below = a; is = refl }))
      go r false d = rw append-nil r

  -- the loops below k are those of the walks over these edges
  pub below_walks : (k : ℕ) → k ≤ length corners → Walks corners (loops_below corners k) (edges_below corners k)
  unfolding loops_below edges_below
  below_walks zero l = walks_none corners
  below_walks (suc k) l = go (below_walks k (omega arith)) (leads corners k) refl
    where
      go : Walks corners (loops_below corners k) (edges_below corners k) → (t : Bool) → leads corners k ≡ t → Walks corners (loops_below corners k ++ cond t (loops_of corners k) []) (edges_below corners k ++ cond t (cycle corners k) [])
      go r true d = walks_append corners (loops_below corners k) (edges_below corners k) (loops_of corners k) (cycle corners k) r (cycle_walks corners sound k l (leads_open corners k d))
      go r false d = walks_append corners (loops_below corners k) (edges_below corners k) [] [] r (walks_none corners)

  -- every edge there is an open half-edge of the surface
  pub edge_open : (k : ℕ) → k ≤ length corners → (e : ℕ) → Among e (edges_below corners k) → (e < length corners) × (is_open corners e ≡ true)
  edge_open k l e m =
      let w = (edge_led k l e m).2 in
      cycle_among corners sound _ w.below (leads_open corners _ w.leading) e (record { place = w.place; below = w.within; is = w.there })

  -- so they are no more than there are half-edges
  pub edges_few : (k : ℕ) → k ≤ length corners → length (edges_below corners k) ≤ length corners
  edges_few k l =
      distinct_bound (length corners) (edges_below corners k) (edges_distinct k l)
      (unfold Bounded in λ i m. (edge_open k l (get_or (edges_below corners k) i 0) (record { place = i; below = m; is = refl })).0)

  -- ---- who leads

  -- a leader, too, is in no cycle before its own
  pub leader_new : (h : ℕ) → h < length corners → leads corners h ≡ true → Among h (edges_below corners h) → ⊥
  leader_new h l t = let o = leads_open corners h t in cycle_new h l t h (record { place = 0; below = cycle_some corners sound h l o; is = cycle_begins corners sound h l o })

  -- and an open edge that is in none of them leads
  pub new_leads : (h : ℕ) → h < length corners → is_open corners h ≡ true → (Among h (edges_below corners h) → ⊥) → leads corners h ≡ true
  new_leads h l o new =
      let w = leader_of corners sound h l o in
      let g : ℕ = w.0 in
      let m : g ≤ h = rw w.1.there at (leads_least corners g w.1.leading w.1.place w.1.within) in
      ⊎_elim (λ (q : g ≡ h). rw q at w.1.leading) (λ (q : g < h). absurd (new (led_edge corners h h g q w.1))) (eq-or-lt_of_le m)

  -- ---- the whole surface

  -- its loops are those of the walks over the edges of all cycles, which are different
  pub surface_walks : Walks corners (loops corners) (edges_below corners (length corners))
  unfolding loops
  surface_walks = below_walks (length corners) (le_refl (length corners))

  pub surface_distinct : Distinct (edges_below corners (length corners))
  surface_distinct = edges_distinct (length corners) (le_refl (length corners))

  -- every edge there is an open half-edge of the surface, and every open half-edge is there
  pub surface_open : (e : ℕ) → Among e (edges_below corners (length corners)) → (e < length corners) × (is_open corners e ≡ true)
  surface_open = edge_open (length corners) (le_refl (length corners))

  pub open_surface : (e : ℕ) → e < length corners → is_open corners e ≡ true → Among e (edges_below corners (length corners))
  open_surface e l o = let w = leader_of corners sound e l o in led_edge corners (length corners) e w.0 w.1.below w.1

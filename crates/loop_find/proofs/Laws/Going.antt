-- The walk around one cycle, edge by edge: an edge that was not walked is the cycle's next one, and one that was is the first again.
use Rattle.std.specs.Prelude.{Some}
use mathlib.Core.Path.{◌≡◌, refl, sym, ap, ◌∙◌, subst}
use mathlib.Core.Bool.{true, true≢false}
use mathlib.Core.List.{List, [], ◌∷◌, ◌++◌, append-nil, append_assoc}
use mathlib.Core.Logic.{⊎_elim}
use Prim.Native.Nat.{ℕ, suc, ◌+◌, ◌-◌, ◌/◌, ◌<◌, ◌≤◌}
use native.Mathlib.Nat.{eq-or-lt_of_le}
use native.Mathlib.Omega.{arith}
use lib.ListN.{length, get_or, take, set, length-set}
use lib.Seq.{get_or-take, take_all, length-take-le}
use Rattle.surface_rules.specs.Edges.{Sound, following, start_of, end_of, is_open}
use Rattle.surface_rules.proofs.Laws.Edges.{below_after}
use Rattle.surface_twins.specs.Workings.Turns.{open_mark}
use Rattle.loop_rules.specs.Next.{next}
use Rattle.loop_rules.specs.Loops.{Split, starts_at, grow, cycle, loops_of, loops_below}
use Rattle.loop_rules.proofs.Laws.Distinct.{Distinct}
use Rattle.loop_rules.proofs.Laws.Counts.{Among}
use Rattle.loop_rules.proofs.Laws.Places.{among_back}
use Rattle.loop_rules.proofs.Laws.Kept.{total}
use Rattle.loop_rules.proofs.Laws.Cycles.{ahead, ahead_below, ahead_open, cycle_some, cycle_at, cycle_begins, cycle_closes, cycle_distinct}
use Rattle.loop_rules.proofs.Laws.Leaders.{leads_open}
use Rattle.loop_rules.proofs.Laws.Members.{among_either}
use Rattle.loop_rules.proofs.Laws.Surfaces.{edges_below, edges_leader, loops_leader, cycle_new}
use Rattle.loop_rules.proofs.Laws.Middle.{rings_total}
use Rattle.loop_cut.specs.declared.Listed.{Listed}
use Rattle.loop_cut.specs.Listing.{rings_of}
use Rattle.loop_cut.specs.Workings.Growing.{Path, Ledger, ListsIn, Stands, GrowRoom, Grew}
use Rattle.loop_leaders.specs.Workings.Leading.{walked_mark, Landing, Landed}
use Rattle.loop_find.specs.Workings.Walking.{Turned, Walk, CycleRoom, CycleListed}
use Rattle.loop_find.proofs.Laws.Marks.{among_holds, OpenAt, open_at, walked_at, turned_same, turned_more, landing, landed_next}
use Rattle.loop_find.proofs.Laws.After.{after, after_none, take_more, after_more, after_total, after_fits, after_room, after_free, after_all}

-- all that is lent is as long as it was
pub record Same (w₀ w : Walk) : Type 0 where
  pub turns_same : length w.turns ≡ length w₀.turns
  pub path_same : length w.path ≡ length w₀.path
  pub places_same : length w.places ≡ length w₀.places
  pub rings_same : length w.ledger.rings ≡ length w₀.ledger.rings
  pub lengths_same : length w.ledger.lengths ≡ length w₀.ledger.lengths
  pub firsts_same : length w.ledger.firsts ≡ length w₀.ledger.firsts

pub all_same : {w : Walk} → Same w w
all_same = record { turns_same = refl; path_same = refl; places_same = refl; rings_same = refl; lengths_same = refl; firsts_same = refl }

pub same_on : {w₀ w w' : Walk} → Same w₀ w → Same w w' → Same w₀ w'
same_on a b = record {
  turns_same = b.turns_same ∙ a.turns_same;
  path_same = b.path_same ∙ a.path_same;
  places_same = b.places_same ∙ a.places_same;
  rings_same = b.rings_same ∙ a.rings_same;
  lengths_same = b.lengths_same ∙ a.lengths_same;
  firsts_same = b.firsts_same ∙ a.firsts_same;
}

-- k edges of the cycle of h were walked, and e is the next
pub record Going (corners : List ℕ) (h : ℕ) (w₀ w : Walk) (at : Listed) (e : ℕ) : Type 0 where
  pub gone : ℕ
  pub short : gone ≤ length (cycle corners h)
  pub here : e ≡ ahead corners gone h
  pub turned : Turned corners (edges_below corners h ++ take gone (cycle corners h)) w.turns
  pub kept : Path corners w.path at.path w.places
  pub stands : Stands corners (after corners h gone) w₀.ledger w.path at w.ledger
  pub same : Same w₀ w

module _ {corners : List ℕ} {h : ℕ} {w₀ : Walk} {from : Listed} (pre : CycleRoom corners h w₀ from) where
  sound : Sound corners
  sound = pre.room.sound

  opens : is_open corners h ≡ true
  opens = leads_open corners h pre.leading

  -- the edges before the cycle, and k of its own
  abbrev edges_to : ℕ → List ℕ
  edges_to k = edges_below corners h ++ take k (cycle corners h)

  pub going_begins : Going corners h w₀ w₀ from h
  unfolding ahead
  going_begins =
      let z = pre.no_path in
      record {
        gone = 0;
        short = omega arith;
        here = refl;
        turned = turned_same corners _ _ w₀.turns (sym (append-nil (edges_below corners h))) pre.turned;
        kept = record { long = omega arith; edges = λ i l. absurd (omega arith); placed = λ i l. absurd (omega arith) };
        stands = rw (after_none corners h) (record { depth = z; along = ap (λ (d : ℕ). take d w₀.path) z; lists = pre.lists });
        same = all_same;
      }

  module _ {w : Walk} {at : Listed} {e : ℕ} (go : Going corners h w₀ w at e) where
    -- what the walk has made so far
    abbrev now : Split
    now = after corners h go.gone

    going_edge : e < length corners
    going_edge = rw go.here (ahead_below corners sound h pre.edge go.gone)

    turns_long : length corners ≤ length w.turns
    turns_long = rw go.same.turns_same pre.room.turns_long

    pub going_index : e < length w.turns
    going_index = omega (arith, going_edge, turns_long)

    edge_open : is_open corners e ≡ true
    edge_open = rw go.here (ahead_open corners sound h pre.edge opens go.gone)

    -- how far the listing is
    sum : at.vertices + at.path ≡ total now.listed + length now.path
    unfolding rings_of
    sum =
        let a = go.stands.lists.vertices in
        let b = go.stands.depth in
        omega (arith, rings_total corners now.listed)

    total_now : total now.listed + length now.path ≡ length (edges_below corners h) + go.gone
    total_now = after_total corners sound h pre.edge pre.leading go.gone go.short

    module _ (m : open_mark ≤ get_or w.turns e 0) where
      at_open : OpenAt corners (edges_to go.gone) w.turns e
      at_open = open_at corners sound pre.room.few (edges_to go.gone) w.turns go.turned e going_edge m

      -- after the whole cycle e would be h, which was walked
      more : go.gone < length (cycle corners h)
      unfolding ahead
      more = ⊎_elim (λ q. absurd (again q)) (λ l. l) (eq-or-lt_of_le go.short)
        where
          again : go.gone ≡ length (cycle corners h) → ⊥
          again q =
              let n : 0 < length (cycle corners h) = cycle_some corners sound h pre.edge opens in
              let s : go.gone ≡ suc (length (cycle corners h) - 1) = omega arith in
              let z : h ≡ e = sym (go.here ∙ ap (λ (k : ℕ). ahead corners k h) s ∙ cycle_closes corners sound h pre.edge opens) in
              let a : Among e (take go.gone (cycle corners h)) = record {
                place = 0;
                below = omega (arith, length-take-le go.gone (cycle corners h) go.short);
                is = get_or-take go.gone (cycle corners h) 0 0 (omega arith) ∙ cycle_begins corners sound h pre.edge opens ∙ z;
              } in
              true≢false (sym (among_holds e _ (among_back e (edges_below corners h) (take go.gone (cycle corners h)) a)) ∙ at_open.new)

      -- what the walk will have made with e
      abbrev next_one : Split
      next_one = after corners h (suc go.gone)

      total_next : total next_one.listed + length next_one.path ≡ length (edges_below corners h) + suc go.gone
      total_next = after_total corners sound h pre.edge pre.leading (suc go.gone) more

      fits_next : total next_one.listed + length next_one.path ≤ length corners
      fits_next = after_fits corners sound h pre.edge pre.leading (suc go.gone) more

      module _ {f : ℕ} (fe : f ≡ get_or w.turns e 0 - open_mark) where
        going_after : f ≡ following e
        going_after = let s = at_open.says in omega arith

        -- a loop that e closes has its entry
        entry_room : {j : ℕ} → starts_at corners (take at.path w.path ++ (e ∷ [])) (end_of corners e) ≡ Some j → at.loops < length corners / 3
        entry_room {j} q =
            let c : at.loops ≡ length now.listed = go.stands.lists.count in
            omega (
              arith,
              after_room corners sound h pre.edge pre.leading go.gone more j
                  (subst (λ (x : ℕ). starts_at corners (now.path ++ (x ∷ [])) (end_of corners x) ≡ Some j) go.here
                  (subst (λ (p : List ℕ). starts_at corners (p ++ (e ∷ [])) (end_of corners e) ≡ Some j) go.stands.along q)),
            )

        pub going_room : GrowRoom corners e f w.path w.places w.ledger at
        going_room =
            let d : at.path ≡ length now.path = go.stands.depth in
            let fit : at.vertices + at.path + 1 ≤ length corners = omega (arith, sum, total_now, total_next, fits_next) in
            let s = go.same in
            record {
              few = pre.room.few;
              edge = going_edge;
              after = going_after;
              after_edge = rw going_after (below_after corners sound e going_edge);
              named = λ i l. rw s.places_same (pre.room.named i l);
              kept = go.kept;
              new =
                  λ i l q.
                  after_free corners sound h pre.edge pre.leading go.gone more i (omega arith)
                  (ap (λ (p : List ℕ). start_of corners (get_or p i 0)) (sym go.stands.along) ∙ ap (start_of corners) (get_or-take at.path w.path i 0 l) ∙ q ∙ ap (start_of corners) go.here);
              deep = omega arith;
              path_room = omega (arith, s.path_same, pre.room.path_long);
              rings_room = omega (arith, s.rings_same, pre.room.rings_long);
              lengths_room = λ j q. omega (arith, entry_room q, s.lengths_same, pre.room.lengths_long);
              firsts_room = λ j q. omega (arith, entry_room q, s.firsts_same, pre.room.firsts_long);
            }

        -- the table with e walked
        abbrev turns' : List ℕ
        turns' = set w.turns e walked_mark

        marked : Turned corners (edges_to (suc go.gone)) turns'
        marked =
            turned_same corners _ _ turns'
            (append_assoc (edges_below corners h) (take go.gone (cycle corners h)) (e ∷ [])
            ∙ ap (λ (z : List ℕ). edges_below corners h ++ z)
            (ap (λ (x : ℕ). take go.gone (cycle corners h) ++ (x ∷ [])) go.here ∙ sym (take_more corners sound h pre.edge pre.leading go.gone more)))
            (turned_more corners sound pre.room.few (edges_to go.gone) w.turns go.turned e going_index edge_open)

        marked_long : length corners ≤ length turns'
        marked_long = rw length-set turns_long

        pub going_landing : Landing turns' f
        going_landing = rw going_after (landing corners sound pre.room.few _ turns' marked marked_long e going_edge edge_open)

        module _ {path' places' : List ℕ} {l' : Ledger} {r : Listed} (grew : Grew corners e w.path at w.ledger path' places' r l') where
          stood : Stands corners next_one w₀.ledger path' r l'
          stood =
              subst (λ (s : Split). Stands corners s w₀.ledger path' r l')
              (ap (grow corners now) go.here ∙ sym (after_more corners sound h pre.edge pre.leading go.gone more))
              (grew.stands now w₀.ledger go.stands)

          abbrev w' : Walk
          w' = record { turns = turns'; path = path'; places = places'; ledger = l' }

          pub going_on : {e' : ℕ} → Landed turns' f e' → length path' ≡ length w.path → length places' ≡ length w.places → length l'.rings ≡ length w.ledger.rings
              → length l'.lengths ≡ length w.ledger.lengths → length l'.firsts ≡ length w.ledger.firsts → Going corners h w₀ w' r e'
          unfolding ahead
          going_on {e'} l a b c d g =
              record {
                gone = suc go.gone;
                short = more;
                here =
                    landed_next corners sound pre.room.few _ turns' marked marked_long e going_edge edge_open e' (subst (λ (z : ℕ). Landed turns' z e') going_after l)
                    ∙ ap (next corners) go.here;
                turned = marked;
                kept = grew.kept;
                stands = stood;
                same = same_on go.same (record { turns_same = length-set w.turns e walked_mark; path_same = a; places_same = b; rings_same = c; lengths_same = d; firsts_same = g });
              }

          pub going_less : length corners - (r.vertices + r.path) < length corners - (at.vertices + at.path)
          unfolding rings_of
          going_less =
              let v : r.vertices ≡ length (rings_of corners next_one.listed) = stood.lists.vertices in
              let d : r.path ≡ length next_one.path = stood.depth in
              omega (arith, sum, total_now, total_next, fits_next, rings_total corners next_one.listed)

    -- an edge that was walked is not one of the smaller cycles, nor a later one of this
    done : get_or w.turns e 0 < open_mark → go.gone ≡ length (cycle corners h)
    unfolding Distinct
    done m = ⊎_elim (λ q. q) (λ l. absurd (early l)) (eq-or-lt_of_le go.short)
      where
        early : go.gone < length (cycle corners h) → ⊥
        early l =
            let q : get_or (cycle corners h) go.gone 0 ≡ e = cycle_at corners sound h pre.edge opens go.gone l ∙ sym go.here in
            among_either e (edges_below corners h) (take go.gone (cycle corners h)) ⊥
            (cycle_new corners sound h pre.edge pre.leading e (record { place = go.gone; below = l; is = q }))
            (λ a.
            let b : a.place < length (take go.gone (cycle corners h)) = a.below in
            let n : length (take go.gone (cycle corners h)) ≡ go.gone = length-take-le go.gone (cycle corners h) go.short in
            let s : get_or (cycle corners h) a.place 0 ≡ get_or (cycle corners h) go.gone 0 = sym (get_or-take go.gone (cycle corners h) a.place 0 (omega arith)) ∙ a.is ∙ sym q in
            let z : a.place ≡ go.gone = cycle_distinct corners sound h pre.edge opens a.place go.gone (omega arith) l s in
            omega arith)
            (walked_at corners sound pre.room.few _ w.turns go.turned e going_edge m edge_open)

    pub going_ends : get_or w.turns e 0 < open_mark → CycleListed corners h w₀.ledger w.turns at w.ledger
    going_ends m =
        let q : go.gone ≡ length (cycle corners h) = done m in
        let s : now ≡ record { path = []; listed = loops_below corners h ++ loops_of corners h } = after_all corners sound h pre.edge pre.leading go.gone q in
        record {
          turned =
              turned_same corners _ _ w.turns
              (ap (λ (z : List ℕ). edges_below corners h ++ z) (take_all go.gone (cycle corners h) (omega arith)) ∙ sym (edges_leader corners h pre.leading))
              go.turned;
          no_path = go.stands.depth ∙ ap (λ (z : Split). length z.path) s;
          lists = subst (λ (ls : List (List ℕ)). ListsIn corners ls w₀.ledger at w.ledger) (ap (λ (z : Split). z.listed) s ∙ sym (loops_leader corners h pre.leading)) go.stands.lists;
        }

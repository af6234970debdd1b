-- All cycles, in the order of their smallest edges: an open edge that was not walked leads the next cycle, and what is quiet leads none.
use mathlib.Core.Path.{◌≡◌, refl, sym, ap, ◌∙◌, subst}
use mathlib.Core.Bool.{true}
use mathlib.Core.List.{List, ◌++◌}
use Prim.Native.Nat.{ℕ, suc, ◌+◌, ◌-◌, ◌<◌, ◌≤◌}
use native.Mathlib.Numerals.{add-one}
use native.Mathlib.Omega.{arith}
use lib.ListN.{length, get_or}
use Rattle.surface_twins.specs.Workings.Turns.{open_mark}
use Rattle.loop_rules.specs.Loops.{leads, loops, loops_of, loops_below}
use Rattle.loop_rules.proofs.Laws.Surfaces.{edges_below, loops_leader}
use Rattle.loop_cut.specs.declared.Listed.{Listed}
use Rattle.loop_cut.specs.Workings.Growing.{ListsIn}
use Rattle.loop_cut.proofs.Laws.Cuts.{lists_none, lists_self, lists_on}
use Rattle.loop_leaders.specs.Workings.Leading.{Quiet}
use Rattle.loop_find.specs.Workings.Asked.{Ready, Lent}
use Rattle.loop_find.specs.Workings.Walking.{Turned, Walk, walk, CycleRoom, CycleListed}
use Rattle.loop_find.proofs.Laws.Marks.{turned_begins}
use Rattle.loop_find.proofs.Laws.Going.{Same, all_same, same_on}
use Rattle.loop_find.proofs.Laws.Below.{marked_leads, quiet_same}

-- the cycles whose smallest edges are below h were walked, and their loops are listed
pub record Through (corners : List ℕ) (w₀ w : Walk) (at : Listed) (h : ℕ) : Type 0 where
  pub within : h ≤ length corners
  pub turned : Turned corners (edges_below corners h) w.turns
  pub no_path : at.path ≡ 0
  pub lists : ListsIn corners (loops_below corners h) w₀.ledger at w.ledger
  pub same : Same w₀ w

module _ {corners turns₀ rings₀ lengths₀ firsts₀ path₀ places₀ : List ℕ} (ready : Ready corners turns₀ rings₀ lengths₀ firsts₀ × Lent corners path₀ places₀) where
  abbrev w₀ : Walk
  w₀ = walk turns₀ path₀ places₀ rings₀ lengths₀ firsts₀

  pub through_begins : Through corners w₀ w₀ (record { loops = 0; vertices = 0; path = 0 }) 0
  unfolding edges_below loops_below
  through_begins = record { within = omega arith; turned = turned_begins corners turns₀ ready.0.table; no_path = refl; lists = lists_none; same = all_same }

  module _ {w : Walk} {at : Listed} {h : ℕ} (th : Through corners w₀ w at h) where
    pub through_ends : length corners ≤ h → ListsIn corners (loops corners) w₀.ledger at w.ledger
    unfolding loops
    through_ends l = let b = th.within in let q : length corners ≡ h = omega arith in rw q th.lists

    pub through_skips : {r : ℕ} → (h < r) × (r ≤ length corners) × Quiet w.turns h r → Through corners w₀ w at r
    through_skips {r} q =
        let a : h < r = q.0 in
        let b : r ≤ length corners = q.1 in
        let z : h + (r - h) ≡ r = omega arith in
        let s = quiet_same corners ready.0.sound ready.0.few w.turns h (r - h) (omega arith) th.turned (subst (Quiet w.turns h) (sym z) q.2) in
        record {
          within = b;
          turned = subst (λ (es : List ℕ). Turned corners es w.turns) (sym s.0 ∙ ap (edges_below corners) z) th.turned;
          no_path = th.no_path;
          lists = subst (λ (ls : List (List ℕ)). ListsIn corners ls w₀.ledger at w.ledger) (sym s.1 ∙ ap (loops_below corners) z) th.lists;
          same = th.same;
        }

    module _ (more : h < length corners) (m : open_mark ≤ get_or w.turns h 0) where
      leading : leads corners h ≡ true
      leading = marked_leads corners ready.0.sound ready.0.few w.turns h more th.turned m

      pub through_room : CycleRoom corners h w at
      through_room =
          let s = th.same in
          record {
            room =
                record {
                  sound = ready.0.sound;
                  few = ready.0.few;
                  named = λ i l. rw s.places_same (ready.1.named i l);
                  turns_long = rw s.turns_same ready.0.table_long;
                  path_long = rw s.path_same ready.1.path_long;
                  rings_long = rw s.rings_same ready.0.rings_long;
                  lengths_long = rw s.lengths_same ready.0.lengths_long;
                  firsts_long = rw s.firsts_same ready.0.firsts_long;
                };
            edge = more;
            leading = leading;
            turned = th.turned;
            no_path = th.no_path;
            lists = lists_self th.lists;
          }

      pub through_on : {w' : Walk} {r : Listed} → CycleListed corners h w.ledger w'.turns r w'.ledger → Same w w' → Through corners w₀ w' r (h + 1)
      through_on {w'} {r} c s =
          let e : loops_below corners (suc h) ≡ loops_below corners h ++ loops_of corners h = loops_leader corners h leading in
          record {
            within = omega arith;
            turned = rw add-one c.turned;
            no_path = c.no_path;
            lists = rw (add-one, e) (lists_on th.lists (loops_of corners h) (subst (λ (ls : List (List ℕ)). ListsIn corners ls w.ledger r w'.ledger) e c.lists));
            same = same_on th.same s;
          }

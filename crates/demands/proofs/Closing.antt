-- The demand of the edges is kept by every filling of the loops.
use mathlib.Core.Path.{refl}
use mathlib.Core.Logic.{inl, inr, ⊎_elim}
use mathlib.Core.List.{List, [], map}
use Prim.Native.Nat.{ℕ, ◌<◌}
use lib.ListN.{length, get_or}
use Rattle.surface_rules.specs.Edges.{Sound}
use Rattle.loop_rules.specs.Loops.{loops, ring}
use Rattle.loop_rules.proofs.Laws.Places.{Place}
use Rattle.fill_edges.specs.Filling.{Filled}
use Rattle.fill_edges.proofs.Laws.Rings.{EdgeAgainst}
use Rattle.fill_edges.proofs.Theorems as theorems
use Rattle.demands.specs.Loops.{loop_at, StandsAt}
use Rattle.demands.specs.Closing.{Against, ClosingDemand}
use Rattle.demands.proofs.Kept.{place_of_lem}

stands_of : (corners : List ℕ) (e : ℕ) (w : Place (loops corners) e) → StandsAt corners e w.loop w.at
stands_of corners e w = record { loop_there = w.loop_below; place_there = w.at_below; edge_there = w.is }

against_of : (corners : List ℕ) (l u v : ℕ) → l < length (loops corners) → EdgeAgainst corners (loop_at corners l) u v → Against corners l u v
against_of corners l u v k a =
    (get_or (loop_at corners l) a.at 0, a.at, record { loop_there = k; place_there = a.at_below; edge_there = refl }, a.starts, a.ends)

pub closing_demand : (corners : List ℕ) (patches : List (List ℕ)) → Sound corners → Filled corners [] (map (ring corners) (loops corners)) patches → ClosingDemand corners patches
closing_demand corners patches sound filled =
    record {
      none_twice = theorems.none_twice corners patches sound filled;
      only_those = λ h l o. let t = theorems.only_those corners patches sound filled h l o in (t.0.loop, t.0.at, stands_of corners h t.0, t.1);
      all_those = λ h l i s. theorems.all_those corners patches sound filled h (place_of_lem corners h l i s);
      each_edge = λ l u v e. ⊎_elim (λ a. inl (against_of corners l u v a.0 a.1)) inr (theorems.each_edge corners patches sound filled l u v e);
    }

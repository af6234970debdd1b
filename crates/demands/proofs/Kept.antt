-- The demands are kept.
use mathlib.Core.Path.{◌≡◌, sym, ◌∙◌}
use mathlib.Core.List.{List, map}
use Prim.Native.Nat.{ℕ}
use lib.ListN.{length, length-map}
use Rattle.surface_rules.specs.Edges.{Sound, start_of}
use Rattle.surface_rules.proofs.Laws.Lists.{map_at}
use Rattle.loop_rules.specs.Loops.{loops}
use Rattle.loop_rules.proofs.Laws.Distinct.{Distinct}
use Rattle.loop_rules.proofs.Laws.Places.{Place}
use Rattle.loop_rules.proofs.Theorems as theorems
use Rattle.demands.specs.Loops.{loop_at, StandsAt, LoopsDemand}

abbrev pub place_of_lem : (corners : List ℕ) (e l i : ℕ) → StandsAt corners e l i → Place (loops corners) e
place_of_lem corners e l i s = record { loop = l; loop_below = s.loop_there; at = i; at_below = s.place_there; is = s.edge_there }

pub loops_demand : (corners : List ℕ) → Sound corners → LoopsDemand corners
unfolding Distinct
loops_demand corners sound = record {
  in_a_loop = λ e l o. let p = (theorems.one_loop corners sound).placed e l o in (p.loop, p.at, record { loop_there = p.loop_below; place_there = p.at_below; edge_there = p.is });
  in_one_only = λ e l m i j a b. (theorems.one_loop corners sound).once e (place_of_lem corners e l i a) (place_of_lem corners e m j b);
  only_open_edges = λ e l i a. (theorems.one_loop corners sound).nothing_else e (place_of_lem corners e l i a);
  no_vertex_twice = λ l h i j a b e.
      let n : length (map (start_of corners) (loop_at corners l)) ≡ length (loop_at corners l) = length-map (loop_at corners l) (start_of corners) in
      theorems.no_vertex_twice corners sound l h i j (rw n a) (rw n b) (map_at (start_of corners) 0 0 (loop_at corners l) i a ∙ e ∙ sym (map_at (start_of corners) 0 0 (loop_at corners l) j b));
  three_or_more = theorems.three_or_more corners sound;
  next_follows = λ h l o. let f = theorems.next_total corners sound h l o in (f.opens, f.starts);
  next_one_to_one = theorems.next_one_to_one corners sound;
  loops_few = theorems.loops_few corners sound;
}

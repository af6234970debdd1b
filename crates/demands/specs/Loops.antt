-- Demand 2, of the loops: "Each open edge lies in one loop; no loop meets a vertex twice."
use Rattle.std.specs.Prelude.{◌≡◌, true, List, [], ℕ, ◌*◌, ◌<◌, ◌≤◌, length, get_or}
use Rattle.surface_rules.specs.Edges.{is_open, start_of, end_of}
use Rattle.loop_rules.specs.Next.{next}
use Rattle.loop_rules.specs.Loops.{loops}

-- loop l of the surface, by its half-edges
abbrev pub loop_at : List ℕ → ℕ → List ℕ
loop_at corners l = get_or (loops corners) l []

-- half-edge e stands at place i of loop l
pub record StandsAt (corners : List ℕ) (e l i : ℕ) : Type 0 where
  pub loop_there : l < length (loops corners)
  pub place_there : i < length (loop_at corners l)
  pub edge_there : get_or (loop_at corners l) i 0 ≡ e

-- what holds of every surface that the refusals 2, 5 and 6 let pass
pub record LoopsDemand (corners : List ℕ) : Type 0 where
  -- each open edge lies in a loop,
  pub in_a_loop : (e : ℕ) → e < length corners → is_open corners e ≡ true → (l : ℕ) × (i : ℕ) × StandsAt corners e l i
  -- in one only, and there once,
  pub in_one_only : (e l m i j : ℕ) → StandsAt corners e l i → StandsAt corners e m j → (l ≡ m) × (i ≡ j)
  -- and nothing else lies in a loop.
  pub only_open_edges : (e l i : ℕ) → StandsAt corners e l i → (e < length corners) × (is_open corners e ≡ true)
  -- No loop meets a vertex twice,
  pub no_vertex_twice : (l : ℕ) → l < length (loops corners) → (i j : ℕ) → i < length (loop_at corners l) → j < length (loop_at corners l)
      → start_of corners (get_or (loop_at corners l) i 0) ≡ start_of corners (get_or (loop_at corners l) j 0) → i ≡ j
  -- and each has three edges or more.
  pub three_or_more : (l : ℕ) → l < length (loops corners) → 3 ≤ length (loop_at corners l)
  -- Next leads from an open edge to one that starts where it ends, and from no two to the same.
  pub next_follows : (h : ℕ) → h < length corners → is_open corners h ≡ true → (is_open corners (next corners h) ≡ true) × (start_of corners (next corners h) ≡ end_of corners h)
  pub next_one_to_one : (g h : ℕ) → g < length corners → h < length corners → is_open corners g ≡ true → is_open corners h ≡ true → next corners g ≡ next corners h → g ≡ h
  -- There are no more loops than triangles.
  pub loops_few : 3 * length (loops corners) ≤ length corners

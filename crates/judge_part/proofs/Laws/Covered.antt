-- A set of triangles that is a cover of the ring weighs what the cover does, and its corners name points, since they are the ring's vertices.
use Prim.Native.Nat.{ℕ, ◌-◌, ◌<◌}
use mathlib.Core.Path.{◌≡◌, sym, ◌∙◌, subst}
use mathlib.Core.List.{List, map}
use lib.IntN.{ℤ}
use lib.ListN.{length, get_or}
use Rattle.surface_rules.specs.Threes.{threes}
use Rattle.cover_rules.specs.Covers.{Cover, Triangle, triangles, weight, vertex_of}
use Rattle.cover_rules.specs.Sets.{Alike, named}
use Rattle.cover_rules.proofs.Laws.Sets.{corners_of_lem}
use Rattle.cover_rules.proofs.Laws.Listed.{listed_of}
use Rattle.cover_rules.proofs.Laws.Closed.{in_named, begun, below, cover_seated}
use Rattle.cover_weight.specs.Weight.{Names}
use Rattle.cover_weight.specs.Edition.{naturals, tri_of, along}
use Rattle.cover_sum.specs.Workings.Triples.{Threes}
use Rattle.cover_sum.specs.Workings.Weighing.{set_weight, AllNamed}
use Rattle.cover_sum.proofs.Laws.Passed.{every_corner}
use Rattle.cover_sum.proofs.Laws.Weighing.{listed_weight, triangles_weight}
use Rattle.judge_seat.specs.Workings.Covering.{Covering}

pub cover_weight : (grid : List ℤ) (ring : List ℕ) (s : List Triangle) (c : Cover) → Covering ring s c
    → set_weight grid s ≡ weight naturals (tri_of (along grid ring)) 0 (length ring - 1) c
cover_weight grid ring s c h =
    listed_weight grid (map (named (vertex_of ring)) (triangles 0 (length ring - 1) c)) s h.1 ∙ triangles_weight grid ring 0 (length ring - 1) c

pub cover_named : (grid : List ℤ) (ring set : List ℕ) (c : Cover) → ((j : ℕ) → j < length ring → Names grid (get_or ring j 0))
    → Threes set → Covering ring (threes set) c → AllNamed grid set
cover_named grid ring set c names h v =
    every_corner (Names grid) set h.triangles h.threes
    (λ t g.
    let x = listed_of (map (named (vertex_of ring)) (triangles 0 (length ring - 1) c)) (threes set) v.1 t g in
    let y = in_named (vertex_of ring) (triangles 0 (length ring - 1) c) x.0 x.1 in
    let z = begun (vertex_of ring) t y.0 (subst (Alike t) y.2 x.2) in
    let b = below (length ring) z.0 y.0 (cover_seated (length ring) c v.0 y.0 y.1) z.1 in
    let o = corners_of_lem t (named (vertex_of ring) z.0) z.2 in (
      subst (Names grid) (sym o.0) (names z.0.first b.first_below),
      subst (Names grid) (sym o.1) (names z.0.second b.second_below),
      subst (Names grid) (sym o.2) (names z.0.third b.third_below),
    ))

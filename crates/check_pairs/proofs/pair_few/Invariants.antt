-- `pair_few` takes half-edge after half-edge, with all before it paired and chained, and comes to the end, to the first that stops, or to a triangle that names a point twice.
use lib.ListN.{length}
use mathlib.Core.Path.{◌≡◌}
use Rattle.check_pairs.specs.Workings.Triangles.{few_corners}
use Rattle.check_pairs.proofs.Laws.Few.{Side}
use Rattle.check_pairs.proofs.pair_few.Given as goal

abbrev pub invariant-loop-h : goal.invariant-loop-h
invariant-loop-h l = Side l.corners l.end l.i l.h l.heads l.links l.ends l.turns × (length l.turns ≡ length l.initial.turns) × (length l.links ≡ few_corners) × (length l.ends ≡ few_corners)

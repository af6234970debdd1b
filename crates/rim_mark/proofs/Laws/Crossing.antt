-- What listing the loops leaves of the table of turns still leads across every shared edge, and has a mark at each open one.
use Rattle.std.specs.Prelude.{Option}
use mathlib.Core.Path.{ap, ◌∙◌}
use mathlib.Core.List.{List}
use Prim.Native.Nat.{ℕ, ◌≤◌}
use lib.ListN.{length}
use Rattle.base_limits.specs.Limits as limits
use Rattle.surface_rules.specs.Edges.{Sound}
use Rattle.surface_rules.proofs.Laws.Edges.{none_open}
use Rattle.rim_pieces.specs.Workings.Flooding.{Crossing}
use Rattle.loop_find.specs.Workings.Walking.{holds, turn_now, Turned, KeepsTurns}
use Rattle.loop_find.proofs.Laws.Marks.{open_mark_lem}

pub still_crossing : (corners turns : List ℕ) → Sound corners → length corners ≤ limits.corners → length corners ≤ length turns → KeepsTurns corners turns → Crossing corners turns
unfolding Turned
still_crossing corners turns sound few long left = record {
  sound = sound;
  few = few;
  long = long;
  shared = λ h g l e. left.1 h l ∙ ap (λ (f : Option ℕ). turn_now f (holds h left.0) h) e;
  unshared = λ h l e. open_mark_lem corners sound few left.0 turns left.1 h l (none_open corners h e);
}

-- The demand of pieces and rims is kept.
use mathlib.Core.Path.{refl, ◌∙◌}
use mathlib.Core.Logic.{inl, inr}
use mathlib.Core.List.{List}
use Prim.Native.Nat.{ℕ}
use native.Mathlib.Omega.{arith}
use lib.IntN.{ℤ}
use Rattle.surface_rules.specs.Edges.{Sound}
use Rattle.loop_rules.proofs.Theorems as facts
use Rattle.rim_pieces.specs.Pieces.{itself}
use Rattle.rim_pieces.proofs.Laws.Joining.{join_back, join_on, join_one}
use Rattle.rim_pieces.proofs.Theorems as pieces
use Rattle.rim_rules.proofs.Theorems as rims
use Rattle.demands.specs.Pieces.{GroupsDemand, PiecesDemand}

pub groups_demand : (corners : List ℕ) → GroupsDemand corners
groups_demand corners = record {
  each_itself = λ t. itself;
  back = λ t u j. join_back j;
  on = λ t u v j k. join_on j k;
  sharing = λ t u s. join_one s;
  no_more = pieces.joined_least corners;
}

pub pieces_demand : (grid : List ℤ) (corners : List ℕ) → Sound corners → PiecesDemand grid corners
pieces_demand grid corners sound = record {
  numbered = pieces.numbered corners sound;
  no_others = pieces.numbered_so corners sound;
  in_one_piece = pieces.in_one_piece corners sound;
  its_number = rims.edge_piece grid corners sound;
  has_a_rim = λ e l o. let r = rims.the_rim grid corners sound e l o in (r.rim, r.there, r.its_piece, r.is_a_rim);
  no_rim = λ t h r k q.
      let three = facts.three_or_more corners sound r k in
      let first = (facts.one_loop corners sound).nothing_else _ (record { loop = r; loop_below = k; at = 0; at_below = omega arith; is = refl }) in
      h _ first.0 first.1 (rims.edge_piece grid corners sound r 0 k (omega arith) ∙ q);
  only_one = rims.one_rim grid corners;
  greatest = λ r l h k q. (
    λ m. rims.rim_says grid corners r l h k (record { same = q; more = inl m }),
    λ m n. rims.rim_says grid corners r l h k (record { same = q; more = inr (m, n) }),
  );
  alone = rims.alone_rim grid corners;
}

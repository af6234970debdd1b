-- The loops of a surface, chained and located: what the code knows by marks and numbers is what the surface has.
use mathlib.Core.Path.{◌≡◌, ap, ap₂, ◌∙◌, subst}
use mathlib.Core.Bool.{Bool, false, not, ◌&&◌}
use mathlib.Core.List.{List}
use Prim.Native.Nat.{ℕ, ◌+◌, ◌<◌, ◌≤◌}
use native.Mathlib.Omega.{arith}
use lib.Dec.{eqb}
use lib.IntN.{ℤ}
use lib.ListN.{length, get_or, length-map}
use Rattle.base_limits.specs.Limits as limits
use Rattle.surface_rules.proofs.Laws.Lists.{map_at}
use Rattle.loop_rules.specs.Loops.{loops, ring}
use Rattle.fill_fates.specs.Course.{ring_list}
use Rattle.fill_scratch.proofs.Laws.Reading.{as_many}
use Rattle.rim_pieces.specs.Pieces.{triangle_count}
use Rattle.rim_pieces.specs.Computed.{numbers_below, smallest_of, piece_count}
use Rattle.rim_pieces.specs.Workings.Flooding.{none}
use Rattle.rim_pieces.proofs.Laws.Uniting.{numbers_length, numbers_at}
use Rattle.rim_rules.specs.Rims.{piece_at, is_rim, rim_list}
use Rattle.chart_rules.proofs.Laws.Picking.{many_few}
use Rattle.chart_rules.proofs.Theorems.{home_below}
use Rattle.chart_lay.specs.Workings.Coast.{coast_of}
use Rattle.chart_lay.specs.Workings.Chaining.{First, is_marked, marked_in, unmarked_in, ChainRoom, Chains}
use Rattle.chart_lay.specs.Workings.Locating.{Locates}
use Rattle.chart_lay.specs.Workings.Others.{is_rim_of, is_other_of, Chained}
use Rattle.chart_lay.specs.Workings.Pieces.{Piece}
use Rattle.chart_lay.specs.Workings.Laying.{Shores}
use Rattle.chart_lay.proofs.Laws.Firsts.{first_same}

module _ {grid : List ℤ} {corners rings lengths marks pieces : List ℕ} {count : ℕ} (s : Shores grid corners rings lengths marks pieces count) where
  -- ---- how many there are

  as_loops : length lengths ≡ length (loops corners)
  as_loops = as_many grid corners (ring_list corners) rings lengths s.listed ∙ length-map (loops corners) (ring corners)

  pub few_loops : length (loops corners) ≤ limits.triangles
  few_loops = let a = s.listed.few_loops in let b = length-map (loops corners) (ring corners) in omega arith

  pub few_pieces : count ≤ limits.triangles
  unfolding piece_count
  few_pieces = let a = s.counted in let b = many_few (λ t. eqb (smallest_of corners t) t) (triangle_count corners) in let c = s.input.few in omega arith

  -- ---- each loop's mark and piece

  as_rims : length (rim_list grid corners) ≡ length (loops corners)
  as_rims = length-map (numbers_below (length (loops corners))) (is_rim grid corners) ∙ numbers_length (length (loops corners))

  module _ (l : ℕ) (h : l < length (loops corners)) where
    mark_is : is_marked marks l ≡ is_rim grid corners l
    mark_is =
        s.marked.told l (let a = as_rims in omega arith)
        ∙ map_at (is_rim grid corners) 0 false (numbers_below (length (loops corners))) l (let a = numbers_length (length (loops corners)) in omega arith)
        ∙ ap (is_rim grid corners) (numbers_at (length (loops corners)) l h)

    home_in : get_or pieces l 0 < count
    home_in = let a = s.pieces_are l h in let b = home_below grid corners s.sound l h in let c = s.counted in omega arith

    marked_is : (p : ℕ) → marked_in marks pieces p l ≡ is_rim_of grid corners p l
    marked_is p = ap₂ (λ (x : ℕ) (t : Bool). eqb x p && t) (s.pieces_are l h) mark_is

    unmarked_is : (p : ℕ) → unmarked_in marks pieces p l ≡ is_other_of grid corners p l
    unmarked_is p = ap₂ (λ (x : ℕ) (t : Bool). eqb x p && not t) (s.pieces_are l h) mark_is

  -- ---- what chaining and locating take

  pub chain_room : (rims heads links : List ℕ) → length rims ≡ limits.triangles → length heads ≡ limits.triangles → length links ≡ limits.triangles
      → ChainRoom marks pieces rims heads links (length lengths)
  chain_room rims heads links a b c = record {
    few = let x = as_loops in let y = few_loops in omega arith;
    marks_long = let x = as_loops in let y = as_rims in let z = s.marked.long in omega arith;
    pieces_long = let x = as_loops in let y = s.pieces_long in omega arith;
    links_long = let x = as_loops in let y = few_loops in omega arith;
    rims_there = λ l h. let x = as_loops in let y = home_in l (omega arith) in let z = few_pieces in omega arith;
    heads_there = λ l h. let x = as_loops in let y = home_in l (omega arith) in let z = few_pieces in omega arith;
  }

  -- ---- and what they leave

  module _ {rims₀ heads₀ rims heads links starts : List ℕ} (clear_rims : (p : ℕ) → p < count → get_or rims₀ p 0 ≡ none) (clear_heads : (p : ℕ) → p < count → get_or heads₀ p 0 ≡ none)
      (chains : Chains marks pieces rims₀ heads₀ 0 (length lengths) rims heads links) (located : Locates lengths (length lengths) starts)
      (links_long : length links ≡ limits.triangles) (starts_long : length starts ≡ limits.triangles) where
    chained : Chained grid corners (coast_of rings lengths starts links)
    chained = record {
      few = s.input.few;
      listed = s.listed;
      starts_long = let a = few_loops in omega arith;
      starts_are = λ l h. located grid corners (ring_list corners) rings s.listed l (let a = as_loops in omega arith);
      links_long = let a = few_loops in omega arith;
      links_are = λ l h e.
          first_same (λ j k. unmarked_is j k (piece_at corners l))
          (subst (λ (n : ℕ). First (unmarked_in marks pieces (piece_at corners l)) (l + 1) n (get_or links l 0)) as_loops
          (subst (λ (p : ℕ). First (unmarked_in marks pieces p) (l + 1) (length lengths) (get_or links l 0)) (s.pieces_are l h)
          (chains.links_are l (omega arith) (let a = as_loops in omega arith) (mark_is l h ∙ e) (clear_heads (get_or pieces l 0) (home_in l h)))));
    }

    pub piece_of : (p : ℕ) → p < count → Piece grid corners (coast_of rings lengths starts links) (get_or rims p 0) (get_or heads p 0) p
    piece_of p h = record {
      chained = chained;
      rim_is = first_same (λ j k. marked_is j k p) (subst (λ (n : ℕ). First (marked_in marks pieces p) 0 n (get_or rims p 0)) as_loops (chains.rims_are p (clear_rims p h)));
      head_is = first_same (λ j k. unmarked_is j k p) (subst (λ (n : ℕ). First (unmarked_in marks pieces p) 0 n (get_or heads p 0)) as_loops (chains.heads_are p (clear_heads p h)));
    }

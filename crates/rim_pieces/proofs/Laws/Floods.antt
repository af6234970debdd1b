-- The flood of one piece, triangle after triangle, and all floods, root after root.
use mathlib.Core.Path.{◌≡◌, refl, ◌∙◌, subst}
use mathlib.Core.List.{List}
use Prim.Native.Nat.{ℕ, ◌+◌, ◌<◌, ◌≤◌}
use native.Mathlib.Omega.{arith}
use lib.ListN.{length, get_or, length-set}
use Rattle.rim_pieces.specs.Pieces.{triangle_count}
use Rattle.rim_pieces.specs.Workings.Flooding.{none, Flooded, flooded, queued, label_at, Crossing, Flooding, AroundRoom, Arounds, SpreadRoom, Spreads, Between, NumberRoom, Numbers}
use Rattle.rim_pieces.proofs.Laws.Pushing.{push}
use Rattle.rim_pieces.proofs.Laws.Numbering.{between_begins, between_passes, root_room, root_floods, between_more, between_ends}

-- whatever surface it is, the flood came from where it began to here
pub record Spreading (turns : List ℕ) (from p : ℕ) (at₀ : Flooded) (done : ℕ) (at : Flooded) : Type 0 where
  pub goes : (corners : List ℕ) (root : ℕ) → Crossing corners turns → Flooding corners root p from from at₀ → Flooding corners root p from done at
  pub queue_same : length at.queue ≡ length at₀.queue
  pub pieces_same : length at.pieces ≡ length at₀.pieces

module _ {turns : List ℕ} {from p : ℕ} {at₀ : Flooded} where
  module _ {done : ℕ} {at : Flooded} (s : Spreading turns from p at₀ done at) where
    module _ (r : SpreadRoom turns from p at₀) where
      pub now : Flooding r.corners r.root p from done at
      now = s.goes r.corners r.root r.crossing r.flooding

      pub end_in : at.count ≤ length at.queue
      end_in = let f = now.flood in let a = f.within in let b = f.queue_long in omega arith

      pub around_room : done < at.count → AroundRoom turns (queued at done) p at
      around_room l = record { corners = r.corners; root = r.root; start = from; done = done; crossing = r.crossing; next = l; here = refl; flooding = now }

    pub spreading_more : {at' : Flooded} → done < at.count → length at'.queue ≡ length at.queue → length at'.pieces ≡ length at.pieces
        → Arounds turns (queued at done) p at at' → Spreading turns from p at₀ (done + 1) at'
    spreading_more l lq lp a = record {
      goes = λ corners root x f. a corners root from done x l refl (s.goes corners root x f);
      queue_same = lq ∙ s.queue_same;
      pieces_same = lp ∙ s.pieces_same;
    }

    pub spreading_ends : at.count ≤ done → Spreads turns from p at₀ at
    spreading_ends l corners root x f =
        let g = s.goes corners root x f in
        let e : done ≡ at.count = let u = g.upto in omega arith in
        subst (λ (k : ℕ). Flooding corners root p from k at) e g

-- ---- all pieces

-- the pieces so far
pub record Numbering (corners : List ℕ) (t p : ℕ) (at : Flooded) (m n : ℕ) : Type 0 where
  pub between : Between corners t p at
  pub queue_same : length at.queue ≡ m
  pub pieces_same : length at.pieces ≡ n

module _ {corners turns queue₀ pieces₀ : List ℕ} (r : NumberRoom corners turns queue₀ pieces₀) where
  pub numbering_begins : {pieces : List ℕ} → length pieces ≡ length pieces₀ → ((t : ℕ) → t < triangle_count corners → get_or pieces t 0 ≡ none)
      → Numbering corners 0 0 (flooded queue₀ 0 pieces) (length queue₀) (length pieces)
  numbering_begins l c = record {
    between = between_begins r.queue_long (let a = r.pieces_long in omega arith) c;
    queue_same = refl;
    pieces_same = refl;
  }

  module _ {t p : ℕ} {at : Flooded} {m n : ℕ} (s : Numbering corners t p at m n) where
    pub small : p < 1025
    small = let a = s.between.no_more in let b = s.between.within in let c = r.crossing.few in omega arith

    module _ (l : t < triangle_count corners) where
      pub numbering_passes : (label_at at t ≡ none → ⊥) → Numbering corners (t + 1) p at m n
      numbering_passes f = record { between = between_passes s.between l f; queue_same = s.queue_same; pieces_same = s.pieces_same }

      module _ (free : label_at at t ≡ none) where
        pub queue_in : at.count < length at.queue
        queue_in = let a = root_room s.between l free in let b = s.between.flood.queue_long in omega arith

        pub spread_room : SpreadRoom turns at.count p (push at t p)
        spread_room = record { corners = corners; root = t; crossing = r.crossing; flooding = root_floods s.between l free }

        pub numbering_more : {at' : Flooded} → length at'.queue ≡ length (push at t p).queue → length at'.pieces ≡ length (push at t p).pieces
            → Spreads turns at.count p (push at t p) at' → Numbering corners (t + 1) (p + 1) at' m n
        numbering_more lq lp g = record {
          between = between_more r.crossing.few l s.between.no_more (g corners t r.crossing (root_floods s.between l free));
          queue_same = lq ∙ length-set at.queue at.count t ∙ s.queue_same;
          pieces_same = lp ∙ length-set at.pieces t p ∙ s.pieces_same;
        }

    pub numbering_ends : triangle_count corners ≤ t → Numbers corners p at.pieces
    numbering_ends l = between_ends r.crossing.sound s.between l

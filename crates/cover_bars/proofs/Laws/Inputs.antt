-- The input's half-edges are chained triangle after triangle, and then the chains tell what the input joins.
use mathlib.Core.Path.{◌≡◌, refl, sym, ap, ◌∙◌, subst}
use mathlib.Core.Bool.{Bool, ◌||◌, or-false}
use mathlib.Core.List.{List, [], ◌∷◌, ◌++◌}
use Prim.Native.Nat.{ℕ, ◌+◌, ◌*◌, ◌/◌, ◌%◌, ◌<◌, ◌≤◌}
use native.Mathlib.Omega.{arith}
use lib.ListN.{length, get_or}
use Rattle.surface_rules.specs.Edges.{following}
use Rattle.surface_rules.proofs.Laws.Edges.{following_first, following_second, following_third}
use Rattle.cover_bars.specs.Bars.{between}
use Rattle.cover_bars.specs.Workings.Chains.{edge_of, Chained, ChainDone, InputRoom, Tells}
use Rattle.cover_bars.proofs.Laws.Joins.{sides, sides_none, sides_more, sides_length, sides_between, between_none}
use Rattle.cover_bars.proofs.Laws.Chaining.{chained_none}

-- the half-edges below h are chained, and h begins a triangle
pub record Inputting (corners heads₀ links₀ ends₀ : List ℕ) (h : ℕ) (heads links ends : List ℕ) : Type 0 where
  pub room : InputRoom corners heads₀ links₀ ends₀
  pub within : h ≤ length corners
  pub first : h % 3 ≡ 0
  pub links_kept : length links ≡ length links₀
  pub ends_kept : length ends ≡ length ends₀
  pub chained : Chained (sides corners h) heads links ends

pub input_begins : {corners heads links ends : List ℕ} → InputRoom corners heads links ends → Inputting corners heads links ends 0 heads links ends
input_begins {corners} room =
    record {
      room = room;
      within = omega arith;
      first = refl;
      links_kept = refl;
      ends_kept = refl;
      chained = rw (sides_none corners) (chained_none room.heads_long room.none);
    }

module _ {corners heads₀ links₀ ends₀ : List ℕ} {h : ℕ} {heads links ends : List ℕ} (going : Inputting corners heads₀ links₀ ends₀ h heads links ends) where
  pub input_ends : length corners ≤ h → Tells corners [] (length corners) heads links ends
  input_ends l =
      let w : h ≤ length corners = going.within in
      let q : h ≡ length corners = omega arith in
      record {
        edges = sides corners (length corners);
        many = sides_length corners (length corners);
        chained = subst (λ (z : ℕ). Chained (sides corners z) heads links ends) q going.chained;
        same = λ u v. sides_between corners u v ∙ sym (ap (λ (t : Bool). between corners u v || t) (between_none u v) ∙ or-false (between corners u v));
      }

  module _ (more : h < length corners) where
    pub input_inside : h + 3 ≤ length corners
    input_inside =
        let a : h % 3 ≡ 0 = going.first in
        let b : length corners % 3 ≡ 0 = going.room.triples in
        omega arith

    module _ {heads₁ links₁ ends₁ : List ℕ} (d₁ : ChainDone h (get_or corners h 0) (get_or corners (h + 1) 0) heads links ends heads₁ links₁ ends₁) where
      links₁_kept : length links₁ ≡ length links₀
      links₁_kept = d₁.links_kept ∙ going.links_kept

      ends₁_kept : length ends₁ ≡ length ends₀
      ends₁_kept = d₁.ends_kept ∙ going.ends_kept

      module _ {heads₂ links₂ ends₂ : List ℕ} (d₂ : ChainDone (h + 1) (get_or corners (h + 1) 0) (get_or corners (h + 2) 0) heads₁ links₁ ends₁ heads₂ links₂ ends₂) where
        links₂_kept : length links₂ ≡ length links₀
        links₂_kept = d₂.links_kept ∙ links₁_kept

        ends₂_kept : length ends₂ ≡ length ends₀
        ends₂_kept = d₂.ends_kept ∙ ends₁_kept

        module _ {heads₃ links₃ ends₃ : List ℕ} (d₃ : ChainDone (h + 2) (get_or corners (h + 2) 0) (get_or corners h 0) heads₂ links₂ ends₂ heads₃ links₃ ends₃) where
          first_end : following h ≡ h + 1
          first_end = let a : h % 3 ≡ 0 = going.first in let e : h ≡ 3 * (h / 3) = omega arith in ap following e ∙ following_first (h / 3) ∙ omega arith

          second_end : following (h + 1) ≡ h + 2
          second_end = let a : h % 3 ≡ 0 = going.first in let e : h + 1 ≡ 3 * (h / 3) + 1 = omega arith in ap following e ∙ following_second (h / 3) ∙ omega arith

          third_end : following (h + 2) ≡ h
          third_end = let a : h % 3 ≡ 0 = going.first in let e : h + 2 ≡ 3 * (h / 3) + 2 = omega arith in ap following e ∙ following_third (h / 3) ∙ omega arith

          -- half-edge k comes behind those below k
          next : {k m o : ℕ} {hs ls ns hs' ls' ns' : List ℕ} → following k ≡ m → k + 1 ≡ o → ChainDone k (get_or corners k 0) (get_or corners m 0) hs ls ns hs' ls' ns'
              → Chained (sides corners k) hs ls ns → Chained (sides corners o) hs' ls' ns'
          next {k} {m} {o} {hs} {ls} {ns} {hs'} {ls'} {ns'} e f d c =
              subst (λ (z : ℕ). Chained (sides corners z) hs' ls' ns') f
              (rw (sides_more corners k)
              (subst (λ (z : ℕ). Chained (sides corners k ++ (edge_of (get_or corners k 0) (get_or corners z 0) ∷ [])) hs' ls' ns') (sym e) (d.more (sides corners k) (sides_length corners k) c)))

          pub input_more : {o : ℕ} → h + 3 ≡ o → Inputting corners heads₀ links₀ ends₀ o heads₃ links₃ ends₃
          input_more at =
              let a : h % 3 ≡ 0 = going.first in
              record {
                room = going.room;
                within = omega (arith, input_inside);
                first = omega arith;
                links_kept = d₃.links_kept ∙ links₂_kept;
                ends_kept = d₃.ends_kept ∙ ends₂_kept;
                chained = next third_end (omega (arith, at)) d₃ (next second_end (omega arith) d₂ (next first_end (omega arith) d₁ going.chained));
              }

-- What a set weighs does not depend on the order of its triangles, nor on where each begins; and a cover's triangles weigh what the cover does.
use Prim.Native.Nat.{ℕ, ◌+◌, ◌-◌, ◌*◌, ◌<◌, ◌≤◌}
use Rattle.std.proofs.lemmas.List.{length-append, nil_from_length, get_or-append_right}
use mathlib.Core.Path.{◌≡◌, refl, ap, ◌∙◌, subst}
use mathlib.Core.Logic.{inl, inr}
use mathlib.Core.List.{List, [], ◌∷◌, ◌++◌, map, map-append}
use native.Mathlib.Omega.{arith}
use lib.IntN.{ℤ}
use lib.ListN.{length, get_or}
use mir.Syntax.{w64}
use mir.Val.{Fits}
use Rattle.surface_rules.specs.Threes.{threes}
use Rattle.cover_rules.specs.Covers.{Cover, empty, apex, Triangle, triangles, weight, vertex_of}
use Rattle.cover_rules.specs.Sets.{Alike, ListsTriangles, named}
use Rattle.cover_weight.specs.Weight.{point_of, Coordinates, Names}
use Rattle.cover_weight.specs.Edition.{naturals, tri_of, along}
use Rattle.cover_weight.proofs.Laws.Bounds.{heaviest, weight_most, weight_turned}
use Rattle.cover_weight.proofs.Laws.Named.{named_on_grid}
use Rattle.cover_sum.specs.Workings.Triples.{Threes, triple_at}
use Rattle.cover_sum.specs.Workings.Weighing.{named_weight, set_weight, AllNamed, WeighRoom}
use Rattle.cover_sum.proofs.Laws.Passed.{triples_length}

module _ (grid : List ℤ) where
  weight_append : (s t : List Triangle) → set_weight grid (s ++ t) ≡ set_weight grid s + set_weight grid t
  unfolding set_weight
  weight_append [] t = omega arith
  weight_append (x ∷ s) t = omega (arith, weight_append s t)

  weight_one : (t : Triangle) → set_weight grid (t ∷ []) ≡ named_weight grid t
  unfolding set_weight
  weight_one t = omega arith

  weight_cons : (t : Triangle) (s : List Triangle) → set_weight grid (t ∷ s) ≡ named_weight grid t + set_weight grid s
  unfolding set_weight
  weight_cons t s = refl

  alike_weight : (x y : Triangle) → Alike x y → named_weight grid x ≡ named_weight grid y
  alike_weight x y (inl e) = ap (named_weight grid) e
  alike_weight x y (inr (inl e)) =
      ap (named_weight grid) e ∙ weight_turned (point_of grid y.first) (point_of grid y.second) (point_of grid y.third)
  alike_weight x y (inr (inr e)) =
      ap (named_weight grid) e
      ∙ weight_turned (point_of grid y.second) (point_of grid y.third) (point_of grid y.first)
      ∙ weight_turned (point_of grid y.first) (point_of grid y.second) (point_of grid y.third)

  -- any order, each begun at any corner
  pub listed_weight : (ts s : List Triangle) → ListsTriangles s ts → set_weight grid s ≡ set_weight grid ts
  listed_weight [] s h = ap (set_weight grid) h
  listed_weight (t ∷ ts) s h =
      omega (
        arith,
        ap (set_weight grid) h.3,
        weight_append h.0 (h.2 ∷ h.1),
        weight_cons h.2 h.1,
        weight_cons t ts,
        alike_weight h.2 t h.4,
        weight_append h.0 h.1,
        listed_weight ts (h.0 ++ h.1) h.5,
      )

  module _ (ring : List ℕ) where
    pub triangles_weight : (i k : ℕ) (c : Cover) → set_weight grid (map (named (vertex_of ring)) (triangles i k c)) ≡ weight naturals (tri_of (along grid ring)) i k c
    unfolding set_weight
    triangles_weight i k empty = refl
    triangles_weight i k (apex m c d) =
        omega (
          arith,
          ap (set_weight grid) (map-append (named (vertex_of ring)) (triangles i m c) (triangles m k d)),
          weight_append (map (named (vertex_of ring)) (triangles i m c)) (map (named (vertex_of ring)) (triangles m k d)),
          triangles_weight i m c,
          triangles_weight m k d,
        )

-- ---- the code's sum

-- the triangles before the rest weigh so much
pub record Weighed (grid : List ℤ) (corners rest : List ℕ) (total : ℕ) : Type 0 where
  pub whole : Threes rest
  pub named : AllNamed grid rest
  pub sum : total + set_weight grid (threes rest) ≡ set_weight grid (threes corners)

pub weighed_none : {grid : List ℤ} {corners : List ℕ} → WeighRoom grid corners → Weighed grid corners corners 0
weighed_none h = record { whole = h.whole; named = h.named; sum = omega arith }

module _ (grid : List ℤ) (near : Coordinates grid) where
  most : (ts : List Triangle) → set_weight grid ts ≤ length ts * heaviest
  unfolding set_weight
  most [] = omega arith
  most (t ∷ ts) =
      omega (arith, weight_most _ _ _ (named_on_grid grid near t.first, named_on_grid grid near t.second, named_on_grid grid near t.third), most ts)

first : (t rest : List ℕ) → length t ≡ 3 → threes (t ++ rest) ≡ triple_at t 0 ∷ threes rest
first [] rest e = absurd (omega arith)
first (a ∷ []) rest e = absurd (omega arith)
first (a ∷ b ∷ []) rest e = absurd (omega arith)
first (a ∷ b ∷ c ∷ []) rest e = refl
first (a ∷ b ∷ c ∷ d ∷ t) rest e = absurd (omega arith)

module _ {grid : List ℤ} {corners rest : List ℕ} {total : ℕ} (h : Weighed grid corners rest total) where
  pub weighed_ends : length rest < 3 → total ≡ set_weight grid (threes corners)
  unfolding set_weight
  weighed_ends l =
      let none : rest ≡ [] = nil_from_length rest (omega (arith, h.whole.threes)) in
      omega (arith, h.sum, ap (λ (x : List ℕ). set_weight grid (threes x)) none)

  -- the triangle t weighs w
  module _ (t new : List ℕ) {w : ℕ} (cut : rest ≡ t ++ new) (three : length t ≡ 3) (e : w ≡ named_weight grid (triple_at t 0)) where
    pub weighed_more : Weighed grid corners new (total + w)
    weighed_more = record {
      whole = record { triangles = h.whole.triangles - 1; threes = omega (arith, h.whole.threes, ap length cut, length-append t new) };
      named = λ j k.
          let back : get_or rest (j + 3) 0 ≡ get_or new j 0 =
          ap (λ (x : List ℕ). get_or x (j + 3) 0) cut
          ∙ get_or-append_right t new 3 (j + 3) 0 three (omega arith)
          ∙ ap (λ (i : ℕ). get_or new i 0) (omega arith) in
          subst (Names grid) back (h.named (j + 3) (omega (arith, ap length cut, length-append t new)));
      sum =
          omega (
            arith,
            h.sum,
            e,
            ap (set_weight grid) (ap threes cut ∙ first t new three),
            weight_cons grid (triple_at t 0) (threes new),
          );
    }

    pub weighed_fits : WeighRoom grid corners → Fits w64 (total + w)
    weighed_fits room =
        let n : length (threes corners) ≡ room.whole.triangles = triples_length corners room.whole.triangles room.whole.threes in
        record { fits = omega (arith, weighed_more.sum, most grid room.coordinates (threes corners), n, room.whole.threes, room.few) }

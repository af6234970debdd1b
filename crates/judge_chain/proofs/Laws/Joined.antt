-- What triangles join does not depend on their order, nor on where each begins; so a cover's set joins what the cover does, and the
-- stretches of its seats what the cover's stretches do.
use Prim.Native.Nat.{ℕ, ◌+◌, ◌-◌, ◌*◌, ◌%◌, ◌<◌}
use mathlib.Core.Path.{◌≡◌, refl, sym, ap, ◌∙◌, subst}
use mathlib.Core.Bool.{Bool, true, ◌||◌, or_comm, or_assoc, true≢false}
use mathlib.Core.Logic.{inl, inr, ⊎_elim}
use mathlib.Core.List.{List, [], ◌∷◌, ◌++◌}
use native.Mathlib.Omega.{arith}
use lib.ListN.{length, get_or}
use Rattle.surface_rules.specs.Threes.{threes}
use Rattle.cover_rules.specs.Covers.{Cover, Triangle, triangles, corners_of, vertex_of, patch_of}
use Rattle.cover_rules.specs.Sets.{Alike, named}
use Rattle.cover_rules.specs.Workings.Matching.{In, Stands, Seated}
use Rattle.cover_rules.proofs.Laws.Closed.{Different, covered_seat, covered_stands, covered_in, cover_seated, one_seat}
use Rattle.cover_bars.specs.Bars.{between}
use Rattle.cover_bars.specs.Workings.Chains.{joins, firsts}
use Rattle.cover_bars.proofs.Laws.Joins.{between_none}
use Rattle.cover_bars.proofs.Laws.Laid.{laid_same}
use Rattle.cover_bars.proofs.Laws.Tests.{either_true, or_left, or_right, same_truth}
use Rattle.cover_bars.proofs.Laws.Triples.{ends_of, between_append, between_one}
use Rattle.cover_sum.specs.Workings.Triples.{Threes}
use Rattle.judge_seat.specs.Workings.Covering.{Covering}

-- u and v are two corners of the triangle
abbrev sided : Triangle → ℕ → ℕ → Bool
sided t u v = (ends_of t.first t.second u v || ends_of t.second t.third u v) || ends_of t.third t.first u v

third_first : (a b c : Bool) → ((a || b) || c) ≡ ((c || a) || b)
third_first a b c = or_comm (a || b) c ∙ sym (or_assoc c a b)

sided_alike : (s t : Triangle) (u v : ℕ) → Alike s t → sided s u v ≡ sided t u v
sided_alike s t u v (inl e) = ap (λ (x : Triangle). sided x u v) e
sided_alike s t u v (inr (inl e)) =
    ap (λ (x : Triangle). sided x u v) e
    ∙ third_first (ends_of t.second t.third u v) (ends_of t.third t.first u v) (ends_of t.first t.second u v)
sided_alike s t u v (inr (inr e)) =
    ap (λ (x : Triangle). sided x u v) e
    ∙ sym (third_first (ends_of t.first t.second u v) (ends_of t.second t.third u v) (ends_of t.third t.first u v))

module _ (vertex : ℕ → ℕ) (u v : ℕ) where
  -- ---- a side of a triangle is joined, and no other two points are

  between_more : (t : Triangle) (l : List Triangle) → between (corners_of vertex (t ∷ l)) u v ≡ (sided (named vertex t) u v || between (corners_of vertex l) u v)
  between_more t l =
      between_append (vertex t.first ∷ (vertex t.second ∷ (vertex t.third ∷ []))) (corners_of vertex l) refl u v
      ∙ ap (λ (x : Bool). x || between (corners_of vertex l) u v) (between_one (vertex t.first) (vertex t.second) (vertex t.third) u v)

  between_some : (l : List Triangle) → between (corners_of vertex l) u v ≡ true → (t : Triangle) × In t l × (sided (named vertex t) u v ≡ true)
  between_some [] e = absurd (true≢false (sym e ∙ between_none u v))
  between_some (t ∷ l) e =
      ⊎_elim
      (λ f. (t, inl refl, f))
      (λ f. let r = between_some l f in (r.0, inr r.1, r.2))
      (either_true (sided (named vertex t) u v) (between (corners_of vertex l) u v) (sym (between_more t l) ∙ e))

  some_between : (l : List Triangle) (t : Triangle) → In t l → sided (named vertex t) u v ≡ true → between (corners_of vertex l) u v ≡ true
  some_between [] t g e = absurd g
  some_between (x ∷ l) t (inl g) e =
      between_more x l ∙ or_left (sided (named vertex x) u v) _ (subst (λ (y : Triangle). sided (named vertex y) u v ≡ true) g e)
  some_between (x ∷ l) t (inr g) e = between_more x l ∙ or_right (sided (named vertex x) u v) _ (some_between l t g e)

  -- ---- the same for first sides

  firsts_some : (l : List Triangle) → joins (firsts (corners_of vertex l)) u v ≡ true
      → (t : Triangle) × In t l × (ends_of (vertex t.first) (vertex t.second) u v ≡ true)
  unfolding joins firsts
  firsts_some [] e = absurd (true≢false (sym e))
  firsts_some (t ∷ l) e =
      ⊎_elim
      (λ f. (t, inl refl, f))
      (λ f. let r = firsts_some l f in (r.0, inr r.1, r.2))
      (either_true (ends_of (vertex t.first) (vertex t.second) u v) (joins (firsts (corners_of vertex l)) u v) e)

  some_firsts : (l : List Triangle) (t : Triangle) → In t l → ends_of (vertex t.first) (vertex t.second) u v ≡ true
      → joins (firsts (corners_of vertex l)) u v ≡ true
  unfolding joins firsts
  some_firsts [] t g e = absurd g
  some_firsts (x ∷ l) t (inl g) e =
      or_left (ends_of (vertex x.first) (vertex x.second) u v) _
      (subst (λ (y : Triangle). ends_of (vertex y.first) (vertex y.second) u v ≡ true) g e)
  some_firsts (x ∷ l) t (inr g) e = or_right (ends_of (vertex x.first) (vertex x.second) u v) _ (some_firsts l t g e)

  firsts_within : (l m : List Triangle) → ((t : Triangle) → In t l → In t m)
      → joins (firsts (corners_of vertex l)) u v ≡ true → joins (firsts (corners_of vertex m)) u v ≡ true
  firsts_within l m f e = let r = firsts_some l e in some_firsts m r.0 (f r.0 r.1) r.2

-- the corners of a set are those of its triangles
corners_of_triples : (l : List ℕ) (m : ℕ) → length l ≡ 3 * m → corners_of (λ (x : ℕ). x) (threes l) ≡ l
corners_of_triples [] m e = refl
corners_of_triples (a ∷ []) m e = absurd (omega arith)
corners_of_triples (a ∷ b ∷ []) m e = absurd (omega arith)
corners_of_triples (a ∷ b ∷ c ∷ l) m e = ap (λ (x : List ℕ). a ∷ b ∷ c ∷ x) (corners_of_triples l (m - 1) (omega arith))

-- the seats of the triangles s, in whatever order
pub record Seats (n : ℕ) (vertex : ℕ → ℕ) (s seats : List Triangle) : Type 0 where
  pub seated : (x : Triangle) → In x seats → Seated n x × Stands s (named vertex x)
  pub all : (t : Triangle) → In t s → (x : Triangle) × In x seats × Seated n x × Alike t (named vertex x)

module _ (ring set : List ℕ) (different : Different (length ring) (vertex_of ring)) (c : Cover) (h : Covering ring (threes set) c) (u v : ℕ) where
  -- the set joins what the cover's listing does
  set_joins : Threes set → between set u v ≡ between (patch_of ring c) u v
  set_joins three =
      ap (λ (l : List ℕ). between l u v) (sym (corners_of_triples set three.triangles three.threes))
      ∙ same_truth (between (corners_of (λ (x : ℕ). x) (threes set)) u v) (between (patch_of ring c) u v)
      (λ e.
      let r = between_some (λ (x : ℕ). x) u v (threes set) e in
      let k = covered_seat (length ring) (vertex_of ring) different (threes set) c h r.0 r.1 in
      some_between (vertex_of ring) u v (triangles 0 (length ring - 1) c) k.0 k.1 (sym (sided_alike r.0 (named (vertex_of ring) k.0) u v k.2) ∙ r.2))
      (λ e.
      let r = between_some (vertex_of ring) u v (triangles 0 (length ring - 1) c) e in
      let k = covered_stands (length ring) (vertex_of ring) different (threes set) c h r.0 r.1 in
      some_between (λ (x : ℕ). x) u v (threes set) k.0 k.1 (sided_alike k.0 (named (vertex_of ring) r.0) u v k.2 ∙ r.2))

  -- the seats of a cover's set are the cover's triangles, so their first sides join what the cover's do
  seats_join : (seats : List Triangle) → Seats (length ring) (vertex_of ring) (threes set) seats
      → joins (firsts (corners_of (vertex_of ring) seats)) u v ≡ joins (firsts (patch_of ring c)) u v
  seats_join seats k =
      same_truth (joins (firsts (corners_of (vertex_of ring) seats)) u v) (joins (firsts (patch_of ring c)) u v)
      (firsts_within (vertex_of ring) u v seats (triangles 0 (length ring - 1) c)
      (λ x g. let y = k.seated x g in covered_in (length ring) (vertex_of ring) different (threes set) c h x y.0 y.1))
      (firsts_within (vertex_of ring) u v (triangles 0 (length ring - 1) c) seats
      (λ x g.
      let y = covered_stands (length ring) (vertex_of ring) different (threes set) c h x g in
      let z = k.all y.0 y.1 in
      subst (λ (w : Triangle). In w seats)
      (one_seat (length ring) (vertex_of ring) different y.0 z.0 x z.2 (cover_seated (length ring) c h.0 x g) z.3 y.2)
      z.1))

  -- with the first sides of its seats the chains tell of the set
  pub seats_same : (input laid : List ℕ) → length laid % 3 ≡ 0
      → ((j : ℕ) → j + 1 < length ring → between input (get_or ring j 0) (get_or ring (j + 1) 0) ≡ true)
      → Threes set → (seats : List Triangle) → Seats (length ring) (vertex_of ring) (threes set) seats
      → ((between input u v || between laid u v) || joins (firsts (corners_of (vertex_of ring) seats)) u v) ≡ (between input u v || between (laid ++ set) u v)
  seats_same input laid whole sides three seats k =
      ap (λ (x : Bool). (between input u v || between laid u v) || x) (seats_join seats k)
      ∙ laid_same input laid ring c whole h.0 sides u v
      ∙ ap (λ (x : Bool). between input u v || x)
      (between_append laid (patch_of ring c) whole u v
      ∙ ap (λ (x : Bool). between laid u v || x) (sym (set_joins three))
      ∙ sym (between_append laid set whole u v))

-- What triangles join, list by list and triangle by triangle.
use mathlib.Core.Path.{◌≡◌, refl, sym, ap, ap₂, ◌∙◌}
use mathlib.Core.Bool.{Bool, ◌&&◌, ◌||◌, or_assoc, or_comm, or-false}
use mathlib.Core.List.{List, [], ◌∷◌, ◌++◌}
use Prim.Native.Nat.{ℕ, zero, suc, ◌+◌, ◌/◌, ◌%◌, ◌<◌}
use native.Mathlib.Omega.{arith}
use lib.Dec.{eqb}
use lib.ListN.{length, get_or, length-append, get_or-append}
use lib.Seq.{get_or-append-add}
use Rattle.surface_rules.specs.Smallest.{least, any}
use Rattle.surface_rules.specs.Edges.{following, goes}
use Rattle.surface_rules.proofs.Laws.Smallest.{least_same}
use Rattle.surface_rules.proofs.Laws.Edges.{following_below, following_on}
use Rattle.cover_bars.specs.Bars.{edge, between}
use Rattle.cover_bars.specs.Workings.Chains.{Edge, edge_of, firsts}
use Rattle.cover_bars.proofs.Laws.Joins.{any_more}
use Rattle.cover_bars.proofs.Laws.Tests.{exchanged}

-- ---- searches over two stretches

any_split : (p : ℕ → Bool) (a b : ℕ) → any (least p (a + b)) ≡ (any (least p a) || any (least (λ (k : ℕ). p (a + k)) b))
unfolding least
any_split p a zero =
    let e : a + zero ≡ a = omega arith in
    ap (λ (z : ℕ). any (least p z)) e ∙ sym (or-false (any (least p a)))
any_split p a (suc b) =
    let e : a + suc b ≡ a + b + 1 = omega arith in
    let f : b + 1 ≡ suc b = omega arith in
    ap (λ (z : ℕ). any (least p z)) e
    ∙ any_more p (a + b)
    ∙ ap (λ (t : Bool). t || p (a + b)) (any_split p a b)
    ∙ or_assoc (any (least p a)) (any (least (λ (k : ℕ). p (a + k)) b)) (p (a + b))
    ∙ ap (λ (t : Bool). any (least p a) || t) (sym (any_more (λ (k : ℕ). p (a + k)) b) ∙ ap (λ (z : ℕ). any (least (λ (k : ℕ). p (a + k)) z)) f)

-- ---- lists of triangles, one after the other

module _ (l m : List ℕ) (whole : length l % 3 ≡ 0) (u v : ℕ) where
  goes_left : (h : ℕ) → h < length l → goes (l ++ m) u v h ≡ goes l u v h
  unfolding goes
  goes_left h s =
      ap₂ (λ (x y : ℕ). eqb x u && eqb y v) (get_or-append l m 0 h s)
      (get_or-append l m 0 (following h) (following_below (length l) h whole s))

  goes_right : (k : ℕ) → goes (l ++ m) u v (length l + k) ≡ goes m u v k
  unfolding goes
  goes_right k =
      ap₂ (λ (x y : ℕ). eqb x u && eqb y v) (get_or-append-add l m k 0)
      (ap (λ (z : ℕ). get_or (l ++ m) z 0) (following_on (length l) k whole) ∙ get_or-append-add l m (following k) 0)

  edge_append : edge (l ++ m) u v ≡ (edge l u v || edge m u v)
  unfolding edge
  edge_append =
      ap (λ (z : ℕ). any (least (goes (l ++ m) u v) z)) (length-append l m)
      ∙ any_split (goes (l ++ m) u v) (length l) (length m)
      ∙ ap₂ (λ (s t : Bool). s || t)
      (ap any (least_same (goes (l ++ m) u v) (goes l u v) (length l) goes_left))
      (ap any (least_same (λ (k : ℕ). goes (l ++ m) u v (length l + k)) (goes m u v) (length m) (λ k _. goes_right k)))

pub between_append : (l m : List ℕ) → length l % 3 ≡ 0 → (u v : ℕ) → between (l ++ m) u v ≡ (between l u v || between m u v)
unfolding between
between_append l m w u v =
    ap₂ (λ (s t : Bool). s || t) (edge_append l m w u v) (edge_append l m w v u) ∙ exchanged (edge l u v) (edge m u v) (edge l v u) (edge m v u)

pub between_turned : (l : List ℕ) (u v : ℕ) → between l u v ≡ between l v u
unfolding between
between_turned l u v = or_comm (edge l u v) (edge l v u)

-- ---- one triangle

-- a and b are u and v, in either order
abbrev pub ends_of : ℕ → ℕ → ℕ → ℕ → Bool
ends_of a b u v = (eqb a u && eqb b v) || (eqb a v && eqb b u)

three : (a b c d e f : Bool) → (((a || b) || c) || ((d || e) || f)) ≡ (((a || d) || (b || e)) || (c || f))
three a b c d e f = exchanged (a || b) c (d || e) f ∙ ap (λ (t : Bool). t || (c || f)) (exchanged a b d e)

pub between_one : (a b c u v : ℕ) → between (a ∷ (b ∷ (c ∷ []))) u v ≡ ((ends_of a b u v || ends_of b c u v) || ends_of c a u v)
unfolding between edge least goes following
between_one a b c u v =
    ap₂ (λ (s t : Bool). s || t) (edge_one u v) (edge_one v u)
    ∙ three (eqb a u && eqb b v) (eqb b u && eqb c v) (eqb c u && eqb a v) (eqb a v && eqb b u) (eqb b v && eqb c u) (eqb c v && eqb a u)
  where
    edge_one : (u v : ℕ) → edge (a ∷ (b ∷ (c ∷ []))) u v ≡ (((eqb a u && eqb b v) || (eqb b u && eqb c v)) || (eqb c u && eqb a v))
    edge_one u v =
        any_more (goes (a ∷ (b ∷ (c ∷ []))) u v) 2
        ∙ ap (λ (t : Bool). t || (eqb c u && eqb a v))
        (any_more (goes (a ∷ (b ∷ (c ∷ []))) u v) 1 ∙ ap (λ (t : Bool). t || (eqb b u && eqb c v)) (any_more (goes (a ∷ (b ∷ (c ∷ []))) u v) 0))

-- ---- first sides

pub firsts_append : (l m : List ℕ) → length l % 3 ≡ 0 → firsts (l ++ m) ≡ firsts l ++ firsts m
unfolding firsts
firsts_append [] m w = refl
firsts_append (a ∷ []) m w = absurd (omega arith)
firsts_append (a ∷ (b ∷ [])) m w = absurd (omega arith)
firsts_append (a ∷ (b ∷ (c ∷ l))) m w = ap (λ (es : List Edge). edge_of a b ∷ es) (firsts_append l m (omega arith))

pub firsts_length : (l : List ℕ) → length (firsts l) ≡ length l / 3
unfolding firsts
firsts_length [] = refl
firsts_length (a ∷ []) = refl
firsts_length (a ∷ (b ∷ [])) = refl
firsts_length (a ∷ (b ∷ (c ∷ l))) = omega (arith, firsts_length l)

-- What a list of edges joins, and that the half-edges of triangles as such a list join what the triangles do.
use Rattle.std.specs.Prelude.{Option, Some, None}
use mathlib.Core.Path.{◌≡◌, refl, sym, ap, ap₂, ◌∙◌}
use mathlib.Core.Bool.{Bool, true, false, ◌&&◌, ◌||◌, or_assoc, or-false, cond}
use mathlib.Core.List.{List, [], ◌∷◌, ◌++◌}
use Prim.Native.Nat.{ℕ, zero, suc, ◌+◌}
use native.Mathlib.Numerals.{add-one}
use lib.Dec.{eqb}
use lib.ListN.{length, length-append}
use native.Mathlib.Omega.{arith}
use Rattle.surface_rules.specs.Smallest.{least, any, or_else}
use Rattle.surface_rules.specs.Edges.{start_of, end_of, goes}
use Rattle.cover_bars.specs.Bars.{edge, between}
use Rattle.cover_bars.specs.Workings.Chains.{Edge, edge_of, joins}
use Rattle.cover_bars.proofs.Laws.Tests.{exchanged}

-- ---- lists of edges

pub joins_append : (es fs : List Edge) (u v : ℕ) → joins (es ++ fs) u v ≡ (joins es u v || joins fs u v)
unfolding joins
joins_append [] fs u v = refl
joins_append (e ∷ es) fs u v =
    let here : Bool = (eqb e.from u && eqb e.to v) || (eqb e.from v && eqb e.to u) in
    ap (λ (t : Bool). here || t) (joins_append es fs u v) ∙ sym (or_assoc here (joins es u v) (joins fs u v))

-- ---- searches

any_or : (f : Option ℕ) (t : Bool) (n : ℕ) → any (or_else f (cond t (Some n) None)) ≡ (any f || t)
any_or (Some i) t n = refl
any_or None true n = refl
any_or None false n = refl

pub any_more : (p : ℕ → Bool) (n : ℕ) → any (least p (n + 1)) ≡ (any (least p n) || p n)
unfolding least
any_more p n = rw add-one (any_or (least p n) (p n) n)

-- ---- half-edges of triangles

-- the first h half-edges
unfoldable pub sides : List ℕ → ℕ → List Edge
sides corners zero = []
sides corners (suc h) = sides corners h ++ (edge_of (start_of corners h) (end_of corners h) ∷ [])

module _ (corners : List ℕ) where
  pub sides_none : sides corners 0 ≡ []
  unfolding sides
  sides_none = refl

  pub sides_more : (h : ℕ) → sides corners (h + 1) ≡ sides corners h ++ (edge_of (start_of corners h) (end_of corners h) ∷ [])
  unfolding sides
  sides_more h = rw add-one

  pub sides_length : (h : ℕ) → length (sides corners h) ≡ h
  unfolding sides
  sides_length zero = refl
  sides_length (suc h) = omega (arith, length-append (sides corners h) (edge_of (start_of corners h) (end_of corners h) ∷ []), sides_length h)

-- they join what they run between, either way
sides_join : (corners : List ℕ) (u v h : ℕ) → joins (sides corners h) u v ≡ (any (least (goes corners u v) h) || any (least (goes corners v u) h))
unfolding sides joins least goes
sides_join corners u v zero = refl
sides_join corners u v (suc h) =
    joins_append (sides corners h) (edge_of (start_of corners h) (end_of corners h) ∷ []) u v
    ∙ ap (λ (t : Bool). t || ((goes corners u v h || goes corners v u h) || false)) (sides_join corners u v h)
    ∙ ap (λ (t : Bool). (any (least (goes corners u v) h) || any (least (goes corners v u) h)) || t) (or-false (goes corners u v h || goes corners v u h))
    ∙ exchanged (any (least (goes corners u v) h)) (any (least (goes corners v u) h)) (goes corners u v h) (goes corners v u h)
    ∙ sym (ap₂ (λ (s t : Bool). s || t) (any_or (least (goes corners u v) h) (goes corners u v h) h) (any_or (least (goes corners v u) h) (goes corners v u h) h))

-- all half-edges join what the triangles do
pub sides_between : (corners : List ℕ) (u v : ℕ) → joins (sides corners (length corners)) u v ≡ between corners u v
unfolding between edge
sides_between corners u v = sides_join corners u v (length corners)

pub between_none : (u v : ℕ) → between [] u v ≡ false
unfolding between edge least
between_none u v = refl

-- The edges that leave a point are met along its chain: none is passed over between an edge and the one that its link names, and none after the head.
use mathlib.Core.Path.{◌≡◌, refl, ap, ◌∙◌}
use mathlib.Core.Bool.{Bool, true, false, ◌&&◌, ◌||◌}
use mathlib.Core.List.{List, [], ◌∷◌}
use Prim.Native.Nat.{ℕ, zero, suc, ◌+◌, ◌-◌, ◌<◌, ◌≤◌}
use native.Mathlib.Omega.{arith}
use lib.Dec.{eqb}
use lib.ListN.{length, get_or, drop}
use lib.Seq.{drop-cons, drop-length}
use Rattle.surface_twins.specs.Workings.Chains.{top}
use Rattle.surface_twins.proofs.Laws.Tops.{top_le, top_never}
use Rattle.cover_bars.specs.Workings.Chains.{Edge, edge_of, joins, reaches, leaves}
use Rattle.cover_bars.proofs.Laws.Tests.{exchanged}

-- edges join two points if one of them runs between the two, either way
pub joins_reaches : (es : List Edge) (u v : ℕ) → joins es u v ≡ (reaches es u v || reaches es v u)
unfolding joins reaches
joins_reaches [] u v = refl
joins_reaches (e ∷ es) u v =
    let here : Bool = eqb e.from u && eqb e.to v in
    let back : Bool = eqb e.from v && eqb e.to u in
    ap (λ (t : Bool). (here || back) || t) (joins_reaches es u v) ∙ exchanged here back (reaches es u v) (reaches es v u)

module _ (es : List Edge) (u v : ℕ) where
  pub reaches_none : reaches (drop (length es) es) u v ≡ false
  unfolding reaches
  reaches_none = ap (λ (l : List Edge). reaches l u v) (drop-length es)

  first_of : (g : ℕ) → g < length es → reaches (drop g es) u v ≡ ((leaves es u g && eqb (get_or es g (edge_of 0 0)).to v) || reaches (drop (suc g) es) u v)
  unfolding reaches leaves
  first_of g l = ap (λ (m : List Edge). reaches m u v) (drop-cons es g (edge_of 0 0) l)

  passed_over : (g : ℕ) → g < length es → leaves es u g ≡ false → reaches (drop g es) u v ≡ reaches (drop (suc g) es) u v
  passed_over g l e = first_of g l ∙ ap (λ (t : Bool). (t && eqb (get_or es g (edge_of 0 0)).to v) || reaches (drop (suc g) es) u v) e

  pub met_here : (g : ℕ) → g < length es → leaves es u g ≡ true → reaches (drop g es) u v ≡ (eqb (get_or es g (edge_of 0 0)).to v || reaches (drop (suc g) es) u v)
  met_here g l e = first_of g l ∙ ap (λ (t : Bool). (t && eqb (get_or es g (edge_of 0 0)).to v) || reaches (drop (suc g) es) u v) e

  skipped : (d g : ℕ) → g + d ≤ length es → ((i : ℕ) → g ≤ i → i < g + d → leaves es u i ≡ false) → reaches (drop g es) u v ≡ reaches (drop (g + d) es) u v
  skipped zero g l w = let e : g ≡ g + zero = omega arith in ap (λ (z : ℕ). reaches (drop z es) u v) e
  skipped (suc d) g l w =
      let e : suc g + d ≡ g + suc d = omega arith in
      passed_over g (omega arith) (w g (omega arith) (omega arith))
      ∙ skipped d (suc g) (omega arith) (λ i a b. w i (omega arith) (omega arith))
      ∙ ap (λ (z : ℕ). reaches (drop z es) u v) e

  -- from the last edge below n that leaves u on, as from n on
  pub reaches_top : (n : ℕ) → n ≤ length es → reaches (drop (top (leaves es u) n) es) u v ≡ reaches (drop n es) u v
  reaches_top n l =
      let t : ℕ = top (leaves es u) n in
      let m : top (leaves es u) n ≤ n = top_le (leaves es u) n in
      let e : t + (n - t) ≡ n = omega arith in
      skipped (n - t) t (omega arith) (λ i a b. top_never (leaves es u) n i a (omega arith)) ∙ ap (λ (z : ℕ). reaches (drop z es) u v) e

-- A loop of three lays a triangle on its own sides, all of which the input has: the chains tell of it as they are.
use mathlib.Core.Path.{◌≡◌, refl, sym, ap, ap₂, ◌∙◌, subst}
use mathlib.Core.Bool.{Bool, true, false, ◌&&◌, ◌||◌, true≢false}
use mathlib.Core.List.{List, [], ◌∷◌, ◌++◌}
use mathlib.Core.Logic.{⊎_elim}
use Prim.Native.Nat.{ℕ, ◌+◌, ◌-◌, ◌%◌, ◌<◌}
use native.Mathlib.Omega.{arith}
use lib.Dec.{eqb}
use lib.ListN.{length, get_or}
use borrow.Author.Tests.{eqb-true}
use Rattle.surface_rules.proofs.Laws.Tests.{both_true, not_so}
use Rattle.cover_rules.specs.Covers.{empty, apex, patch_of}
use Rattle.cover_bars.specs.Bars.{between}
use Rattle.cover_bars.specs.Workings.Chains.{Tells}
use Rattle.cover_bars.proofs.Laws.Tests.{either_true}
use Rattle.cover_bars.proofs.Laws.Triples.{ends_of, between_append, between_turned, between_one}

module _ (input : List ℕ) (u v : ℕ) where
  side_told : (a b : ℕ) → between input a b ≡ true → ends_of a b u v ≡ true → between input u v ≡ true
  side_told a b s e =
      ⊎_elim
      (λ f. let g = both_true _ _ f in sym (ap₂ (between input) (eqb-true _ _ g.0) (eqb-true _ _ g.1)) ∙ s)
      (λ f. let g = both_true _ _ f in between_turned input u v ∙ sym (ap₂ (between input) (eqb-true _ _ g.0) (eqb-true _ _ g.1)) ∙ s)
      (either_true (eqb a u && eqb b v) _ e)

  -- a triangle joins no more than the input, if that joins its corners
  triangle_told : (a b c : ℕ) → between input a b ≡ true → between input b c ≡ true → between input c a ≡ true → between (a ∷ (b ∷ (c ∷ []))) u v ≡ true → between input u v ≡ true
  triangle_told a b c x y z e =
      ⊎_elim
      (λ f. ⊎_elim (side_told a b x) (side_told b c y) (either_true (ends_of a b u v) _ f))
      (side_told c a z)
      (either_true (ends_of a b u v || ends_of b c u v) _ (sym (between_one a b c u v) ∙ e))

absorbed : (i l q : Bool) → (q ≡ true → i ≡ true) → (i || l) ≡ (i || (l || q))
absorbed true l q f = refl
absorbed false true q f = refl
absorbed false false q f = sym (not_so q (λ e. true≢false (sym (f e))))

pub three_tells : (input laid ring : List ℕ) (e : ℕ) (heads links ends : List ℕ) → length ring ≡ 3
    → length laid % 3 ≡ 0 → ((j : ℕ) → j + 1 < length ring → between input (get_or ring j 0) (get_or ring (j + 1) 0) ≡ true)
    → between input (get_or ring 2 0) (get_or ring 0 0) ≡ true → Tells input laid e heads links ends
    → Tells input (laid ++ patch_of ring (apex 1 empty empty)) e heads links ends
three_tells input laid ring e heads links ends n w sides last t =
    record {
      edges = t.edges;
      many = t.many;
      chained = t.chained;
      same =
          λ u v.
          t.same u v
          ∙ absorbed (between input u v) (between laid u v) (between (patch_of ring (apex 1 empty empty)) u v)
          (triangle_told input u v (get_or ring 0 0) (get_or ring (length ring - 1) 0) (get_or ring 1 0) first (between_turned input _ _ ∙ second) (between_turned input _ _ ∙ sides 0 (omega arith)))
          ∙ ap (λ (s : Bool). between input u v || s) (sym (between_append laid (patch_of ring (apex 1 empty empty)) w u v));
    }
  where
    far : 2 ≡ length ring - 1
    far = omega arith

    first : between input (get_or ring 0 0) (get_or ring (length ring - 1) 0) ≡ true
    first = subst (λ (z : ℕ). between input (get_or ring 0 0) (get_or ring z 0) ≡ true) far (between_turned input (get_or ring 0 0) (get_or ring 2 0) ∙ last)

    second : between input (get_or ring 1 0) (get_or ring (length ring - 1) 0) ≡ true
    second = subst (λ (z : ℕ). between input (get_or ring 1 0) (get_or ring z 0) ≡ true) far (sides 1 (omega arith))

-- The kinds of a piece's loops by what the code asks of them: whether it is a rim, and if not, whether it touches one.
use mathlib.Core.Path.{◌≡◌, refl, ap, ◌∙◌}
use mathlib.Core.Bool.{Bool, true, false, not, ◌&&◌, cond}
use mathlib.Core.List.{List}
use Prim.Native.Nat.{ℕ}
use lib.Dec.{eqb}
use lib.IntN.{ℤ}
use Rattle.rim_rules.specs.Rims.{piece_at, is_rim}
use Rattle.chart_rules.specs.Report.{touches, kind_at}
use Rattle.chart_rules.proofs.Laws.Once.{among}
use Rattle.chart_lay.specs.Workings.Others.{is_rim_of, is_other_of}

module _ (grid : List ℤ) (corners : List ℕ) (p l : ℕ) where
  pub rim_sort : among grid corners p 1 l ≡ is_rim_of grid corners p l
  unfolding kind_at
  rim_sort = go (eqb (piece_at corners l) p) (is_rim grid corners l) (touches grid corners l)
    where
      go : (a b c : Bool) → (a && eqb (cond b 1 (cond c 2 3)) 1) ≡ (a && b)
      go true true c = refl
      go true false true = refl
      go true false false = refl
      go false b c = refl

  pub pool_sort : among grid corners p 2 l ≡ (is_other_of grid corners p l && touches grid corners l)
  unfolding kind_at
  pool_sort = go (eqb (piece_at corners l) p) (is_rim grid corners l) (touches grid corners l)
    where
      go : (a b c : Bool) → (a && eqb (cond b 1 (cond c 2 3)) 2) ≡ ((a && not b) && c)
      go true true c = refl
      go true false true = refl
      go true false false = refl
      go false b c = refl

  pub lake_sort : among grid corners p 3 l ≡ (is_other_of grid corners p l && not (touches grid corners l))
  unfolding kind_at
  lake_sort = go (eqb (piece_at corners l) p) (is_rim grid corners l) (touches grid corners l)
    where
      go : (a b c : Bool) → (a && eqb (cond b 1 (cond c 2 3)) 3) ≡ ((a && not b) && not c)
      go true true c = refl
      go true false true = refl
      go true false false = refl
      go false b c = refl

  -- what is no other loop of the piece is neither tide pool nor lake
  pub no_pool : is_other_of grid corners p l ≡ false → among grid corners p 2 l ≡ false
  no_pool e = pool_sort ∙ ap (λ (t : Bool). t && touches grid corners l) e

  pub no_lake : is_other_of grid corners p l ≡ false → among grid corners p 3 l ≡ false
  no_lake e = lake_sort ∙ ap (λ (t : Bool). t && not (touches grid corners l)) e

  -- another loop is the one or the other
  module _ (e : is_other_of grid corners p l ≡ true) where
    pub is_pool : among grid corners p 2 l ≡ touches grid corners l
    is_pool = pool_sort ∙ ap (λ (t : Bool). t && touches grid corners l) e

    pub is_lake : among grid corners p 3 l ≡ not (touches grid corners l)
    is_lake = lake_sort ∙ ap (λ (t : Bool). t && not (touches grid corners l)) e

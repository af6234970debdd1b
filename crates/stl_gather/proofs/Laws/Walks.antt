-- The walk along the chain of a point's words passes every point of their bucket, the last first, so that what it passed has other words.
use Rattle.std.specs.Prelude.{Some, None}
use mathlib.Core.Path.{◌≡◌, refl, sym, ap, ◌∙◌, subst}
use mathlib.Core.Bool.{Bool, true, false, ◌&&◌}
use mathlib.Core.List.{List}
use mathlib.Core.Logic.{⊎_elim}
use Prim.Native.Nat.{ℕ, ◌+◌, ◌-◌, ◌*◌, ◌<◌, ◌≤◌}
use native.Mathlib.Omega.{arith}
use native.Mathlib.Nat.{eq-or-lt_of_le}
use lib.Dec.{eqb}
use lib.ListN.{length, get_or}
use borrow.Author.Tests.{eq-eqb, ne_eqb}
use Rattle.surface_rules.specs.Threes.{Three, three}
use Rattle.surface_rules.proofs.Laws.Tests.{lt_or_le}
use Rattle.surface_twins.specs.Workings.Chains.{top}
use Rattle.surface_twins.proofs.Laws.Tops.{top_le}
use Rattle.stl_rules.specs.File.{agree}
use Rattle.stl_rules.specs.Reading.{none}
use Rattle.stl_rules.proofs.Laws.Files.{agree_says}
use Rattle.stl_gather.specs.Workings.Racks.{bucket_of, home, in_bucket, point_in, Kept, Linked, SeekRoom, Seeks}
use Rattle.stl_gather.proofs.Laws.Buckets.{head_home, head_rest}

-- the walk is at g, numbered from 1
pub record Walking (ws links : List ℕ) (last a b c g : ℕ) : Type 0 where
  pub room : SeekRoom ws links last a b c
  pub within : g ≤ last
  pub here : 0 < g → home room.size room.met (g - 1) ≡ bucket_of room.size a b c
  pub passed : (k : ℕ) → g ≤ k → k < last → agree (get_or room.met k none) (three a b c) ≡ false

-- what is read at point k lies inside, and its link leads back
pub record Standing (ws links : List ℕ) (k : ℕ) : Type 0 where
  pub words_in : 3 * k + 2 < length ws
  pub link_in : k < length links
  pub back : get_or links k 0 ≤ k

-- ---- the words of a point

module _ (ws : List ℕ) (k a b c : ℕ) where
  -- whether the first two agree
  abbrev two : Bool
  two = eqb (get_or ws (3 * k) 0) a && eqb (get_or ws (3 * k + 1) 0) b

  pub first_agrees : {t : Bool} → t ≡ eqb (get_or ws (3 * k + 1) 0) b → get_or ws (3 * k) 0 ≡ a → t ≡ two
  first_agrees e p = e ∙ sym (rw (eq-eqb _ _ p) refl)

  pub first_other : {t : Bool} → t ≡ eqb (get_or ws (3 * k) 0) a → (get_or ws (3 * k) 0 ≡ a → ⊥) → t ≡ two
  first_other e h = e ∙ rw (ne_eqb _ _ h) refl

  pub third_tells : {t : Bool} → t ≡ two → t ≡ true → eqb (get_or ws (3 * k + 2) 0) c ≡ agree (point_in ws k) (three a b c)
  unfolding agree point_in
  third_tells e h = rw (← e, h) refl

  pub two_other : {t : Bool} → t ≡ two → t ≡ false → t ≡ agree (point_in ws k) (three a b c)
  unfolding agree point_in
  two_other e h = h ∙ sym (rw (← e, h) refl)

-- ---- the walk

module _ {ws links : List ℕ} {last a b c : ℕ} where
  pub walk_begins : SeekRoom ws links last a b c → Walking ws links last a b c last
  walk_begins room = record { room = room; within = omega arith; here = room.here; passed = λ k l m. absurd (omega arith) }

  module _ {g : ℕ} (w : Walking ws links last a b c g) where
    abbrev size : ℕ
    size = w.room.size

    abbrev met : List Three
    met = w.room.met

    pub walk_ends : g ≤ 0 → Seeks ws a b c last None
    unfolding Seeks Kept
    walk_ends l k m = ap (λ (p : Three). agree p (three a b c)) (w.room.kept k m) ∙ w.passed k (omega arith) m

    module _ (more : 0 < g) where
      link_is : get_or links (g - 1) 0 ≡ top (in_bucket size met (bucket_of size a b c)) (g - 1)
      unfolding Linked
      link_is = w.room.linked (g - 1) (omega (arith, w.within)) ∙ ap (λ (z : ℕ). top (in_bucket size met z) (g - 1)) (w.here more)

      pub walk_found : true ≡ agree (point_in ws (g - 1)) (three a b c) → Seeks ws a b c last (Some (g - 1))
      unfolding Seeks
      walk_found s = (omega (arith, w.within), agree_says _ _ (sym s))

      pub walk_inside : Standing ws links (g - 1)
      walk_inside =
          let l : g ≤ last = w.within in
          record {
            words_in = omega (arith, w.room.words_long);
            link_in = omega (arith, w.room.links_long);
            back = rw link_is (top_le (in_bucket size met (bucket_of size a b c)) (g - 1));
          }

      module _ (other : false ≡ agree (point_in ws (g - 1)) (three a b c)) where
        here_not : agree (get_or met (g - 1) none) (three a b c) ≡ false
        unfolding Kept
        here_not = ap (λ (p : Three). agree p (three a b c)) (sym (w.room.kept (g - 1) (omega (arith, w.within)))) ∙ sym other

        pub walk_more : Walking ws links last a b c (get_or links (g - 1) 0)
        walk_more =
            record {
              room = w.room;
              within = omega (arith, w.within, walk_inside.back);
              here = head_home size met _ _ _ link_is;
              passed =
                  λ k m n.
                  ⊎_elim
                  (λ (q : k < g).
                  ⊎_elim
                  (λ (r : k ≡ g - 1). subst (λ (z : ℕ). agree (get_or met z none) (three a b c) ≡ false) (sym r) here_not)
                  (λ (r : k < g - 1). head_rest size met _ _ _ link_is (three a b c) refl k m r)
                  (eq-or-lt_of_le (omega arith)))
                  (λ (q : g ≤ k). w.passed k q n)
                  (lt_or_le k g);
            }

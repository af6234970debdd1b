-- Rows that hold the stretches with triangles: the sides alone at first, then one stretch more for each triangle.
use Prim.Native.Nat.{ℕ, suc, ◌+◌, ◌-◌, ◌<◌, ◌≤◌}
use mathlib.Core.Path.{◌≡◌, refl, sym, ap, ◌∙◌, subst}
use mathlib.Core.Bool.{Bool, true, ◌||◌, true≢false}
use mathlib.Core.Logic.{inl, ⊎_elim}
use mathlib.Core.List.{List, [], ◌∷◌, ◌++◌}
use native.Mathlib.Omega.{arith}
use native.Mathlib.Decide.{dec_lt, ℕ_discrete}
use lib.Dec.{eqb}
use lib.ListN.{length, get_or, set, length-set}
use lib.Seq.{get_or-set_same, get_or-set_other}
use borrow.Author.Tests.{eqb-true, eq-eqb}
use Rattle.base_limits.specs.Limits as limits
use Rattle.cover_rules.specs.Covers.{Triangle, on}
use Rattle.cover_rules.specs.Sets.{Alike, named}
use Rattle.cover_rules.specs.Workings.Matching.{Stands, Seated, Laid, side, laid}
use Rattle.cover_rules.proofs.Laws.Sets.{corners_of_lem}
use Rattle.cover_rules.proofs.Laws.Listed.{in_left, in_right, in_cases}
use Rattle.cover_rules.proofs.Laws.Closed.{Different, one_seat}
use Rattle.cover_bits.specs.Workings.Masks.{bit}
use Rattle.cover_bits.proofs.Laws.Masks.{bit_zero}
use Rattle.cover_bars.proofs.Laws.Tests.{either_true, or_left, or_right}
use Rattle.judge_match.specs.Workings.Rows.{Held}

-- ---- sides

-- the sides from those below j are set, and the rows from j on are clear
pub record Sided (rows : List ℕ) (j : ℕ) : Type 0 where
  pub long : length rows ≡ limits.longest
  pub done : (a b : ℕ) → a < j → b < limits.longest → bit (get_or rows a 0) b ≡ eqb b (suc a)
  pub clear : (a : ℕ) → j ≤ a → a < limits.longest → get_or rows a 0 ≡ 0

pub sided_more : {rows : List ℕ} {j : ℕ} (w : ℕ) → Sided rows j → j < limits.longest
    → ((k : ℕ) → k < limits.longest → bit w k ≡ (bit 0 k || eqb k (j + 1))) → Sided (set rows j w) (j + 1)
sided_more {rows} {j} w h l f = record {
  long = length-set rows j w ∙ h.long;
  done = λ a b m n. go a b m n (ℕ_discrete a j);
  clear = λ a m n. get_or-set_other rows j a w 0 (λ e. omega arith) ∙ h.clear a (omega arith) n;
}
  where
    go : (a b : ℕ) → a < j + 1 → b < limits.longest → Dec (a ≡ j) → bit (get_or (set rows j w) a 0) b ≡ eqb b (suc a)
    go a b m n (yes e) =
        let s : j + 1 ≡ suc a = omega arith in
        let t : j < length rows = omega (arith, h.long) in
        ap (λ (x : ℕ). bit (get_or (set rows j w) x 0) b) e
        ∙ ap (λ (x : ℕ). bit x b) (get_or-set_same rows j w 0 t)
        ∙ f b n
        ∙ ap (λ (x : Bool). x || eqb b (j + 1)) (bit_zero b)
        ∙ ap (eqb b) s
    go a b m n (no e) = ap (λ (x : ℕ). bit x b) (get_or-set_other rows j a w 0 e) ∙ h.done a b (omega arith) n

-- the sides of a loop of n
pub sided_all : {n : ℕ} {rows : List ℕ} {j : ℕ} → Sided rows j → n ≤ limits.longest → j ≤ n - 1 → n - 1 ≤ j → (vertex : ℕ → ℕ) → Held n vertex [] rows
sided_all {n} {rows} {j} h few l m vertex = record { long = h.long; tells = λ a b p q. tell a b p q (dec_lt a j); shows = show }
  where
    tell : (a b : ℕ) → a < n → b < limits.longest → Dec (a < j) → bit (get_or rows a 0) b ≡ true → Laid n vertex [] a b
    tell a b p q (yes r) e =
        let s : b ≡ suc a = eqb-true b (suc a) (sym (h.done a b r q) ∙ e) in
        side s (omega arith)
    tell a b p q (no r) e =
        let z : get_or rows a 0 ≡ 0 = h.clear a (omega arith) (omega arith) in
        absurd (true≢false (sym e ∙ ap (λ (x : ℕ). bit x b) z ∙ bit_zero b))

    show : (a b : ℕ) → a < n → b < limits.longest → Laid n vertex [] a b → bit (get_or rows a 0) b ≡ true
    show a b p q (side e r) = h.done a b (omega arith) q ∙ eq-eqb b (suc a) e
    show a b p q (laid i k g) = absurd g.1

-- ---- one triangle more

stands_more : (s : List Triangle) (t x : Triangle) → Stands s x → Stands (s ++ (t ∷ [])) x
stands_more s t x g = (g.0, in_left g.0 s (t ∷ []) g.1, g.2)

laid_more : {n : ℕ} {vertex : ℕ → ℕ} {s : List Triangle} {a b : ℕ} (t : Triangle) → Laid n vertex s a b → Laid n vertex (s ++ (t ∷ [])) a b
laid_more t (side e l) = side e l
laid_more {n} {vertex} {s} {a} {b} t (laid m k g) = laid m k (stands_more s t (named vertex (on a b m)) g)

module _ (n : ℕ) (vertex : ℕ → ℕ) (different : Different n vertex) (few : n ≤ limits.longest)
    (s : List Triangle) (rows : List ℕ) (h : Held n vertex s rows)
    (t : Triangle) (i k m : ℕ) (seated : Seated n (on i k m)) (alike : Alike t (named vertex (on i k m)))
    (w : ℕ) (f : (j : ℕ) → j < limits.longest → bit w j ≡ (bit (get_or rows i 0) j || eqb j k)) where
  inside : i < length rows
  inside = let l = seated.low in let u = seated.high in let v = seated.to in omega (arith, h.long)

  at_row : (b : ℕ) → b < limits.longest → bit (get_or (set rows i w) i 0) b ≡ (bit (get_or rows i 0) b || eqb b k)
  at_row b q = ap (λ (x : ℕ). bit x b) (get_or-set_same rows i w 0 inside) ∙ f b q

  -- what was set stays set
  stays : (a b : ℕ) → b < limits.longest → Dec (a ≡ i) → bit (get_or rows a 0) b ≡ true → bit (get_or (set rows i w) a 0) b ≡ true
  stays a b q (yes e) p =
      ap (λ (x : ℕ). bit (get_or (set rows i w) x 0) b) e
      ∙ at_row b q
      ∙ or_left (bit (get_or rows i 0) b) (eqb b k) (subst (λ (x : ℕ). bit (get_or rows x 0) b ≡ true) e p)
  stays a b q (no e) p = ap (λ (x : ℕ). bit x b) (get_or-set_other rows i a w 0 e) ∙ p

  new : Laid n vertex (s ++ (t ∷ [])) i k
  new = laid m seated (t, in_right t s (t ∷ []) (inl refl), alike)

  pub held_more : Held n vertex (s ++ (t ∷ [])) (set rows i w)
  held_more = record {
    long = length-set rows i w ∙ h.long;
    tells = λ a b p q. tell a b p q (ℕ_discrete a i);
    shows = show;
  }
    where
      tell : (a b : ℕ) → a < n → b < limits.longest → Dec (a ≡ i) → bit (get_or (set rows i w) a 0) b ≡ true → Laid n vertex (s ++ (t ∷ [])) a b
      tell a b p q (no e) g = laid_more t (h.tells a b p q (ap (λ (x : ℕ). bit x b) (sym (get_or-set_other rows i a w 0 e)) ∙ g))
      tell a b p q (yes e) g =
          ⊎_elim
          (λ x. laid_more t (h.tells a b p q (subst (λ (y : ℕ). bit (get_or rows y 0) b ≡ true) (sym e) x)))
          (λ x. rw (e, eqb-true b k x) new)
          (either_true (bit (get_or rows i 0) b) (eqb b k) (sym (at_row b q) ∙ ap (λ (y : ℕ). bit (get_or (set rows i w) y 0) b) (sym e) ∙ g))

      show : (a b : ℕ) → a < n → b < limits.longest → Laid n vertex (s ++ (t ∷ [])) a b → bit (get_or (set rows i w) a 0) b ≡ true
      show a b p q (side e l) = stays a b q (ℕ_discrete a i) (h.shows a b p q (side e l))
      show a b p q (laid r z g) =
          ⊎_elim
          (λ x. stays a b q (ℕ_discrete a i) (h.shows a b p q (laid r z (g.0, x, g.2))))
          (⊎_elim
          (λ x.
          let y = corners_of_lem (on a b r) (on i k m) (one_seat n vertex different t (on a b r) (on i k m) z seated (subst (λ (v : Triangle). Alike v (named vertex (on a b r))) x g.2) alike) in
          ap (λ (v : ℕ). bit (get_or (set rows i w) v 0) b) y.0
          ∙ at_row b q
          ∙ or_right (bit (get_or rows i 0) b) (eqb b k) (eq-eqb b k y.1))
          absurd)
          (in_cases g.0 s (t ∷ []) g.1)

-- What holds of each entry of a list, and of each with all that stand behind it: both by going through the numbers that were picked, and then through the
-- pieces.
use mathlib.Core.Path.{◌≡◌, refl, sym, ap, ◌∙◌, subst}
use mathlib.Core.Bool.{Bool, true, false}
use mathlib.Core.List.{List, [], ◌∷◌, ◌++◌, map, flatten, map-append, append-nil}
use Prim.Native.Nat.{ℕ, zero, suc, ◌+◌, ◌<◌}
use native.Mathlib.Nat.{not-suc-le-zero}
use native.Mathlib.Numerals.{add-one}
use native.Mathlib.Omega.{arith}
use lib.ListN.{length, get_or}
use Rattle.surface_rules.proofs.Laws.Lists.{flatten_append}
use Rattle.rim_pieces.specs.Computed.{numbers_below}
use Rattle.chart_rules.specs.declared.Entry.{Entry}
use Rattle.chart_rules.specs.Report.{entry, nothing, pick}
use Rattle.chart_rules.proofs.Laws.Picking.{pick_begins, pick_next, pick_skip}

-- P holds of each entry
unfoldable pub Every : (Entry → Type 0) → List Entry → Type 0
Every P [] = Unit {0}
Every P (e ∷ es) = P e × Every P es

-- R holds between each entry and each that stands behind it
unfoldable pub Ascends : (Entry → Entry → Type 0) → List Entry → Type 0
Ascends R [] = Unit {0}
Ascends R (e ∷ es) = Every (R e) es × Ascends R es

-- ---- numbers picked, and lists for the numbers below n

-- the entries of this kind for the numbers below n with p
abbrev pub picks : (ℕ → Bool) → ℕ → ℕ → List Entry
picks p k n = map (entry k) (pick p (numbers_below n))

picks_none : (p : ℕ → Bool) (k : ℕ) → picks p k 0 ≡ []
picks_none p k = ap (map (entry k)) (pick_begins p)

picks_next : (p : ℕ → Bool) (k n : ℕ) → p n ≡ true → picks p k (suc n) ≡ picks p k n ++ (entry k n ∷ [])
picks_next p k n e = ap (picks p k) (sym (add-one n)) ∙ ap (map (entry k)) (pick_next p n e) ∙ map-append (entry k) (pick p (numbers_below n)) (n ∷ [])

picks_skip : (p : ℕ → Bool) (k n : ℕ) → p n ≡ false → picks p k (suc n) ≡ picks p k n
picks_skip p k n e = ap (picks p k) (sym (add-one n)) ∙ ap (map (entry k)) (pick_skip p n e)

-- what f lists below n
abbrev pub listed : (ℕ → List Entry) → ℕ → List Entry
listed f n = flatten (map f (numbers_below n))

pub listed_none : (f : ℕ → List Entry) → listed f 0 ≡ []
unfolding numbers_below flatten
listed_none f = refl

pub listed_next : (f : ℕ → List Entry) (n : ℕ) → listed f (n + 1) ≡ listed f n ++ f n
unfolding numbers_below flatten
listed_next f n =
    ap (listed f) (add-one n)
    ∙ ap flatten (map-append f (numbers_below n) (n ∷ []))
    ∙ flatten_append (map f (numbers_below n)) (f n ∷ [])
    ∙ ap (λ (z : List Entry). flatten (map f (numbers_below n)) ++ z) (append-nil (f n))

-- ---- of each

module _ (P : Entry → Type 0) where
  pub every_append : (a b : List Entry) → Every P a → Every P b → Every P (a ++ b)
  unfolding Every
  every_append [] b ha hb = hb
  every_append (e ∷ a) b ha hb = (ha.0, every_append a b ha.1 hb)

  pub every_none : Every P []
  unfolding Every
  every_none = tt

  pub every_first : (e : Entry) (es : List Entry) → P e → Every P es → Every P (e ∷ es)
  unfolding Every
  every_first e es h k = (h, k)

  pub every_at : (es : List Entry) → Every P es → (i : ℕ) → i < length es → P (get_or es i nothing)
  unfolding Every
  every_at [] h i l = absurd (not-suc-le-zero l)
  every_at (e ∷ es) h zero l = h.0
  every_at (e ∷ es) h (suc i) l = every_at es h.1 i (omega arith)

  pub every_picked : (p : ℕ → Bool) (k n : ℕ) → ((l : ℕ) → l < n → p l ≡ true → P (entry k l)) → Every P (picks p k n)
  every_picked p k zero h = subst (Every P) (sym (picks_none p k)) every_none
  every_picked p k (suc n) h = go (p n) refl (every_picked p k n (λ l a e. h l (omega arith) e))
    where
      go : (t : Bool) → p n ≡ t → Every P (picks p k n) → Every P (picks p k (suc n))
      go true e r = subst (Every P) (sym (picks_next p k n e)) (every_append (picks p k n) (entry k n ∷ []) r (every_first (entry k n) [] (h n (omega arith) e) every_none))
      go false e r = subst (Every P) (sym (picks_skip p k n e)) r

  pub every_listed : (f : ℕ → List Entry) (n : ℕ) → ((p : ℕ) → p < n → Every P (f p)) → Every P (listed f n)
  every_listed f zero h = subst (Every P) (sym (listed_none f)) every_none
  every_listed f (suc n) h =
      subst (Every P) (sym (listed_next f n) ∙ ap (listed f) (add-one n))
      (every_append (listed f n) (f n) (every_listed f n (λ p l. h p (omega arith))) (h n (omega arith)))

pub every_so : (P Q : Entry → Type 0) → ((e : Entry) → P e → Q e) → (es : List Entry) → Every P es → Every Q es
unfolding Every
every_so P Q h [] k = tt
every_so P Q h (e ∷ es) k = (h e k.0, every_so P Q h es k.1)

-- ---- of each with those behind it

module _ (R : Entry → Entry → Type 0) where
  -- of each of a with each of b
  pub every_cross : (P Q : Entry → Type 0) → ((e f : Entry) → P e → Q f → R e f) → (a b : List Entry) → Every P a → Every Q b → Every (λ (e : Entry). Every (R e) b) a
  every_cross P Q h a b ha hb = every_so P (λ (e : Entry). Every (R e) b) (λ e he. every_so Q (R e) (λ f hf. h e f he hf) b hb) a ha

  pub ascends_append : (a b : List Entry) → Ascends R a → Ascends R b → Every (λ (e : Entry). Every (R e) b) a → Ascends R (a ++ b)
  unfolding Ascends Every
  ascends_append [] b ha hb c = hb
  ascends_append (e ∷ a) b ha hb c = (every_append (R e) a b ha.0 c.0, ascends_append a b ha.1 hb c.1)

  pub ascends_none : Ascends R []
  unfolding Ascends
  ascends_none = tt

  pub ascends_first : (e : Entry) (es : List Entry) → Every (R e) es → Ascends R es → Ascends R (e ∷ es)
  unfolding Ascends
  ascends_first e es h k = (h, k)

  pub ascends_at : (es : List Entry) → Ascends R es → (i j : ℕ) → i < j → j < length es → R (get_or es i nothing) (get_or es j nothing)
  unfolding Ascends
  ascends_at [] h i j l m = absurd (not-suc-le-zero m)
  ascends_at (e ∷ es) h i zero l m = absurd (not-suc-le-zero l)
  ascends_at (e ∷ es) h zero (suc j) l m = every_at (R e) es h.0 j (omega arith)
  ascends_at (e ∷ es) h (suc i) (suc j) l m = ascends_at es h.1 i j (omega arith) (omega arith)

  pub ascends_picked : (p : ℕ → Bool) (k n : ℕ) → ((l m : ℕ) → l < m → p l ≡ true → p m ≡ true → R (entry k l) (entry k m)) → Ascends R (picks p k n)
  ascends_picked p k zero h = subst (Ascends R) (sym (picks_none p k)) ascends_none
  ascends_picked p k (suc n) h = go (p n) refl (ascends_picked p k n h)
    where
      go : (t : Bool) → p n ≡ t → Ascends R (picks p k n) → Ascends R (picks p k (suc n))
      go true e r =
          subst (Ascends R) (sym (picks_next p k n e))
          (ascends_append (picks p k n) (entry k n ∷ []) r (ascends_first (entry k n) [] (every_none (R (entry k n))) ascends_none)
          (every_picked (λ (x : Entry). Every (R x) (entry k n ∷ [])) p k n (λ l a d. every_first (R (entry k l)) (entry k n) [] (h l n a d e) (every_none (R (entry k l))))))
      go false e r = subst (Ascends R) (sym (picks_skip p k n e)) r

  pub ascends_listed : (f : ℕ → List Entry) (n : ℕ) → ((p : ℕ) → Ascends R (f p)) → ((p q : ℕ) → p < q → Every (λ (e : Entry). Every (R e) (f q)) (f p)) → Ascends R (listed f n)
  ascends_listed f zero h c = subst (Ascends R) (sym (listed_none f)) ascends_none
  ascends_listed f (suc n) h c =
      subst (Ascends R) (sym (listed_next f n) ∙ ap (listed f) (add-one n))
      (ascends_append (listed f n) (f n) (ascends_listed f n h c) (h n) (every_listed (λ (e : Entry). Every (R e) (f n)) f n (λ p l. c p n l)))

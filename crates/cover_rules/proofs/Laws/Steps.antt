-- A stretch has a patch or no allowed cover, and the patch is found by trying the apexes in order: the best cover with an apex
-- below b and the best with the apex b give the best with an apex at most b, where a tie keeps the smaller apex.
use Prim.Native.Nat.{ℕ, zero, suc, ◌<◌, ◌≤◌, ◌+◌, ◌-◌}
use native.Mathlib.Nat.{add-zero, add-suc}
use mathlib.Core.Path.{◌≡◌, refl, sym, ◌∙◌, subst}
use mathlib.Core.Logic.{◌⊎◌, inl, inr, ⊎_elim}
use mathlib.Core.Bool.{Bool, true, false, true≢false}
use native.Mathlib.Omega.{arith}
use native.Mathlib.Decide.{dec_lt}
use Rattle.cover_rules.specs.Weights.{Weights, Lawful}
use Rattle.cover_rules.specs.Covers.{Cover, empty, apex, Sooner, weight, Allowed, Best, Patch, NoCover}
use Rattle.cover_rules.proofs.Laws.Order.{AtMost, same_not_lighter, at_most_add, parts_agree, at_most_keeps, at_most_trans, cancel}
use Rattle.cover_rules.proofs.Laws.Parts.{allowed_apex, allowed_before, allowed_after, allowed_free}

-- the covers whose outermost apex is below b, and those whose outermost apex is b
abbrev pub Below : ℕ → Cover → Type 0
Below b empty = ⊥
Below b (apex m c d) = m < b

abbrev pub At : ℕ → Cover → Type 0
At b empty = ⊥
At b (apex m c d) = m ≡ b

sooner_below : (b : ℕ) (c x : Cover) → Below b c → At b x → Sooner c x
sooner_below b empty x h g = absurd h
sooner_below b (apex m y z) empty h g = absurd g
sooner_below b (apex m y z) (apex n u v) h g = let e : n ≡ b = g in let l : m < b = h in inl (omega arith)

pub below_suc : (b : ℕ) (c : Cover) → Below b c → Below (suc b) c
below_suc b empty h = h
below_suc b (apex m y z) h = let l : m < b = h in omega arith

pub at_suc : (b : ℕ) (c : Cover) → At b c → Below (suc b) c
at_suc b empty h = h
at_suc b (apex m y z) h = let l : m ≡ b = h in omega arith

abbrev pub NoneOf : (Cover → Type 0) → Type 0
NoneOf P = (c : Cover) → P c → ⊥

module _ (barred : ℕ → ℕ → Bool) where
  abbrev pub AllowedBelow : ℕ → ℕ → ℕ → Cover → Type 0
  AllowedBelow i k b c = Allowed barred i k c × Below b c

  abbrev pub AllowedAt : ℕ → ℕ → ℕ → Cover → Type 0
  AllowedAt i k b c = Allowed barred i k c × At b c

  -- a cover with the apex b has allowed parts
  pub at_before : (i k b : ℕ) (x : Cover) → AllowedAt i k b x → (y : Cover) × Allowed barred i b y
  at_before i k b empty h = absurd h.1
  at_before i k b (apex m y z) h = (y, subst (λ (m : ℕ). Allowed barred i m y) h.1 (allowed_before barred i k m y z h.0))

  pub at_after : (i k b : ℕ) (x : Cover) → AllowedAt i k b x → (z : Cover) × Allowed barred b k z
  at_after i k b empty h = absurd h.1
  at_after i k b (apex m y z) h = (z, subst (λ (m : ℕ). Allowed barred m k z) h.1 (allowed_after barred i k m y z h.0))

  -- so there is none where a part has none
  pub none_at_before : (i k b : ℕ) → NoCover barred i b → NoneOf (AllowedAt i k b)
  none_at_before i k b p x h = let y = at_before i k b x h in p y.0 y.1

  pub none_at_after : (i k b : ℕ) → NoCover barred b k → NoneOf (AllowedAt i k b)
  none_at_after i k b p x h = let z = at_after i k b x h in p z.0 z.1

  pub below_split : (i k b : ℕ) (x : Cover) → AllowedBelow i k (suc b) x → AllowedBelow i k b x ⊎ AllowedAt i k b x
  below_split i k b empty h = absurd h.1
  below_split i k b (apex m y z) h = go (dec_lt m b)
    where
      go : Dec (m < b) → AllowedBelow i k b (apex m y z) ⊎ AllowedAt i k b (apex m y z)
      go (yes l) = inl (h.0, l)
      go (no n) = let g : m < suc b = h.1 in inr (h.0, omega arith)

  -- the first apex is i + 1
  pub none_below : (i k : ℕ) → NoneOf (AllowedBelow i k (suc i))
  none_below i k empty h = h.1
  none_below i k (apex m y z) h = let a : i < m = h.0.covers.0 in let l : m < suc i = h.1 in omega arith

  -- and the last is below k
  pub below_all : (i k : ℕ) → suc i < k → (c : Cover) → Allowed barred i k c → AllowedBelow i k k c
  below_all i k l empty h = let e : k ≡ suc i = h.covers in absurd (omega arith)
  below_all i k l (apex m y z) h = (h, h.covers.1)

  pub none_all : (i k : ℕ) → suc i < k → NoneOf (AllowedBelow i k k) → NoCover barred i k
  none_all i k l p x h = p x (below_all i k l x h)

  pub none_barred : (i k : ℕ) → suc i < k → barred i k ≡ true → NoCover barred i k
  none_barred i k l e empty h = let f : k ≡ suc i = h.covers in omega arith
  none_barred i k l e (apex m y z) h = true≢false (sym e ∙ allowed_free barred i k m y z h)

module _ (𝓦 : Weights) (tri : ℕ → ℕ → ℕ → 𝓦.W) (barred : ℕ → ℕ → Bool) where
  -- the best allowed cover with an apex below b, and the best with the apex b
  abbrev pub BestBelow : ℕ → ℕ → ℕ → Cover → Type 0
  BestBelow i k b = Best 𝓦 tri i k (AllowedBelow barred i k b)

  abbrev pub BestAt : ℕ → ℕ → ℕ → Cover → Type 0
  BestAt i k b = Best 𝓦 tri i k (AllowedAt barred i k b)

  -- the best of the covers P of i..k, or that there is none
  abbrev pub Answer : ℕ → ℕ → (Cover → Type 0) → Type 0
  Answer i k P = ((c : Cover) × Best 𝓦 tri i k P c) ⊎ NoneOf P

  -- i..k has a patch, or no allowed cover
  abbrev pub Patched : ℕ → ℕ → Type 0
  Patched i k = ((c : Cover) × Patch 𝓦 tri barred i k c) ⊎ NoCover barred i k

module _ (𝓦 : Weights) (𝓛 : Lawful 𝓦) (tri : ℕ → ℕ → ℕ → 𝓦.W) (barred : ℕ → ℕ → Bool) where
  open 𝓦 use {W, none, ◌≺◌}

  abbrev wt : ℕ → ℕ → Cover → W
  wt = weight 𝓦 tri

  -- patches of the parts make the best cover with this apex
  pub apex_best : (i k b : ℕ) → i < b → b < k → barred i k ≡ false → (c d : Cover)
      → Patch 𝓦 tri barred i b c → Patch 𝓦 tri barred b k d → BestAt 𝓦 tri barred i k b (apex b c d)
  apex_best i k b lo hi free c d p q = record {
    among = (allowed_apex barred i k b c d lo hi free p.among q.among, refl);
    least = lighter;
    soonest = first;
  }
    where
      lighter : (x : Cover) → AllowedAt barred i k b x → wt i k x ≺ wt i k (apex b c d) → ⊥
      lighter empty h l = absurd h.1
      lighter (apex m y z) h l =
          let y' : Allowed barred i b y = subst (λ (m : ℕ). Allowed barred i m y) h.1 (allowed_before barred i k m y z h.0) in
          let z' : Allowed barred b k z = subst (λ (m : ℕ). Allowed barred m k z) h.1 (allowed_after barred i k m y z h.0) in
          let l' : wt i k (apex b y z) ≺ wt i k (apex b c d) = subst (λ (m : ℕ). wt i k (apex m y z) ≺ wt i k (apex b c d)) h.1 l in
          at_most_keeps 𝓦 𝓛 _ _ (tri i k b) (at_most_add 𝓦 𝓛 (wt i b c) (wt i b y) (wt b k d) (wt b k z) (p.least y y') (q.least z z')) l'

      first : (x : Cover) → AllowedAt barred i k b x → wt i k x ≡ wt i k (apex b c d) → Sooner (apex b c d) x
      first empty h e = absurd h.1
      first (apex m y z) h e =
          let y' : Allowed barred i b y = subst (λ (m : ℕ). Allowed barred i m y) h.1 (allowed_before barred i k m y z h.0) in
          let z' : Allowed barred b k z = subst (λ (m : ℕ). Allowed barred m k z) h.1 (allowed_after barred i k m y z h.0) in
          let e' : wt i k (apex b y z) ≡ wt i k (apex b c d) = subst (λ (m : ℕ). wt i k (apex m y z) ≡ wt i k (apex b c d)) h.1 e in
          let s : (wt i b c ≡ wt i b y) × (wt b k d ≡ wt b k z) =
          parts_agree 𝓦 𝓛 (wt i b c) (wt i b y) (wt b k d) (wt b k z) (p.least y y') (q.least z z') (cancel 𝓦 𝓛 _ _ (tri i k b) (sym e')) in
          inr (sym h.1, p.soonest y y' (sym s.0), q.soonest z z' (sym s.1))

  -- One more apex: what is best below b and what is best at b give what is best below b + 1.
  module _ (i k b : ℕ) where
    pub none_more : NoneOf (AllowedBelow barred i k b) → NoneOf (AllowedAt barred i k b) → NoneOf (AllowedBelow barred i k (suc b))
    none_more p q x h = ⊎_elim (p x) (q x) (below_split barred i k b x h)

    pub keep_none : (c : Cover) → BestBelow 𝓦 tri barred i k b c → NoneOf (AllowedAt barred i k b) → BestBelow 𝓦 tri barred i k (suc b) c
    keep_none c p q = record {
      among = (p.among.0, below_suc b c p.among.1);
      least = λ x h. ⊎_elim (p.least x) (λ g. absurd (q x g)) (below_split barred i k b x h);
      soonest = λ x h. ⊎_elim (p.soonest x) (λ g. absurd (q x g)) (below_split barred i k b x h);
    }

    pub take_first : (d : Cover) → NoneOf (AllowedBelow barred i k b) → BestAt 𝓦 tri barred i k b d → BestBelow 𝓦 tri barred i k (suc b) d
    take_first d p q = record {
      among = (q.among.0, at_suc b d q.among.1);
      least = λ x h. ⊎_elim (λ g. absurd (p x g)) (q.least x) (below_split barred i k b x h);
      soonest = λ x h. ⊎_elim (λ g. absurd (p x g)) (q.soonest x) (below_split barred i k b x h);
    }

    pub take_lighter : (c d : Cover) → BestBelow 𝓦 tri barred i k b c → BestAt 𝓦 tri barred i k b d → wt i k d ≺ wt i k c → BestBelow 𝓦 tri barred i k (suc b) d
    take_lighter c d p q l = record {
      among = (q.among.0, at_suc b d q.among.1);
      least = λ x h. ⊎_elim (λ g m. p.least x g (𝓛.trans _ _ _ m l)) (q.least x) (below_split barred i k b x h);
      soonest = λ x h. ⊎_elim (λ g e. absurd (p.least x g (rw e l))) (q.soonest x) (below_split barred i k b x h);
    }

    pub keep_lighter : (c d : Cover) → BestBelow 𝓦 tri barred i k b c → BestAt 𝓦 tri barred i k b d → AtMost 𝓦 (wt i k c) (wt i k d) → BestBelow 𝓦 tri barred i k (suc b) c
    keep_lighter c d p q l = record {
      among = (p.among.0, below_suc b c p.among.1);
      least = λ x h. ⊎_elim (p.least x) (λ g m. at_most_trans 𝓦 𝓛 (wt i k c) (wt i k d) (wt i k x) l (q.least x g) m) (below_split barred i k b x h);
      soonest = λ x h. ⊎_elim (p.soonest x) (λ g e. sooner_below b c x p.among.1 g.1) (below_split barred i k b x h);
    }

  -- all apexes below k are all apexes
  pub best_all : (i k : ℕ) → suc i < k → (c : Cover) → BestBelow 𝓦 tri barred i k k c → Patch 𝓦 tri barred i k c
  best_all i k l c p = record {
    among = p.among.0;
    least = λ x h. p.least x (below_all barred i k l x h);
    soonest = λ x h. p.soonest x (below_all barred i k l x h);
  }

  -- a side's patch is empty
  pub patch_side : (i k : ℕ) → k ≡ suc i → Patch 𝓦 tri barred i k empty
  patch_side i k e = record {
    among = record { covers = e; free = λ a b u. absurd u };
    least = λ x h l. 𝓛.irrefl _ (subst (λ (y : Cover). wt i k y ≺ none) (only x h) l);
    soonest = λ x h e. tt;
  }
    where
      only : (x : Cover) → Allowed barred i k x → x ≡ empty
      only empty h = refl
      only (apex m y z) h = let a : i < m = h.covers.0 in let b : m < k = h.covers.1 in absurd (omega arith)

  pub step : (i k b : ℕ) → i < b → b < k → barred i k ≡ false → Patched 𝓦 tri barred i b → Patched 𝓦 tri barred b k
      → Answer 𝓦 tri barred i k (AllowedBelow barred i k b) → Answer 𝓦 tri barred i k (AllowedBelow barred i k (suc b))
  step i k b lo hi f (inr p) q (inl r) = inl (r.0, keep_none i k b r.0 r.1 (none_at_before barred i k b p))
  step i k b lo hi f (inr p) q (inr r) = inr (none_more i k b r (none_at_before barred i k b p))
  step i k b lo hi f (inl p) (inr q) (inl r) = inl (r.0, keep_none i k b r.0 r.1 (none_at_after barred i k b q))
  step i k b lo hi f (inl p) (inr q) (inr r) = inr (none_more i k b r (none_at_after barred i k b q))
  step i k b lo hi f (inl p) (inl q) (inr r) = inl (apex b p.0 q.0, take_first i k b _ r (apex_best i k b lo hi f p.0 q.0 p.1 q.1))
  step i k b lo hi f (inl p) (inl q) (inl r) = go (𝓛.total (wt i k d) (wt i k r.0))
    where
      d : Cover
      d = apex b p.0 q.0

      new : BestAt 𝓦 tri barred i k b d
      new = apex_best i k b lo hi f p.0 q.0 p.1 q.1

      go : (wt i k d ≺ wt i k r.0) ⊎ ((wt i k d ≡ wt i k r.0) ⊎ (wt i k r.0 ≺ wt i k d))
          → Answer 𝓦 tri barred i k (AllowedBelow barred i k (suc b))
      go (inl l) = inl (d, take_lighter i k b r.0 d r.1 new l)
      go (inr (inl e)) = inl (r.0, keep_lighter i k b r.0 d r.1 new (λ m. same_not_lighter 𝓦 𝓛 _ _ e m))
      go (inr (inr g)) = inl (r.0, keep_lighter i k b r.0 d r.1 new (λ m. 𝓛.irrefl _ (𝓛.trans _ _ _ m g)))

  -- the first n apexes
  scan : (i k : ℕ) → barred i k ≡ false → ((b : ℕ) → i < b → b < k → Patched 𝓦 tri barred i b × Patched 𝓦 tri barred b k)
      → (n : ℕ) → suc i + n ≤ k → Answer 𝓦 tri barred i k (AllowedBelow barred i k (suc i + n))
  scan i k f parts zero h = rw add-zero (inr (none_below barred i k))
  scan i k f parts (suc n) h =
      let b : ℕ = suc i + n in
      let p : Patched 𝓦 tri barred i b × Patched 𝓦 tri barred b k = parts b (omega arith) (omega arith) in
      rw add-suc (step i k b (omega arith) (omega arith) f p.0 p.1 (scan i k f parts n (omega arith)))

  choose : (i k : ℕ) → i < k → ((b : ℕ) → i < b → b < k → Patched 𝓦 tri barred i b × Patched 𝓦 tri barred b k) → Patched 𝓦 tri barred i k
  choose i k lo parts = go (dec_lt (suc i) k)
    where
      by_bar : suc i < k → (t : Bool) → barred i k ≡ t → Patched 𝓦 tri barred i k
      by_bar l true e = inr (none_barred barred i k l e)
      by_bar l false e =
          let s : Answer 𝓦 tri barred i k (AllowedBelow barred i k k) =
          subst (λ (b : ℕ). Answer 𝓦 tri barred i k (AllowedBelow barred i k b)) (omega arith) (scan i k e parts (k - suc i) (omega arith)) in
          ⊎_elim (λ p. inl (p.0, best_all i k l p.0 p.1)) (λ p. inr (none_all barred i k l p)) s

      go : Dec (suc i < k) → Patched 𝓦 tri barred i k
      go (yes l) = by_bar l (barred i k) refl
      go (no g) = inl (empty, patch_side i k (omega arith))

  -- by the length of the stretch, at most n
  within : (n i k : ℕ) → i < k → k ≤ i + n → Patched 𝓦 tri barred i k
  within zero i k lo hi = absurd (omega arith)
  within (suc n) i k lo hi = choose i k lo (λ b u v. (within n i b u (omega arith), within n b k v (omega arith)))

  pub patched : (i k : ℕ) → i < k → Patched 𝓦 tri barred i k
  patched i k lo = within k i k lo (omega arith)

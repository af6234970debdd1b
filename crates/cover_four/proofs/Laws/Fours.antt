-- A loop of four has two covers, one by each diagonal; the lighter allowed one is its patch, and of two as light the one by the apex 1.
use mathlib.Core.Path.{◌≡◌, refl, sym, ap, ◌∙◌, subst}
use mathlib.Core.Logic.{◌⊎◌, inl, inr, ⊎_elim}
use mathlib.Core.Bool.{Bool, true, false, true≢false}
use mathlib.Core.List.{List, [], ◌∷◌}
use Prim.Native.Nat.{ℕ, zero, suc, ◌+◌, ◌^◌, ◌<◌, ◌≤◌}
use native.Mathlib.Nat.{lt_of_le_of_lt}
use native.Mathlib.Omega.{arith}
use lib.Dec.{lit<}
use lib.Ieee.{Float}
use lib.IntN.{ℤ}
use lib.ListN.{length, get_or}
use Rattle.surface_rules.specs.Buffers.{laid}
use Rattle.surface_rules.proofs.Laws.Laid.{laid_then}
use Rattle.cover_rules.specs.Covers.{Cover, empty, apex, Covers, Allowed, NoCover, Sooner, weight, Patch, vertex_of}
use Rattle.cover_rules.specs.Workings.Least as covers
use Rattle.cover_rules.proofs.Laws.Least.{patch_least}
use Rattle.cover_rules.proofs.Laws.Parts.{allowed_apex, allowed_after, allowed_before, allowed_free}
use Rattle.cover_weight.specs.Weight.{Coordinates}
use Rattle.cover_weight.specs.Edition.{naturals, tri_of, along}
use Rattle.cover_weight.proofs.Laws.Naturals.{naturals_lawful}
use Rattle.cover_weight.proofs.Laws.Named.{named_on_grid}
use Rattle.cover_weight.proofs.Laws.Bounds.{weight_most}
use Rattle.cover_bits.specs.Workings.Masks.{bit}
use Rattle.std.proofs.Common.{Some, None}
use Rattle.cover_table.specs.Workings.Loops.{Barring, LoopRoom}
use Rattle.cover_trace.specs.Workings.Patches.{LaysPatch, FindsLeast}
use Rattle.cover_four.specs.Workings.Fours.{one_way, two_way, FourOn, FourRoom, by_one, by_two, Taken, Takes}

-- ---- there are no others

side_only : (i : ℕ) (c : Cover) → Covers i (suc i) c → c ≡ empty
side_only i empty h = refl
side_only i (apex m c d) h = let a : i < m = h.0 in let b : m < suc i = h.1 in absurd (omega arith)

-- a stretch of three has one
pair_only : (i : ℕ) (c : Cover) → Covers i (suc (suc i)) c → c ≡ apex (suc i) empty empty
pair_only i empty h = absurd (omega (arith, h))
pair_only i (apex m c d) h =
    let a : i < m = h.0 in
    let b : m < suc (suc i) = h.1 in
    let e : m ≡ suc i = omega arith in
    ap (λ (n : ℕ). apex n c d) e
    ∙ ap (λ (x : Cover). apex (suc i) x d) (side_only i c (subst (λ (n : ℕ). Covers i n c) e h.2))
    ∙ ap (apex (suc i) empty) (side_only (suc i) d (subst (λ (n : ℕ). Covers n (suc (suc i)) d) e h.3))

four_only : (c : Cover) → Covers 0 3 c → (c ≡ one_way) ⊎ (c ≡ two_way)
four_only empty h = absurd (omega (arith, h))
four_only (apex zero c d) h = absurd (omega (arith, h.0))
four_only (apex (suc zero) c d) h = inl (ap (λ (x : Cover). apex 1 x d) (side_only 0 c h.2) ∙ ap (apex 1 empty) (pair_only 1 d h.3))
four_only (apex (suc (suc zero)) c d) h = inr (ap (λ (x : Cover). apex 2 x d) (pair_only 0 c h.2) ∙ ap (apex 2 (apex 1 empty empty)) (side_only 2 d h.3))
four_only (apex (suc (suc (suc m))) c d) h = absurd (omega (arith, h.1))

-- ---- which are allowed

module _ (barred : ℕ → ℕ → Bool) where
  side_allowed : (i : ℕ) → Allowed barred i (suc i) empty
  side_allowed i = record { covers = refl; free = λ a b u. absurd u }

  one_allowed : barred 0 3 ≡ false → barred 1 3 ≡ false → Allowed barred 0 3 one_way
  one_allowed f g = allowed_apex barred 0 3 1 empty (apex 2 empty empty) (lit< tt) (lit< tt) f (side_allowed 0) (allowed_apex barred 1 3 2 empty empty (lit< tt) (lit< tt) g (side_allowed 1) (side_allowed 2))

  two_allowed : barred 0 3 ≡ false → barred 0 2 ≡ false → Allowed barred 0 3 two_way
  two_allowed f g = allowed_apex barred 0 3 2 (apex 1 empty empty) empty (lit< tt) (lit< tt) f (allowed_apex barred 0 2 1 empty empty (lit< tt) (lit< tt) g (side_allowed 0) (side_allowed 1)) (side_allowed 2)

  one_free : Allowed barred 0 3 one_way → barred 1 3 ≡ false
  one_free a = allowed_free barred 1 3 2 empty empty (allowed_after barred 0 3 1 empty (apex 2 empty empty) a)

  two_free : Allowed barred 0 3 two_way → barred 0 2 ≡ false
  two_free a = allowed_free barred 0 2 1 empty empty (allowed_before barred 0 3 2 (apex 1 empty empty) empty a)

  four_free : (c : Cover) → Allowed barred 0 3 c → barred 0 3 ≡ false
  four_free empty a = absurd (omega (arith, a.covers))
  four_free (apex m c d) a = allowed_free barred 0 3 m c d a

  none_closed : barred 0 3 ≡ true → NoCover barred 0 3
  none_closed t c a = true≢false (sym t ∙ four_free c a)

  none_across : barred 1 3 ≡ true → barred 0 2 ≡ true → NoCover barred 0 3
  none_across s t c a =
      ⊎_elim
      (λ (e : c ≡ one_way). true≢false (sym s ∙ one_free (subst (Allowed barred 0 3) e a)))
      (λ (e : c ≡ two_way). true≢false (sym t ∙ two_free (subst (Allowed barred 0 3) e a)))
      (four_only c a.covers)

  -- ---- which is the patch

  module _ (tri : ℕ → ℕ → ℕ → ℕ) where
    abbrev wt : Cover → ℕ
    wt = weight naturals tri 0 3

    one_best : barred 0 3 ≡ false → barred 1 3 ≡ false → (barred 0 2 ≡ false → wt one_way ≤ wt two_way) → Patch naturals tri barred 0 3 one_way
    one_best f g l = record {
      among = one_allowed f g;
      least =
          λ d a h.
          ⊎_elim
          (λ (e : d ≡ one_way). let q : wt d ≡ wt one_way = ap wt e in omega arith)
          (λ (e : d ≡ two_way). let q : wt d ≡ wt two_way = ap wt e in let m : wt one_way ≤ wt two_way = l (two_free (subst (Allowed barred 0 3) e a)) in omega arith)
          (four_only d a.covers);
      soonest =
          λ d a q.
          ⊎_elim
          (λ (e : d ≡ one_way). subst (Sooner one_way) (sym e) (inr (refl, tt, inr (refl, tt, tt))))
          (λ (e : d ≡ two_way). subst (Sooner one_way) (sym e) (inl (lit< tt)))
          (four_only d a.covers);
    }

    two_best : barred 0 3 ≡ false → barred 0 2 ≡ false → (barred 1 3 ≡ false → wt two_way < wt one_way) → Patch naturals tri barred 0 3 two_way
    two_best f g l = record {
      among = two_allowed f g;
      least =
          λ d a h.
          ⊎_elim
          (λ (e : d ≡ one_way). let q : wt d ≡ wt one_way = ap wt e in let m : wt two_way < wt one_way = l (one_free (subst (Allowed barred 0 3) e a)) in omega arith)
          (λ (e : d ≡ two_way). let q : wt d ≡ wt two_way = ap wt e in omega arith)
          (four_only d a.covers);
      soonest =
          λ d a q.
          ⊎_elim
          (λ (e : d ≡ one_way). let r : wt d ≡ wt one_way = ap wt e in let m : wt two_way < wt one_way = l (one_free (subst (Allowed barred 0 3) e a)) in absurd (omega arith))
          (λ (e : d ≡ two_way). subst (Sooner two_way) (sym e) (inr (refl, inr (refl, tt, tt), tt)))
          (four_only d a.covers);
    }

-- ---- the least weight

module _ {grid : List ℤ} {ring bars : List ℕ} (r : FourOn grid ring bars) where
  told : {barred : ℕ → ℕ → Bool} → Barring barred ring bars → (a b : ℕ) → a < 4 → b < 4 → bit (get_or bars a 0) b ≡ barred a b
  told k a b l m = k.rows.tells a b (omega (arith, r.four)) (omega arith)

  abbrev at : ℕ → ℕ → ℕ → ℕ
  at = tri_of (along grid ring)

  patch_weighs : {barred : ℕ → ℕ → Bool} {c : Cover} → Patch naturals at barred 0 3 c → {w : ℕ} → w ≡ weight naturals at 0 3 c → covers.Least naturals at barred 0 3 w
  patch_weighs {barred} {c} p e = subst (covers.Least naturals at barred 0 3) (sym e) (patch_least naturals naturals_lawful at barred 0 3 c p)

  pub least_none : Takes grid ring bars None → FindsLeast grid ring bars None
  least_none h barred k =
      rw r.four
      (⊎_elim
      (λ (t : bit (get_or bars 0 0) 3 ≡ true). none_closed barred (sym (told k 0 3 (lit< tt) (lit< tt)) ∙ t))
      (λ (t : (bit (get_or bars 1 0) 3 ≡ true) × (bit (get_or bars 0 0) 2 ≡ true)).
      none_across barred (sym (told k 1 3 (lit< tt) (lit< tt)) ∙ t.0) (sym (told k 0 2 (lit< tt) (lit< tt)) ∙ t.1))
      h)

  -- s tells which of the two is taken
  module _ {s : Bool} (t : Taken grid ring bars s) where
    free : {barred : ℕ → ℕ → Bool} → Barring barred ring bars → barred 0 3 ≡ false
    free k = sym (told k 0 3 (lit< tt) (lit< tt)) ∙ t.open_side

    pub patch_two : s ≡ true → {barred : ℕ → ℕ → Bool} → Barring barred ring bars → Patch naturals at barred 0 3 two_way
    patch_two y {barred} k =
        two_best barred at (free k) (sym (told k 0 2 (lit< tt) (lit< tt)) ∙ t.goes.free y)
        (λ h. let m : by_two grid ring < by_one grid ring = t.goes.lighter y (told k 1 3 (lit< tt) (lit< tt) ∙ h) in omega arith)

    pub patch_one : s ≡ false → {barred : ℕ → ℕ → Bool} → Barring barred ring bars → Patch naturals at barred 0 3 one_way
    patch_one n {barred} k =
        one_best barred at (free k) (sym (told k 1 3 (lit< tt) (lit< tt)) ∙ t.one_free n)
        (λ h. let m : by_one grid ring ≤ by_two grid ring = t.goes.heavier n (t.one_free n) (told k 0 2 (lit< tt) (lit< tt) ∙ h) in omega arith)

    pub least_two : s ≡ true → {w : ℕ} → w ≡ by_two grid ring → FindsLeast grid ring bars (Some w)
    least_two y x barred k = rw r.four (patch_weighs (patch_two y k) (x ∙ omega arith))

    pub least_one : s ≡ false → {w : ℕ} → w ≡ by_one grid ring → FindsLeast grid ring bars (Some w)
    least_one n x barred k = rw r.four (patch_weighs (patch_one n k) (x ∙ omega arith))

pub four_there : {grid : List ℤ} {ring bars : List ℕ} {table : List Float} → LoopRoom grid ring bars table → length ring ≡ 4 → FourOn grid ring bars
four_there r e = record { on = r.on; four = e; rows = r.barring.rows.long }

-- ---- what is laid

module _ {grid : List ℤ} {ring bars buffer : List ℕ} {p : ℕ} (r : FourRoom grid ring bars buffer p) where
  six : (a b c d e f : ℕ) {buffer' buffer'' : List ℕ} → buffer' ≡ laid p (a ∷ b ∷ c ∷ []) buffer → buffer'' ≡ laid (p + 3) (d ∷ e ∷ f ∷ []) buffer'
      → buffer'' ≡ laid p (a ∷ b ∷ c ∷ d ∷ e ∷ f ∷ []) buffer
  six a b c d e f x y =
      y ∙ ap (laid (p + 3) (d ∷ e ∷ f ∷ [])) x ∙ laid_then p (p + 3) (a ∷ b ∷ c ∷ []) (d ∷ e ∷ f ∷ []) buffer refl (omega (arith, r.room))

  pub four_none : Takes grid ring bars None → LaysPatch grid ring bars buffer p None buffer
  four_none h barred k = (least_none r.there h barred k, refl)

  module _ {s : Bool} (t : Taken grid ring bars s) where
    pub four_two : s ≡ true → {buffer' buffer'' : List ℕ} → buffer' ≡ laid p (vertex_of ring 0 ∷ vertex_of ring 3 ∷ vertex_of ring 2 ∷ []) buffer
        → buffer'' ≡ laid (p + 3) (vertex_of ring 0 ∷ vertex_of ring 2 ∷ vertex_of ring 1 ∷ []) buffer'
        → {w : ℕ} → w ≡ by_two grid ring → LaysPatch grid ring bars buffer p (Some w) buffer''
    four_two y x₁ x₂ x barred k = rw r.there.four (two_way, patch_two r.there t y k, x ∙ omega arith, six _ _ _ _ _ _ x₁ x₂)

    pub four_one : s ≡ false → {buffer' buffer'' : List ℕ} → buffer' ≡ laid p (vertex_of ring 0 ∷ vertex_of ring 3 ∷ vertex_of ring 1 ∷ []) buffer
        → buffer'' ≡ laid (p + 3) (vertex_of ring 1 ∷ vertex_of ring 3 ∷ vertex_of ring 2 ∷ []) buffer'
        → {w : ℕ} → w ≡ by_one grid ring → LaysPatch grid ring bars buffer p (Some w) buffer''
    four_one n x₁ x₂ x barred k = rw r.there.four (one_way, patch_one r.there t n k, x ∙ omega arith, six _ _ _ _ _ _ x₁ x₂)

-- ---- what the code finds

pub weighed : (grid : List ℤ) (ring : List ℕ) (i k m : ℕ) → Coordinates grid → {w : ℕ} → w ≡ tri_of (along grid ring) i k m
    → (w ≡ tri_of (along grid ring) i k m) × (w < 2 ^ 35)
weighed grid ring i k m h e =
    let n = named_on_grid grid h in (
      e,
      subst (λ (x : ℕ). x < 2 ^ 35) (sym e) (lt_of_le_of_lt (weight_most (along grid ring i) (along grid ring k) (along grid ring m) (n (get_or ring i 0), n (get_or ring k 0), n (get_or ring m 0))) (lit< tt)),
    )

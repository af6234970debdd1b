-- The patch of a stretch is the triangle at the first apex and the patches of the two parts, listed one after the other.
use mathlib.Core.Path.{◌≡◌, refl, sym, ap, ◌∙◌, subst}
use mathlib.Core.Logic.{inl, inr}
use mathlib.Core.Bool.{Bool}
use mathlib.Core.List.{List, [], ◌∷◌, ◌++◌, append_assoc}
use Prim.Native.Nat.{ℕ, suc, ◌+◌, ◌-◌, ◌*◌, ◌≤◌, ◌<◌}
use native.Mathlib.Omega.{arith}
use native.Mathlib.Decide.{dec_lt}
use lib.ListN.{length, take, drop, length-append}
use lib.Seq.{take-append-le, take-take, drop_at, length-take-le}
use lib.Ieee.{Float}
use Rattle.surface_rules.specs.Buffers.{laid}
use Rattle.surface_rules.proofs.Laws.Laid.{laid_none, laid_then, laid_length}
use Rattle.cover_rules.specs.Covers.{Cover, empty, apex, Covers, triangles, corners_of, vertex_of, Sooner, weight, Allowed, Patch}
use Rattle.cover_rules.specs.Workings.Least.{Least, MadeAt}
use Rattle.cover_rules.proofs.Laws.Parts.{allowed_apex, allowed_free, patch_before, patch_after}
use Rattle.cover_rules.proofs.Laws.Least.{made_at, patch_weighs}
use Rattle.cover_rules.proofs.Laws.Corners.{corners_append, cover_corners}
use Rattle.cover_weight.specs.declared.Point.{Point}
use Rattle.cover_weight.specs.Edition.{naturals, tri_of}
use Rattle.cover_weight.proofs.Laws.Naturals.{naturals_lawful}
use Rattle.cover_trace.specs.Workings.Ways.{Weighed, Middle, First}
use Rattle.cover_trace.specs.Workings.Lists.{ListRoom, ListsPatch}

-- ---- the patch has the first apex

module _ {tri : ℕ → ℕ → ℕ → ℕ} {barred : ℕ → ℕ → Bool} {i k w m : ℕ} (l : Least naturals tri barred i k w) (a : MadeAt naturals tri barred i k w m)
    (first : (j : ℕ) → j < m → MadeAt naturals tri barred i k w j → ⊥) where
  -- the patch's apex is no later than m, since a cover with the apex m is as light
  no_later : (j : ℕ) (y z : Cover) → Patch naturals tri barred i k (apex j y z) → m < j → ⊥
  no_later j y z p h = go (p.soonest other allowed as_light)
    where
      other : Cover
      other = apex m a.left_least.cover a.right_least.cover

      allowed : Allowed barred i k (apex m a.left_least.cover a.right_least.cover)
      allowed = allowed_apex barred i k m a.left_least.cover a.right_least.cover a.low a.high (allowed_free barred i k j y z p.among) a.left_least.among a.right_least.among

      as_light : weight naturals tri i k (apex m a.left_least.cover a.right_least.cover) ≡ weight naturals tri i k (apex j y z)
      as_light =
          ap (λ (u : ℕ). tri i k m + (u + weight naturals tri m k a.right_least.cover)) a.left_least.weighs
          ∙ ap (λ (v : ℕ). tri i k m + (a.left + v)) a.right_least.weighs
          ∙ a.makes
          ∙ sym (patch_weighs naturals naturals_lawful tri barred i k w (apex j y z) l p)

      go : Sooner (apex j y z) (apex m a.left_least.cover a.right_least.cover) → ⊥
      go (inl g) = omega arith
      go (inr g) = let e : j ≡ m = g.0 in omega arith

  patch_splits : (c : Cover) → suc i < k → Patch naturals tri barred i k c
      → (y z : Cover) × (c ≡ apex m y z) × Patch naturals tri barred i m y × Patch naturals tri barred m k z
  patch_splits empty h p = let e : k ≡ suc i = p.among.covers in absurd (omega arith)
  patch_splits (apex j y z) h p = (
    y,
    z,
    ap (λ (x : ℕ). apex x y z) same,
    subst (λ (x : ℕ). Patch naturals tri barred i x y) same (patch_before naturals naturals_lawful tri barred i k j y z p),
    subst (λ (x : ℕ). Patch naturals tri barred x k z) same (patch_after naturals naturals_lawful tri barred i k j y z p),
  )
    where
      not_sooner : j < m → ⊥
      not_sooner g = first j g (made_at naturals naturals_lawful tri barred i k w l j y z p.among (patch_weighs naturals naturals_lawful tri barred i k w (apex j y z) l p))

      same : j ≡ m
      same = go (dec_lt j m) (dec_lt m j)
        where
          go : Dec (j < m) → Dec (m < j) → j ≡ m
          go (yes g) q = absurd (not_sooner g)
          go (no g) (yes q) = absurd (no_later j y z p q)
          go (no g) (no q) = omega arith

-- ---- what is laid in front of what stands there

laid_before : {A : Type 0} (p q : ℕ) (a b w : List A) → q ≡ p + length a → q ≤ length w → laid p a (laid q b w) ≡ laid p (a ++ b) w
unfolding laid
laid_before {A} p q a b w e l =
    let m : length (a ++ b) ≡ length a + length b = length-append a b in
    let n : length (take q w) ≡ q = length-take-le q w l in
    let z : q + length b ≡ p + length (a ++ b) = omega arith in
    let rest : List A = b ++ drop (q + length b) w in
    ap (λ (r : List A). r ++ (a ++ drop (p + length a) (take q w ++ rest))) (take-append-le p (take q w) rest (omega arith) ∙ take-take p q w (omega arith))
    ∙ ap (λ (k : ℕ). take p w ++ (a ++ drop k (take q w ++ rest))) (sym e)
    ∙ ap (λ (r : List A). take p w ++ (a ++ r)) (drop_at (take q w) rest q n)
    ∙ ap (λ (k : ℕ). take p w ++ (a ++ (b ++ drop k w))) z
    ∙ ap (λ (r : List A). take p w ++ r) (sym (append_assoc a b (drop (p + length (a ++ b)) w)))

-- ---- the listing

-- a side has no triangle
lists_side : {quarter : ℕ} {table : List Float} (ring : List ℕ) {buffer : List ℕ} (p : ℕ) {i k : ℕ} → i + 1 ≡ k
    → ListsPatch quarter table ring buffer p i k buffer
lists_side ring {buffer} p {i} {k} e at barred n w q c h = go c h.among.covers
  where
    go : (c : Cover) → Covers i k c → buffer ≡ laid p (corners_of (vertex_of ring) (triangles i k c)) buffer
    go empty v = sym (laid_none p buffer)
    go (apex m y z) v = let lo : i < m = v.0 in let hi : m < k = v.1 in absurd (omega arith)

-- both parts of a stretch of the loop are such
module _ {at : ℕ → Point} {barred : ℕ → ℕ → Bool} {quarter n : ℕ} {table : List Float} {i k w m : ℕ} (q : Weighed at barred quarter n table i k w) (a : MadeAt naturals (tri_of at) barred i k w m) where
  weighed_before : Weighed at barred quarter n table i m a.left
  weighed_before = record { loop = q.loop; filled = q.filled; low = a.low; high = omega (arith, a.high, q.high); least = a.left_least }

  weighed_after : Weighed at barred quarter n table m k a.right
  weighed_after = record { loop = q.loop; filled = q.filled; low = a.high; high = q.high; least = a.right_least }

module _ {quarter : ℕ} {table : List Float} {ring buffer : List ℕ} {p i k m : ℕ} (r : ListRoom quarter table ring buffer p i k) (mid : (i < m) × (m < k) × Middle quarter table i k m) where
  made : MadeAt naturals (tri_of r.weighable.at) r.weighable.barred i k r.weighable.w m
  made = let q = r.weighable in (mid.2 q.at q.barred q.n q.w q.weighed).made

  inside : (i < m) × (m < k) × (k < length ring) × (p + 3 * (k - i - 1) ≤ length buffer)
  inside = (mid.0, mid.1, r.in_ring, r.room)

  -- the triangle that is laid first, and the corners of the parts
  abbrev one : List ℕ
  one = vertex_of ring i ∷ vertex_of ring k ∷ vertex_of ring m ∷ []

  abbrev before : Cover → List ℕ
  before y = corners_of (vertex_of ring) (triangles i m y)

  abbrev after : Cover → List ℕ
  after z = corners_of (vertex_of ring) (triangles m k z)

  module _ {buffer₁ : List ℕ} (e₁ : buffer₁ ≡ laid p one buffer) where
    same₁ : length buffer₁ ≡ length buffer
    same₁ = ap length e₁ ∙ laid_length p buffer one (omega (arith, inside))

    module _ {buffer₂ : List ℕ} (same : length buffer₂ ≡ length buffer₁) where
      -- there is room for either part, when the other is listed or not
      pub room_before : ListRoom quarter table ring buffer₂ (p + 3) i m
      room_before = record {
        weighable = record { at = r.weighable.at; barred = r.weighable.barred; n = r.weighable.n; w = made.left; weighed = weighed_before r.weighable.weighed made };
        in_ring = omega (arith, inside);
        room = omega (arith, inside, same₁, same);
      }

      pub room_after : {q : ℕ} → q ≡ p + 3 * (m - i) → ListRoom quarter table ring buffer₂ q m k
      room_after e = record {
        weighable = record { at = r.weighable.at; barred = r.weighable.barred; n = r.weighable.n; w = made.right; weighed = weighed_after r.weighable.weighed made };
        in_ring = r.in_ring;
        room = omega (arith, inside, same₁, same);
      }

    -- the two parts behind the triangle are the whole
    module _ {buffer₃ : List ℕ} where
      lists_whole : ((at : ℕ → Point) (barred : ℕ → ℕ → Bool) (n w : ℕ) → Weighed at barred quarter n table i k w → (y z : Cover)
          → Patch naturals (tri_of at) barred i m y → Patch naturals (tri_of at) barred m k z → buffer₃ ≡ laid (p + 3) (before y ++ after z) buffer₁)
          → ListsPatch quarter table ring buffer p i k buffer₃
      lists_whole both at barred n w x c h = go (patch_splits x.least first.made first.none_before c (omega (arith, inside)) h)
        where
          first : First at barred i k w m
          first = mid.2 at barred n w x

          go : (y z : Cover) × (c ≡ apex m y z) × Patch naturals (tri_of at) barred i m y × Patch naturals (tri_of at) barred m k z
              → buffer₃ ≡ laid p (corners_of (vertex_of ring) (triangles i k c)) buffer
          go s =
              both at barred n w x s.0 s.1 s.3 s.4
              ∙ ap (laid (p + 3) (before s.0 ++ after s.1)) e₁
              ∙ laid_then p (p + 3) one (before s.0 ++ after s.1) buffer refl (omega (arith, inside))
              ∙ ap (λ (u : List ℕ). laid p (one ++ u) buffer) (sym (corners_append (vertex_of ring) (triangles i m s.0) (triangles m k s.1)))
              ∙ ap (λ (u : Cover). laid p (corners_of (vertex_of ring) (triangles i k u)) buffer) (sym s.2)

      -- whichever of them is laid first
      module _ {q : ℕ} (e : q ≡ p + 3 * (m - i)) {buffer₂ : List ℕ} where
        lists_after : ListsPatch quarter table ring buffer₁ (p + 3) i m buffer₂ → ListsPatch quarter table ring buffer₂ q m k buffer₃
            → ListsPatch quarter table ring buffer p i k buffer₃
        lists_after b d = lists_whole (λ at barred n w x y z g h.
            let f = (mid.2 at barred n w x).made in
            let l : length (before y) ≡ 3 * (m - i - 1) = cover_corners (vertex_of ring) i m y g.among.covers in
            d at barred n f.right (weighed_after x f) z h
            ∙ ap (laid q (after z)) (b at barred n f.left (weighed_before x f) y g)
            ∙ laid_then (p + 3) q (before y) (after z) buffer₁ (omega (arith, inside)) (omega (arith, inside, same₁)))

        lists_before : ListsPatch quarter table ring buffer₁ q m k buffer₂ → ListsPatch quarter table ring buffer₂ (p + 3) i m buffer₃
            → ListsPatch quarter table ring buffer p i k buffer₃
        lists_before b d = lists_whole (λ at barred n w x y z g h.
            let f = (mid.2 at barred n w x).made in
            let l : length (before y) ≡ 3 * (m - i - 1) = cover_corners (vertex_of ring) i m y g.among.covers in
            d at barred n f.left (weighed_before x f) y g
            ∙ ap (laid (p + 3) (before y)) (b at barred n f.right (weighed_after x f) z h)
            ∙ laid_before (p + 3) q (before y) (after z) buffer₁ (omega (arith, inside)) (omega (arith, inside, same₁)))

-- ---- turn by turn

-- what is left to list is from..to, and with its patch the whole of i..k is listed
pub record Going (quarter : ℕ) (table : List Float) (ring whole : List ℕ) (p i k : ℕ) (buffer : List ℕ) (at from to : ℕ) : Type 0 where
  pub room : ListRoom quarter table ring buffer at from to
  pub shorter : to + i ≤ k + from
  pub kept : length buffer ≡ length whole
  pub rest : (b : List ℕ) → ListsPatch quarter table ring buffer at from to b → ListsPatch quarter table ring whole p i k b

pub going_begins : {quarter : ℕ} {table : List Float} {ring buffer : List ℕ} {p i k : ℕ} → ListRoom quarter table ring buffer p i k
    → Going quarter table ring buffer p i k buffer p i k
going_begins r = record { room = r; shorter = omega arith; kept = refl; rest = λ b l. l }

module _ {quarter : ℕ} {table : List Float} {ring whole : List ℕ} {p i k : ℕ} {buffer : List ℕ} {at from to : ℕ}
    (g : Going quarter table ring whole p i k buffer at from to) where
  module _ {m : ℕ} (mid : (from < m) × (m < to) × Middle quarter table from to m) where
    pub going_less : {t : ℕ} → k - i ≡ t → (m - from < t) × (to - m < t)
    going_less h = (omega (arith, mid, g.shorter), omega (arith, mid, g.shorter))

  module _ {m : ℕ} (mid : (from < m) × (m < to) × Middle quarter table from to m) {buffer₁ : List ℕ}
      (e : buffer₁ ≡ laid at (vertex_of ring from ∷ vertex_of ring to ∷ vertex_of ring m ∷ []) buffer) where
    module _ {q : ℕ} (a : q ≡ at + 3 * (m - from)) {buffer₂ : List ℕ} (same : length buffer₂ ≡ length buffer₁) where
      -- with the part behind the apex, where the part before it is listed
      pub going_after : ListsPatch quarter table ring buffer₁ (at + 3) from m buffer₂ → Going quarter table ring whole p i k buffer₂ q m to
      going_after l = record {
        room = room_after g.room mid e same a;
        shorter = omega (arith, mid, g.shorter);
        kept = same ∙ same₁ g.room mid e ∙ g.kept;
        rest = λ b d. g.rest b (lists_after g.room mid e a l d);
      }

      -- and with the part before it, where the part behind it is
      pub going_before : ListsPatch quarter table ring buffer₁ q m to buffer₂ → Going quarter table ring whole p i k buffer₂ (at + 3) from m
      going_before l = record {
        room = room_before g.room mid e same;
        shorter = omega (arith, mid, g.shorter);
        kept = same ∙ same₁ g.room mid e ∙ g.kept;
        rest = λ b d. g.rest b (lists_before g.room mid e a l d);
      }

    -- a part that is a side needs no listing
    pub going_past_side : from + 1 ≡ m → Going quarter table ring whole p i k buffer₁ (at + 3) m to
    going_past_side h = going_after (omega arith) refl (lists_side ring (at + 3) h)

    pub going_up_to_side : m + 1 ≡ to → Going quarter table ring whole p i k buffer₁ (at + 3) from m
    going_up_to_side h = going_before refl refl (lists_side ring (at + 3 * (m - from)) h)

  -- until a side is left
  pub going_ends : to ≤ from + 1 → ListsPatch quarter table ring whole p i k buffer
  going_ends h = g.rest buffer (lists_side ring at (omega (arith, g.room.weighable.weighed.low)))

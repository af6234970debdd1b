-- The first sides of laid triangles are chained one after the other.
use mathlib.Core.Path.{◌≡◌, refl, ap, ◌∙◌}
use mathlib.Core.List.{List, [], ◌∷◌, ◌++◌}
use Prim.Native.Nat.{ℕ, suc, ◌+◌, ◌-◌, ◌*◌, ◌/◌, ◌^◌, ◌<◌, ◌≤◌}
use native.Mathlib.Omega.{arith}
use lib.ListN.{length, get_or, take, drop}
use lib.Seq.{slice, slice_empty, length-slice, take-add, drop-append-le, drop-cons, length-take-le}
use Rattle.cover_rules.specs.Covers.{patch_of}
use Rattle.cover_bars.specs.Workings.Chains.{Edge, edge_of, ChainDone, firsts, LaidRoom, LaidDone}
use Rattle.cover_bars.proofs.Laws.Chaining.{Behind, behind_none, behind_more, behind_tells}
use Rattle.cover_bars.proofs.Laws.Triples.{firsts_append, firsts_length}
use Rattle.cover_bars.proofs.Laws.Laid.{laid_same}

-- so many triangles are chained, an edge each
pub record Laying (patches : List ℕ) (p end : ℕ) (heads₀ links₀ ends₀ : List ℕ) (e t : ℕ) (heads links ends : List ℕ) : Type 0 where
  pub room : LaidRoom patches p end heads₀ links₀ ends₀ e
  pub till : p + 3 * t ≤ end
  pub behind : Behind e heads₀ links₀ ends₀ (firsts (slice p (p + 3 * t) patches)) heads links ends

-- ---- slices

three_at : (l : List ℕ) (q : ℕ) → q + 3 ≤ length l → take 3 (drop q l) ≡ get_or l q 0 ∷ (get_or l (q + 1) 0 ∷ (get_or l (q + 2) 0 ∷ []))
three_at l q m =
    let e₁ : suc q ≡ q + 1 = omega arith in
    let e₂ : suc (q + 1) ≡ q + 2 = omega arith in
    ap (take 3)
    (drop-cons l q 0 (omega arith)
    ∙ ap (λ (t : List ℕ). get_or l q 0 ∷ t)
    (ap (λ (z : ℕ). drop z l) e₁ ∙ drop-cons l (q + 1) 0 (omega arith)
    ∙ ap (λ (t : List ℕ). get_or l (q + 1) 0 ∷ t) (ap (λ (z : ℕ). drop z l) e₂ ∙ drop-cons l (q + 2) 0 (omega arith))))

slice_more : (l : List ℕ) (p q : ℕ) → p ≤ q → q + 3 ≤ length l → slice p (q + 3) l ≡ slice p q l ++ (get_or l q 0 ∷ (get_or l (q + 1) 0 ∷ (get_or l (q + 2) 0 ∷ [])))
slice_more l p q s m =
    let n : length (take q l) ≡ q = length-take-le q l (omega arith) in
    ap (drop p) (take-add q 3 l)
    ∙ drop-append-le p (take q l) (take 3 (drop q l)) (omega arith)
    ∙ ap (λ (t : List ℕ). slice p q l ++ t) (three_at l q m)

firsts_one : (a b c : ℕ) → firsts (a ∷ (b ∷ (c ∷ []))) ≡ edge_of a b ∷ []
unfolding firsts
firsts_one a b c = refl

firsts_none : (p q : ℕ) (l : List ℕ) → q ≡ p → firsts (slice p q l) ≡ []
unfolding firsts
firsts_none p q l e = ap (λ (z : ℕ). firsts (slice p z l)) e ∙ ap firsts (slice_empty p l)

-- ---- the loop

pub laying_begins : {patches : List ℕ} {p end : ℕ} {heads links ends : List ℕ} {e : ℕ} → LaidRoom patches p end heads links ends e
    → Laying patches p end heads links ends e 0 heads links ends
laying_begins {patches} {p} room =
    record { room = room; till = omega (arith, room.forward); behind = behind_none room.heads_long (firsts_none p (p + 3 * 0) patches (omega arith)) }

module _ {patches : List ℕ} {p end : ℕ} {heads₀ links₀ ends₀ : List ℕ} {e t : ℕ} {heads links ends : List ℕ}
    (going : Laying patches p end heads₀ links₀ ends₀ e t heads links ends) where
  -- the next triangle's place
  abbrev q : ℕ
  q = p + 3 * t

  many : length (firsts (slice p q patches)) ≡ t
  many =
      let r = going.room.within in
      let i = going.till in
      let s : length (slice p q patches) ≡ q - p = length-slice p q patches (omega arith) in
      omega (arith, firsts_length (slice p q patches))

  pub laying_ends : (end - p) / 3 ≤ t → LaidDone (slice p end patches) heads₀ links₀ ends₀ e (e + (end - p) / 3) heads links ends
  laying_ends l =
      let r = going.room in
      let x : q ≡ end = omega (arith, going.till, r.forward, r.triples) in
      record {
        count = omega (arith, length-slice p end patches r.within);
        heads_long = going.behind.heads_long;
        tells =
            λ input laid ring c whole covers sides is.
            let i : slice p q patches ≡ patch_of ring c = ap (λ (z : ℕ). slice p z patches) x ∙ is in
            behind_tells going.behind (omega (arith, many)) (λ u v. rw i (laid_same input laid ring c whole covers sides u v));
      }

  module _ (more : t < (end - p) / 3) where
    pub laying_inside : (q + 3 ≤ end) × (end ≤ length patches) × (e + t < e + (end - p) / 3) × (e + (end - p) / 3 < 2 ^ 16)
    laying_inside = (omega arith, going.room.within, omega arith, going.room.few)

    firsts_more : firsts (slice p (p + 3 * (t + 1)) patches) ≡ firsts (slice p q patches) ++ (edge_of (get_or patches q 0) (get_or patches (q + 1) 0) ∷ [])
    firsts_more =
        let i = laying_inside in
        let s : length (slice p q patches) ≡ q - p = length-slice p q patches (omega arith) in
        let o : p + 3 * (t + 1) ≡ q + 3 = omega arith in
        ap (λ (z : ℕ). firsts (slice p z patches)) o
        ∙ ap firsts (slice_more patches p q (omega arith) (omega arith))
        ∙ firsts_append (slice p q patches) (get_or patches q 0 ∷ (get_or patches (q + 1) 0 ∷ (get_or patches (q + 2) 0 ∷ []))) (omega arith)
        ∙ ap (λ (x : List Edge). firsts (slice p q patches) ++ x) (firsts_one (get_or patches q 0) (get_or patches (q + 1) 0) (get_or patches (q + 2) 0))

    pub laying_more : {heads' links' ends' : List ℕ} → ChainDone (e + t) (get_or patches q 0) (get_or patches (q + 1) 0) heads links ends heads' links' ends'
        → Laying patches p end heads₀ links₀ ends₀ e (t + 1) heads' links' ends'
    laying_more done = record { room = going.room; till = omega (arith, laying_inside); behind = behind_more going.behind (omega (arith, many)) firsts_more done }

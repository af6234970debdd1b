-- A set has one verdict at most. One loop has one fault at most, and none if it is right: a set is one cover at most, so the cover that has a
-- barred diagonal is not the allowed one, and the one that has a lighter one is not the one that has none.
use mathlib.Core.Path.{◌≡◌, refl, sym, ap, ◌∙◌, subst}
use mathlib.Core.Bool.{false, true≢false, Bool, true}
use mathlib.Core.Logic.{inl, inr}
use mathlib.Core.List.{List, [], ◌∷◌, ◌++◌}
use Prim.Native.Nat.{ℕ, suc, ◌+◌, ◌-◌, ◌<◌, ◌≤◌}
use native.Mathlib.Omega.{arith}
use lib.IntN.{ℤ}
use lib.ListN.{length, get_or, take, drop}
use Rattle.base_answers.specs.Numbers.{refusing, number_of}
use Rattle.base_answers.specs.declared.Answer.{Answer}
use Rattle.base_answers.specs.Answers.{Misdeclared, Uncovered, Barred, Heavy}
use Rattle.base_answers.specs.declared.Answer.TheVariants.{Done}
use Rattle.base_limits.specs.States as stated
use Rattle.surface_rules.specs.Threes.{threes}
use Rattle.cover_rules.specs.Covers.{Cover, Uses, vertex_of}
use Rattle.cover_rules.proofs.Laws.Closed.{Different, covered_once}
use Rattle.fill_fates.specs.Here.{AllowedHere}
use Rattle.fill_fates.proofs.Theorems.{no_longer}
use Rattle.judge_rules.specs.Faults.{share, IsCover, Lighter, Right, patched, long, open_left, WrongState, no_state, two_on_a_short, not_two_on_a_long, three_with_a_cover, BarredTaken, HeavyTaken, Fault, misdeclared, no_cover, cover_barred, too_heavy, RightIf, FaultIf}
use Rattle.judge_rules.specs.Verdicts.{taken, Verdict}

-- "Every loop has 3 or more edges and no vertex twice."
pub record RingsApart (rings : List (List ℕ)) : Type 0 where
  pub three : (l : ℕ) → l < length rings → 3 ≤ length (get_or rings l [])
  pub different : (l : ℕ) → l < length rings → (i j : ℕ) → i < length (get_or rings l []) → j < length (get_or rings l [])
      → get_or (get_or rings l []) i 0 ≡ get_or (get_or rings l []) j 0 → i ≡ j

pub rings_rest : (r : List ℕ) (rings : List (List ℕ)) → RingsApart (r ∷ rings) → RingsApart rings
rings_rest r rings h = record {
  three = λ l s. h.three (suc l) (omega arith);
  different = λ l s. h.different (suc l) (omega arith);
}

-- ---- one loop

-- if a right loop is declared patched, the set has a cover that is allowed and has no lighter one
pub record RightlyPatched (grid : List ℤ) (input laid ring set : List ℕ) : Type 0 where
  pub cover : Cover
  pub taken : IsCover ring set cover
  pub allowed : AllowedHere input laid ring cover
  pub least : Lighter grid input laid ring cover → ⊥

module _ {grid : List ℤ} {input laid ring : List ℕ} {state : ℕ} {set : List ℕ} where
  -- a right loop is declared rightly
  pub right_not_wrong : Right grid input laid ring state set → WrongState input laid ring state → ⊥
  right_not_wrong (patched e s c t a n) (no_state x y z) = x e
  right_not_wrong (patched e s c t a n) (two_on_a_short f g) = omega arith
  right_not_wrong (patched e s c t a n) (not_two_on_a_long f g) = no_longer ring s g
  right_not_wrong (patched e s c t a n) (three_with_a_cover f d b) = omega arith
  right_not_wrong (long e s) (no_state x y z) = y e
  right_not_wrong (long e s) (two_on_a_short f g) = no_longer ring g s
  right_not_wrong (long e s) (not_two_on_a_long f g) = f e
  right_not_wrong (long e s) (three_with_a_cover f d b) = omega arith
  right_not_wrong (open_left e s n) (no_state x y z) = z e
  right_not_wrong (open_left e s n) (two_on_a_short f g) = omega arith
  right_not_wrong (open_left e s n) (not_two_on_a_long f g) = no_longer ring s g
  right_not_wrong (open_left e s n) (three_with_a_cover f d b) = n d b

  pub right_patched : state ≡ stated.patched → Right grid input laid ring state set → RightlyPatched grid input laid ring set
  right_patched f (patched e s c t a n) = record { cover = c; taken = t; allowed = a; least = n }
  right_patched f (long e s) = absurd (omega arith)
  right_patched f (open_left e s n) = absurd (omega arith)

-- the set is one cover at most: the one with a barred diagonal is not the allowed one, and the one that has a lighter one not the least
module _ (ring set : List ℕ) (different : Different (length ring) (vertex_of ring)) where
  one_cover : (c d : Cover) → IsCover ring set c → IsCover ring set d → c ≡ d
  one_cover c d p q = covered_once (length ring) (vertex_of ring) different (threes (take (share ring) set)) c d p.covers q.covers

  barred_not_allowed : (input laid : List ℕ) → BarredTaken input laid ring set → (c : Cover) → IsCover ring set c → AllowedHere input laid ring c → ⊥
  barred_not_allowed input laid b c t a =
      true≢false
      (sym b.barring
      ∙ a.free b.from b.to
      (subst (λ (x : Cover). Uses 0 (length ring - 1) x b.from b.to) (one_cover b.cover c b.taken t) b.used))

  heavy_not_least : (grid : List ℤ) (input laid : List ℕ) → HeavyTaken grid input laid ring set → (c : Cover) → IsCover ring set c
      → (Lighter grid input laid ring c → ⊥) → ⊥
  heavy_not_least grid input laid h c t n = n (subst (Lighter grid input laid ring) (one_cover h.cover c h.taken t) h.lighter)

said : {a : Answer} (b : Answer) (n : ℕ) → number_of b ≡ suc n → a ≡ b → a ≡ Done → ⊥
said b n k e d = let z : number_of b ≡ number_of Done = ap number_of (sym e ∙ d) in omega (arith, k)

module _ {grid : List ℤ} {input laid : List ℕ} {l : ℕ} {ring : List ℕ} {state : ℕ} {set : List ℕ} where
  -- a fault is no refusal, and something is said
  pub fault_told : {a : Answer} → Fault grid input laid l ring state set a → refusing a ≡ false
  fault_told (misdeclared e w) = ap refusing e
  fault_told (no_cover e s n) = ap refusing e
  fault_told (cover_barred e s n) = ap refusing e
  fault_told (too_heavy e s n) = ap refusing e

  pub fault_said : {a : Answer} → Fault grid input laid l ring state set a → a ≡ Done → ⊥
  fault_said (misdeclared e w) = said (Misdeclared l) 10 refl e
  fault_said (no_cover e s n) = said (Uncovered l) 11 refl e
  fault_said (cover_barred e s n) = said (Barred l) 12 refl e
  fault_said (too_heavy e s n) = said (Heavy l) 13 refl e

  module _ (different : Different (length ring) (vertex_of ring)) where
    pub fault_once : {a b : Answer} → Fault grid input laid l ring state set a → Fault grid input laid l ring state set b → a ≡ b
    fault_once (misdeclared e w) (misdeclared f x) = e ∙ sym f
    fault_once (misdeclared e w) (no_cover f s n) = absurd (s.not_wrong w)
    fault_once (misdeclared e w) (cover_barred f s n) = absurd (s.not_wrong w)
    fault_once (misdeclared e w) (too_heavy f s n) = absurd (s.not_wrong w)
    fault_once (no_cover e s n) (misdeclared f w) = absurd (s.not_wrong w)
    fault_once (no_cover e s n) (no_cover f t m) = e ∙ sym f
    fault_once (no_cover e s n) (cover_barred f t m) = absurd (n m.cover m.taken)
    fault_once (no_cover e s n) (too_heavy f t m) = absurd (n m.cover m.taken)
    fault_once (cover_barred e s n) (misdeclared f w) = absurd (s.not_wrong w)
    fault_once (cover_barred e s n) (no_cover f t m) = absurd (m n.cover n.taken)
    fault_once (cover_barred e s n) (cover_barred f t m) = e ∙ sym f
    fault_once (cover_barred e s n) (too_heavy f t m) = absurd (barred_not_allowed ring set different input laid n m.cover m.taken m.allowed)
    fault_once (too_heavy e s n) (misdeclared f w) = absurd (s.not_wrong w)
    fault_once (too_heavy e s n) (no_cover f t m) = absurd (m n.cover n.taken)
    fault_once (too_heavy e s n) (cover_barred f t m) = absurd (barred_not_allowed ring set different input laid m n.cover n.taken n.allowed)
    fault_once (too_heavy e s n) (too_heavy f t m) = e ∙ sym f

    pub right_no_fault : {a : Answer} → Right grid input laid ring state set → Fault grid input laid l ring state set a → ⊥
    right_no_fault r (misdeclared e w) = right_not_wrong r w
    right_no_fault r (no_cover e s n) = let p = right_patched s.is_one r in n p.cover p.taken
    right_no_fault r (cover_barred e s n) = let p = right_patched s.is_one r in barred_not_allowed ring set different input laid n p.cover p.taken p.allowed
    right_no_fault r (too_heavy e s n) = let p = right_patched s.is_one r in heavy_not_least ring set different grid input laid n p.cover p.taken p.least

-- ---- rims or not

module _ (grid : List ℤ) (input laid : List ℕ) (l : ℕ) where
  pub fault_told_if : (k : Bool) (ring : List ℕ) (state : ℕ) (set : List ℕ) (a : Answer) → FaultIf grid input laid l k ring state set a → refusing a ≡ false
  fault_told_if true ring state set a f = ap refusing f.0
  fault_told_if false ring state set a f = fault_told f

  pub fault_said_if : (k : Bool) (ring : List ℕ) (state : ℕ) (set : List ℕ) (a : Answer) → FaultIf grid input laid l k ring state set a → a ≡ Done → ⊥
  fault_said_if true ring state set a f e = omega (arith, ap number_of (sym f.0 ∙ e))
  fault_said_if false ring state set a f e = fault_said f e

  pub fault_once_if : (k : Bool) (ring : List ℕ) (state : ℕ) (set : List ℕ) → Different (length ring) (vertex_of ring) → (a b : Answer)
      → FaultIf grid input laid l k ring state set a → FaultIf grid input laid l k ring state set b → a ≡ b
  fault_once_if true ring state set d a b f g = f.0 ∙ sym g.0
  fault_once_if false ring state set d a b f g = fault_once d f g

  pub right_no_fault_if : (k : Bool) (ring : List ℕ) (state : ℕ) (set : List ℕ) → Different (length ring) (vertex_of ring) → (a : Answer)
      → RightIf grid input laid k ring state set → FaultIf grid input laid l k ring state set a → ⊥
  right_no_fault_if true ring state set d a r f = f.1 r
  right_no_fault_if false ring state set d a r f = right_no_fault d r f

-- ---- all loops

pub verdict_once : (grid : List ℤ) (input laid : List ℕ) (l at : ℕ) (rims : List Bool) (rings : List (List ℕ)) (states set : List ℕ) (a b : Answer)
    → RingsApart rings → Verdict grid input laid l at rims rings states set a → Verdict grid input laid l at rims rings states set b → a ≡ b
verdict_once grid input laid l at [] [] [] set a b h p q = p ∙ sym q
verdict_once grid input laid l at [] [] (s ∷ states) set a b h p q = absurd p
verdict_once grid input laid l at [] (r ∷ rings) states set a b h p q = absurd p
verdict_once grid input laid l at (k ∷ rims) [] states set a b h p q = absurd p
verdict_once grid input laid l at (k ∷ rims) (r ∷ rings) [] set a b h p q = absurd p
verdict_once grid input laid l at (k ∷ rims) (r ∷ rings) (s ∷ states) set a b h (inl p) (inl q) =
    fault_once_if grid input laid l k r s set (h.different 0 (omega arith)) a b p q
verdict_once grid input laid l at (k ∷ rims) (r ∷ rings) (s ∷ states) set a b h (inl p) (inr q) =
    absurd (right_no_fault_if grid input laid l k r s set (h.different 0 (omega arith)) a q.0 p)
verdict_once grid input laid l at (k ∷ rims) (r ∷ rings) (s ∷ states) set a b h (inr p) (inl q) =
    absurd (right_no_fault_if grid input laid l k r s set (h.different 0 (omega arith)) b p.0 q)
verdict_once grid input laid l at (k ∷ rims) (r ∷ rings) (s ∷ states) set a b h (inr p) (inr q) =
    let n = taken r s in
    verdict_once grid input (laid ++ take n set) (suc l) (at + n) rims rings states (drop n set) a b (rings_rest r rings h) p.1 q.1

-- a verdict is no refusal
pub verdict_told : (grid : List ℤ) (input laid : List ℕ) (l at : ℕ) (rims : List Bool) (rings : List (List ℕ)) (states set : List ℕ) (a : Answer) → Verdict grid input laid l at rims rings states set a → refusing a ≡ false
verdict_told grid input laid l at [] [] [] [] a e = ap refusing e
verdict_told grid input laid l at [] [] [] (x ∷ set) a e = ap refusing e
verdict_told grid input laid l at [] [] (s ∷ states) set a v = absurd v
verdict_told grid input laid l at [] (r ∷ rings) states set a v = absurd v
verdict_told grid input laid l at (k ∷ rims) [] states set a v = absurd v
verdict_told grid input laid l at (k ∷ rims) (r ∷ rings) [] set a v = absurd v
verdict_told grid input laid l at (k ∷ rims) (r ∷ rings) (s ∷ states) set a (inl f) = fault_told_if grid input laid l k r s set a f
verdict_told grid input laid l at (k ∷ rims) (r ∷ rings) (s ∷ states) set a (inr v) =
    let n = taken r s in
    verdict_told grid input (laid ++ take n set) (suc l) (at + n) rims rings states (drop n set) a v.1

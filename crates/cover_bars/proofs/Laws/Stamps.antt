-- The ring's vertices are stamped one after the other: since they are all different none loses its stamp, and since every other stamp is below the base only they are stamped.
use mathlib.Core.Path.{◌≡◌, sym, ap, ◌∙◌, subst}
use mathlib.Core.List.{List}
use mathlib.Core.Logic.{⊎_elim}
use Prim.Native.Nat.{ℕ, ◌+◌, ◌-◌, ◌^◌, ◌<◌, ◌≤◌}
use native.Mathlib.Nat.{not-suc-le-zero}
use native.Mathlib.Omega.{arith}
use lib.ListN.{length, get_or, set, length-set}
use lib.Seq.{get_or-set_same, get_or-set_other}
use borrow.Author.Count.{below_more}
use Rattle.base_limits.specs.Limits as limits
use Rattle.surface_rules.proofs.Laws.Tests.{eq_or_not}
use Rattle.cover_bars.specs.Workings.Chains.{StampRoom, StampDone}

-- the vertices below j are stamped, and their rows are clear
pub record Stamping (ring stamps₀ : List ℕ) (base : ℕ) (rows₀ : List ℕ) (j : ℕ) (stamps rows : List ℕ) : Type 0 where
  pub room : StampRoom ring stamps₀ base rows₀
  pub within : j ≤ length ring
  pub stamps_long : length stamps ≡ limits.points
  pub rows_long : length rows ≡ limits.longest
  pub placed : (i : ℕ) → i < j → get_or stamps (get_or ring i 0) 0 ≡ base + i
  pub only : (v : ℕ) → base ≤ get_or stamps v 0 → (get_or stamps v 0 - base < j) × (get_or ring (get_or stamps v 0 - base) 0 ≡ v)
  pub below : (v : ℕ) → get_or stamps v 0 < base + j
  pub clear : (i : ℕ) → i < j → get_or rows i 0 ≡ 0

pub stamp_begins : {ring stamps : List ℕ} {base : ℕ} {rows : List ℕ} → StampRoom ring stamps base rows → Stamping ring stamps base rows 0 stamps rows
stamp_begins {stamps} {base} room =
    record {
      room = room;
      within = omega arith;
      stamps_long = room.stamps_long;
      rows_long = room.rows_long;
      placed = λ i l. absurd (not-suc-le-zero l);
      only = λ v l. let b : get_or stamps v 0 < base = room.below v in absurd (omega arith);
      below = λ v. let b : get_or stamps v 0 < base = room.below v in omega arith;
      clear = λ i l. absurd (not-suc-le-zero l);
    }

module _ {ring stamps₀ : List ℕ} {base : ℕ} {rows₀ : List ℕ} {j : ℕ} {stamps rows : List ℕ} (going : Stamping ring stamps₀ base rows₀ j stamps rows) where
  pub stamp_ends : length ring ≤ j → StampDone ring base stamps rows
  stamp_ends l =
      let w : j ≤ length ring = going.within in
      let q : j ≡ length ring = omega arith in
      record {
        stamped =
            record {
              long = going.stamps_long;
              placed = λ i m. going.placed i (omega arith);
              only = λ v m b. subst (λ (z : ℕ). (get_or stamps v 0 - base < z) × (get_or ring (get_or stamps v 0 - base) 0 ≡ v)) q (going.only v b);
            };
        below = λ v. subst (λ (z : ℕ). get_or stamps v 0 < base + z) q (going.below v);
        rows_long = going.rows_long;
        clear = λ i m. going.clear i (omega arith);
      }

  module _ (more : j < length ring) where
    pub stamp_inside : (get_or ring j 0 < limits.points) × (j < limits.longest) × (base + j < 2 ^ 16)
    stamp_inside =
        let s : length ring ≤ limits.longest = going.room.short in
        let f : base + length ring < 2 ^ 16 = going.room.few in
        (going.room.inside j more, omega arith, omega arith)

    abbrev stamps' : List ℕ
    stamps' = set stamps (get_or ring j 0) (base + j)

    here : get_or stamps' (get_or ring j 0) 0 ≡ base + j
    here = get_or-set_same stamps (get_or ring j 0) (base + j) 0 (rw going.stamps_long stamp_inside.0)

    elsewhere : (v : ℕ) → (v ≡ get_or ring j 0 → ⊥) → get_or stamps' v 0 ≡ get_or stamps v 0
    elsewhere v n = get_or-set_other stamps (get_or ring j 0) v (base + j) 0 n

    placed_more : (i : ℕ) → i < j + 1 → get_or stamps' (get_or ring i 0) 0 ≡ base + i
    placed_more =
        below_more (λ (i : ℕ). get_or stamps' (get_or ring i 0) 0 ≡ base + i) j
        (λ i l. elsewhere (get_or ring i 0) (λ e. let q : i ≡ j = going.room.apart i j (omega arith) more e in absurd (omega arith)) ∙ going.placed i l)
        here

    -- a stamp tells its vertex: the new one, and those before
    tells_here : (m v : ℕ) → m ≡ base + j → get_or ring j 0 ≡ v → (m - base < j + 1) × (get_or ring (m - base) 0 ≡ v)
    tells_here m v e f = let q : m - base ≡ j = omega arith in (omega arith, ap (λ (z : ℕ). get_or ring z 0) q ∙ f)

    tells_there : (m k v : ℕ) → m ≡ k → (k - base < j) × (get_or ring (k - base) 0 ≡ v) → (m - base < j + 1) × (get_or ring (m - base) 0 ≡ v)
    tells_there m k v e f = let l : k - base < j = f.0 in (omega arith, ap (λ (z : ℕ). get_or ring (z - base) 0) e ∙ f.1)

    only_more : (v : ℕ) → base ≤ get_or stamps' v 0 → (get_or stamps' v 0 - base < j + 1) × (get_or ring (get_or stamps' v 0 - base) 0 ≡ v)
    only_more v l =
        ⊎_elim
        (λ (q : v ≡ get_or ring j 0). tells_here (get_or stamps' v 0) v (ap (λ (z : ℕ). get_or stamps' z 0) q ∙ here) (sym q))
        (λ (q : v ≡ get_or ring j 0 → ⊥). tells_there (get_or stamps' v 0) (get_or stamps v 0) v (elsewhere v q) (going.only v (subst (λ (z : ℕ). base ≤ z) (elsewhere v q) l)))
        (eq_or_not v (get_or ring j 0))

    below_all : (v : ℕ) → get_or stamps' v 0 < base + (j + 1)
    below_all v =
        ⊎_elim
        (λ (q : v ≡ get_or ring j 0). let e : get_or stamps' v 0 ≡ base + j = ap (λ (z : ℕ). get_or stamps' z 0) q ∙ here in omega arith)
        (λ (q : v ≡ get_or ring j 0 → ⊥). let e : get_or stamps' v 0 ≡ get_or stamps v 0 = elsewhere v q in let b : get_or stamps v 0 < base + j = going.below v in omega arith)
        (eq_or_not v (get_or ring j 0))

    clear_more : (i : ℕ) → i < j + 1 → get_or (set rows j 0) i 0 ≡ 0
    clear_more =
        below_more (λ (i : ℕ). get_or (set rows j 0) i 0 ≡ 0) j
        (λ i l. get_or-set_other rows j i 0 0 (λ q. absurd (omega arith)) ∙ going.clear i l)
        (get_or-set_same rows j 0 0 (rw going.rows_long stamp_inside.1))

    pub stamp_more : Stamping ring stamps₀ base rows₀ (j + 1) (set stamps (get_or ring j 0) (base + j)) (set rows j 0)
    stamp_more =
        record {
          room = going.room;
          within = omega arith;
          stamps_long = length-set stamps (get_or ring j 0) (base + j) ∙ going.stamps_long;
          rows_long = length-set rows j 0 ∙ going.rows_long;
          placed = placed_more;
          only = only_more;
          below = below_all;
          clear = clear_more;
        }

-- The stretches that end at k are marked from the last position before k down, so that a stretch comes when all within it are marked.
use mathlib.Core.Path.{◌≡◌, refl, sym, ap, ◌∙◌}
use mathlib.Core.Bool.{Bool, true, ◌||◌, or-true}
use mathlib.Core.List.{List}
use mathlib.Core.Logic.{⊎_elim}
use Prim.Native.Nat.{ℕ, suc, ◌-◌, ◌<◌, ◌≤◌}
use native.Mathlib.Nat.{eq-or-lt_of_le, le_of_suc-le-suc}
use native.Mathlib.Decide.{ℕ_discrete}
use native.Mathlib.Omega.{arith}
use lib.Dec.{eqb}
use lib.ListN.{length, get_or, set, length-set}
use lib.Seq.{get_or-set_same, get_or-set_other}
use borrow.Author.Tests.{eq-eqb}
use Rattle.base_limits.specs.Limits as limits
use Rattle.cover_bits.specs.Workings.Masks.{bit}
use Rattle.cover_rules.specs.Covers.{Cover, Allowed, NoCover}
use Rattle.cover_rules.proofs.Laws.Counted.{covers_forward}
use Rattle.cover_shut.specs.Workings.Shut.{told_by, NoWay, Marked, ColumnRoom}
use Rattle.cover_shut.proofs.Laws.Ways.{none_covers}

-- the stretches from i and later positions to k are marked, at their first positions in the words and together in one
pub record Marking (bars : List ℕ) (k : ℕ) (words : List ℕ) (to i : ℕ) : Type 0 where
  pub room : ColumnRoom bars k words
  pub within : i ≤ k
  pub done : (a : ℕ) → i ≤ a → (c : Cover) → Allowed (told_by bars) a k c → (bit (get_or words a 0) k ≡ true) × (bit to a ≡ true)

-- y is x with digit k
abbrev With : ℕ → ℕ → ℕ → Type 0
With x k y = (j : ℕ) → j < limits.longest → bit y j ≡ (bit x j || eqb j k)

with_here : (x k y : ℕ) → k < limits.longest → With x k y → bit y k ≡ true
with_here x k y l w = w k l ∙ ap (λ (t : Bool). bit x k || t) (eq-eqb k k refl) ∙ or-true (bit x k)

with_kept : (x k y j : ℕ) → j < limits.longest → With x k y → bit x j ≡ true → bit y j ≡ true
with_kept x k y j l w e = w j l ∙ ap (λ (t : Bool). t || eqb j k) e

pub marking_begins : {bars words : List ℕ} {k : ℕ} → ColumnRoom bars k words → Marking bars k words 0 k
marking_begins {k} room =
    record { room = room; within = omega arith; done = λ a l c h. absurd (omega (arith, covers_forward a k c h.covers)) }

module _ {bars words : List ℕ} {k to i : ℕ} (g : Marking bars k words to i) (l : 0 < i) where
  marking_inside : (i - 1 < limits.longest) × (i - 1 < length words)
  marking_inside = omega (arith, g.within, g.room.short, g.room.marked.long)

  -- a stretch without a way has no allowed cover
  pub marking_skips : NoWay (get_or bars (i - 1) 0) (i - 1) k (get_or words (i - 1) 0) to → Marking bars k words to (i - 1)
  marking_skips w =
      record {
        room = g.room;
        within = omega (arith, g.within);
        done =
            λ a b c h.
            ⊎_elim
            (λ (e : i - 1 ≡ a). absurd (none c (rw (sym e) at h)))
            (λ (m : i - 1 < a). g.done a (omega arith) c h)
            (eq-or-lt_of_le b);
      }
    where
      none : NoCover (told_by bars) (i - 1) k
      none = none_covers w refl (λ m d s x. g.room.marked.marks (i - 1) m s d x) (λ m d r s x. (g.done m (omega arith) d x).1)

  -- a stretch with a way is marked
  pub marking_sets : (row more : ℕ) → With to (i - 1) more → With (get_or words (i - 1) 0) k row
      → Marking bars k (set words (i - 1) row) more (i - 1)
  marking_sets row more v w =
      record {
        room =
            record {
              short = g.room.short;
              rows = g.room.rows;
              marked =
                  record {
                    long = length-set words (i - 1) row ∙ g.room.marked.long;
                    marks = λ a j m c h. kept a j (omega (arith, g.room.short)) (g.room.marked.marks a j m c h);
                  };
            };
        within = omega (arith, g.within);
        done =
            λ a b c h.
            ⊎_elim
            (λ (e : i - 1 ≡ a). rw (sym e) here)
            (λ (m : i - 1 < a).
            let x = g.done a (omega arith) c h in
            let s : a < limits.longest = omega (arith, g.room.short, covers_forward a k c h.covers) in
            (kept a k g.room.short x.0, with_kept to (i - 1) more a s v x.1))
            (eq-or-lt_of_le b);
      }
    where
      put : get_or (set words (i - 1) row) (i - 1) 0 ≡ row
      put = get_or-set_same words (i - 1) row 0 marking_inside.1

      here : (bit (get_or (set words (i - 1) row) (i - 1) 0) k ≡ true) × (bit more (i - 1) ≡ true)
      here = (rw put (with_here (get_or words (i - 1) 0) k row g.room.short w), with_here to (i - 1) more marking_inside.0 v)

      -- what was marked stays
      kept : (a j : ℕ) → j < limits.longest → bit (get_or words a 0) j ≡ true → bit (get_or (set words (i - 1) row) a 0) j ≡ true
      kept a j m e = go (ℕ_discrete a (i - 1))
        where
          go : Dec (a ≡ i - 1) → bit (get_or (set words (i - 1) row) a 0) j ≡ true
          go (yes s) = rw (s, put) (with_kept (get_or words (i - 1) 0) k row j m w (rw s at e))
          go (no s) = rw (get_or-set_other words (i - 1) a row 0 s) e

pub marking_ends : {bars words : List ℕ} {k to i : ℕ} → Marking bars k words to i → i ≤ 0 → Marked bars (suc k) words
marking_ends {k} {i} g z =
    record {
      long = g.room.marked.long;
      marks =
          λ a j l c h.
          ⊎_elim (λ (e : j ≡ k). rw e (g.done a (omega arith) c (rw e at h)).0) (λ (m : j < k). g.room.marked.marks a j m c h)
          (eq-or-lt_of_le (le_of_suc-le-suc l));
    }

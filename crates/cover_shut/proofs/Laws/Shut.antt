-- Column after column is marked, and at the end a loop that is not marked from its first to its last position has no allowed cover.
use mathlib.Core.Path.{◌≡◌, sym, ◌∙◌}
use mathlib.Core.Bool.{Bool, false, not, true≢false}
use mathlib.Core.List.{List}
use Prim.Native.Nat.{ℕ, suc, ◌+◌, ◌-◌, ◌<◌, ◌≤◌}
use native.Mathlib.Omega.{arith}
use native.Mathlib.Numerals.{add-one}
use lib.ListN.{length, get_or}
use borrow.Author.Tests.{not-true}
use Rattle.base_limits.specs.Limits as limits
use Rattle.cover_bits.specs.Workings.Masks.{bit, Rows}
use Rattle.cover_rules.specs.Covers.{Cover, Allowed, NoCover}
use Rattle.cover_rules.proofs.Laws.Counted.{covers_forward}
use Rattle.cover_rules.proofs.Laws.Chords.{uses_in}
use Rattle.cover_shut.specs.Workings.Shut.{told_by, ShutRoom, TellsShut, Marked}

-- the stretches that end before k are marked
pub record Columns (n : ℕ) (bars : List ℕ) (k : ℕ) (words : List ℕ) : Type 0 where
  pub begun : 0 < k
  pub within : k ≤ n
  pub marked : Marked bars k words

pub columns_begin : {n : ℕ} {bars words : List ℕ} → ShutRoom n bars → length words ≡ limits.longest → Columns n bars 1 words
columns_begin room e =
    record {
      begun = omega arith;
      within = omega (arith, room.long);
      marked = record { long = e; marks = λ i j l c h. absurd (omega (arith, covers_forward i j c h.covers)) };
    }

module _ {n : ℕ} {bars words : List ℕ} {k : ℕ} (room : ShutRoom n bars) (g : Columns n bars k words) where
  pub columns_more : {left : List ℕ} → k < n → Marked bars (suc k) left → Columns n bars (k + 1) left
  columns_more l m = record { begun = omega arith; within = omega arith; marked = rw add-one m }

  pub columns_end : {r : Bool} → n ≤ k → r ≡ bit (get_or words 0 0) (n - 1) → r ≡ false → NoCover (told_by bars) 0 (n - 1)
  columns_end l t e c h =
      let s : 1 < n = room.long in
      true≢false (sym (g.marked.marks 0 (n - 1) (omega arith) c h) ∙ sym t ∙ e)

-- the rows tell what is barred of all pairs that a cover of the loop uses
told_allowed : {n : ℕ} {barred : ℕ → ℕ → Bool} {bars : List ℕ} (c : Cover) → 1 < n → n ≤ limits.longest → Rows n barred bars
    → Allowed barred 0 (n - 1) c → Allowed (told_by bars) 0 (n - 1) c
told_allowed {n} c l s rows h =
    record {
      covers = h.covers;
      free = λ a b u. let w = uses_in 0 (n - 1) c a b h.covers u in rows.tells a b (omega (arith, w)) (omega (arith, w)) ∙ h.free a b u;
    }

pub shut_tells : {n : ℕ} {bars : List ℕ} {r : Bool} → ShutRoom n bars → (r ≡ false → NoCover (told_by bars) 0 (n - 1)) → TellsShut n bars (not r)
shut_tells room none e barred rows c h = none (not-true _ e) c (told_allowed c room.long room.short rows h)

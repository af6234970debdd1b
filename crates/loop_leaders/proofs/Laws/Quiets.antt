-- What is quiet stays quiet one half-edge further on, where that one is.
use mathlib.Core.Path.{◌≡◌, refl, sym}
use mathlib.Core.Bool.{Bool, true, false, ◌&&◌, true≢false}
use mathlib.Core.List.{List}
use mathlib.Core.Logic.{⊎_elim}
use Prim.Native.Nat.{ℕ, ◌+◌, ◌<◌, ◌≤◌}
use native.Mathlib.Nat.{eq-or-lt_of_le}
use native.Mathlib.Omega.{arith}
use lib.Dec.{ltb}
use lib.ListN.{get_or}
use borrow.Author.Tests.{ltb-true}
use Rattle.surface_rules.proofs.Laws.Tests.{lt_or_le}
use Rattle.surface_twins.specs.Workings.Turns.{open_mark}
use Rattle.loop_leaders.specs.Workings.Leading.{Quiet}

pub quiet_none : (turns : List ℕ) (h : ℕ) → Quiet turns h h
unfolding Quiet
quiet_none turns h k l m = absurd (omega arith)

pub quiet_more : (turns : List ℕ) (h i : ℕ) → Quiet turns h i → get_or turns i 0 < open_mark → Quiet turns h (i + 1)
unfolding Quiet
quiet_more turns h i q l k m n =
    let b : k ≤ i = omega arith in
    ⊎_elim (λ (e : k ≡ i). rw e l) (λ (d : k < i). q k m d) (eq-or-lt_of_le b)

-- what follows what is quiet
pub quiet_join : (turns : List ℕ) (h i j : ℕ) → Quiet turns h i → Quiet turns i j → Quiet turns h j
unfolding Quiet
quiet_join turns h i j a b k l m = ⊎_elim (λ (d : k < i). a k l d) (λ (d : i ≤ k). b k d m) (lt_or_le k i)

-- one that does not lead, before what is quiet
pub quiet_before : (turns : List ℕ) (h i : ℕ) → get_or turns h 0 < open_mark → Quiet turns (h + 1) i → Quiet turns h i
quiet_before turns h i l q = quiet_join turns h (h + 1) i (quiet_more turns h h (quiet_none turns h) l) q

-- while all were quiet
pub all_quiet : (turns : List ℕ) (h i : ℕ) (all : Bool) → (all ≡ true → Quiet turns h i) → (all && ltb (get_or turns i 0) open_mark) ≡ true → Quiet turns h (i + 1)
all_quiet turns h i true q e = quiet_more turns h i (q refl) (ltb-true _ _ e)
all_quiet turns h i false q e = absurd (true≢false (sym e))

-- Printing section by section: there is room for the widest loop's lines, and it ends, since each section has a loop more or is the last.
use mathlib.Core.Path.{◌≡◌, refl, ◌∙◌}
use mathlib.Core.Bool.{Bool, true, false, cond}
use mathlib.Core.List.{List}
use Prim.Native.Nat.{ℕ, ◌+◌, ◌-◌, ◌<◌, ◌≤◌}
use native.Mathlib.Omega.{arith}
use lib.Dec.{ltb}
use lib.ListN.{length}
use borrow.Author.Tests.{ltb-true}
use Rattle.program_lines.specs.declared.Progress.{Progress}
use Rattle.program_lines.specs.Workings.Telling.{Inventory}
use Rattle.program_lines.proofs.Laws.Widths.{widest}
use Rattle.program_roll.specs.Workings.Roll.{Going, FillsOn}
use Rattle.program_roll.proofs.Laws.Going.{emptied, going_emptied, going_on, going_from, going_further}

-- between two sections
pub record Printing (w : Inventory) (loops : ℕ) (room₀ room : List ℕ) (m : Progress) : Type 0 where
  pub same_long : length room ≡ length room₀
  pub roomy : m.bytes + widest ≤ length room
  pub going : Going w loops m

-- the loops that are left, and one for what is still to be printed
abbrev pub left : ℕ → ℕ → Bool → ℕ
left loops told going = (loops - told) + cond going 1 0

module _ {w : Inventory} {loops : ℕ} {room₀ room after : List ℕ} {m r : Progress} (p : Printing w loops room₀ room m) (f : FillsOn widest w loops m r room after) where
  pub printing_on : length after ≡ length room → Printing w loops room₀ after (emptied r)
  printing_on e = record { same_long = e ∙ p.same_long; roomy = omega (arith, e, p.roomy); going = going_emptied (going_on p.going f) }

  module _ {going : Bool} (e : going ≡ true) where
    pub last_less : {on : Bool} → on ≡ false → left loops r.loops on < left loops m.loops going
    last_less d = rw (e, d) (omega (arith, going_from p.going f))

    pub more_less : left loops r.loops (ltb r.loops loops) < left loops m.loops going
    more_less = go (ltb r.loops loops) refl
      where
        go : (t : Bool) → ltb r.loops loops ≡ t → left loops r.loops t < left loops m.loops going
        go true d =
            let from = going_from p.going f in
            let upto = ltb-true r.loops loops d in
            rw e (omega (arith, upto, going_further p.going f (omega (arith, from, upto)) p.roomy))
        go false d = last_less refl

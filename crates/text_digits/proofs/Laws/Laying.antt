-- Writing piece by piece: what is left, laid over the present buffer from the present place on, gives the whole.
use mathlib.Core.Path.{◌≡◌, refl, sym, ap, ◌∙◌}
use mathlib.Core.List.{List, [], ◌++◌, append-nil}
use Prim.Native.Nat.{ℕ, ◌+◌, ◌≤◌}
use native.Mathlib.Omega.{arith}
use lib.ListN.{length, length-append}
use Rattle.surface_rules.specs.Buffers.{laid}
use Rattle.surface_rules.proofs.Laws.Laid.{laid_none, laid_length, laid_then}

-- rest is left of the whole that has to stand from `at` on
pub record Laying (whole : List ℕ) (at : ℕ) (before rest : List ℕ) (place : ℕ) (out : List ℕ) : Type 0 where
  pub same : length out ≡ length before
  pub room : at + length whole ≤ length before
  pub reach : place + length rest ≡ at + length whole
  pub lays : laid at whole before ≡ laid place rest out

pub laying_begins : (whole before : List ℕ) (at : ℕ) → at + length whole ≤ length before → Laying whole at before whole at before
laying_begins whole before at h = record { same = refl; room = h; reach = refl; lays = refl }

module _ {whole before rest out : List ℕ} {at place : ℕ} (g : Laying whole at before rest place out) (piece left : List ℕ) (e : rest ≡ piece ++ left) where
  -- there is room for the next piece
  pub laying_room : place + length piece ≤ length out
  laying_room = omega (arith, g.same, g.room, g.reach, ap length e, length-append piece left)

  pub laying_more : {after : List ℕ} {next : ℕ} → after ≡ laid place piece out → next ≡ place + length piece → Laying whole at before left next after
  laying_more {after} {next} q n =
      record {
        same = ap length q ∙ laid_length place out piece laying_room ∙ g.same;
        room = g.room;
        reach = omega (arith, g.reach, ap length e, length-append piece left);
        lays = g.lays ∙ ap (λ (r : List ℕ). laid place r out) e ∙ sym (laid_then place next piece left out n (omega (arith, laying_room))) ∙ ap (laid next left) (sym q);
      }

-- what is left, as a whole of its own
pub laying_left : {whole before rest out : List ℕ} {at place : ℕ} → Laying whole at before rest place out → Laying rest place out rest place out
laying_left {rest = rest} {out = out} {place = place} g = laying_begins rest out place (omega (arith, g.same, g.room, g.reach))

-- the last piece
pub laying_last : {whole before rest out after : List ℕ} {at place next : ℕ} → Laying whole at before rest place out → after ≡ laid place rest out → next ≡ place + length rest → Laying whole at before [] next after
laying_last {rest = rest} g q n = laying_more g rest [] (sym (append-nil rest)) q n

pub laying_ends : {whole before rest out : List ℕ} {at place : ℕ} → Laying whole at before rest place out → rest ≡ [] → (out ≡ laid at whole before) × (place ≡ at + length whole)
laying_ends {rest = rest} {out = out} {place = place} g e =
    (sym (g.lays ∙ ap (λ (r : List ℕ). laid place r out) e ∙ laid_none place out), omega (arith, g.reach, ap length e))

-- The verdict over rims, loops of three and long ones: neither the grid nor the input matters.
use mathlib.Core.Path.{◌≡◌}
use mathlib.Core.Bool.{Bool}
use mathlib.Core.Logic.{◌⊎◌, inl, inr}
use mathlib.Core.List.{List}
use Prim.Native.Nat.{ℕ, ◌+◌, ◌-◌, ◌≤◌, ◌<◌}
use native.Mathlib.Omega.{arith}
use lib.IntN.{ℤ}
use lib.ListN.{length, get_or, take, drop}
use Rattle.base_answers.specs.declared.Answer.{Answer}
use Rattle.base_answers.specs.Answers.{Misdeclared}
use Rattle.base_answers.specs.declared.Answer.TheVariants.{Done, Failed}
use Rattle.base_answers.specs.declared.Verdict.{Verdict}
use Rattle.base_limits.specs.Limits as limits
use Rattle.judge_rules.specs.Verdicts.{taken, left_over}
use Rattle.fill_scratch.specs.Workings.Rings.{Loops, RingPlace, rim_mark, SightAt}
use Rattle.fill_scratch.proofs.Laws.Reading.{as_many, places_of}
use Rattle.judge_sight.specs.Workings.Findings.{SightRoom, FindsAtSight}
use Rattle.judge_all_sight.specs.Workings.Gives.{Declared, SightVerdictRoom, GivesAtSight}
use Rattle.judge_all_sight.proofs.Laws.Verdicts.{Gone, gone_begins, gone_ends, turn_decides, turn_goes}
use Rattle.judge_all_sight.proofs.Laws.Verdicts as verdicts

-- the first l loops are right, whatever loops they are
pub record Going (rings lengths marks states set : List ℕ) (l r at : ℕ) : Type 0 where
  pub gone : (grid : List ℤ) (input : List ℕ) (rims : List Bool) (rs : List (List ℕ)) → Loops grid input rs rings lengths → Declared rims rs marks states → Gone grid input rims rs states set l r at

module _ {rings lengths marks states set : List ℕ} (room : SightVerdictRoom rings lengths marks states) where
  pub going_begins : Going rings lengths marks states set 0 0 0
  going_begins = record { gone = λ grid input rims rs s d. gone_begins }

  here : {l r at : ℕ} → Going rings lengths marks states set l r at → Gone room.grid room.input room.room.rims room.room.rs states set l r at
  here g = g.gone room.grid room.input room.room.rims room.room.rs room.room.loops room.room.declared

  pub set_in : {l r at : ℕ} → Going rings lengths marks states set l r at → at ≤ length set
  set_in g = (here g).within

  module _ {l r at : ℕ} (h : l < length lengths) (g : Going rings lengths marks states set l r at) where
    abbrev part : List ℕ
    part = take (r + get_or lengths l 0 - r) (drop r rings)

    pub places : RingPlace rings lengths l r
    places = let q = room.room in places_of room.grid room.input q.rs rings lengths q.loops q.corners.few l r h (here g).read

    -- a rim
    pub rim_decides : get_or marks l 0 ≡ rim_mark → (get_or states l 0 ≡ rim_mark → ⊥) → GivesAtSight rings lengths marks states set (Misdeclared l)
    rim_decides m n grid input rims rs s d = verdicts.rim_decides s d h (g.gone grid input rims rs s d) m n

    pub rim_goes : get_or marks l 0 ≡ rim_mark → get_or states l 0 ≡ rim_mark → Going rings lengths marks states set (l + 1) (r + get_or lengths l 0) at
    rim_goes m e = record { gone = λ grid input rims rs s d. verdicts.rim_goes s d h (g.gone grid input rims rs s d) m e }

    pub sight_room : (get_or marks l 0 ≡ rim_mark → ⊥) → SightRoom part set at
    sight_room no' = record {
      sight = kind (room.sight l h);
      within = set_in g;
    }
      where
        kind : SightAt lengths marks l → (length part ≡ 3) ⊎ (limits.longest < length part)
        kind (inl x) = let n : length part ≡ get_or lengths l 0 = places.part_long in let t : 3 ≤ get_or lengths l 0 = places.three in inl (omega arith)
        kind (inr (inl x)) = let n : length part ≡ get_or lengths l 0 = places.part_long in inr (omega arith)
        kind (inr (inr x)) = absurd (no' x)

    module _ (no' : get_or marks l 0 ≡ rim_mark → ⊥) where
      pub decides : {v : Verdict} → FindsAtSight part (get_or states l 0) set at l (Failed v) → GivesAtSight rings lengths marks states set (Failed v)
      decides f grid input rims rs s d = turn_decides s d h (g.gone grid input rims rs s d) no' (f grid input (take at set))

      pub going_on : {k : ℕ} → FindsAtSight part (get_or states l 0) set at l Done → ((ring : List ℕ) → length ring ≡ r + get_or lengths l 0 - r → k ≡ taken ring (get_or states l 0))
          → Going rings lengths marks states set (l + 1) (r + get_or lengths l 0) (at + k)
      going_on f t = record { gone = λ grid input rims rs s d. turn_goes s d h (g.gone grid input rims rs s d) no' (f grid input (take at set)) t }

      -- so what it takes is there
      pub takes_in : {k : ℕ} → FindsAtSight part (get_or states l 0) set at l Done → ((ring : List ℕ) → length ring ≡ r + get_or lengths l 0 - r → k ≡ taken ring (get_or states l 0)) → at + k ≤ length set
      takes_in f t = set_in (going_on f t)

  pub going_ends : {l r at : ℕ} {a : Answer} → length lengths ≤ l → Going rings lengths marks states set l r at → a ≡ left_over at (drop at set) → GivesAtSight rings lengths marks states set a
  going_ends {l} h g e grid input rims rs s d =
      let n : length lengths ≡ length rs = as_many grid input rs rings lengths s in
      gone_ends d.rims_many d.states_many (omega arith) (g.gone grid input rims rs s d) e

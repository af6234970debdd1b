-- The verdict over all loops, with the tray from one loop to the next.
use mathlib.Core.Path.{◌≡◌, refl, sym, subst}
use mathlib.Core.Bool.{Bool}
use mathlib.Core.List.{List, []}
use Prim.Native.Nat.{ℕ, ◌+◌, ◌-◌, ◌≤◌, ◌<◌}
use native.Mathlib.Omega.{arith}
use lib.IntN.{ℤ}
use lib.ListN.{length, get_or, take, drop}
use lib.Seq.{take-add}
use lib.Ieee.{Float}
use Rattle.std.proofs.Common.{Ok, Err}
use Rattle.base_answers.specs.declared.Answer.{Answer}
use Rattle.base_answers.specs.Answers.{Misdeclared}
use Rattle.base_answers.specs.declared.Answer.TheVariants.{Failed}
use Rattle.base_answers.specs.declared.Verdict.{Verdict}
use Rattle.base_limits.specs.Limits as limits
use Rattle.cover_bars.specs.Workings.Chains.{Tells}
use Rattle.cover_column.specs.Workings.Columns.{TableFor}
use Rattle.judge_rules.specs.Verdicts.{taken, left_over}
use Rattle.fill_scratch.specs.Workings.Rings.{RingOf, Loops, RingPlace, rim_mark}
use Rattle.fill_scratch.specs.Workings.Tray.{Serves, Tray, tray, EdgeRoom}
use Rattle.fill_scratch.proofs.Laws.Tables.{table_here}
use Rattle.fill_scratch.proofs.Laws.Reading.{as_many, places_of}
use Rattle.fill_scratch.proofs.Laws.Tray.{noughts, TrayKept, kept_begins, kept_next, Standing, standing_begins, standing_room, standing_next, standing_passed}
use Rattle.judge_loop.specs.declared.InHand.{InHand}
use Rattle.judge_loop.specs.Workings.Judging.{JudgeRoom, Judging, FindsLoop}
use Rattle.judge_all_sight.specs.Workings.Gives.{Declared, VerdictRoom, Gives}
use Rattle.judge_all_sight.proofs.Laws.Verdicts.{Gone, gone_begins, gone_ends, ring_here, turn_decides, turn_goes}
use Rattle.judge_all_sight.proofs.Laws.Verdicts as verdicts

-- the first l loops are right, whatever loops they are, the tray is ready, and what is lent of it is as long as it was
pub record Going (grid : List ℤ) (input rings lengths rimmed states set : List ℕ) (t₀ : Tray) (l r at e : ℕ) (t : Tray) : Type 0 where
  pub kept : TrayKept t₀ t
  pub standing : Standing input (take at set) r e t
  pub gone : (rims : List Bool) (rs : List (List ℕ)) → Loops grid input rs rings lengths → Declared rims rs rimmed states → Gone grid input rims rs states set l r at

module _ {grid : List ℤ} {input rings lengths rimmed states set : List ℕ} (room : VerdictRoom grid input rings lengths rimmed states) where
  pub going_begins : {heads links ends : List ℕ} {table : List Float} → EdgeRoom input links ends
      → Tells input [] (length input) heads links ends
      → let t = tray heads links ends (noughts limits.points) (noughts limits.longest) table in
      Going grid input rings lengths rimmed states set t 0 0 0 (length input) t
  going_begins edges told = record { kept = kept_begins; standing = standing_begins edges told; gone = λ rims rs s d. gone_begins }

  module _ {t₀ : Tray} {l r at e : ℕ} {t : Tray} (g : Going grid input rings lengths rimmed states set t₀ l r at e t) where
    here : Gone grid input room.rims room.rs states set l r at
    here = g.gone room.rims room.rs room.loops room.declared

    pub set_in : at ≤ length set
    set_in = here.within

    pub going_ends : {a : Answer} → length lengths ≤ l → a ≡ left_over at (drop at set) → Gives grid input rings lengths rimmed states set a
    going_ends h q rims rs s d =
        let n : length lengths ≡ length rs = as_many grid input rs rings lengths s in
        gone_ends d.rims_many d.states_many (omega arith) (g.gone rims rs s d) q

    module _ (h : l < length lengths) where
      abbrev part : List ℕ
      part = take (r + get_or lengths l 0 - r) (drop r rings)

      abbrev hand : InHand
      hand = record { l = l; state = get_or states l 0; at = at; edges = e; base = r + 1 }

      pub places : RingPlace rings lengths l r
      places = places_of grid input room.rs rings lengths room.loops room.corners.few l r h here.read

      -- a rim is judged at sight, and passed over
      pub rim_decides : get_or rimmed l 0 ≡ rim_mark → (get_or states l 0 ≡ rim_mark → ⊥) → Gives grid input rings lengths rimmed states set (Misdeclared l)
      rim_decides m n rims rs s d = verdicts.rim_decides s d h (g.gone rims rs s d) m n

      pub rim_goes : get_or rimmed l 0 ≡ rim_mark → get_or states l 0 ≡ rim_mark
          → Going grid input rings lengths rimmed states set t₀ (l + 1) (r + get_or lengths l 0) at e t
      rim_goes m q = record {
        kept = g.kept;
        standing = standing_passed refl (omega arith) g.standing;
        gone = λ rims rs s d. verdicts.rim_goes s d h (g.gone rims rs s d) m q;
      }

      ring_of : RingOf grid input part
      ring_of = ring_here room.loops room.declared h here

      -- the table is the one that was lent, and long enough for the next loop, if that is no rim
      pub judge_room : Serves lengths rimmed t₀.table → (get_or rimmed l 0 ≡ rim_mark → ⊥) → JudgeRoom grid part hand t × (at ≤ length set)
      judge_room serves other =
          let n : length part ≡ get_or lengths l 0 = places.part_long in
          let x : 3 ≤ get_or lengths l 0 = places.three in
          let y : r + get_or lengths l 0 ≤ length rings = places.ring_in in
          let z : length rings ≤ length input = room.loops.few in (
            record {
              input = input;
              before = take at set;
              ring_of = ring_of;
              ready = g.standing.ready;
              room =
                  standing_room g.standing part room.corners (omega arith) (omega arith)
                  (subst (λ (k : ℕ). k ≤ limits.longest → TableFor k t.table) (sym n)
                  (table_here lengths rimmed t₀.table t.table l serves h other g.kept.table_kept));
            },
            set_in,
          )

      module _ (no' : get_or rimmed l 0 ≡ rim_mark → ⊥) {t' : Tray} where
        pub decides : {v : Verdict} → FindsLoop grid part set hand t (Err v) t' → Gives grid input rings lengths rimmed states set (Failed v)
        decides found rims rs s d = turn_decides s d h (g.gone rims rs s d) no' (found input (take at set) ring_of g.standing.ready).finds

        module _ {f k : ℕ} (found : FindsLoop grid part set hand t (Ok f) t') (takes : (ring : List ℕ) → length ring ≡ r + get_or lengths l 0 - r → k ≡ taken ring (get_or states l 0)) where
          judged : Judging grid input (take at set) part set hand (Ok f) t'
          judged = found input (take at set) ring_of g.standing.ready

          on : (rims : List Bool) (rs : List (List ℕ)) → Loops grid input rs rings lengths → Declared rims rs rimmed states
              → Gone grid input rims rs states set (l + 1) (r + get_or lengths l 0) (at + k)
          on rims rs s d = turn_goes s d h (g.gone rims rs s d) no' judged.finds takes

          -- what the loop takes is there
          pub takes_in : at + k ≤ length set
          takes_in = (on room.rims room.rs room.loops room.declared).within

          pub going_on : TrayKept t t' → Going grid input rings lengths rimmed states set t₀ (l + 1) (r + get_or lengths l 0) (at + k) f t'
          going_on kept =
              let n : length part ≡ get_or lengths l 0 = places.part_long in
              let q : k ≡ taken part (get_or states l 0) = takes part (omega arith) in
              record {
                kept = kept_next g.kept kept;
                standing = standing_next g.standing part (omega arith) kept judged.few (rw (take-add at k set, q) (judged.ready refl));
                gone = on;
              }

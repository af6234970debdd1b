-- The part of a set that a loop of four or more takes: what is read out of it, and the least weight, tell whether it is a cover, an allowed
-- one, and one that has no lighter one.
use mathlib.Core.Path.{◌≡◌, refl, sym, ◌∙◌, subst}
use mathlib.Core.Bool.{Bool}
use mathlib.Core.List.{List}
use Prim.Native.Nat.{ℕ, ◌-◌, ◌<◌, ◌≤◌}
use native.Mathlib.Nat.{le_of_lt}
use native.Mathlib.Omega.{arith}
use lib.IntN.{ℤ}
use lib.Ieee.{Float}
use lib.ListN.{length, take}
use Rattle.base_answers.specs.declared.Answer.{Answer}
use Rattle.base_answers.specs.Answers.{Uncovered, Barred, Heavy}
use Rattle.base_answers.specs.declared.Answer.TheVariants.{Done}
use Rattle.base_limits.specs.Limits as limits
use Rattle.base_limits.specs.States as stated
use Rattle.surface_rules.specs.Threes.{threes}
use Rattle.cover_rules.specs.Covers.{Cover}
use Rattle.cover_bits.specs.Workings.Masks.{Rows}
use Rattle.cover_bars.specs.Bars.{barred}
use Rattle.cover_sum.specs.Workings.Triples.{Threes}
use Rattle.cover_sum.specs.Workings.Weighing.{set_weight, WeighRoom}
use Rattle.judge_seat.specs.Workings.Covering.{Covering}
use Rattle.judge_match.specs.declared.Match.{Match}
use Rattle.judge_match.specs.declared.Match.TheVariants as matched
use Rattle.judge_match.specs.Workings.Matching.{Matches}
use Rattle.judge_match.specs.Workings.Rows.{Matchable, SidesFree}
use Rattle.std.proofs.Common.{Option, Some, None}
use Rattle.cover_table.specs.Workings.Loops.{Barring, LoopRoom, LeastIs}
use Rattle.cover_trace.specs.Workings.Patches.{FindsLeast}
use Rattle.fill_fates.specs.Here.{weight_here}
use Rattle.judge_rules.specs.Faults.{share, IsCover, patched, no_cover, cover_barred, too_heavy}
use Rattle.judge_rules.proofs.Laws.Declared.{declared_patched}
use Rattle.judge_sight.specs.Workings.Findings.{right, fault}
use Rattle.judge_part.specs.Workings.Parts.{PartRoom, FindsCover, WeightRoom, FindsWeight}
use Rattle.judge_part.proofs.Laws.Covered.{cover_weight, cover_named}

-- the part at the set's front is a cover
part_cover : {ring part set : List ℕ} {c : Cover} → share ring ≤ length set → part ≡ take (share ring) set → Covering ring (threes part) c → IsCover ring set c
part_cover {ring} {c = c} t e h = record { there = t; covers = subst (λ (p : List ℕ). Covering ring (threes p) c) e h }

-- the other way round
pub cover_part : {ring part set : List ℕ} {c : Cover} → part ≡ take (share ring) set → IsCover ring set c → Covering ring (threes part) c
cover_part {ring} {c = c} e h = subst (λ (p : List ℕ). Covering ring (threes p) c) (sym e) h.covers

-- ---- an allowed cover and the least weight

module _ (grid : List ℤ) (ring part rows : List ℕ) (table : List Float) (room : WeightRoom grid ring part rows table) where
  pub least_room : LoopRoom grid ring rows table
  least_room =
      record {
        on = room.on;
        some = room.some;
        barred = barred room.input room.before ring;
        barring = room.barring;
        table_long = room.table_long;
      }

  pub weigh_room : WeighRoom grid part
  weigh_room =
      let whole : Threes part = record { triangles = length ring - 2; threes = room.long } in
      record {
        coordinates = room.on.coordinates;
        named = cover_named grid ring part room.cover room.on.named whole room.covering;
        whole = whole;
        few = let n : length part ≡ share ring = room.long in let k : length ring ≤ limits.longest = room.on.few in omega arith;
      }

  module _ (l : ℕ) (least : Option ℕ) (found : FindsLeast grid ring rows least) where
    least_is : (r : Option ℕ) → least ≡ r → (input before : List ℕ) → Barring (barred input before ring) ring rows → LeastIs grid ring (barred input before ring) r
    least_is r is input before b = subst (LeastIs grid ring (barred input before ring)) is (found (barred input before ring) b)

    -- with an allowed cover there is a least weight
    pub weight_none : least ≡ None → FindsWeight grid ring part l rows Done
    weight_none is input before b set t e c h a = absurd (least_is None is input before b c a)

    module _ (w v : ℕ) (is : least ≡ Some w) (weighs : v ≡ set_weight grid (threes part)) where
      weight_of_lem : (c : Cover) → Covering ring (threes part) c → v ≡ weight_here grid ring c
      weight_of_lem c h = weighs ∙ cover_weight grid ring (threes part) c h

      pub weight_heavy : w < v → FindsWeight grid ring part l rows (Heavy l)
      weight_heavy lighter input before b set t e c h a =
          let x = least_is (Some w) is input before b in
          fault
          (too_heavy refl (declared_patched input before ring stated.patched refl room.on.few)
          (record {
            cover = c;
            taken = part_cover t e h;
            allowed = a;
            lighter = record {
              other = x.cover;
              allowed = x.among;
              lighter =
                  let y : weight_here grid ring x.cover ≡ w = x.weighs in
                  let z : v ≡ weight_here grid ring c = weight_of_lem c h in
                  omega arith;
            };
          }))

      pub weight_right : v ≤ w → FindsWeight grid ring part l rows Done
      weight_right under input before b set t e c h a =
          let x = least_is (Some w) is input before b in
          right refl
          (patched refl room.on.few c (part_cover t e h) a
          (λ y.
          let p : weight_here grid ring y.other < weight_here grid ring c = y.lighter in
          let z : v ≡ weight_here grid ring c = weight_of_lem c h in
          x.least y.other y.allowed (omega arith)))

-- ---- what is read

module _ (grid : List ℤ) (ring part stamps : List ℕ) (base : ℕ) (rows : List ℕ) (table : List Float) (room : PartRoom grid ring part stamps base rows table) where
  pub matchable : Matchable ring stamps base rows part
  matchable = record { ringed = room.ringed; many = le_of_lt room.some; rows = room.rows_long; long = room.long }

  module _ (r : Match) (reads : (barred : ℕ → ℕ → Bool) → Rows (length ring) barred rows → SidesFree (length ring) barred → Matches ring barred (threes part) r) where
    match_as : (x : Match) → r ≡ x → (input before : List ℕ) → Barring (barred input before ring) ring rows → Matches ring (barred input before ring) (threes part) x
    match_as x is input before b = subst (Matches ring (barred input before ring) (threes part)) is (reads (barred input before ring) b.rows (λ j k. b.sides j))

    pub match_none : (l : ℕ) → r ≡ matched.NoCover → FindsCover grid ring part l rows (Uncovered l)
    match_none l is input before b set t e =
        fault (no_cover refl (declared_patched input before ring stated.patched refl room.on.few) (λ c h. match_as matched.NoCover is input before b c (cover_part e h)))

    pub match_barred : (l : ℕ) → r ≡ matched.Barred → FindsCover grid ring part l rows (Barred l)
    match_barred l is input before b set t e =
        let x = match_as matched.Barred is input before b in
        fault
        (cover_barred refl (declared_patched input before ring stated.patched refl room.on.few)
        (record { cover = x.0; taken = part_cover t e x.1; from = x.2; to = x.3; used = x.4; barring = x.5 }))

    module _ (is : r ≡ matched.Allowed) where
      pub match_room : WeightRoom grid ring part rows table
      match_room =
          let x = match_as matched.Allowed is room.input room.before room.barring in
          record {
            on = room.on;
            some = room.some;
            long = room.long;
            table_long = room.table_long;
            input = room.input;
            before = room.before;
            barring = room.barring;
            cover = x.0;
            covering = x.1;
          }

      pub match_allowed : (l : ℕ) (a : Answer) → FindsWeight grid ring part l rows a → FindsCover grid ring part l rows a
      match_allowed l a f input before b set t e =
          let x = match_as matched.Allowed is input before b in
          f input before b set t e x.0 x.1 x.2

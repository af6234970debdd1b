-- One loop of a patch set: what makes it right, and the faults 11 to 14. Throughout, the surface has this grid and these corners
-- (`input`), the set's triangles of the loops before have the corners `laid` ("Bars come from the set's own earlier loops"), and `set` is what is
-- left of the set.
use Rattle.std.specs.Prelude.{◌≡◌, Bool, true, false, List, ℕ, ◌-◌, ◌*◌, ◌<◌, ◌≤◌, ℤ, length, take}
use Rattle.base_answers.specs.declared.Answer.{Answer}
use Rattle.base_answers.specs.Answers.{Misdeclared, Uncovered, Barred, Heavy}
use Rattle.base_limits.specs.Limits as limits
use Rattle.base_limits.specs.States as stated
use Rattle.surface_rules.specs.Threes.{threes}
use Rattle.cover_rules.specs.Covers.{Cover, Uses, vertex_of}
use Rattle.cover_rules.specs.Sets.{Covered}
use Rattle.cover_bars.specs.Bars.{barred}
use Rattle.fill_fates.specs.Here.{AllowedHere, NoneHere, weight_here}

-- "the next 3(n-2) corners", how many a patched loop takes
abbrev pub share : List ℕ → ℕ
share ring = 3 * (length ring - 2)

-- they are there, and are the triangles of the cover c, "in any order ..., each begun at any corner, but not turned round"
pub record IsCover (ring set : List ℕ) (c : Cover) : Type 0 where
  pub there : share ring ≤ length set
  pub covers : Covered (length ring) (vertex_of ring) (threes (take (share ring) set)) c

module _ (grid : List ℤ) (input laid ring : List ℕ) where
  -- an allowed cover that is lighter than c
  pub record Lighter (c : Cover) : Type 0 where
    pub other : Cover
    pub allowed : AllowedHere input laid ring other
    pub lighter : weight_here grid ring other < weight_here grid ring c

  -- The loop is right: if it is not long, it is declared patched and has a full cover wound against it, without a barred diagonal and
  -- with no lighter such cover, or is declared open because none exists; a long one is declared long.
  pub data Right (state : ℕ) (set : List ℕ) : Type 0 where
    patched : state ≡ stated.patched → length ring ≤ limits.longest → (c : Cover) → IsCover ring set c → AllowedHere input laid ring c
        → (Lighter c → ⊥) → Right state set
    long : state ≡ stated.long → limits.longest < length ring → Right state set
    open_left : state ≡ stated.left_open → length ring ≤ limits.longest → NoneHere input laid ring → Right state set

module _ (input laid ring : List ℕ) where
  -- 11: "declared state isn't 1 to 3, is 2 on a loop of at most" the longest "or not 2 on a longer one, or is 3 where an allowed cover
  -- exists"
  pub data WrongState (state : ℕ) : Type 0 where
    no_state : (state ≡ stated.patched → ⊥) → (state ≡ stated.long → ⊥) → (state ≡ stated.left_open → ⊥) → WrongState state
    two_on_a_short : state ≡ stated.long → length ring ≤ limits.longest → WrongState state
    not_two_on_a_long : (state ≡ stated.long → ⊥) → limits.longest < length ring → WrongState state
    three_with_a_cover : state ≡ stated.left_open → (c : Cover) → AllowedHere input laid ring c → WrongState state

-- 12: "state 1, and the next 3(n-2) corners aren't there or aren't a cover"
abbrev pub NoCoverTaken : List ℕ → List ℕ → Type 0
NoCoverTaken ring set = (c : Cover) → IsCover ring set c → ⊥

module _ (input laid ring : List ℕ) where
  -- 13: "a cover, with a barred diagonal"
  pub record BarredTaken (set : List ℕ) : Type 0 where
    pub cover : Cover
    pub taken : IsCover ring set cover
    pub from : ℕ
    pub to : ℕ
    pub used : Uses 0 (length ring - 1) cover from to
    pub barring : barred input laid ring from to ≡ true

-- 14: "an allowed cover, but a lighter one exists"
pub record HeavyTaken (grid : List ℤ) (input laid ring set : List ℕ) : Type 0 where
  pub cover : Cover
  pub taken : IsCover ring set cover
  pub allowed : AllowedHere input laid ring cover
  pub lighter : Lighter grid input laid ring cover

-- the loop is declared patched, and that is not wrong
pub record DeclaredPatched (input laid ring : List ℕ) (state : ℕ) : Type 0 where
  pub is_one : state ≡ stated.patched
  pub not_wrong : WrongState input laid ring state → ⊥

module _ (grid : List ℤ) (input laid : List ℕ) (l : ℕ) (ring : List ℕ) (state : ℕ) (set : List ℕ) where
  -- "Verdicts 11 to 14 are tried in that order at each loop": a is the fault of loop l
  pub data Fault (a : Answer) : Type 0 where
    misdeclared : a ≡ Misdeclared l → WrongState input laid ring state → Fault a
    no_cover : a ≡ Uncovered l → DeclaredPatched input laid ring state → NoCoverTaken ring set → Fault a
    cover_barred : a ≡ Barred l → DeclaredPatched input laid ring state → BarredTaken input laid ring set → Fault a
    too_heavy : a ≡ Heavy l → DeclaredPatched input laid ring state → HeavyTaken grid input laid ring set → Fault a

module _ (grid : List ℤ) (input laid : List ℕ) where
  -- "Each rim must be declared 4"; any other loop is right as above
  abbrev pub RightIf : Bool → List ℕ → ℕ → List ℕ → Type 0
  RightIf true ring state set = state ≡ stated.rim
  RightIf false ring state set = Right grid input laid ring state set

  -- "on a rim verdict 11 is given exactly for a state other than 4; on other loops as before"
  abbrev pub FaultIf : ℕ → Bool → List ℕ → ℕ → List ℕ → Answer → Type 0
  FaultIf l true ring state set a = (a ≡ Misdeclared l) × (state ≡ stated.rim → ⊥)
  FaultIf l false ring state set a = Fault grid input laid l ring state set a

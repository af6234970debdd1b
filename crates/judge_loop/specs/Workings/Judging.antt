-- What judging one loop takes and leaves.
use Rattle.std.specs.Prelude.{◌≡◌, List, ◌++◌, ℕ, ◌+◌, ◌-◌, ◌<◌, ◌≤◌, ℤ, length, take, drop, Result, Ok, Err}
use Rattle.base_answers.specs.declared.Answer.{Answer}
use Rattle.base_answers.specs.declared.Answer.TheVariants.{Done, Failed}
use Rattle.base_answers.specs.declared.Verdict.{Verdict}
use Rattle.base_limits.specs.Limits as limits
use Rattle.base_limits.specs.States as stated
use Rattle.judge_rules.specs.Faults.{share}
use Rattle.judge_rules.specs.Verdicts.{taken}
use Rattle.fill_scratch.specs.Workings.Rings.{RingOf}
use Rattle.fill_scratch.specs.Workings.Tray.{Tray, TrayReady, TrayRoom}
use Rattle.judge_sight.specs.Workings.Findings.{Finds}
use Rattle.judge_loop.specs.declared.InHand.{InHand}

-- the ring is that of a loop of some input, and the tray is ready for it and has room
pub record JudgeRoom (grid : List ℤ) (ring : List ℕ) (h : InHand) (t : Tray) : Type 0 where
  pub input : List ℕ
  pub before : List ℕ
  pub ring_of : RingOf grid input ring
  pub ready : TrayReady input before h.edges h.base t
  pub room : TrayRoom ring h.edges h.base t

-- and the loop has more than three edges and is not long
pub record ShortRoom (grid : List ℤ) (ring : List ℕ) (h : InHand) (t : Tray) : Type 0 where
  pub judge : JudgeRoom grid ring h t
  pub some : 3 < length ring
  pub short : length ring ≤ limits.longest

-- what is said of the loop,
abbrev pub told : Result ℕ Verdict → Answer
told (Ok e) = Done
told (Err v) = Failed v

-- and how many edges are chained after it: no more than before where it has a fault
abbrev pub edges_after : InHand → Result ℕ Verdict → ℕ
edges_after h (Ok e) = e
edges_after h (Err v) = h.edges

-- the loop was judged by what is left of the set; and where it is right, the tray is ready for the next one
pub record Judging (grid : List ℤ) (input before ring set : List ℕ) (h : InHand) (r : Result ℕ Verdict) (t' : Tray) : Type 0 where
  pub finds : Finds grid input before h.l ring h.state (drop h.at set) (told r)
  pub few : edges_after h r ≤ h.edges + (length ring - 2)
  pub ready : told r ≡ Done → TrayReady input (before ++ take (taken ring h.state) (drop h.at set)) (edges_after h r) (h.base + length ring) t'

-- whatever the input and the triangles before it are
abbrev pub FindsLoop : List ℤ → List ℕ → List ℕ → InHand → Tray → Result ℕ Verdict → Tray → Type 0
FindsLoop grid ring set h t r t' =
    (input before : List ℕ) → RingOf grid input ring → TrayReady input before h.edges h.base t → Judging grid input before ring set h r t'

-- the same for a loop that is declared patched, whose share of the set is this part,
abbrev pub FindsPatched : List ℤ → List ℕ → List ℕ → InHand → Tray → Result ℕ Verdict → Tray → Type 0
FindsPatched grid ring part h t r t' =
    h.state ≡ stated.patched → (set : List ℕ) → share ring ≤ length (drop h.at set) → part ≡ take (share ring) (drop h.at set)
    → FindsLoop grid ring set h t r t'

-- no edge more is chained
abbrev pub unchained : InHand → Result Unit Verdict → Result ℕ Verdict
unchained h (Ok x) = Ok h.edges
unchained h (Err v) = Err v

-- and for one that is declared open, which takes nothing of the set
abbrev pub FindsOpen : List ℤ → List ℕ → InHand → Tray → Result Unit Verdict → Tray → Type 0
FindsOpen grid ring h t r t' = h.state ≡ stated.left_open → (set : List ℕ) → FindsLoop grid ring set h t (unchained h r) t'

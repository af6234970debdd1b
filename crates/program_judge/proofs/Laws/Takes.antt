-- Taking in a text, by which it is: what is asked for, and what is there then.
use Prim.{tt}
use Rattle.std.specs.Prelude.{Result, Ok, Err}
use mathlib.Core.Path.{◌≡◌, sym, subst}
use mathlib.Core.List.{List}
use Prim.Native.Nat.{ℕ, ◌≤◌}
use native.Mathlib.Omega.{arith}
use lib.ListN.{length}
use Rattle.base_answers.specs.declared.Answer.{Answer}
use Rattle.base_answers.specs.declared.Refusal.{Refusal}
use Rattle.base_limits.specs.Limits as limits
use Rattle.text_sheet.specs.Workings.Parse.{Room}
use Rattle.text_read.specs.Workings.Taking.{Takes}
use Rattle.text_read.specs.declared.Intake.{Intake}
use Rattle.text_read.proofs.Laws.Deliver.{few_points, few_triangles}
use Rattle.text_read_set.specs.Outcome.{set_outcome, ReadsSet}
use Rattle.text_read_set.specs.declared.ReadSet.{ReadSet}
use Rattle.program_judge.specs.Hears.{Hears}
use Rattle.program_judge.specs.declared.Hearing.{Hearing}
use Rattle.program_judge.specs.Workings.Taken.{Few, lines_of, TakesSet, SheetOf, SetOf, Somehow, HearsOf}

-- buffers of the full size have room for whatever a text says
pub sheet_room : (long : ℕ) (words corners : List ℕ) → (limits.words ≤ length words) × (limits.corners ≤ length corners)
    → Room 29 limits.points long (length words) × Room 8 limits.triangles long (length corners)
unfolding Room
sheet_room long words corners f = (λ k a b. omega (arith, f.0), λ k a b. omega (arith, f.1))

-- a set is read behind a whole sheet, and behind a wrong line it is not
module _ {intake : Result Intake ℕ} where
  pub points_few : {s : Intake} → intake ≡ Ok s → Few intake → s.points ≤ limits.points
  points_few e f = (subst Few e f).0

  pub triangles_few : {s : Intake} → intake ≡ Ok s → Few intake → s.triangles ≤ limits.triangles
  triangles_few e f = (subst Few e f).1

  module _ (bytes : List ℕ) (r : Result ReadSet Refusal) (states' parts' states parts : List ℕ) where
    pub set_unread : {line : ℕ} → intake ≡ Err line → TakesSet intake bytes r states' parts' states parts
    set_unread e = subst (λ (i : Result Intake ℕ). TakesSet i bytes r states' parts' states parts) (sym e) tt

    pub set_read_lem : {s : Intake} {last : ℕ} → intake ≡ Ok s → last ≡ lines_of s.pitch s.points s.triangles → ReadsSet bytes last states parts (set_outcome r states' parts') → TakesSet intake bytes r states' parts' states parts
    set_read_lem e counted h =
        subst (λ (i : Result Intake ℕ). TakesSet i bytes r states' parts' states parts) (sym e) (subst (λ (k : ℕ). ReadsSet bytes k states parts (set_outcome r states' parts')) counted h)

-- a sheet that was taken in is no larger than one may be
pub few_taken : (intake : Result Intake ℕ) (bytes words corners words_before corners_before : List ℕ) → Takes bytes intake words corners words_before corners_before → Few intake
few_taken (Ok i) bytes words corners words_before corners_before s = (few_points s, few_triangles s)
few_taken (Err line) bytes words corners words_before corners_before s = tt

-- both texts were taken in
module _ (h : Hearing) (bytes patches words corners states parts words_before corners_before states_before parts_before : List ℕ)
    (s : Takes bytes h.sheet words corners words_before corners_before) (t : TakesSet h.sheet patches h.set states parts states_before parts_before)
    (sf : limits.states ≤ length states_before) (pf : limits.set_corners ≤ length parts_before) where
  the_sheet : SheetOf bytes h.sheet words corners
  the_sheet = record { words_before = words_before; corners_before = corners_before; taken = s }

  the_set : SetOf patches h states parts
  the_set = record { states_before = states_before; parts_before = parts_before; states_full = sf; parts_full = pf; taken = t }

  pub from_texts : Somehow h words corners states parts
  from_texts = (bytes, patches, the_sheet, the_set)

  pub heard_texts : (a : Answer) → HearsOf h words corners states parts a → Hears bytes patches a
  unfolding HearsOf
  heard_texts a k = k bytes patches the_sheet the_set

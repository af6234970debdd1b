-- What a text was taken in for is what is taken up of it: the line of its fault, or what the checks say of what it says; and what is patched of
-- that is what is promised of the text.
use Rattle.std.specs.Prelude.{Result, Ok, Err}
use mathlib.Core.Path.{◌≡◌, refl, sym, ap, ◌∙◌, subst}
use mathlib.Core.Bool.{true≢false}
use mathlib.Core.List.{List}
use Prim.Native.Nat.{ℕ, ◌*◌, ◌≤◌}
use native.Mathlib.Omega.{arith}
use lib.IntN.{ℤ}
use lib.ListN.{length, take}
use lib.Seq.{length-take-le}
use Rattle.base_answers.specs.Numbers.{refusing}
use Rattle.base_answers.specs.declared.Answer.{Answer}
use Rattle.base_answers.specs.Answers.{Line, said}
use Rattle.base_answers.specs.declared.Answer.TheVariants.{Done, Refused}
use Rattle.base_answers.specs.declared.Refusal.{Refusal}
use Rattle.base_answers.specs.declared.Refusal.TheVariants as refusal
use Rattle.base_limits.specs.Limits as limits
use Rattle.patch_surface.specs.Outcome.{Buffers, outcome, buffers}
use Rattle.patch_surface.specs.Workings.Checking.{Checks, PatchRoom, Finishes}
use Rattle.patch_surface.specs.declared.Patched.{Patched}
use Rattle.patch_surface.proofs.Laws.Answering.{checked_refuse, checked_in, checked_room, checked_patches}
use Rattle.text_rules.specs.Fault.{Fault}
use Rattle.text_rules.proofs.Theorems.{not_both, fault_once}
use Rattle.text_sheet.specs.Sheet.{Sheet, sheet, pitch_said, words_said, corners_said}
use Rattle.text_sheet.specs.Workings.Parse.{Room}
use Rattle.text_sheet.proofs.Laws.Texts.{text_once}
use Rattle.text_read.specs.Workings.Taking.{TakesWhole, Takes}
use Rattle.text_read.specs.declared.Intake.{Intake}
use Rattle.text_read.proofs.Laws.Deliver as deliver
use Rattle.program_list.specs.Lists.{Lists}
use Rattle.program_list.specs.Workings.TakingUp.{Standing, SaidUp, TakesUp, Patchable, Took}
use Rattle.program_list.specs.declared.Taken.{Taken}

-- room for the corners of the longest sheet is room for those of any
pub full_corners : (long room : ℕ) → limits.corners ≤ room → Room 8 limits.triangles long room
unfolding Room
full_corners long room h = λ k a b. omega arith

-- a fault's line, as it was taken in
module _ {text b : List ℕ} (bs : Buffers) (turns : List ℕ) where
  fault_up : {line : ℕ} → Fault sheet text line → TakesUp text bs (Err (refusal.Line line)) b turns bs.grid × Took bs (Err (refusal.Line line)) b turns bs.grid
  fault_up {line} f =
      let t : TakesUp text bs (Err (refusal.Line line)) b turns bs.grid = record { of_fault = λ l g. (ap Line (fault_once sheet f g), refl); of_text = λ s t. absurd (not_both sheet t f) } in
      (t, record { bytes = text; takes = t; patchable = λ u e. let z : ◌≡◌ {A = ℕ} 0 1 = cc in absurd (omega arith) })

  pub wrong_takes : (i : Result Intake ℕ) (a ws cs : List ℕ) {r : Refusal} → Takes text i a b ws cs → deliver.Mapped i (Err r) → TakesUp text bs (Err r) b turns bs.grid × Took bs (Err r) b turns bs.grid
  wrong_takes (Ok s) a ws cs {r} h k = let z : ◌≡◌ {A = ℕ} 0 1 = cc in absurd (omega arith)
  wrong_takes (Err l) a ws cs {r} h k = rw k (fault_up h)

-- a whole text, of which the checks refuse something or nothing
module _ {text : List ℕ} {p n t : ℕ} {a b ws cs : List ℕ} (whole : TakesWhole text p n t a b ws cs) where
  long : length (take (3 * n) a) ≡ 3 * n
  long = length-take-le (3 * n) a (deliver.words_in whole)

  abbrev counts : Taken
  counts = record { words = 3 * n; corners = 3 * t }

  standing : {u : Taken} → ◌≡◌ {A = Result Taken Refusal} (Ok counts) (Ok u) → Standing whole.said u b
  standing {u} e = let q : counts ≡ u = cc in subst (λ (v : Taken). Standing whole.said v b) q (record { words_are = sym long ∙ ap length (deliver.words_are whole); corners_are = deliver.corners_are whole })

  -- refused or not, the corners that the text says stand at the start of theirs
  stand : take (length (corners_said whole.said)) b ≡ corners_said whole.said
  stand =
      let many : length (take (3 * t) b) ≡ 3 * t = length-take-le (3 * t) b (deliver.corners_inside whole) in
      subst (λ (m : ℕ). take m b ≡ corners_said whole.said) (sym many ∙ ap length (deliver.corners_are whole)) (deliver.corners_are whole)

  module _ (bs : Buffers) {turns : List ℕ} {grid' : List ℤ} where
    checks_said : {ans : Answer} → Checks p (take (3 * n) a) (take (3 * t) b) bs ans turns grid'
        → Checks (pitch_said whole.said) (words_said whole.said) (corners_said whole.said) bs ans turns grid'
    checks_said {ans} k =
        subst (λ (m : ℕ). Checks m (words_said whole.said) (corners_said whole.said) bs ans turns grid') whole.pitch_is
        (subst (λ (l : List ℕ). Checks p (words_said whole.said) l bs ans turns grid') (deliver.corners_are whole)
        (subst (λ (l : List ℕ). Checks p l (take (3 * t) b) bs ans turns grid') (deliver.words_are whole) k))

    whole_up : {r : Result Taken Refusal} → SaidUp whole.said bs r b turns grid' → TakesUp text bs r b turns grid'
    whole_up {r} said = record {
      of_fault = λ line f. absurd (not_both sheet whole.text f);
      of_text = λ s u. subst (λ (s : Sheet). SaidUp s bs r b turns grid') (text_once whole.text u) said;
    }

    pub refused_takes : {r : Refusal} → Checks p (take (3 * n) a) (take (3 * t) b) bs (Refused r) turns grid' → TakesUp text bs (Err r) b turns grid' × Took bs (Err r) b turns grid'
    refused_takes {r} k =
        let u : TakesUp text bs (Err r) b turns grid' = whole_up (record { checks = checks_said k; corners_stand = stand; standing = λ u e. let z : ◌≡◌ {A = ℕ} 0 1 = cc in absurd (omega arith) }) in
        (u, record { bytes = text; takes = u; patchable = λ u e. let z : ◌≡◌ {A = ℕ} 0 1 = cc in absurd (omega arith) })

    module _ (k : Checks p (take (3 * n) a) (take (3 * t) b) bs Done turns grid') where
      patchable : {u : Taken} → ◌≡◌ {A = Result Taken Refusal} (Ok counts) (Ok u) → Patchable bs u b turns grid'
      patchable {u} e = let q : counts ≡ u = cc in subst (λ (v : Taken). Patchable bs v b turns grid') q (record {
        corners_inside = deliver.corners_inside whole;
        words_in = subst (λ (m : ℕ). m ≤ length grid') long (checked_in p (take (3 * n) a) (take (3 * t) b) bs k refl);
        room = subst (λ (m : ℕ). PatchRoom (take (3 * t) b) turns (take m grid') bs.rings bs.records bs.patches) long (checked_room p (take (3 * n) a) (take (3 * t) b) bs k refl);
      })

      pub whole_takes : TakesUp text bs (Ok counts) b turns grid' × Took bs (Ok counts) b turns grid'
      whole_takes =
          let u : TakesUp text bs (Ok counts) b turns grid' = whole_up (record { checks = checks_said k; corners_stand = stand; standing = λ u e. standing e }) in
          (u, record { bytes = text; takes = u; patchable = λ u e. patchable e })

-- ---- what was taken up is refused, or patched

module _ {rings records patches : List ℕ} {r : Result Taken Refusal} {corners turns : List ℕ} {grid : List ℤ} {bytes : List ℕ} {before : List ℤ}
    (k : TakesUp bytes (buffers before rings records patches) r corners turns grid) where
  abbrev b : Buffers
  b = buffers before rings records patches

  pub refused_lists : {f : Refusal} → r ≡ Err f → Lists bytes b (outcome (Err f) (buffers grid rings records patches))
  refused_lists {f} e = record {
    of_fault = λ line g.
        let d = k.of_fault line g in
        let a : Refused f ≡ Line line = ap said (sym e) ∙ d.0 in
        λ i. record { answer = a i; loops = 0; vertices = 0; corners = 0; left = record { grid = d.1 i; rings = rings; records = records; patches = patches } };
    of_text = λ s x.
        checked_refuse (pitch_said s) (words_said s) (corners_said s) b
        (subst (λ (a : Answer). Checks (pitch_said s) (words_said s) (corners_said s) b a turns grid) (ap said e) (k.of_text s x).checks);
  }

  pub patched_lists : {u : Taken} {p : Patched} {rings' records' patches' : List ℕ} → r ≡ Ok u
      → Finishes (take u.corners corners) turns (take u.words grid) (buffers (take u.words grid) rings records patches) p (buffers (take u.words grid) rings' records' patches')
      → Lists bytes b (outcome (Ok p) (buffers grid rings' records' patches'))
  patched_lists {u} {p} {rings'} {records'} {patches'} e f = record {
    of_fault = λ line g. absurd (true≢false (ap refusing (sym (k.of_fault line g).0 ∙ ap said e)));
    of_text = λ s x.
        let y = k.of_text s x in
        let z = y.standing u e in
        checked_patches (pitch_said s) (words_said s) (corners_said s) b y.checks (ap (λ (q : Result Taken Refusal). refusing (said q)) e)
        (subst (λ (c : List ℕ). Finishes c turns (take (length (words_said s)) grid) (buffers (take (length (words_said s)) grid) rings records patches) p (buffers (take (length (words_said s)) grid) rings' records' patches')) z.corners_are
        (subst (λ (m : ℕ). Finishes (take u.corners corners) turns (take m grid) (buffers (take m grid) rings records patches) p (buffers (take m grid) rings' records' patches')) z.words_are f));
  }

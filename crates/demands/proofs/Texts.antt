-- The demand of texts is kept, by every outcome that reading and writing may have.
use Rattle.std.specs.Prelude.{Option, Some, None}
use mathlib.Core.Path.{◌≡◌, refl, sym, ap, ap₂, ◌∙◌, subst}
use mathlib.Core.Bool.{Bool, true, false, true≢false}
use mathlib.Core.Logic.{inl, inr}
use mathlib.Core.List.{List, [], ◌∷◌}
use Prim.Native.Nat.{ℕ, ◌+◌, ◌/◌, ◌≤◌}
use native.Mathlib.Omega.{arith}
use lib.ListN.{length, take}
use Rattle.base_answers.specs.Numbers.{refusing}
use Rattle.base_answers.specs.declared.Answer.{Answer}
use Rattle.base_answers.specs.Answers.{Buffer, Unnamed, Line}
use Rattle.base_answers.specs.declared.Answer.TheVariants.{Done}
use Rattle.base_limits.specs.Limits as limits
use Rattle.surface_rules.specs.Smallest.{least}
use Rattle.surface_rules.specs.Refusals.{short, unnamed, refuse_at, then_check, buffer_refusal, unnamed_refusal}
use Rattle.surface_rules.specs.Threes.{threes, flat}
use Rattle.surface_rules.proofs.Laws.Thens.{Fitting, counts_fit, two_long}
use Rattle.surface_rules.proofs.Laws.Over.{start_of}
use Rattle.surface_rules.proofs.Laws.Sound.{next_of}
use Rattle.surface_rules.proofs.Laws.Threes.{flat_threes}
use Rattle.text_rules.specs.Fault.{Fault}
use Rattle.text_rules.proofs.Theorems.{Known, one_text}
use Rattle.text_rules.proofs.Laws.Cut.{fault_whole}
use Rattle.text_sheet.specs.Sheet.{sheet, sheet_of, pitch_said, words_said, corners_said}
use Rattle.text_sheet.proofs.Laws.Texts.{text_once, text_or_fault}
use Rattle.text_sheet.proofs.Theorems.{points_pitch, line_later, wrong_pitch, longest, longest_met}
use Rattle.text_read.specs.Outcome.{ReadOutcome, Reads, deliver}
use Rattle.text_write.specs.Outcome.{writes}
use Rattle.text_write.proofs.Laws.Again.{written_whole}
use Rattle.text_write.proofs.Theorems.{written_text, checks}
use Rattle.stl_read.proofs.Theorems.{as_text}
use Rattle.program_import.proofs.Laws.Read.{taken}
use Rattle.demands.specs.Texts.{Words, read_all, wrote_all, TextsDemand}

-- ---- handing over

module _ (pitch : ℕ) (ws cs words corners : List ℕ) where
  abbrev room : Answer
  room = buffer_refusal (length words ∷ length corners ∷ []) (length ws ∷ length cs ∷ [])

  abbrev names : Answer
  names = unnamed_refusal cs (length ws / 3)

  delivered : room ≡ Done → names ≡ Done → deliver pitch ws cs words corners ≡ read_all pitch ws cs words corners
  unfolding deliver
  delivered b u = rw (b, u)

  -- done is said only where neither check refused
  done_delivers : (deliver pitch ws cs words corners).answer ≡ Done → deliver pitch ws cs words corners ≡ read_all pitch ws cs words corners
  unfolding deliver
  done_delivers d = go (refusing (then_check room names)) refl
    where
      go : (t : Bool) → refusing (then_check room names) ≡ t → deliver pitch ws cs words corners ≡ read_all pitch ws cs words corners
      go true e = absurd (true≢false (sym e ∙ ap refusing (rw e at d)))
      go false e = rw e

  done_names : (deliver pitch ws cs words corners).answer ≡ Done → names ≡ Done
  unfolding deliver
  done_names d = go (refusing (then_check room names)) refl
    where
      named : (f : Option ℕ) → refusing (refuse_at Unnamed f) ≡ false → refuse_at Unnamed f ≡ Done
      named None e = refl
      named (Some i) e = absurd (true≢false e)

      go : (t : Bool) → refusing (then_check room names) ≡ t → names ≡ Done
      go true e = absurd (true≢false (sym e ∙ ap refusing (rw e at d)))
      go false e = named (least (unnamed cs (length ws / 3)) (length cs)) (next_of room names e).second

-- ---- the two ways back

module _ (pitch : ℕ) (ws cs buffer words corners : List ℕ) (w : Words ws) (d : (writes pitch ws cs buffer).answer ≡ Done) where
  back : (o : ReadOutcome) → Reads (take (writes pitch ws cs buffer).count (writes pitch ws cs buffer).bytes) words corners o → length ws ≤ length words → length cs ≤ length corners
      → o ≡ read_all pitch ws cs words corners
  back o r h g =
      let c = checks pitch ws cs buffer d in
      let f : Fitting (length ws) (length cs) = counts_fit (length ws) (length cs) c.1 in
      let e : flat (threes ws) ≡ ws = flat_threes (length ws / 3) ws (omega (arith, f.word_threes)) in
      let k : flat (threes cs) ≡ cs = flat_threes (length cs / 3) cs (omega (arith, f.corner_threes)) in
      r.of_text (sheet_of pitch (threes ws) (threes cs)) ((written_text pitch ws cs buffer (writes pitch ws cs buffer) refl d).1 w)
      ∙ ap₂ (λ (x y : List ℕ). deliver pitch x y words corners) e k
      ∙ delivered pitch ws cs words corners (two_long (length words) (length corners) (length ws) (length cs) h g) (ap (refuse_at Unnamed) c.2)

done_line : {l : ℕ} → Line l ≡ Done → ⊥
done_line e = true≢false (ap refusing e)

module _ (bytes words corners buffer : List ℕ) (o : ReadOutcome) (r : Reads bytes words corners o) (d : o.answer ≡ Done) (h : length bytes ≤ length buffer) where
  again : writes o.pitch (take o.word_count o.words) (take o.corner_count o.corners) buffer ≡ wrote_all bytes buffer
  again = go (text_or_fault bytes)
    where
      go : Known sheet bytes → writes o.pitch (take o.word_count o.words) (take o.corner_count o.corners) buffer ≡ wrote_all bytes buffer
      go (inr f) = absurd (done_line (sym (ap (λ (p : ReadOutcome). p.answer) (r.of_fault f.0 f.1)) ∙ d))
      go (inl (s, t)) =
          let n : ℕ = pitch_said s in
          let ws : List ℕ = words_said s in
          let cs : List ℕ = corners_said s in
          let e : o ≡ deliver n ws cs words corners = r.of_text s t in
          let g : (deliver n ws cs words corners).answer ≡ Done = ap (λ (p : ReadOutcome). p.answer) (sym e) ∙ d in
          let k : o ≡ read_all n ws cs words corners = e ∙ done_delivers n ws cs words corners g in
          ap (λ (p : ReadOutcome). writes p.pitch (take p.word_count p.words) (take p.corner_count p.corners) buffer) k
          ∙ ap₂ (λ (x y : List ℕ). writes n x y buffer) (start_of ws words (length ws) refl) (start_of cs corners (length cs) refl)
          ∙ written_whole t buffer h (done_names n ws cs words corners g)

-- ---- a wrong line

no_line_at : (F : ℕ → Answer) (l : ℕ) → ((i : ℕ) → F i ≡ Line l → ⊥) → (f : Option ℕ) → refuse_at F f ≡ Line l → ⊥
no_line_at F l h (Some i) e = h i e
no_line_at F l h None e = done_line (sym e)

buffer_line : {i l : ℕ} → Buffer i ≡ Line l → ⊥
buffer_line e = let z : ◌≡◌ {A = ℕ} 0 1 = cc in omega arith

unnamed_line : {i l : ℕ} → Unnamed i ≡ Line l → ⊥
unnamed_line e = let z : ◌≡◌ {A = ℕ} 0 1 = cc in omega arith

module _ (pitch : ℕ) (ws cs words corners : List ℕ) (l : ℕ) where
  no_line : then_check (room pitch ws cs words corners) (names pitch ws cs words corners) ≡ Line l → ⊥
  unfolding buffer_refusal
  no_line e = go (refusing (room pitch ws cs words corners)) refl
    where
      go : (t : Bool) → refusing (room pitch ws cs words corners) ≡ t → ⊥
      go true r = no_line_at (λ (i : ℕ). Buffer (i + 1)) l (λ i k. buffer_line k) (least (short (length words ∷ length corners ∷ []) (length ws ∷ length cs ∷ [])) 2) (rw r at e)
      go false r = no_line_at Unnamed l (λ i k. unnamed_line k) (least (unnamed cs (length ws / 3)) (length cs)) (rw r at e)

  delivers_no_line : (deliver pitch ws cs words corners).answer ≡ Line l → ⊥
  unfolding deliver
  delivers_no_line d = go (refusing (then_check (room pitch ws cs words corners) (names pitch ws cs words corners))) refl
    where
      go : (t : Bool) → refusing (then_check (room pitch ws cs words corners) (names pitch ws cs words corners)) ≡ t → ⊥
      go true e = no_line (rw e at d)
      go false e = done_line (sym (rw e at d))

module _ (bytes words corners : List ℕ) (o : ReadOutcome) (r : Reads bytes words corners o) (line : ℕ) where
  told_wrong : o.answer ≡ Line line → Fault sheet bytes line
  told_wrong d = go (text_or_fault bytes)
    where
      go : Known sheet bytes → Fault sheet bytes line
      go (inl (s, t)) = absurd (delivers_no_line (pitch_said s) (words_said s) (corners_said s) words corners line (sym (ap (λ (p : ReadOutcome). p.answer) (r.of_text s t)) ∙ d))
      go (inr f) =
          let e : Line f.0 ≡ Line line = sym (ap (λ (p : ReadOutcome). p.answer) (r.of_fault f.0 f.1)) ∙ d in
          let k : f.0 ≡ line = cc in
          subst (Fault sheet bytes) k f.1

pub texts_demand : TextsDemand
texts_demand = record {
  reads_back = λ pitch ws cs buffer words corners o w d r h g. back pitch ws cs buffer words corners w d o r h g;
  writes_back = λ bytes words corners buffer o r d h. again bytes words corners buffer o r d h;
  one_sheet = λ bytes s t u v. text_once u v;
  one_text = λ bytes other s t u. one_text sheet t u;
  points_pitch = λ bytes s t. points_pitch t;
  line_later = λ pitch p n below line f. line_later p n f;
  wrong_pitch = λ pitch. wrong_pitch;
  longest = λ bytes s t. longest t;
  longest_met = longest_met;
  wrong_line_lem = λ bytes words corners o r line d. told_wrong bytes words corners o r line d;
  line_wrong = λ bytes words corners o r line f. ap (λ (p : ReadOutcome). p.answer) (r.of_fault line f);
  front_enough = λ bytes m line f. fault_whole sheet limits.sheet_text (λ b s t. longest t) bytes m f;
  as_text = λ file out words corners o p h r. as_text file words corners out o h (p.of_sheet (taken file h).done) r;
}

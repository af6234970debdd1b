-- From the answers of reading and writing texts to their plain numbers, and that these are determined.
use Rattle.std.specs.Prelude.{Result, Ok, Err}
use Rattle.std.specs.Result.{result_unwrap_or}
use mathlib.Core.Path.{◌≡◌, refl, sym, ap, ◌∙◌}
use mathlib.Core.List.{List}
use Prim.Native.Nat.{ℕ}
use Rattle.base_answers.specs.Answers.{said}
use Rattle.base_answers.specs.Numbers.{number_of, place_of, refusal_number, refusal_place}
use Rattle.base_answers.specs.declared.Refusal.{Refusal}
use Rattle.text_read.specs.Outcome.{ReadOutcome, read_outcome, Reads}
use Rattle.text_read.specs.declared.ReadSheet.{ReadSheet}
use Rattle.text_read.proofs.Theorems.{reads_once}
use Rattle.text_read_set.specs.Outcome.{set_outcome, ReadsSet}
use Rattle.text_read_set.specs.declared.ReadSet.{ReadSet}
use Rattle.text_read_set.proofs.Theorems.{reads_set_once}
use Rattle.text_write.specs.Outcome.{WriteOutcome, write_outcome}
use Rattle.wazelpunt.specs.Texts.{TextTold, text_told, sheet_read, ReadsTold, set_read, ReadsSetTold, write_told, written}

-- a sheet that was read, field by field, or a refusal
module _ (bytes words corners : List ℕ) (w : Result ReadSheet Refusal) (words' corners' : List ℕ) (h : Reads bytes words corners (read_outcome w words' corners')) where
  pub told_read : {r : ReadSheet} → w ≡ Ok r → ReadsTold bytes words corners (text_told 0 0 r.words r.corners words' corners') r.pitch
  told_read e = record { outcome = read_outcome w words' corners'; right = h; its_numbers = rw e refl; its_pitch = rw e refl }

  pub refused_read : {f : Refusal} {n p : ℕ} → w ≡ Err f → n ≡ refusal_number f → p ≡ refusal_place f → ReadsTold bytes words corners (text_told n p 0 0 words' corners') 0
  refused_read e en ep = record { outcome = read_outcome w words' corners'; right = h; its_numbers = rw (e, en, ep) refl; its_pitch = rw e refl }

-- any two readings told of one text and the same buffers are equal
pub reads_told_once : (bytes words corners : List ℕ) (s t : TextTold) (m n : ℕ) → ReadsTold bytes words corners s m → ReadsTold bytes words corners t n → (s ≡ t) × (m ≡ n)
reads_told_once bytes words corners s t m n p q =
    let e = reads_once bytes words corners p.outcome q.outcome p.right q.right in
    (p.its_numbers ∙ ap sheet_read e ∙ sym q.its_numbers, p.its_pitch ∙ ap (λ (o : ReadOutcome). o.pitch) e ∙ sym q.its_pitch)

-- a file of facets that was read, field by field, or a refusal
module _ (w : Result ReadSheet Refusal) (words' corners' : List ℕ) {o : ReadOutcome} (h : read_outcome w words' corners' ≡ o) where
  pub told_file : {r : ReadSheet} → w ≡ Ok r → text_told 0 0 r.words r.corners words' corners' ≡ sheet_read o
  told_file {r} e = let k : read_outcome (Ok r) words' corners' ≡ o = rw e at h in ap sheet_read k

  pub refused_file : {f : Refusal} {n p : ℕ} → w ≡ Err f → n ≡ refusal_number f → p ≡ refusal_place f → text_told n p 0 0 words' corners' ≡ sheet_read o
  refused_file {f} e en ep =
      let k : read_outcome (Err f) words' corners' ≡ o = rw e at h in
      rw (en, ep) (ap sheet_read k)

-- a set that was read, field by field, or a refusal
module _ (bytes : List ℕ) (before : ℕ) (states corners : List ℕ) (w : Result ReadSet Refusal) (states' corners' : List ℕ) (h : ReadsSet bytes before states corners (set_outcome w states' corners')) where
  pub told_set : {r : ReadSet} → w ≡ Ok r → ReadsSetTold bytes before states corners (text_told 0 0 r.states r.corners states' corners')
  told_set e = record { outcome = set_outcome w states' corners'; right = h; its_numbers = rw e refl }

  pub refused_set : {f : Refusal} {n p : ℕ} → w ≡ Err f → n ≡ refusal_number f → p ≡ refusal_place f → ReadsSetTold bytes before states corners (text_told n p 0 0 states' corners')
  refused_set e en ep = record { outcome = set_outcome w states' corners'; right = h; its_numbers = rw (e, en, ep) refl }

pub sets_told_once : (bytes : List ℕ) (before : ℕ) (states corners : List ℕ) (s t : TextTold) → ReadsSetTold bytes before states corners s → ReadsSetTold bytes before states corners t → s ≡ t
sets_told_once bytes before states corners s t p q =
    p.its_numbers ∙ ap set_read (reads_set_once bytes before states corners p.outcome q.outcome p.right q.right) ∙ sym q.its_numbers

-- a text that was written, field by field
pub told_write : (w : Result ℕ Refusal) (bytes : List ℕ) {o : WriteOutcome} {n p m : ℕ} → (n ≡ number_of (said w)) × (p ≡ place_of (said w)) → m ≡ result_unwrap_or w 0 → write_outcome w bytes ≡ o
    → write_told n p m bytes ≡ written o
told_write w bytes a c e = rw (a.0, a.1, c) (go w) ∙ ap written e
  where
    go : (v : Result ℕ Refusal) → write_told (number_of (said v)) (place_of (said v)) (result_unwrap_or v 0) bytes ≡ written (write_outcome v bytes)
    go (Ok k) = refl
    go (Err f) = refl

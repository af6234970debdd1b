-- Handing a set over, case by case, and that this is what reading promises.
use mathlib.Core.Path.{◌≡◌, sym, ap, ap₂, ◌∙◌}
use mathlib.Core.List.{List, [], ◌∷◌}
use Prim.Native.Nat.{ℕ, ◌+◌, ◌*◌, ◌≤◌}
use native.Mathlib.Omega.{arith}
use lib.ListN.{length, take}
use Rattle.base_answers.specs.Answers.{Line}
use Rattle.base_answers.specs.declared.Answer.TheVariants.{Done, Refused}
use Rattle.base_answers.specs.declared.Refusal.{Refusal}
use Rattle.base_answers.specs.declared.Refusal.TheVariants as refusal
use Rattle.base_limits.specs.Limits as limits
use Rattle.surface_rules.specs.Buffers.{over}
use Rattle.surface_rules.specs.Refusals.{buffer_refusal}
use Rattle.surface_rules.specs.Threes.{Three, flat}
use Rattle.surface_rules.proofs.Laws.Over.{start_of, front_in}
use Rattle.surface_rules.proofs.Laws.Threes.{front_of, front_within}
use Rattle.text_rules.specs.Workings.Parse.{Parsed, said, fault}
use Rattle.text_rules.specs.Workings.Scanning.{Scanned}
use Rattle.std.specs.Prelude.{Ok, Err}
use Rattle.text_rules.proofs.Laws.Scanning.{Scan, wrong_parsed, Kept, kept}
use Rattle.text_sheet.specs.Workings.Parse.{Room}
use Rattle.text_read_set.specs.Outcome.{SetOutcome, set_outcome, not_read, deliver, ReadsSet}
use Rattle.text_read_set.specs.Workings.Scanning.{parse, numbers}
use Rattle.text_read_set.proofs.Laws.Texts.{parse_text, text_parse, fault_only, fault_line}

module _ (ss cs states corners : List ℕ) where
  pub short_handed : {r : Refusal} → Refused r ≡ buffer_refusal (length states ∷ length corners ∷ []) (length ss ∷ length cs ∷ []) → set_outcome (Err r) states corners ≡ deliver ss cs states corners
  unfolding deliver
  short_handed e = rw (← e)

  pub all_handed : {states' corners' : List ℕ} → Done ≡ buffer_refusal (length states ∷ length corners ∷ []) (length ss ∷ length cs ∷ []) → states' ≡ over ss states → corners' ≡ over cs corners
      → set_outcome (Ok (record { states = length ss; corners = length cs })) states' corners' ≡ deliver ss cs states corners
  unfolding deliver
  all_handed e f g = rw (f, g) (rw (← e))

-- what a reading of the text leaves
unfoldable outcome_of : ℕ → List ℕ → List ℕ → Parsed ℕ Three → SetOutcome
outcome_of before states corners (fault l) = not_read (Line (before + l)) states corners
outcome_of before states corners (said ss ts) = deliver ss (flat ts) states corners

-- is what is promised
promised : (bytes : List ℕ) (before : ℕ) (states corners : List ℕ) (o : SetOutcome) → o ≡ outcome_of before states corners (parse bytes) → ReadsSet bytes before states corners o
unfolding outcome_of
promised bytes before states corners o e =
    record {
      of_text = λ ss ts t. e ∙ ap (outcome_of before states corners) (parse_text t);
      of_fault = λ line f. e ∙ ap (outcome_of before states corners) (fault_only f);
    }

-- the scratch has room for the longest text
pub scratch_room : (long : ℕ) → Room 8 limits.patches long limits.set_corners
unfolding Room
scratch_room long = λ k a b. omega arith

-- a text that has a fault
module _ (text : List ℕ) (r : Scan) (l : ℕ) (a b ss cs : List ℕ) (h : Scanned numbers flat (parse text) r a b ss cs) (e : r ≡ Err l) where
  faulty : parse text ≡ fault l
  faulty = wrong_parsed numbers flat (parse text) r l a b ss cs h e

  pub wrong_line_lem : l ≤ limits.states + limits.patches + 3
  wrong_line_lem = fault_line text l faulty

  pub fault_promised : (before : ℕ) (states corners : List ℕ) → ReadsSet text before states corners (set_outcome (Err (refusal.Line (before + l))) states corners)
  unfolding outcome_of
  fault_promised before states corners =
      promised text before states corners (set_outcome (Err (refusal.Line (before + l))) states corners) (sym (ap (outcome_of before states corners) faulty))

-- a text that was taken in
pub taken : {text : List ℕ} {s : Scan} {n t : ℕ} {a b ss cs : List ℕ} → Scanned numbers flat (parse text) s a b ss cs → s ≡ Ok (n, t) → Kept numbers flat parse text n t a b ss cs
taken {text} {s} {n} {t} {a} {b} {ss} {cs} = kept numbers flat parse text s n t a b ss cs

module _ {text : List ℕ} {n t : ℕ} {a b ss cs : List ℕ} (k : Kept numbers flat parse text n t a b ss cs) where
  pub few_triangles : t ≤ limits.patches
  few_triangles = omega (arith, k.second_count, (text_parse k.is).says.second_few)

  -- so much of the scratch is filled
  pub states_in : n ≤ length a
  states_in = front_in k.xs ss a n k.first_count k.first_over

  pub corners_inside : 3 * t ≤ length b
  corners_inside = front_within k.ys b cs t k.second_over k.second_count

  pub delivered : (o : SetOutcome) (before : ℕ) (states corners : List ℕ) → o ≡ deliver (take n a) (take (3 * t) b) states corners → ReadsSet text before states corners o
  unfolding outcome_of
  delivered o before states corners q =
      let f : take n a ≡ k.xs = ap (take n) k.first_over ∙ start_of k.xs ss n k.first_count in
      let g : take (3 * t) b ≡ flat k.ys = front_of k.ys b cs t k.second_over k.second_count in
      promised text before states corners o (q ∙ ap₂ (λ (x y : List ℕ). deliver x y states corners) f g ∙ sym (ap (outcome_of before states corners) k.is))

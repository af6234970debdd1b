-- What reading the text of a patch set answers and leaves. It is "ruled as the sheet text is": reading may give 10 and 3 (states 1,
-- corners 2), what lies past the counts stays, and a refusal changes nothing; "a wrong line is counted on after the sheet's last".
use Rattle.std.specs.Prelude.{◌≡◌, cond, List, [], ◌∷◌, ℕ, ◌+◌, length, Result, Ok, Err}
use Rattle.base_answers.specs.Numbers.{refusing}
use Rattle.base_answers.specs.declared.Answer.{Answer}
use Rattle.base_answers.specs.Answers.{Line}
use Rattle.base_answers.specs.declared.Answer.TheVariants.{Done, Refused}
use Rattle.base_answers.specs.declared.Refusal.{Refusal}
use Rattle.surface_rules.specs.Buffers.{over}
use Rattle.surface_rules.specs.Refusals.{buffer_refusal}
use Rattle.surface_rules.specs.Threes.{Three, flat}
use Rattle.text_rules.specs.Text.{TextOf, both}
use Rattle.text_rules.specs.Fault.{Fault}
use Rattle.text_read_set.specs.Set as text
use Rattle.text_read_set.specs.declared.ReadSet.{ReadSet}

pub record SetOutcome : Type 0 where
  pub answer : Answer
  pub state_count : ℕ
  pub corner_count : ℕ
  pub states : List ℕ
  pub corners : List ℕ

abbrev pub not_read : Answer → List ℕ → List ℕ → SetOutcome
not_read a states corners = record { answer = a; state_count = 0; corner_count = 0; states = states; corners = corners }

abbrev pub set_outcome : Result ReadSet Refusal → List ℕ → List ℕ → SetOutcome
set_outcome (Ok r) states corners = record { answer = Done; state_count = r.states; corner_count = r.corners; states = states; corners = corners }
set_outcome (Err r) states corners = not_read (Refused r) states corners

-- the states ss and corners cs of a text go into the lent buffers, if these are long enough
unfoldable pub deliver : List ℕ → List ℕ → List ℕ → List ℕ → SetOutcome
deliver ss cs states corners =
    let a = buffer_refusal (length states ∷ length corners ∷ []) (length ss ∷ length cs ∷ []) in
    cond (refusing a) (not_read a states corners)
    (record { answer = Done; state_count = length ss; corner_count = length cs; states = over ss states; corners = over cs corners })

-- the text of a set is delivered, and anything else is refused at the line of its fault, which comes after as many lines as the sheet has
pub record ReadsSet (bytes : List ℕ) (before : ℕ) (states corners : List ℕ) (o : SetOutcome) : Type 0 where
  pub of_text : (ss : List ℕ) (ts : List Three) → TextOf text.set bytes (both ss ts) → o ≡ deliver ss (flat ts) states corners
  pub of_fault : (line : ℕ) → Fault text.set bytes line → o ≡ not_read (Line (before + line)) states corners

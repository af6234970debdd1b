-- What reading counts is no more than its buffers have.
use mathlib.Core.Path.{◌≡◌, refl, sym, subst}
use mathlib.Core.Bool.{Bool, true, false}
use mathlib.Core.Logic.{inl, inr}
use mathlib.Core.List.{List, [], ◌∷◌}
use Prim.Native.Nat.{ℕ, ◌≤◌}
use native.Mathlib.Omega.{arith}
use lib.ListN.{length}
use Rattle.base_answers.specs.Numbers.{refusing}
use Rattle.surface_rules.specs.Buffers.{over}
use Rattle.surface_rules.specs.Refusals.{buffer_refusal}
use Rattle.surface_rules.specs.Threes.{flat}
use Rattle.surface_rules.proofs.Laws.Over.{front_in}
use Rattle.text_rules.proofs.Theorems.{Known}
use Rattle.text_read_set.specs.Set as text
use Rattle.text_read_set.specs.Outcome.{SetOutcome, deliver, ReadsSet}
use Rattle.text_read_set.proofs.Laws.Texts.{text_or_fault}

pub record Within (o : SetOutcome) : Type 0 where
  pub states_in : o.state_count ≤ length o.states
  pub corners_inside : o.corner_count ≤ length o.corners

deliver_within : (ss cs states corners : List ℕ) → Within (deliver ss cs states corners)
unfolding deliver
deliver_within ss cs states corners = go (refusing (buffer_refusal (length states ∷ length corners ∷ []) (length ss ∷ length cs ∷ []))) refl
  where
    go : (t : Bool) → refusing (buffer_refusal (length states ∷ length corners ∷ []) (length ss ∷ length cs ∷ [])) ≡ t → Within (deliver ss cs states corners)
    go true e = rw e (record { states_in = omega arith; corners_inside = omega arith })
    go false e = rw e (record { states_in = front_in ss states (over ss states) (length ss) refl refl; corners_inside = front_in cs corners (over cs corners) (length cs) refl refl })

pub read_set_within : (bytes : List ℕ) (before : ℕ) (states corners : List ℕ) (o : SetOutcome) → ReadsSet bytes before states corners o → Within o
read_set_within bytes before states corners o r = go (text_or_fault bytes)
  where
    go : Known text.set bytes → Within o
    go (inl t) = subst Within (sym (r.of_text t.0.firsts t.0.seconds t.1)) (deliver_within t.0.firsts (flat t.0.seconds) states corners)
    go (inr f) = subst Within (sym (r.of_fault f.0 f.1)) (record { states_in = omega arith; corners_inside = omega arith })

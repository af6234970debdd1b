-- What reading the text of a patch set promises leaves nothing open; and how long such a text can be.
use mathlib.Core.Path.{◌≡◌, refl, sym, ap, ◌∙◌}
use mathlib.Core.Logic.{inl, inr}
use mathlib.Core.List.{List, [], ◌∷◌, ◌++◌, map, flatten}
use Prim.Native.Nat.{ℕ, suc, ◌*◌, ◌<◌, ◌≤◌}
use native.Mathlib.Omega.{arith}
use lib.ListN.{length, take, length-append}
use Rattle.base_limits.specs.Limits as limits
use Rattle.surface_rules.specs.Threes.{Three}
use Rattle.text_rules.specs.Text.{count, Both, TextOf}
use Rattle.text_rules.specs.Fault.{Fault}
use Rattle.text_rules.proofs.Laws.Lines.{text_flat}
use Rattle.text_rules.proofs.Laws.Cut.{fault_whole}
use Rattle.text_rules.proofs.Theorems.{Known}
use Rattle.text_sheet.proofs.Laws.Sizes.{count_length}
use Rattle.text_sheet.proofs.Theorems.{few_digits, triangles_most}
use Rattle.text_read_set.specs.Set as text
use Rattle.text_read_set.specs.Outcome.{SetOutcome, ReadsSet}
use Rattle.text_read_set.proofs.Laws.Texts.{text_once, text_or_fault}

-- two outcomes that are allowed are equal
pub reads_set_once : (bytes : List ℕ) (before : ℕ) (states corners : List ℕ) (o o' : SetOutcome) → ReadsSet bytes before states corners o → ReadsSet bytes before states corners o' → o ≡ o'
reads_set_once bytes before states corners o o' p q = go (text_or_fault bytes)
  where
    go : Known text.set bytes → o ≡ o'
    go (inl t) = p.of_text t.0.firsts t.0.seconds t.1 ∙ sym (q.of_text t.0.firsts t.0.seconds t.1)
    go (inr f) = p.of_fault f.0 f.1 ∙ sym (q.of_fault f.0 f.1)

-- bytes are the text of one set at most
pub set_text_once : {bytes : List ℕ} {s t : Both ℕ Three} → TextOf text.set bytes s → TextOf text.set bytes t → s ≡ t
set_text_once = text_once

-- ---- the longest text of a set

states_length : (ss : List ℕ) → length (flatten (map (text.states).show ss)) ≡ 4 * length ss
unfolding flatten text.state
states_length [] = refl
states_length (s ∷ ss) = length-append ((text.states).show s) (flatten (map (text.states).show ss)) ∙ omega (arith, states_length ss)

-- no text of a set is longer,
pub set_longest : {bytes : List ℕ} {s : Both ℕ Three} → TextOf text.set bytes s → length bytes ≤ limits.set_text
set_longest {bytes} {s = all} t =
    let s = t.says in
    let ss : List ℕ = all.firsts in
    let ts : List Three = all.seconds in
    let p : List ℕ = flatten (map (text.states).show ss) in
    let q : List ℕ = flatten (map (text.triangles).show ts) in
    let c : List ℕ = count (text.triangles).key (length ts) in
    omega (
      arith,
      ap length (t.is ∙ text_flat text.states text.triangles all),
      length-append (count (text.states).key (length ss)) (p ++ (c ++ (q ++ []))),
      length-append p (c ++ (q ++ [])),
      length-append c (q ++ []),
      length-append q [],
      count_length (text.states).key (length ss),
      count_length (text.triangles).key (length ts),
      states_length ss,
      s.first_few,
      s.second_few,
      few_digits (length ss) (omega (arith, s.first_few)),
      few_digits (length ts) (omega (arith, s.second_few)),
      triangles_most ts s.seconds_valid,
    )

-- so a byte past that is enough to tell the line of a fault
pub set_front : (bytes : List ℕ) → limits.set_text < length bytes → (line : ℕ) → Fault text.set (take (suc limits.set_text) bytes) line → Fault text.set bytes line
set_front bytes m line f = fault_whole text.set limits.set_text (λ b s t. set_longest t) bytes m f

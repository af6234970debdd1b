-- The theorems on texts of two parts, for the text of a patch set.
use mathlib.Core.Path.{◌≡◌}
use mathlib.Core.List.{List}
use Prim.Native.Nat.{ℕ, ◌+◌, ◌≤◌}
use native.Mathlib.Omega.{arith}
use Rattle.base_limits.specs.Limits as limits
use Rattle.surface_rules.specs.Threes.{Three, three}
use Rattle.text_rules.specs.Text.{TextOf, Both, both}
use Rattle.text_rules.specs.Fault.{Fault}
use Rattle.text_rules.specs.Workings.Parse.{said, fault}
use Rattle.text_rules.proofs.Theorems as theorems
use Rattle.text_rules.proofs.Laws.Taking.{fault_near}
use Rattle.text_sheet.specs.Workings.Parse.{read_triangle}
use Rattle.text_sheet.proofs.Laws.Exactly.{triangle_exact}
use Rattle.text_read_set.specs.Set.{states, triangles, set}
use Rattle.text_read_set.specs.Workings.Scanning.{read_state, parse}
use Rattle.text_read_set.proofs.Laws.Exactly.{state_exact}

-- something that can stand in a line of each part
zeros : Three
zeros = three 0 0 0

zero_state : states.Valid 0
zero_state = omega arith

zero_triangle : triangles.Valid zeros
unfolding zeros
zero_triangle = record { first_has = omega arith; second_has = omega arith; third_has = omega arith }

pub parse_text : {bytes : List ℕ} {s : Both ℕ Three} → TextOf set bytes s → parse bytes ≡ said s.firsts s.seconds
parse_text = theorems.parse_text states triangles read_state read_triangle state_exact triangle_exact

pub text_parse : {bytes : List ℕ} {ss : List ℕ} {ts : List Three} → parse bytes ≡ said ss ts → TextOf set bytes (both ss ts)
text_parse = theorems.text_parse states triangles read_state read_triangle state_exact triangle_exact

pub text_once : {bytes : List ℕ} {s t : Both ℕ Three} → TextOf set bytes s → TextOf set bytes t → s ≡ t
text_once = theorems.text_once states triangles read_state read_triangle state_exact triangle_exact

pub fault_only : {bytes : List ℕ} {line : ℕ} → Fault set bytes line → parse bytes ≡ fault line
fault_only = theorems.fault_only states triangles read_state read_triangle state_exact triangle_exact 0 zero_state zeros zero_triangle

pub text_or_fault : (bytes : List ℕ) → theorems.Known set bytes
text_or_fault = theorems.text_or_fault states triangles read_state read_triangle state_exact triangle_exact 0 zero_state zeros zero_triangle

-- no fault is later than the line after the longest text
pub fault_line : (bytes : List ℕ) (line : ℕ) → parse bytes ≡ fault line → line ≤ limits.states + limits.patches + 3
fault_line bytes line e = fault_near states triangles (theorems.fault_is states triangles read_state read_triangle state_exact triangle_exact 0 zero_state zeros zero_triangle e)

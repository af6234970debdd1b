-- The theorems on texts, for what stands below the head of a sheet text and for the whole of it.
use mathlib.Core.Path.{◌≡◌, refl}
use mathlib.Core.Logic.{inl, inr}
use mathlib.Core.List.{List}
use Prim.Native.Nat.{ℕ, zero, suc}
use native.Mathlib.Omega.{arith}
use lib.ListN.{drop}
use Rattle.surface_rules.specs.Threes.{Three, three}
use Rattle.text_rules.specs.Text.{TextOf, Both, both, under}
use Rattle.text_rules.specs.Fault.{Fault}
use Rattle.text_rules.specs.Workings.Parse.{said, fault}
use Rattle.text_rules.proofs.Theorems.{Known, headed_once}
use Rattle.text_rules.proofs.Theorems as theorems
use Rattle.text_sheet.specs.Sheet.{points, triangles, Sheet, sheet}
use Rattle.text_sheet.specs.Workings.Heads.{HeadAt}
use Rattle.text_sheet.specs.Workings.Parse.{read_point, read_triangle, parse}
use Rattle.text_sheet.proofs.Laws.Exactly.{point_exact, triangle_exact}
use Rattle.text_sheet.proofs.Laws.Heads.{below, heads_apart}
use Rattle.text_sheet.proofs.Laws.Found.{head_of, text_under, fault_under, fault_alone}

-- something that can stand in a line of each part
zeros : Three
zeros = three 0 0 0

point_zeros : points.Valid zeros
unfolding zeros
point_zeros = record { first_has = omega arith; second_has = omega arith; third_has = omega arith }

triangle_zeros : triangles.Valid zeros
unfolding zeros
triangle_zeros = record { first_has = omega arith; second_has = omega arith; third_has = omega arith }

-- ---- below the head

pub text_parse : {bytes : List ℕ} {ps ts : List Three} → parse bytes ≡ said ps ts → TextOf below bytes (both ps ts)
text_parse = theorems.text_parse points triangles read_point read_triangle point_exact triangle_exact

pub fault_is : {bytes : List ℕ} {line : ℕ} → parse bytes ≡ fault line → Fault below bytes line
fault_is = theorems.fault_is points triangles read_point read_triangle point_exact triangle_exact zeros point_zeros zeros triangle_zeros

known_below : (bytes : List ℕ) → Known below bytes
known_below = theorems.text_or_fault points triangles read_point read_triangle point_exact triangle_exact zeros point_zeros zeros triangle_zeros

once_below : (bytes : List ℕ) (s t : Both Three Three) → TextOf below bytes s → TextOf below bytes t → s ≡ t
once_below bytes s t = theorems.text_once points triangles read_point read_triangle point_exact triangle_exact

-- ---- the whole text

-- bytes are the text of one sheet at most
pub text_once : {bytes : List ℕ} {s t : Sheet} → TextOf sheet bytes s → TextOf sheet bytes t → s ≡ t
text_once = headed_once heads_apart once_below

-- any bytes are a text, or they have a fault, by the head that is found
pub text_or_fault : (bytes : List ℕ) → Known sheet bytes
text_or_fault bytes = let h = head_of bytes in under_known h.0 h.1 h.2 (known_below (drop h.1 bytes))
  where
    under_known : (n at : ℕ) → HeadAt bytes n at → Known below (drop at bytes) → Known sheet bytes
    under_known n at h (inl (b, t)) = inl (under n b, text_under h t)
    under_known n zero h (inr (l, f)) = inr (l, fault_alone h refl f)
    under_known n (suc i) h (inr (l, f)) = inr (suc l, fault_under h (λ z. omega arith) f)

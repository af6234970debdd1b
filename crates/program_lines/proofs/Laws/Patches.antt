-- The lines of a patch, one by one.
use mathlib.Core.List.{List, [], ◌∷◌}
use Prim.Native.Nat.{ℕ, ◌+◌, ◌*◌, ◌/◌, ◌<◌, ◌≤◌}
use native.Mathlib.Omega.{arith}
use lib.ListN.{length, drop, get_or}
use Rattle.text_digits.proofs.Laws.Laying.{Laying}
use Rattle.text_sheet.proofs.Laws.Putting.{putting_room, putting_more, putting_ends}
use Rattle.program_lines.specs.Lines.{line, patch=, PutAt}
use Rattle.program_lines.specs.Listing.{patch_line, patch_lines}

module _ {whole before out : List ℕ} {at place : ℕ} (l : List ℕ) (i : ℕ) (g : Laying whole at before (patch_lines (drop (3 * i) l)) place out) where
  abbrev here : List ℕ
  here = line patch= (get_or l (3 * i) 0 ∷ get_or l (3 * i + 1) 0 ∷ get_or l (3 * i + 2) 0 ∷ [])

  pub patch_room : i < length l / 3 → place + length here ≤ length out
  unfolding patch_lines
  patch_room h = putting_room patch_line l i g (omega arith)

  pub patch_put : {after : List ℕ} {next : ℕ} → i < length l / 3 → PutAt place here out next after → Laying whole at before (patch_lines (drop (3 * (i + 1)) l)) next after
  unfolding patch_lines
  patch_put h q = putting_more patch_line l i g (omega arith) q.put q.behind

  pub patch_over : length l / 3 ≤ i → PutAt at whole before place out
  unfolding patch_lines
  patch_over h = let e = putting_ends patch_line l i g (omega arith) in record { put = e.0; behind = e.1 }

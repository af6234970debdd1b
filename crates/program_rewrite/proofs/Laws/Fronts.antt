-- A start is no longer than the whole, what was laid over a buffer is no longer than it, and what was read lies in its buffers.
use mathlib.Core.Path.{◌≡◌}
use mathlib.Core.List.{List}
use Prim.Native.Nat.{ℕ, ◌≤◌}
use native.Mathlib.Omega.{arith}
use lib.ListN.{length, take, length-take}
use Rattle.std.specs.Prelude.{Result, Ok}
use Rattle.base_answers.specs.declared.Refusal.{Refusal}
use Rattle.surface_rules.proofs.Laws.Over.{front_in}
use Rattle.text_read.specs.declared.ReadSheet.{ReadSheet}
use Rattle.text_read.specs.Outcome.{read_outcome, Reads}
use Rattle.text_read.proofs.Laws.Within.{Within, read_within}
use Rattle.program_rewrite.specs.Rewriting.{RewritesIn}

pub start_within : (n : ℕ) (xs : List ℕ) → length (take n xs) ≤ length xs
start_within n xs = omega (arith, length-take n xs)

pub rewrites_within : {room room' : List ℕ} {n r : ℕ} → RewritesIn room n r room' → r ≤ length room'
rewrites_within {room} {room'} {n} {r} p = front_in p.out room room' r p.many p.lies

pub sheet_within : {bytes words corners : List ℕ} {w : Result ReadSheet Refusal} {s : ReadSheet} (words' corners' : List ℕ) → Reads bytes words corners (read_outcome w words' corners') → w ≡ Ok s
    → (s.words ≤ length words') × (s.corners ≤ length corners')
sheet_within {s = s} words' corners' r h =
    let i : Within (read_outcome (Ok s) words' corners') = rw h at (read_within _ _ _ (read_outcome _ words' corners') r) in
    (i.words_in, i.corners_inside)

-- From the answers of printing to their plain numbers, and that these are determined.
use Rattle.std.specs.Prelude.{Result, Ok, Err}
use Rattle.std.specs.Result.{result_unwrap_or}
use mathlib.Core.Path.{refl, ◌≡◌, sym, ap, ◌∙◌}
use mathlib.Core.List.{List}
use Prim.Native.Nat.{ℕ}
use Rattle.base_answers.specs.Answers.{said}
use Rattle.base_answers.specs.declared.Refusal.{Refusal}
use Rattle.base_answers.specs.Numbers.{number_of, place_of}
use Rattle.program_lines.specs.Printout.{print_outcome, PrintsOver}
use Rattle.program_lines.proofs.Theorems.{print_once}
use Rattle.wazelpunt.specs.Texts.{WriteTold, write_told}
use Rattle.wazelpunt.specs.Prints.{printed, PrintsTold}

-- what was printed, field by field
pub told_print : {most : ℕ} {Due : List ℕ → Type 0} {buffer : List ℕ} (bytes : List ℕ) (w : Result ℕ Refusal) {n p m : ℕ} → (n ≡ number_of (said w)) × (p ≡ place_of (said w)) → m ≡ result_unwrap_or w 0
    → PrintsOver most Due buffer (print_outcome w bytes) → PrintsTold most Due buffer (write_told n p m bytes)
told_print bytes w a c h = record { outcome = print_outcome w bytes; right = h; its_numbers = rw (a.0, a.1, c) (go w) }
  where
    go : (v : Result ℕ Refusal) → write_told (number_of (said v)) (place_of (said v)) (result_unwrap_or v 0) bytes ≡ printed (print_outcome v bytes)
    go (Ok k) = refl
    go (Err f) = refl

-- any two printings told of one input and the same buffer are equal, where one thing is due
pub prints_told_once : {most : ℕ} {Due : List ℕ → Type 0} {buffer : List ℕ} {s t : WriteTold} → ((x y : List ℕ) → Due x → Due y → x ≡ y) → PrintsTold most Due buffer s → PrintsTold most Due buffer t → s ≡ t
prints_told_once one p q = p.its_numbers ∙ ap printed (print_once one p.right q.right) ∙ sym q.its_numbers

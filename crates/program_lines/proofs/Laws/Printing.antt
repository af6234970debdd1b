-- Printing into a lent buffer: refused where it is too short, and otherwise what is due.
use mathlib.Core.Path.{◌≡◌, refl, ap₂}
use mathlib.Core.List.{List}
use Prim.Native.Nat.{ℕ, ◌<◌, ◌≤◌}
use native.Mathlib.Omega.{arith}
use lib.ListN.{length}
use Rattle.std.specs.Prelude.{Ok, Err}
use Rattle.base_answers.specs.declared.Refusal.TheVariants as refusal
use Rattle.surface_rules.specs.Buffers.{over}
use Rattle.program_lines.specs.Printout.{print_outcome, PrintsOver}

module _ {most : ℕ} {Due : List ℕ → Type 0} {buffer : List ℕ} where
  pub short_prints : length buffer < most → PrintsOver most Due buffer (print_outcome (Err (refusal.Buffer 1)) buffer)
  short_prints h = record { too_short = λ _. refl; long_enough = λ l. absurd (omega (arith, h, l)) }

  pub long_prints : {n : ℕ} {after : List ℕ} → most ≤ length buffer → (printed : List ℕ) → Due printed → n ≡ length printed → after ≡ over printed buffer
      → PrintsOver most Due buffer (print_outcome (Ok n) after)
  long_prints h printed due many lies =
      record {
        too_short = λ l. absurd (omega (arith, h, l));
        long_enough = λ _. (printed, due, ap₂ (λ (m : ℕ) (l : List ℕ). print_outcome (Ok m) l) many lies);
      }

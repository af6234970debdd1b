-- Entries laid one after the other.
use Rattle.std.specs.Prelude.{◌≡◌, List, ℕ, ◌+◌, ◌*◌, length}
use Rattle.surface_rules.specs.Buffers.{laid}
use Rattle.chart_rules.specs.declared.Entry.{Entry}
use Rattle.chart_rules.specs.Report.{entry_numbers}

-- these were laid from entry `from` on, and then there are r
pub record Enters (from : ℕ) (entries : List Entry) (report : List ℕ) (r : ℕ) (report' : List ℕ) : Type 0 where
  pub counted : r ≡ from + length entries
  pub laid_are : report' ≡ laid (2 * from) (entry_numbers entries) report

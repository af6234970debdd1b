-- Entries laid behind entries.
use mathlib.Core.Path.{◌≡◌, refl, sym, ap, ◌∙◌, subst}
use mathlib.Core.List.{List, [], ◌∷◌, ◌++◌, map, map-append}
use Prim.Native.Nat.{ℕ, ◌+◌, ◌*◌, ◌≤◌, ◌<◌}
use native.Mathlib.Omega.{arith}
use lib.ListN.{length, get_or, take, length-append}
use lib.Seq.{take-suc}
use native.Mathlib.Numerals.{add-one}
use Rattle.surface_rules.specs.Buffers.{laid}
use Rattle.surface_rules.proofs.Laws.Laid.{laid_none, laid_then, laid_length}
use Rattle.chart_rules.specs.declared.Entry.{Entry}
use Rattle.chart_rules.specs.Report.{entry, numbers, entry_numbers}
use Rattle.chart_rules.proofs.Laws.Reading.{no_numbers, numbers_append, numbers_next, numbers_long}
use Rattle.chart_lay.specs.Workings.Entering.{Enters}

-- none is laid
pub enters_none : (from : ℕ) (report : List ℕ) → Enters from [] report from report
enters_none from report = record { counted = omega arith; laid_are = sym (laid_none (2 * from) report) ∙ ap (λ (x : List ℕ). laid (2 * from) x report) (sym no_numbers) }

-- one is
pub enters_one : {from : ℕ} {report report' : List ℕ} (e : Entry) → report' ≡ laid (2 * from) (numbers e) report → Enters from (e ∷ []) report (from + 1) report'
enters_one {from} {report} e q = record { counted = refl; laid_are = q ∙ ap (λ (x : List ℕ). laid (2 * from) x report) (sym (numbers_next [] e ∙ ap (λ (x : List ℕ). x ++ numbers e) no_numbers)) }

-- some behind some
pub enters_then : {from mid r : ℕ} {a b : List Entry} {report₀ report report' : List ℕ}
    → 2 * mid ≤ length report₀ → Enters from a report₀ mid report → Enters mid b report r report' → Enters from (a ++ b) report₀ r report'
enters_then {from} {mid} {r} {a} {b} {report₀} room x y =
    let n : length (entry_numbers a) ≡ 2 * length a = numbers_long a in
    let k : length (a ++ b) ≡ length a + length b = length-append a b in
    let u = x.counted in
    let v = y.counted in
    record {
      counted = omega arith;
      laid_are = y.laid_are
          ∙ ap (λ (z : List ℕ). laid (2 * mid) (entry_numbers b) z) x.laid_are
          ∙ laid_then (2 * from) (2 * mid) (entry_numbers a) (entry_numbers b) report₀ (omega arith) room
          ∙ ap (λ (z : List ℕ). laid (2 * from) z report₀) (sym (numbers_append a b));
    }

-- the same ones
pub enters_same : {from r s : ℕ} {a b : List Entry} {report report' : List ℕ} → a ≡ b → r ≡ s → Enters from a report r report' → Enters from b report s report'
enters_same {from} {r} {s} {a} {b} {report} {report'} e f x =
    subst (λ (y : List Entry). Enters from y report s report') e (subst (λ (n : ℕ). Enters from a report n report') f x)

-- the buffer is as long as before
pub enters_long : {from r : ℕ} {a : List Entry} {report report' : List ℕ} → 2 * r ≤ length report → Enters from a report r report' → length report' ≡ length report
enters_long {from} {r} {a} {report} room x =
    let n : length (entry_numbers a) ≡ 2 * length a = numbers_long a in
    let u = x.counted in
    ap length x.laid_are ∙ laid_length (2 * from) report (entry_numbers a) (omega arith)

-- ---- lakes one after the other

-- i of them are laid
pub record Sinking (lakes report₀ : List ℕ) (from i : ℕ) (report : List ℕ) : Type 0 where
  pub within : i ≤ length lakes
  pub kept : length report ≡ length report₀
  pub sunk : Enters from (map (entry 3) (take i lakes)) report₀ (from + i) report

module _ {lakes report₀ : List ℕ} {from : ℕ} (room : 2 * (from + length lakes) ≤ length report₀) where
  pub sinking_begins : Sinking lakes report₀ from 0 report₀
  sinking_begins = record { within = omega arith; kept = refl; sunk = record { counted = refl; laid_are = (enters_none from report₀).laid_are } }

  module _ {i : ℕ} {report : List ℕ} (m : Sinking lakes report₀ from i report) where
    module _ (h : i < length lakes) where
      pub sinking_more : {report' : List ℕ} → report' ≡ laid (2 * (from + i)) (numbers (entry 3 (get_or lakes i 0))) report → Sinking lakes report₀ from (i + 1) report'
      sinking_more {report'} q =
          let x = enters_then (omega arith) m.sunk (enters_one (entry 3 (get_or lakes i 0)) q) in
          let e : map (entry 3) (take (i + 1) lakes) ≡ map (entry 3) (take i lakes) ++ (entry 3 (get_or lakes i 0) ∷ []) =
          ap (λ (k : ℕ). map (entry 3) (take k lakes)) (add-one i) ∙ ap (map (entry 3)) (take-suc lakes i 0 h) ∙ map-append (entry 3) (take i lakes) (get_or lakes i 0 ∷ []) in
          let y = enters_same {s = from + (i + 1)} (sym e) (omega arith) x in
          record { within = omega arith; kept = enters_long (omega arith) y; sunk = y }

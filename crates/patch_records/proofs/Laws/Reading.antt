-- A record is read out of a buffer: what was laid over its start is found there.
use mathlib.Core.Path.{◌≡◌, refl, ap, ◌∙◌}
use mathlib.Core.Bool.{cond}
use mathlib.Core.List.{List}
use Prim.Native.Nat.{ℕ, ◌+◌, ◌*◌, ◌/◌, ◌<◌, ◌≤◌}
use native.Mathlib.Omega.{arith}
use lib.ListN.{length, get_or}
use borrow.Author.Tests.{lt-ltb}
use Rattle.surface_rules.specs.Buffers.{over}
use Rattle.surface_rules.proofs.Laws.Over.{front_at, over_long}
use Rattle.patch_records.specs.declared.Record.{Record}
use Rattle.patch_records.specs.Records.{numbers, none, record_from, record_in}
use Rattle.patch_records.proofs.Laws.Sevens.{listed, sevens_length, sevens_at}

pub record_there : (buffer : List ℕ) (l : ℕ) → l < length buffer / 7 → record_in buffer l ≡ record_from buffer (7 * l)
record_there buffer l h = ap (λ t. cond t (record_from buffer (7 * l)) none) (lt-ltb l (length buffer / 7) h)

-- what was listed by sevens and laid over a buffer's start is found there, record by record
pub record_found : (f : ℕ → Record) (buffer : List ℕ) (n l : ℕ) → l < n → 7 * n ≤ length buffer → record_in (over (listed (λ (k : ℕ). numbers (f k)) n) buffer) l ≡ f l
record_found f buffer n l h room =
    let laid_here : List ℕ = over (listed (λ (k : ℕ). numbers (f k)) n) buffer in
    let long = sevens_length (λ (k : ℕ). numbers (f k)) (λ k. refl) n in
    let m : length laid_here ≡ length buffer = over_long (listed (λ (k : ℕ). numbers (f k)) n) buffer (omega arith) in
    let at : (i : ℕ) → i < 7 → get_or laid_here (7 * l + i) 0 ≡ get_or (numbers (f l)) i 0 =
    λ i k. front_at (listed (λ (j : ℕ). numbers (f j)) n) buffer (7 * l + i) 0 (omega arith) ∙ sevens_at (λ (j : ℕ). numbers (f j)) (λ j. refl) n l i h k in
    record_there laid_here l (omega arith)
    ∙ (λ t. record {
      length = (ap (λ (i : ℕ). get_or laid_here i 0) (let z : 7 * l ≡ 7 * l + 0 = omega arith in z) ∙ at 0 (omega arith)) t;
      state = at 1 (omega arith) t;
      weight = at 2 (omega arith) t;
      count = at 3 (omega arith) t;
      first = at 4 (omega arith) t;
      piece = at 5 (omega arith) t;
      run = at 6 (omega arith) t;
    })

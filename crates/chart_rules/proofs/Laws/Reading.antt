-- An entry is read out of a buffer and laid into one: the numbers of entries stand by twos, so what was laid over a buffer's start is found there, entry by
-- entry.
use mathlib.Core.Path.{◌≡◌, refl, sym, ap, ◌∙◌}
use mathlib.Core.Bool.{cond}
use mathlib.Core.List.{List, [], ◌∷◌, ◌++◌, map, flatten, map-append}
use Prim.Native.Nat.{ℕ, zero, suc, ◌+◌, ◌*◌, ◌/◌, ◌<◌, ◌≤◌}
use native.Mathlib.Nat.{not-suc-le-zero}
use native.Mathlib.Omega.{arith}
use lib.ListN.{length, get_or, set}
use borrow.Author.Tests.{lt-ltb}
use Rattle.surface_rules.specs.Buffers.{over, laid}
use Rattle.surface_rules.proofs.Laws.Laid.{laid_none, laid_more}
use Rattle.surface_rules.proofs.Laws.Lists.{flatten_append}
use Rattle.surface_rules.proofs.Laws.Over.{front_at, over_long}
use Rattle.chart_rules.specs.declared.Entry.{Entry}
use Rattle.chart_rules.specs.Report.{entry, numbers, entry_numbers, nothing, entry_in}

-- ---- one entry

pub entry_there : (buffer : List ℕ) (i : ℕ) → i < length buffer / 2 → entry_in buffer i ≡ entry (get_or buffer (2 * i) 0) (get_or buffer (2 * i + 1) 0)
entry_there buffer i h = ap (λ t. cond t (entry (get_or buffer (2 * i) 0) (get_or buffer (2 * i + 1) 0)) nothing) (lt-ltb i (length buffer / 2) h)

-- two numbers written one after the other are laid at once
pub two_laid : (out : List ℕ) (p a b : ℕ) → p + 2 ≤ length out → set (set out p a) (p + 1) b ≡ laid p (a ∷ b ∷ []) out
two_laid out p a b l =
    ap (λ (x : List ℕ). set (set x p a) (p + 1) b) (sym (laid_none p out))
    ∙ ap (λ (x : List ℕ). set x (p + 1) b) (laid_more p out 0 [] a p (omega arith) (omega arith))
    ∙ laid_more p out 0 (a ∷ []) b (p + 1) refl (omega arith)

-- ---- entries one after the other

pub no_numbers : entry_numbers [] ≡ []
unfolding entry_numbers flatten
no_numbers = refl

pub numbers_append : (a b : List Entry) → entry_numbers (a ++ b) ≡ entry_numbers a ++ entry_numbers b
unfolding entry_numbers
numbers_append a b = ap flatten (map-append numbers a b) ∙ flatten_append (map numbers a) (map numbers b)

one_numbers : (e : Entry) → entry_numbers (e ∷ []) ≡ numbers e
unfolding entry_numbers flatten
one_numbers e = refl

-- one more stands behind the others
pub numbers_next : (es : List Entry) (e : Entry) → entry_numbers (es ++ (e ∷ [])) ≡ entry_numbers es ++ numbers e
numbers_next es e = numbers_append es (e ∷ []) ∙ ap (λ (l : List ℕ). entry_numbers es ++ l) (one_numbers e)

-- two numbers each
pub numbers_long : (es : List Entry) → length (entry_numbers es) ≡ 2 * length es
unfolding entry_numbers flatten
numbers_long [] = refl
numbers_long (e ∷ es) = let r : length (flatten (map numbers es)) ≡ 2 * length es = numbers_long es in omega arith

-- the kind and the number of entry i
pub kind_at : (es : List Entry) (i : ℕ) → i < length es → get_or (entry_numbers es) (2 * i) 0 ≡ (get_or es i nothing).kind
unfolding entry_numbers flatten
kind_at [] i h = absurd (not-suc-le-zero h)
kind_at (e ∷ es) zero h = refl
kind_at (e ∷ es) (suc i) h = ap (λ (k : ℕ). get_or (flatten (map numbers (e ∷ es))) k 0) (let z : 2 * suc i ≡ suc (suc (2 * i)) = omega arith in z) ∙ kind_at es i (omega arith)

pub number_at : (es : List Entry) (i : ℕ) → i < length es → get_or (entry_numbers es) (2 * i + 1) 0 ≡ (get_or es i nothing).number
unfolding entry_numbers flatten
number_at [] i h = absurd (not-suc-le-zero h)
number_at (e ∷ es) zero h = refl
number_at (e ∷ es) (suc i) h = ap (λ (k : ℕ). get_or (flatten (map numbers (e ∷ es))) k 0) (let z : 2 * suc i + 1 ≡ suc (suc (2 * i + 1)) = omega arith in z) ∙ number_at es i (omega arith)

-- what was laid over a buffer's start is found there
pub entry_found : (es : List Entry) (buffer : List ℕ) (i : ℕ) → i < length es → 2 * length es ≤ length buffer → entry_in (over (entry_numbers es) buffer) i ≡ get_or es i nothing
entry_found es buffer i h room =
    let long = numbers_long es in
    let m : length (over (entry_numbers es) buffer) ≡ length buffer = over_long (entry_numbers es) buffer (omega arith) in
    entry_there (over (entry_numbers es) buffer) i (omega arith)
    ∙ (λ t. record {
      kind = (front_at (entry_numbers es) buffer (2 * i) 0 (omega arith) ∙ kind_at es i h) t;
      number = (front_at (entry_numbers es) buffer (2 * i + 1) 0 (omega arith) ∙ number_at es i h) t;
    })

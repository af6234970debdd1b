-- A line `s=` is read exactly as it is written, and how long it is.
use mathlib.Core.Path.{◌≡◌, sym, ap, ◌∙◌}
use mathlib.Core.List.{List, [], ◌∷◌, ◌++◌}
use Prim.Native.Nat.{ℕ, ◌+◌, ◌/◌, ◌<◌, ◌≤◌, ◌^◌}
use native.Mathlib.Omega.{arith}
use lib.ListN.{length, length-append}
use Rattle.text_digits.specs.Numeral.{byte_of, places, decimal}
use Rattle.text_digits.specs.Workings.Reading.{got, Exact}
use Rattle.text_digits.proofs.Laws.Digit.{size_one}
use Rattle.text_rules.specs.Text.{feed, count}
use Rattle.text_rules.proofs.Laws.Counts.{count_exact}
use Rattle.text_read_set.specs.Set.{s=, state, states}
use Rattle.text_read_set.specs.Workings.Scanning.{read_state}

-- a number of one digit is that digit
one_digit : (s : ℕ) → s < 10 → decimal s ≡ byte_of s ∷ []
unfolding places
one_digit s h =
    let e : s / 10 ^ 0 ≡ s = omega arith in
    ap (λ (k : ℕ). places 10 k s) (size_one s h) ∙ ap (λ (d : ℕ). byte_of d ∷ []) e

state_count : (s : ℕ) → s < 10 → count s= s ≡ state s
unfolding count state
state_count s h = ap (λ (l : List ℕ). s= ++ (l ++ (feed ∷ []))) (one_digit s h)

pub state_exact : Exact states.Valid states.show read_state
state_exact =
    record {
      finds = λ s rest h. ap (λ (l : List ℕ). read_state (l ++ rest)) (sym (state_count s h)) ∙ (count_exact s= 9).finds s rest (omega arith);
      true_to = λ bytes s rest h.
          let p = (count_exact s= 9).true_to bytes s rest h in
          let l : s < 10 = omega (arith, p.0) in
          (l, p.1 ∙ ap (λ (r : List ℕ). r ++ rest) (state_count s l));
    }

-- a line that is read is as long as lines are, and says one digit
module _ (bytes rest : List ℕ) (s : ℕ) (h : read_state bytes ≡ got s rest) where
  pub state_takes : 4 + length rest ≤ length bytes
  unfolding state
  state_takes = omega (arith, ap length (state_exact.true_to bytes s rest h).1, length-append (state s) rest)

  pub state_small : s < 10
  state_small = (state_exact.true_to bytes s rest h).0

-- A line of a key and a count is read exactly as it is written.
use mathlib.Core.Path.{◌≡◌, refl, ◌∙◌}
use mathlib.Core.List.{List, [], ◌∷◌, ◌++◌, append_assoc}
use Prim.Native.Nat.{ℕ, ◌≤◌}
use native.Mathlib.Omega.{arith}
use Rattle.text_digits.specs.Numeral.{decimal}
use Rattle.text_digits.specs.Workings.Reading.{Read, wrong, got, Exact, value_of, read_key}
use Rattle.text_digits.proofs.Laws.Digit.{value_low}
use Rattle.text_digits.proofs.Laws.Exactly.{wrong_not_got, key_exact, decimal_exact}
use Rattle.text_rules.specs.Text.{feed, count}
use Rattle.text_rules.specs.Workings.Parse.{after, read_count}

-- the line feed is no digit, so a count ends where its line does
feed_free : 10 ≤ value_of feed
feed_free = omega (arith, value_low feed (omega arith))

-- one reading after another, taken apart
pub after_got : {A B : Type 0} (r : Read A) (f : A → List ℕ → Read B) (b : B) (rest : List ℕ) → after r f ≡ got b rest
    → (a : A) × (s : List ℕ) × (r ≡ got a s) × (f a s ≡ got b rest)
after_got wrong f b rest h = absurd (wrong_not_got h)
after_got (got a s) f b rest h = (a, s, refl, h)

pub count_exact : (key : List ℕ) (most : ℕ) → Exact (λ (n : ℕ). n ≤ most) (count key) (read_count key most)
unfolding read_count count
count_exact key most =
    record {
      finds = λ n rest h.
          rw (append_assoc key (decimal n ++ (feed ∷ [])) rest, (key_exact key).finds tt ((decimal n ++ (feed ∷ [])) ++ rest) tt)
          ((decimal_exact feed most feed_free).finds n rest h);
      true_to = λ bytes n rest h.
          let p = after_got (read_key key bytes) _ n rest h in
          let q = (key_exact key).true_to bytes p.0 p.1 p.2 in
          let d = (decimal_exact feed most feed_free).true_to p.1 n rest p.3 in
          (d.0, q.1 ∙ rw (d.1, append_assoc key));
    }

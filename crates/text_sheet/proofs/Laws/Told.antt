-- A count and a line, read part by part.
use mathlib.Core.Path.{◌≡◌, refl, sym, ◌∙◌}
use mathlib.Core.List.{List}
use Prim.Native.Nat.{ℕ}
use lib.ListN.{drop}
use Rattle.surface_rules.specs.Threes.{three}
use Rattle.text_digits.specs.Workings.Reading.{Read, wrong, got, read_key, read_decimal}
use Rattle.text_rules.specs.Text.{feed}
use Rattle.text_rules.specs.Workings.Parse.{read_count}
use Rattle.text_sheet.specs.Workings.Parse.{read_row}

-- a count, by what is read of its key and its number
module _ (text key : List ℕ) (most at : ℕ) where
  pub count_not : wrong ≡ read_key key (drop at text) → wrong ≡ read_count key most (drop at text)
  unfolding read_count
  count_not h = sym (rw (← h) refl)

  pub count_is : (i : ℕ) {x : Read ℕ} → got tt (drop i text) ≡ read_key key (drop at text) → x ≡ read_decimal feed most (drop i text) → x ≡ read_count key most (drop at text)
  unfolding read_count
  count_is i h q = q ∙ sym (rw (← h) refl)

-- a line number by number: the key, and what is read of each number
module _ (text key : List ℕ) (x y : List ℕ → Read ℕ) (at : ℕ) where
  pub row_key : wrong ≡ read_key key (drop at text) → wrong ≡ read_row key x y (drop at text)
  unfolding read_row
  row_key h = sym (rw (← h) refl)

  module _ (i : ℕ) (h : got tt (drop i text) ≡ read_key key (drop at text)) where
    pub row_first : wrong ≡ x (drop i text) → wrong ≡ read_row key x y (drop at text)
    unfolding read_row
    row_first k = sym (rw (← h, ← k) refl)

    module _ (a j : ℕ) (k : got a (drop j text) ≡ x (drop i text)) where
      pub row_second : wrong ≡ x (drop j text) → wrong ≡ read_row key x y (drop at text)
      unfolding read_row
      row_second l = sym (rw (← h, ← k, ← l) refl)

      module _ (b m : ℕ) (l : got b (drop m text) ≡ x (drop j text)) where
        pub row_third : wrong ≡ y (drop m text) → wrong ≡ read_row key x y (drop at text)
        unfolding read_row
        row_third n = sym (rw (← h, ← k, ← l, ← n) refl)

        pub row_whole : (c next : ℕ) → got c (drop next text) ≡ y (drop m text) → got (three a b c) (drop next text) ≡ read_row key x y (drop at text)
        unfolding read_row
        row_whole c next n = sym (rw (← h, ← k, ← l, ← n) refl)

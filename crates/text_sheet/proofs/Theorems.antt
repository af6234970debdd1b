-- What is a sheet text, what its first line does, and how long the longest is.
use mathlib.Core.Path.{◌≡◌, refl, sym, ap, ◌∙◌}
use mathlib.Core.Bool.{true}
use mathlib.Core.List.{List, [], ◌∷◌, ◌++◌, map, flatten}
use Prim.Native.Nat.{ℕ, zero, suc, ◌+◌, ◌-◌, ◌*◌, ◌/◌, ◌^◌, ◌<◌, ◌≤◌}
use native.Mathlib.Omega.{arith}
use lib.ListN.{length, get_or, replicate, length-append, length-replicate}
use Rattle.base_answers.specs.declared.Answer.TheVariants.{Done}
use Rattle.base_types.specs.Pitches.{is_pitch}
use Rattle.base_types.proofs.Laws.Pitches.{number_most}
use Rattle.base_limits.specs.Limits as limits
use Rattle.base_limits.proofs.Figures.{sheet_text_is}
use Rattle.surface_rules.specs.Refusals.{count_refusal}
use Rattle.surface_rules.specs.Threes.{Three, three, threes, flat}
use Rattle.surface_rules.proofs.Laws.Thens.{Fitting, counts_fit}
use Rattle.surface_rules.proofs.Laws.Threes.{threes_length, flat_threes}
use Rattle.text_digits.specs.Numeral.{size, size_in, decimal}
use Rattle.text_digits.specs.Workings.Reading.{got, read_key, read_decimal, until}
use Rattle.text_digits.proofs.Laws.Sizes.{size_four, size_below}
use Rattle.text_rules.specs.Text.{All, TextOf, feed, count, Both, both, under}
use Rattle.text_rules.specs.Text as texts
use Rattle.text_rules.specs.Fault.{Fault}
use Rattle.text_rules.specs.Workings.Parse.{read_count}
use Rattle.text_rules.proofs.Theorems as theorems
use Rattle.text_rules.proofs.Laws.Counts.{count_exact}
use Rattle.text_rules.proofs.Laws.Lists.{all_replicate}
use Rattle.text_rules.proofs.Laws.Taking.{no_first}
use Rattle.text_rules.proofs.Laws.Headed.{text_below, text_above, fault_below, bare_text}
use Rattle.text_sheet.specs.Sheet.{Every, pitch=, points=, points, triangles, Sheet, sheet_of, sheet, pitch_said, head, text}
use Rattle.text_sheet.specs.Workings.Heads.{HeadAt}
use Rattle.text_sheet.specs.Workings.Parse.{read_point, read_triangle}
use Rattle.text_sheet.proofs.Laws.Sizes.{triangle_size, lists_length, sheet_flat}
use Rattle.text_sheet.proofs.Laws.Heads.{below, head_line, line_is, head_long, head_most, heads_apart, bare_one}
use Rattle.text_sheet.proofs.Laws.Found.{Unpitched, head_absent, head_unread, text_under, fault_alone}
use Rattle.text_sheet.proofs.Laws.Texts.{fault_is, text_once}

-- ---- the text of words and corners

threes_every : (P : ℕ → Type 0) (l : List ℕ) → ((i : ℕ) → i < length l → P (get_or l i 0)) → All (Every P) (threes l)
threes_every P [] h = tt
threes_every P (x ∷ []) h = tt
threes_every P (x ∷ y ∷ []) h = tt
threes_every P (x ∷ y ∷ z ∷ l) h = (
  record { first_has = h 0 (omega arith); second_has = h 1 (omega arith); third_has = h 2 (omega arith) },
  threes_every P l (λ i b. h (suc (suc (suc i))) (omega arith)),
)

-- the text of a pitch, of words of 32 bits and of corners that can stand in it, of counts that a surface has, is a text of them
pub text_of : (pitch : ℕ) (words corners : List ℕ) → is_pitch pitch ≡ true → count_refusal (length words) (length corners) ≡ Done
    → ((i : ℕ) → i < length words → get_or words i 0 < 2 ^ 32) → ((i : ℕ) → i < length corners → get_or corners i 0 < limits.points)
    → TextOf sheet (text pitch words corners) (sheet_of pitch (threes words) (threes corners)) × (flat (threes words) ≡ words) × (flat (threes corners) ≡ corners)
text_of pitch words corners v d w c =
    let f : Fitting (length words) (length corners) = counts_fit (length words) (length corners) d in
    let n : length words ≡ 3 * (length words / 3) = omega (arith, f.word_threes) in
    let t : length corners ≡ 3 * (length corners / 3) = omega (arith, f.corner_threes) in (
      record {
        says = record {
          head_valid = v;
          body_says = record {
            first_few = omega (arith, f.few_words, threes_length (length words / 3) words n);
            second_few = omega (arith, f.few_corners, threes_length (length corners / 3) corners t);
            firsts_valid = threes_every (λ (x : ℕ). x < 2 ^ 32) words w;
            seconds_valid = threes_every (λ (x : ℕ). x < limits.points) corners c;
          };
        };
        is = refl;
      },
      flat_threes (length words / 3) words n,
      flat_threes (length corners / 3) corners t,
    )

-- one sheet has one text, and bytes are the text of one sheet at most
pub one_text : {bytes bytes' : List ℕ} {s : Sheet} → TextOf sheet bytes s → TextOf sheet bytes' s → bytes ≡ bytes'
one_text = theorems.one_text sheet

pub one_sheet : {bytes : List ℕ} {s t : Sheet} → TextOf sheet bytes s → TextOf sheet bytes t → s ≡ t
one_sheet = text_once

-- ---- the first line

-- "A text that begins with `points=` is pitch 1", and one that begins with a pitch line is of that pitch
pub points_pitch : {rest : List ℕ} {s : Sheet} → TextOf sheet (points= ++ rest) s → pitch_said s ≡ 1
unfolding count
points_pitch t = (bare_text heads_apart (λ n l a v e q. other n a (q ∙ ap (λ (r : List ℕ). r ++ a) (line_is e).1)) t).1 ∙ bare_one
  where
    other : {rest : List ℕ} (n : ℕ) (a : List ℕ) → points= ++ rest ≡ count pitch= n ++ a → ⊥
    other n a e = let z : ◌≡◌ {A = ℕ} 111 105 = cc in omega arith

pub line_pitch : {pitch : ℕ} (rest : List ℕ) {s : Sheet} → is_pitch pitch ≡ true → (pitch ≡ 1 → ⊥) → TextOf sheet (count pitch= pitch ++ rest) s → pitch_said s ≡ pitch
line_pitch rest v o t = (text_above heads_apart v (head_line o) t).1

-- "With a pitch line every later line number goes up by one": below the line of a pitch other than 1 stands what stood without it
pub pitch_line : {pitch : ℕ} {rest : List ℕ} {b : Both Three Three} → is_pitch pitch ≡ true → (pitch ≡ 1 → ⊥) → TextOf below rest b → TextOf sheet (count pitch= pitch ++ rest) (under pitch b)
pitch_line v o = text_below heads_apart v (head_line o)

pub line_later : {pitch : ℕ} {rest : List ℕ} {line : ℕ} → is_pitch pitch ≡ true → (pitch ≡ 1 → ⊥) → Fault below rest line → Fault sheet (count pitch= pitch ++ rest) (suc line)
line_later v o = fault_below heads_apart v (head_line o)

-- and what no pitch line begins is a text, or has its fault, as if there were no pitches
pub bare_pitch : {bytes : List ℕ} {b : Both Three Three} → Unpitched bytes → TextOf below bytes b → TextOf sheet bytes (under 1 b)
bare_pitch u = text_under (head_absent u)

pub bare_line : {bytes : List ℕ} {line : ℕ} → Unpitched bytes → Fault below bytes line → Fault sheet bytes line
bare_line u = fault_alone (head_absent u) refl

-- What begins with `pitch=` and with no pitch line is wrong at line 1.
module _ (rest : List ℕ) where
  wrong_first : HeadAt (pitch= ++ rest) 1 0 → Fault sheet (pitch= ++ rest) 1
  unfolding read_count read_key
  wrong_first h = fault_alone h refl (fault_is (no_first points triangles read_point read_triangle (pitch= ++ rest) refl))

  pub unpitched_wrong : Unpitched (pitch= ++ rest) → Fault sheet (pitch= ++ rest) 1
  unpitched_wrong u = wrong_first (head_absent u)

-- "In a text such a line, or `pitch=1`, is a wrong line": 1, or a number that is no pitch
pub wrong_pitch : {n : ℕ} → (is_pitch n ≡ true → n ≡ 1) → (rest : List ℕ) → Fault sheet (count pitch= n ++ rest) 1
unfolding count
wrong_pitch {n} h rest = unpitched_wrong ((decimal n ++ (feed ∷ [])) ++ rest) none
  where
    -- whatever other line begins so has the same number
    read : (m : ℕ) (r : List ℕ) → m ≤ n + 10 → read_count pitch= (n + 10) (count pitch= m ++ r) ≡ got m r
    read m r = (count_exact pitch= (n + 10)).finds m r

    none : Unpitched (count pitch= n ++ rest)
    none m r v o e =
        let d : got n rest ≡ got m r = sym (read n rest (omega arith)) ∙ ap (read_count pitch= (n + 10)) e ∙ read m r (omega (arith, number_most v)) in
        let q : n ≡ m = cc in o (sym q ∙ h (rw q v))

-- one with a leading zero, `pitch=02`, and a `pitch=2` that no line feed ends
pub leading_zero_wrong : (rest : List ℕ) → Fault sheet (pitch= ++ (48 ∷ 50 ∷ feed ∷ rest)) 1
unfolding read_count read_key read_decimal until size_in
leading_zero_wrong rest = wrong_first _ (head_unread refl)

pub unended_wrong : Fault sheet (pitch= ++ (50 ∷ [])) 1
unfolding read_count read_key read_decimal until size_in
unended_wrong = wrong_first _ (head_unread refl)

-- but a pitch line that is the whole text is right, and the line then due is wrong
pub alone_wrong : Fault sheet (count pitch= 2 ++ []) 2
unfolding read_count read_key is_pitch
alone_wrong = line_later refl (λ d. omega arith) (fault_is (no_first points triangles read_point read_triangle [] refl))

-- ---- the longest text

-- a number up to the limits has at most four digits
pub few_digits : (n : ℕ) → n < 10000 → size n ≤ 4
few_digits n h = size_below 3 n (omega arith)

pub triangles_most : (ts : List Three) → All triangles.Valid ts → length (flatten (map triangles.show ts)) ≤ 17 * length ts
unfolding flatten
triangles_most [] h = omega arith
triangles_most (t ∷ ts) h =
    omega (
      arith,
      length-append (triangles.show t) (flatten (map triangles.show ts)),
      triangles_most ts h.1,
      triangle_size t,
      few_digits t.first (omega (arith, h.0.first_has)),
      few_digits t.second (omega (arith, h.0.second_has)),
      few_digits t.third (omega (arith, h.0.third_has)),
    )

-- no text is longer,
pub longest : {bytes : List ℕ} {s : Sheet} → TextOf sheet bytes s → length bytes ≤ limits.sheet_text
longest {bytes} {s = all} t =
    let s = t.says.body_says in
    let ps : List Three = all.body.firsts in
    let ts : List Three = all.body.seconds in
    omega (
      arith,
      ap length (t.is ∙ sheet_flat all),
      length-append (flatten (head all.head)) (texts.text below all.body),
      head_most all.head t.says.head_valid,
      lists_length ps ts,
      s.first_few,
      s.second_few,
      few_digits (length ps) (omega (arith, s.first_few)),
      few_digits (length ts) (omega (arith, s.second_few)),
      triangles_most ts s.seconds_valid,
      sheet_text_is,
    )

-- and one is as long: all points and triangles that there can be, with the corners of most digits, below the pitch of most digits
same_length : (n : ℕ) (t : Three) → length (flatten (map triangles.show (replicate n t))) ≡ n * length (triangles.show t)
unfolding flatten
same_length zero t = omega arith
same_length (suc n) t =
    length-append (triangles.show t) (flatten (map triangles.show (replicate n t))) ∙ omega (arith, same_length n t)

module _ (p t c : ℕ) (hp : p ≤ limits.points) (ht : t ≤ limits.triangles) (hc : c < limits.points) (lp : 1000 ≤ p) (lt : 1000 ≤ t) (lc : 1000 ≤ c) where
  ps : List Three
  ps = replicate p (three 0 0 0)

  ts : List Three
  ts = replicate t (three c c c)

  long_text : TextOf sheet (texts.text sheet (sheet_of 10 ps ts)) (sheet_of 10 ps ts)
  unfolding ps ts is_pitch
  long_text =
      record {
        says = record {
          head_valid = refl;
          body_says = record {
            first_few = omega (arith, length-replicate p (three 0 0 0));
            second_few = omega (arith, length-replicate t (three c c c));
            firsts_valid = all_replicate points.Valid p (three 0 0 0) (record { first_has = omega arith; second_has = omega arith; third_has = omega arith });
            seconds_valid = all_replicate triangles.Valid t (three c c c) (record { first_has = hc; second_has = hc; third_has = hc });
          };
        };
        is = refl;
      }

  as_long : length (texts.text sheet (sheet_of 10 ps ts)) ≡ 9 + (12 + 29 * p + (15 + 17 * t))
  unfolding ps ts size_in
  as_long =
      let e : length (triangles.show (three c c c)) ≡ 17 = omega (arith, triangle_size (three c c c), size_four c lc (omega arith)) in
      let h : length (flatten (head 10)) ≡ 9 = head_long {n = 10} (λ d. omega arith) in
      ap length (sheet_flat (sheet_of 10 ps ts))
      ∙ length-append (flatten (head 10)) (texts.text below (both ps ts))
      ∙ rw (h, lists_length ps ts, length-replicate p (three 0 0 0), length-replicate t (three c c c))
      (omega (arith, size_four p lp (omega arith), size_four t lt (omega arith), same_length t (three c c c) ∙ ap (λ (k : ℕ). t * k) e))

  of_that_length : (bytes : List ℕ) × (s : Sheet) × TextOf sheet bytes s × (length bytes ≡ 9 + (12 + 29 * p + (15 + 17 * t)))
  of_that_length = (texts.text sheet (sheet_of 10 ps ts), sheet_of 10 ps ts, long_text, as_long)

pub longest_met : (bytes : List ℕ) × (s : Sheet) × TextOf sheet bytes s × (length bytes ≡ limits.sheet_text)
longest_met =
    let m = of_that_length limits.points limits.triangles (limits.points - 1) (omega arith) (omega arith) (omega arith) (omega arith) (omega arith) (omega arith) in
    (m.0, m.1, m.2, m.3 ∙ sym sheet_text_is)

-- A whole text, written part by part.
use mathlib.Core.Path.{◌≡◌, refl, sym, ap, ◌∙◌}
use mathlib.Core.Bool.{Bool, true, false, cond, true≢false}
use mathlib.Core.List.{List, ◌++◌, flatten}
use Prim.Native.Nat.{ℕ, ◌+◌, ◌*◌, ◌/◌, ◌≤◌}
use native.Mathlib.Omega.{arith}
use lib.ListN.{length, length-append}
use Rattle.base_answers.specs.Numbers.{refusing}
use Rattle.base_answers.specs.Answers.{NoPitch}
use Rattle.base_answers.specs.declared.Answer.TheVariants.{Done}
use Rattle.base_types.specs.Pitches.{is_pitch}
use Rattle.base_limits.specs.Limits as limits
use Rattle.surface_rules.specs.Buffers.{laid, over}
use Rattle.surface_rules.specs.Refusals.{pitch_refusal}
use Rattle.surface_rules.proofs.Laws.Laid.{laid_length}
use Rattle.surface_rules.proofs.Laws.Thens.{Fitting, counts_fit}
use Rattle.text_digits.proofs.Laws.Lay.{lay_two}
use Rattle.text_rules.specs.Text.{count}
use Rattle.text_sheet.specs.Sheet.{points=, triangles=, head, text}
use Rattle.text_sheet.proofs.Laws.Going.{over_laid}
use Rattle.text_sheet.proofs.Laws.Sizes.{text_parts}
use Rattle.text_line.proofs.Laws.Rows.{lay_parts}
use Rattle.text_write.specs.Workings.Means.{Numbered, Serves, point_lines, triangle_lines, Ready}
use Rattle.text_write.proofs.Laws.Fours.{number_end, serves}

-- a number that is not refused is a pitch
pub pitch_named : (n : ℕ) → refusing (pitch_refusal n) ≡ false → is_pitch n ≡ true
unfolding pitch_refusal
pitch_named n = go (is_pitch n)
  where
    go : (t : Bool) → refusing (cond t Done NoPitch) ≡ false → t ≡ true
    go true h = refl
    go false h = absurd (true≢false h)

module _ {pitch : ℕ} {words corners buffer : List ℕ} {n t : ℕ} (r : Ready pitch words corners buffer) (counts : (n ≡ length words / 3) × (t ≡ length corners / 3)) where
  pub pitch_is : is_pitch pitch ≡ true
  pitch_is = pitch_named pitch (ap refusing r.pitched)

  fitting : Fitting (length words) (length corners)
  fitting = counts_fit (length words) (length corners) r.counts

  pub words_whole : length words ≡ 3 * n
  words_whole = omega (arith, counts.0, fitting.word_threes)

  pub corners_whole : length corners ≡ 3 * t
  corners_whole = omega (arith, counts.1, fitting.corner_threes)

  pub points_few : n ≤ limits.points
  points_few = omega (arith, counts.0, fitting.few_words)

  pub triangles_few : t ≤ limits.triangles
  triangles_few = omega (arith, counts.1, fitting.few_corners)

  -- the table of the points serves
  pub corners_served : (fours : List ℕ) → Numbered n fours → Serves corners fours
  corners_served fours m = serves (length words / 3) corners fours r.named (number_end (length words / 3) n fours (omega (arith, counts.0)) m)

  abbrev top : List ℕ
  top = flatten (head pitch)

  abbrev rest : List ℕ
  rest = count points= n ++ (point_lines words ++ (count triangles= t ++ triangle_lines corners))

  -- the head and the four parts below it make the text
  whole_text : top ++ rest ≡ text pitch words corners
  whole_text = text_parts pitch n t words corners words_whole corners_whole

  rest_long : length rest ≡ length (count points= n) + length (point_lines words) + length (count triangles= t) + length (triangle_lines corners)
  rest_long =
      omega (
        arith,
        length-append (count points= n) (point_lines words ++ (count triangles= t ++ triangle_lines corners)),
        length-append (point_lines words) (count triangles= t ++ triangle_lines corners),
        length-append (count triangles= t) (triangle_lines corners),
      )

  -- there is room for all of it
  pub parts_room : length top + length (count points= n) + length (point_lines words) + length (count triangles= t) + length (triangle_lines corners) ≤ length buffer
  parts_room = omega (arith, r.room, ap length whole_text, length-append top rest, rest_long)

  -- and it is laid part by part
  pub sheet_laid : {s k l m e : ℕ} {zero one two three four : List ℕ}
      → (zero ≡ laid 0 top buffer) × (s ≡ length top) → (one ≡ laid s (count points= n) zero) × (k ≡ s + length (count points= n))
      → (two ≡ laid k (point_lines words) one) × (l ≡ k + length (point_lines words)) → (three ≡ laid l (count triangles= t) two) × (m ≡ l + length (count triangles= t))
      → (four ≡ laid m (triangle_lines corners) three) × (e ≡ m + length (triangle_lines corners))
      → (four ≡ over (text pitch words corners) buffer) × (e ≡ length (text pitch words corners))
  sheet_laid {s} {k} {l} {m} {e} {zero} {one} {two} {three} {four} d f g h i =
      let z : length zero ≡ length buffer = ap length d.0 ∙ laid_length 0 buffer top (omega (arith, parts_room)) in
      let b : four ≡ laid s rest zero = lay_parts s k l m (count points= n) (point_lines words) (count triangles= t) (triangle_lines corners) zero one two three four (omega (arith, parts_room)) f.1 g.1 h.1 f.0 g.0 h.0 i.0 in (
        lay_two 0 s top rest buffer zero four (omega (arith, parts_room)) (omega arith) d.0 b ∙ ap (λ (r : List ℕ). laid 0 r buffer) whole_text ∙ sym (over_laid (text pitch words corners) buffer),
        omega (arith, ap length whole_text, length-append top rest, rest_long),
      )

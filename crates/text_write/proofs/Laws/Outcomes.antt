-- From what each check said to the outcome of writing.
use Rattle.std.specs.Prelude.{Option, Some, None, Ok, Err}
use mathlib.Core.Path.{◌≡◌, sym, ap, ◌∙◌}
use mathlib.Core.Bool.{Bool, true, false, not}
use mathlib.Core.List.{List, [], ◌∷◌, flatten}
use Prim.Native.Nat.{ℕ, ◌+◌, ◌/◌, ◌<◌, ◌≤◌}
use native.Mathlib.Omega.{arith}
use lib.Dec.{leb}
use lib.ListN.{length}
use borrow.Author.Tests.{lt-ltb, leb-true, leb-false, not-true, not-false}
use Rattle.base_answers.specs.Answers.{Buffer}
use Rattle.base_answers.specs.declared.Answer.TheVariants.{Done, Refused}
use Rattle.base_answers.specs.declared.Refusal.{Refusal}
use Rattle.base_answers.specs.declared.Refusal.TheVariants as refusal
use Rattle.base_types.specs.Pitches.{is_pitch, Names}
use Rattle.base_types.specs.declared.Pitch.{Pitch}
use Rattle.base_types.proofs.Laws.Pitches.{pitch_is}
use Rattle.surface_rules.specs.Smallest.{least}
use Rattle.surface_rules.specs.Buffers.{over}
use Rattle.surface_rules.specs.Refusals.{short, unnamed, pitch_refusal, count_refusal, buffer_refusal}
use Rattle.surface_rules.proofs.Laws.Deciding as deciding
use Rattle.surface_rules.proofs.Laws.Thens.{Fitting, counts_fit, one_long}
use Rattle.text_sheet.specs.Sheet.{head, text}
use Rattle.text_line.specs.Workings.Means.{Counted, needed}
use Rattle.text_line.proofs.Laws.Sizes.{needed_is}
use Rattle.text_write.specs.Outcome.{write_outcome, write_refusal, writes}
use Rattle.text_write.specs.Workings.Means.{Ready}

-- a number that names a pitch is that of a pitch
pub pitch_here : {n : ℕ} (p : Pitch) → Names n (Ok p) → is_pitch n ≡ true
pitch_here p h = ap is_pitch h ∙ pitch_is p

-- a buffer that is too short
short_one : (x y : ℕ) → x < y → buffer_refusal (x ∷ []) (y ∷ []) ≡ Buffer 1
unfolding buffer_refusal least short
short_one x y h = rw (lt-ltb x y h)

-- what is known once there is room
pub record Roomy (pitch : ℕ) (words corners buffer : List ℕ) : Type 0 where
  pub pitched : pitch_refusal pitch ≡ Done
  pub counts : count_refusal (length words) (length corners) ≡ Done
  pub room : length (text pitch words corners) ≤ length buffer

module _ (pitch : ℕ) (words corners buffer : List ℕ) where
  refused : {r : Refusal} → write_refusal pitch words corners buffer ≡ Refused r → write_outcome (Err r) buffer ≡ writes pitch words corners buffer
  unfolding writes
  refused w = rw w

  pub pitch_refused : {r : Refusal} → Names pitch (Err r) → write_outcome (Err r) buffer ≡ writes pitch words corners buffer
  unfolding write_refusal
  pitch_refused n = refused (rw (deciding.pitch_refused pitch n.0, n.1))

  module _ (p : is_pitch pitch ≡ true) where
    pitched : pitch_refusal pitch ≡ Done
    unfolding pitch_refusal
    pitched = rw p

    pub counts_refused : {r : Refusal} → Refused r ≡ count_refusal (length words) (length corners) → write_outcome (Err r) buffer ≡ writes pitch words corners buffer
    unfolding write_refusal
    counts_refused e = refused (rw (pitched, ← e))

    module _ (counts : Done ≡ count_refusal (length words) (length corners)) where
      fitting : Fitting (length words) (length corners)
      fitting = counts_fit (length words) (length corners) (sym counts)

      module _ {n : ℕ} (points : n ≡ length words / 3) where
        pub counted : Counted n (length corners)
        counted = record { few_points = omega (arith, points, fitting.few_words); whole = fitting.corner_threes; few_corners = fitting.few_corners }

        module _ {top : ℕ} (et : top ≡ length (flatten (head pitch))) (b : Bool) (eb : b ≡ leb (top + needed n corners) (length buffer)) where
          bytes_are : top + needed n corners ≡ length (text pitch words corners)
          bytes_are = omega (arith, et, needed_is n corners counted pitch words (omega (arith, points, fitting.word_threes)))

          pub no_room : not b ≡ true → write_outcome (Err (refusal.Buffer 1)) buffer ≡ writes pitch words corners buffer
          unfolding write_refusal
          no_room f =
              let l : length buffer < length (text pitch words corners) = omega (arith, bytes_are, leb-false (top + needed n corners) (length buffer) (sym eb ∙ not-true b f)) in
              refused (rw (pitched, ← counts, short_one (length buffer) (length (text pitch words corners)) l))

          pub roomy : not b ≡ false → Roomy pitch words corners buffer
          roomy f =
              record { pitched = pitched; counts = sym counts; room = omega (arith, bytes_are, leb-true (top + needed n corners) (length buffer) (sym eb ∙ not-false b f)) }

  module _ (k : Roomy pitch words corners buffer) {n : ℕ} (points : n ≡ length words / 3) (found : Option ℕ) (ef : found ≡ least (unnamed corners n) (length corners)) where
    pub corner_refused : {i : ℕ} → found ≡ Some i → write_outcome (Err (refusal.Unnamed i)) buffer ≡ writes pitch words corners buffer
    unfolding write_refusal
    corner_refused g = refused (rw (k.pitched, k.counts, one_long (length buffer) (length (text pitch words corners)) k.room, ← points, ← ef, g))

    pub ready : found ≡ None → Ready pitch words corners buffer
    ready g = record { pitched = k.pitched; counts = k.counts; room = k.room; named = rw (← points) (sym ef ∙ g) }

  pub wrote : (k : Ready pitch words corners buffer) (count : ℕ) (after : List ℕ) → (after ≡ over (text pitch words corners) buffer) × (count ≡ length (text pitch words corners))
      → write_outcome (Ok count) after ≡ writes pitch words corners buffer
  unfolding writes write_refusal
  wrote k count after e = rw (e.0, e.1, k.pitched, k.counts, one_long (length buffer) (length (text pitch words corners)) k.room, k.named)

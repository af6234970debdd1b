-- The outcome of reading into buffers of a surface's full size.
use mathlib.Core.Path.{◌≡◌}
use mathlib.Core.List.{List, [], ◌∷◌}
use Prim.Native.Nat.{ℕ, ◌/◌, ◌≤◌}
use native.Mathlib.Omega.{arith}
use lib.ListN.{length}
use Rattle.base_answers.specs.Answers.{Unnamed}
use Rattle.base_answers.specs.declared.Answer.TheVariants.{Done}
use Rattle.base_limits.specs.Limits as limits
use Rattle.surface_rules.specs.Buffers.{over}
use Rattle.surface_rules.specs.Refusals.{buffer_refusal, unnamed_refusal}
use Rattle.surface_rules.proofs.Laws.Thens.{two_long}
use Rattle.surface_rules.proofs.Laws.Threes.{flat_length}
use Rattle.text_rules.specs.Text.{TextOf}
use Rattle.text_sheet.specs.Sheet.{Sheet, sheet, pitch_said, words_said, corners_said}
use Rattle.text_read.specs.Outcome.{not_read, deliver}

module _ {bytes : List ℕ} {s : Sheet} (t : TextOf sheet bytes s) where
  abbrev ws : List ℕ
  ws = words_said s

  abbrev cs : List ℕ
  cs = corners_said s

  -- reading it
  module _ (words corners : List ℕ) (hw : limits.words ≤ length words) (hc : limits.corners ≤ length corners) where
    room : buffer_refusal (length words ∷ length corners ∷ []) (length ws ∷ length cs ∷ []) ≡ Done
    room =
        two_long (length words) (length corners) (length ws) (length cs) (omega (arith, hw, flat_length s.body.firsts, t.says.body_says.first_few))
        (omega (arith, hc, flat_length s.body.seconds, t.says.body_says.second_few))

    pub read_whole : unnamed_refusal cs (length ws / 3) ≡ Done
        → deliver (pitch_said s) ws cs words corners ≡ record { answer = Done; pitch = pitch_said s; word_count = length ws; corner_count = length cs; words = over ws words; corners = over cs corners }
    unfolding deliver
    read_whole n = rw (room, n)

    pub read_unnamed : (i : ℕ) → unnamed_refusal cs (length ws / 3) ≡ Unnamed i → deliver (pitch_said s) ws cs words corners ≡ not_read (Unnamed i) words corners
    unfolding deliver
    read_unnamed i n = rw (room, n)

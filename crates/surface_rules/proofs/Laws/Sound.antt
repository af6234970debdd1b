-- A surface that is not refused passed every part of the table; so it is sound.
use Rattle.std.specs.Prelude.{Option, Some, None}
use mathlib.Core.Path.{◌≡◌, refl, sym, ap, ◌∙◌}
use mathlib.Core.Bool.{Bool, true, false, true≢false}
use mathlib.Core.List.{List}
use Prim.Native.Nat.{ℕ, ◌/◌}
use native.Mathlib.Omega.{arith}
use lib.ListN.{length}
use Rattle.base_answers.specs.Numbers.{refusing}
use Rattle.base_answers.specs.declared.Answer.{Answer}
use Rattle.base_answers.specs.Answers.{Unnamed, Twice, Repeated}
use Rattle.base_answers.specs.declared.Answer.TheVariants.{Done}
use Rattle.surface_rules.specs.Smallest.{least}
use Rattle.surface_rules.specs.Edges.{twice, repeats, Sound}
use Rattle.surface_rules.specs.Refusals.{unnamed, then_check, refuse_at, pitch_refusal, count_refusal, buffer_refusal, corner_refusal, word_refusal, content_refusal, refusal}
use Rattle.surface_rules.proofs.Laws.Thens.{then_refused, then_next, done_of, pitch_passing, count_passing, buffer_passing, corner_passing, word_passing, counts_fit}

-- the first check of two did not refuse, and the second decided
pub record Next (a b : Answer) : Type 0 where
  pub first : refusing a ≡ false
  pub second : refusing b ≡ false

pub next_of : (a b : Answer) → refusing (then_check a b) ≡ false → Next a b
next_of a b e = go (refusing a) refl
  where
    go : (t : Bool) → refusing a ≡ t → Next a b
    go true r = absurd (true≢false (sym (ap refusing (then_refused a b r) ∙ r) ∙ e))
    go false r = record { first = r; second = sym (ap refusing (then_next a b r)) ∙ e }

-- the parts of the table, each passed
pub record Passed (pitch : ℕ) (words corners lent needs : List ℕ) : Type 0 where
  pub pitched : pitch_refusal pitch ≡ Done
  pub counts : count_refusal (length words) (length corners) ≡ Done
  pub buffers : buffer_refusal lent needs ≡ Done
  pub corner : corner_refusal corners (length words / 3) ≡ Done
  pub word : word_refusal pitch words ≡ Done

pub passed : (pitch : ℕ) (words corners lent needs : List ℕ) → refusing (refusal pitch words corners lent needs) ≡ false → Passed pitch words corners lent needs
unfolding refusal content_refusal
passed pitch words corners lent needs e =
    let p = next_of (pitch_refusal pitch) (then_check (count_refusal (length words) (length corners)) (content_refusal pitch words corners lent needs)) e in
    let a = next_of (count_refusal (length words) (length corners)) (content_refusal pitch words corners lent needs) p.second in
    let b = next_of (buffer_refusal lent needs) (then_check (corner_refusal corners (length words / 3)) (word_refusal pitch words)) a.second in
    let c = next_of (corner_refusal corners (length words / 3)) (word_refusal pitch words) b.second in
    record {
      pitched = done_of (pitch_refusal pitch) (pitch_passing pitch) p.first;
      counts = done_of (count_refusal (length words) (length corners)) (count_passing (length words) (length corners)) a.first;
      buffers = done_of (buffer_refusal lent needs) (buffer_passing lent needs) b.first;
      corner = done_of (corner_refusal corners (length words / 3)) (corner_passing corners (length words / 3)) c.first;
      word = done_of (word_refusal pitch words) (word_passing pitch words) c.second;
    }

-- and then nothing is refused
pub passes : (pitch : ℕ) (words corners lent needs : List ℕ) → Passed pitch words corners lent needs → refusing (refusal pitch words corners lent needs) ≡ false
unfolding refusal content_refusal
passes pitch words corners lent needs p = rw (p.pitched, p.counts, p.buffers, p.corner, p.word) refl

corners_pass : (corners : List ℕ) (points : ℕ) → corner_refusal corners points ≡ Done → (least (twice corners) (length corners / 3) ≡ None) × (least (repeats corners) (length corners) ≡ None)
unfolding corner_refusal
corners_pass corners points = go (least (unnamed corners points) (length corners)) (least (twice corners) (length corners / 3)) refl (least (repeats corners) (length corners)) refl
  where
    go : (n f : Option ℕ) → least (twice corners) (length corners / 3) ≡ f → (g : Option ℕ) → least (repeats corners) (length corners) ≡ g
        → then_check (refuse_at Unnamed n) (then_check (refuse_at Twice f) (refuse_at Repeated g)) ≡ Done → (least (twice corners) (length corners / 3) ≡ None) × (least (repeats corners) (length corners) ≡ None)
    go None None e None h d = (e, h)
    go None None e (Some j) h d = let z : ◌≡◌ {A = ℕ} 0 1 = cc in absurd (omega arith)
    go None (Some i) e g h d = let z : ◌≡◌ {A = ℕ} 0 1 = cc in absurd (omega arith)
    go (Some i) f e g h d = let z : ◌≡◌ {A = ℕ} 0 1 = cc in absurd (omega arith)

pub passed_sound : (pitch : ℕ) (words corners lent needs : List ℕ) → Passed pitch words corners lent needs → Sound corners
passed_sound pitch words corners lent needs p =
    let c = corners_pass corners (length words / 3) p.corner in
    record { triples = (counts_fit (length words) (length corners) p.counts).corner_threes; proper = c.0; single = c.1 }

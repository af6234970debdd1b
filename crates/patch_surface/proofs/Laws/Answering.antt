-- What the patcher answers: a refusal as the table has it, or what the patching of a surface that passed leaves.
use mathlib.Core.Path.{◌≡◌, refl, sym, ap, ◌∙◌, subst}
use mathlib.Core.Bool.{true, false, true≢false}
use mathlib.Core.List.{List}
use Prim.Native.Nat.{ℕ, ◌*◌, ◌/◌, ◌≤◌}
use native.Mathlib.Nat.{le_trans}
use native.Mathlib.Omega.{arith}
use lib.IntN.{ℤ}
use lib.ListN.{length, take, length-map}
use Rattle.base_answers.specs.Numbers.{refusing}
use Rattle.base_answers.specs.declared.Answer.{Answer}
use Rattle.std.specs.Prelude.{Ok, Err}
use Rattle.base_answers.specs.declared.Refusal.{Refusal}
use Rattle.base_answers.specs.declared.Answer.TheVariants.{Refused}
use Rattle.base_answers.specs.declared.Answer.TheVariants.{Done}
use Rattle.base_types.specs.Pitches.{pitch_of, Names}
use Rattle.base_types.specs.declared.Pitch.{Pitch}
use Rattle.base_limits.specs.Limits as limits
use Rattle.surface_rules.specs.Refusals.{count_refusal, refusal}
use Rattle.surface_rules.proofs.Laws.Thens.{counts_fit}
use Rattle.surface_rules.proofs.Laws.Deciding.{pitch_decides, count_decides}
use Rattle.survey_grid.specs.Grid.{whole_of, grid_of}
use Rattle.survey_rules.proofs.Laws.Parts.{grid_in, grid_part}
use Rattle.fill_scratch.specs.Workings.Scratch.{few}
use Rattle.patch_surface.specs.Outcome.{Buffers, Outcome, outcome, buffers, lent, needs, Completes, Patches}
use Rattle.patch_surface.specs.Workings.Checking.{Checked, Passed, Checks, PatchRoom, Finishes, Bench}
use Rattle.patch_surface.specs.declared.Patched.{Patched}

module _ (pitch : ℕ) (words corners : List ℕ) (b : Buffers) where
  -- what the table says decides
  pub decided : {r : Refusal} → refusal pitch words corners (lent b) (needs words corners) ≡ Refused r → Patches pitch words corners b (outcome (Err r) b)
  decided e = rw e refl

  pub pitch_refuse : {r : Refusal} → Names pitch (Err r) → Patches pitch words corners b (outcome (Err r) b)
  pitch_refuse n = decided (pitch_decides pitch words corners (lent b) (needs words corners) n.0 ∙ ap Refused (sym n.1))

  -- what is promised at a pitch is promised at its number
  pub at_pitch : (p : Pitch) (o : Outcome) → pitch ≡ pitch_of p → Patches (pitch_of p) words corners b o → Patches pitch words corners b o
  at_pitch p o e h = subst (λ (n : ℕ). Patches n words corners b o) (sym e) h

  -- a check refused
  pub checked_refuse : {r : Refusal} {turns : List ℕ} {grid' : List ℤ} → Checks pitch words corners b (Refused r) turns grid'
      → Patches pitch words corners b (outcome (Err r) (buffers grid' b.rings b.records b.patches))
  checked_refuse {r} k =
      let d = k.0 refl in
      subst (λ (g : List ℤ). Patches pitch words corners b (outcome (Err r) (buffers g b.rings b.records b.patches))) (sym d.1) (decided (sym d.0))

  module _ {a : Answer} {turns : List ℕ} {grid' : List ℤ} (k : Checks pitch words corners b a turns grid') where
    module _ (t : refusing a ≡ false) where
      passed : Passed pitch words corners b turns grid'
      passed = k.1 t

      pub checked_in : length words ≤ length grid'
      checked_in = grid_in pitch words b.grid grid' passed.laid

      gridded : take (length words) grid' ≡ grid_of pitch words
      gridded = grid_part pitch words b.grid grid' passed.laid

      checked_here : Checked pitch words corners turns (take (length words) grid')
      checked_here = let c = passed.checked in record { counts = c.counts; woven = c.woven; on_grid = c.on_grid; gridded = gridded }

      pub checked_room : PatchRoom corners turns (take (length words) grid') b.rings b.records b.patches
      checked_room = record { pitch = pitch; words = words; checked = checked_here; roomy = passed.roomy }

      -- the grid that is handed on has a number for each word
      pub points_here : length (take (length words) grid') / 3 ≡ length words / 3
      points_here = ap (λ (g : List ℤ). length g / 3) gridded ∙ ap (λ (n : ℕ). n / 3) (length-map words (whole_of pitch))

      -- no check refused, and it was patched
      pub checked_patches : {r : Patched} {rings' records' patches' : List ℕ}
          → Finishes corners turns (take (length words) grid') (buffers (take (length words) grid') b.rings b.records b.patches) r (buffers (take (length words) grid') rings' records' patches')
          → Patches pitch words corners b (outcome (Ok r) (buffers grid' rings' records' patches'))
      checked_patches {r} {rings'} {records'} {patches'} f =
          rw passed.none_refused
          (subst (λ (x : List ℤ). Completes pitch words corners b (outcome (Ok r) (buffers x rings' records' patches'))) (sym passed.laid) (f pitch words checked_here b.grid))

-- what all checks say, with the pitch as a number and the counts
module _ {words corners : List ℕ} (b : Buffers) {turns : List ℕ} where
  says : {pitch : ℕ} {a : Answer} → refusing a ≡ true → refusal pitch words corners (lent b) (needs words corners) ≡ a → Checks pitch words corners b a turns b.grid
  says t e = ((λ q. (sym e, refl)), λ q. absurd (true≢false (sym t ∙ q)))

  pub pitch_says : (pitch : ℕ) {r : Refusal} → Names pitch (Err r) → Checks pitch words corners b (Refused r) turns b.grid
  pitch_says pitch n = says refl (pitch_decides pitch words corners (lent b) (needs words corners) n.0 ∙ ap Refused (sym n.1))

  pub counts_say : (p : Pitch) {a : Answer} → refusing a ≡ true → a ≡ count_refusal (length words) (length corners) → Checks (pitch_of p) words corners b a turns b.grid
  counts_say p {a} t e = says t (count_decides p words corners (lent b) (needs words corners) a e t)

-- the counts refuse
pub counts_refuse : (p : Pitch) (words corners : List ℕ) (b : Buffers) {r : Refusal} → Refused r ≡ count_refusal (length words) (length corners) → Patches (pitch_of p) words corners b (outcome (Err r) b)
counts_refuse p words corners b {r} e = decided (pitch_of p) words corners b (count_decides p words corners (lent b) (needs words corners) (Refused r) e refl)

module _ (words : List ℕ) {corners turns path places lengths states firsts runs : List ℕ} {points : ℕ} (c : count_refusal (length words) (length corners) ≡ Done) (p : points ≡ length words / 3) where
  -- room for any surface is room for this one
  pub bench_most : 2 * limits.corners ≤ length turns → 2 * limits.corners ≤ length path → limits.points ≤ length places → limits.triangles ≤ length lengths
      → limits.triangles ≤ length states → limits.triangles ≤ length firsts → limits.triangles ≤ length runs → Bench points corners turns path places lengths states firsts runs
  bench_most t u v l s f r =
      let fit = counts_fit (length words) (length corners) c in
      let k = fit.few_corners in
      record {
        turns_long = omega arith;
        path_long = omega arith;
        places_long = omega (arith, fit.few_words);
        pieces_long = omega arith;
        lengths_long = omega arith;
        states_long = omega arith;
        firsts_long = omega arith;
        runs_long = omega arith;
      }

  -- room for few is room for a surface with few points and corners
  pub bench_few : length words / 3 ≤ few → length corners ≤ few → 2 * few ≤ length turns → 2 * few ≤ length path → few ≤ length places → few ≤ length lengths
      → few ≤ length states → few ≤ length firsts → few ≤ length runs → Bench points corners turns path places lengths states firsts runs
  bench_few w q t u v l s f r = record {
    turns_long = omega arith;
    path_long = omega arith;
    places_long = omega arith;
    pieces_long = omega arith;
    lengths_long = omega arith;
    states_long = omega arith;
    firsts_long = omega arith;
    runs_long = omega arith;
  }

-- as many points as the grid has threes
pub room_points : {corners turns : List ℕ} {grid : List ℤ} {rings records patches : List ℕ} (r : PatchRoom corners turns grid rings records patches) → length grid / 3 ≡ length r.words / 3
room_points r = ap (λ (g : List ℤ). length g / 3) r.checked.gridded ∙ ap (λ (n : ℕ). n / 3) (length-map r.words (whole_of r.pitch))

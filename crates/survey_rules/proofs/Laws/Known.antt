-- What is known of a surface that no check refused: the same whatever was lent.
use mathlib.Core.Path.{◌≡◌, ◌∙◌}
use mathlib.Core.Bool.{false}
use mathlib.Core.List.{List}
use Prim.Native.Nat.{ℕ, ◌/◌, ◌≤◌, ◌<◌}
use native.Mathlib.Omega.{arith}
use lib.IntN.{ℤ}
use lib.ListN.{length, get_or}
use Rattle.base_answers.specs.Numbers.{refusing}
use Rattle.base_answers.specs.declared.Answer.{Answer}
use Rattle.base_answers.specs.declared.Answer.TheVariants.{Done}
use Rattle.base_types.specs.Pitches.{pitch_of}
use Rattle.base_types.specs.declared.Pitch.{Pitch}
use Rattle.base_limits.specs.Limits as limits
use Rattle.surface_rules.specs.Refusals.{count_refusal, refusal}
use Rattle.surface_rules.proofs.Laws.Thens.{Fitting, counts_fit}
use Rattle.surface_rules.proofs.Laws.Deciding.{content_decides, content_pass}
use Rattle.loop_rules.specs.Loops.{loops}
use Rattle.loop_rules.proofs.Theorems.{vertices_in_all, vertices_few, loops_third}
use Rattle.loop_cut.specs.Listing.{rings_of}
use Rattle.loop_find.specs.Workings.Asked.{Ready, Lent}
use Rattle.check_words.specs.Workings.OnGrid.{OnGrid}
use Rattle.check_surface.specs.Workings.Checks.{Woven, Checked}
use Rattle.survey_rules.specs.Outcome.{buffers, lent, needs}

pub record Known (pitch : ℕ) (words corners table : List ℕ) : Type 0 where
  pub fits : Fitting (length words) (length corners)
  pub woven : Woven corners (length words / 3) table
  pub on_grid : OnGrid pitch words

-- the same where the buffers 1 to 3 are grid, rings and lengths, and of them
pub record Suited (pitch : ℕ) (words corners table : List ℕ) (grid : List ℤ) (rings lengths : List ℕ) : Type 0 where
  pub none_refused : refusal pitch words corners (lent (buffers grid rings lengths)) (needs words corners) ≡ Done
  pub known : Known pitch words corners table
  pub grid_long : length words ≤ length grid
  pub rings_long : length corners ≤ length rings
  pub lengths_long : length corners / 3 ≤ length lengths

pub suited : (p : Pitch) (words corners table : List ℕ) (grid : List ℤ) (rings lengths : List ℕ) (a : Answer) → count_refusal (length words) (length corners) ≡ Done
    → Checked (pitch_of p) words corners (lent (buffers grid rings lengths)) (needs words corners) a table → refusing a ≡ false → Suited (pitch_of p) words corners table grid rings lengths
suited p words corners table grid rings lengths a c k f =
    let l = lent (buffers grid rings lengths) in
    let n = needs words corners in
    let d : a ≡ Done = content_pass (pitch_of p) words corners l n a k.said f in
    let s = k.passed d in
    record {
      none_refused = content_decides p words corners l n c a k.said ∙ d;
      known = record { fits = counts_fit (length words) (length corners) c; woven = s.woven; on_grid = s.on_grid };
      grid_long = s.long 0 (omega arith);
      rings_long = s.long 1 (omega arith);
      lengths_long = s.long 2 (omega arith);
    }

-- what is long enough stays so where its length is kept
pub still_long : {n before now : ℕ} → n ≤ before → now ≡ before → n ≤ now
still_long h e = omega arith

module _ {pitch : ℕ} {words corners table : List ℕ} (k : Known pitch words corners table) where
  -- every corner is below the greatest count of points
  pub corner_inside : (i : ℕ) → i < length corners → get_or corners i 0 < limits.points
  corner_inside i h = omega (arith, k.woven.named i h, k.fits.few_words)

  -- room for the loops of any surface is room for those of this one
  pub enough : {n : ℕ} → limits.triangles ≤ n → length corners / 3 ≤ n
  enough h = omega (arith, k.fits.few_corners)

  -- the loops can be listed, in the lent buffers or apart from them
  pub ready : (found sizes firsts : List ℕ) → length corners ≤ length table → length corners ≤ length found → length corners / 3 ≤ length sizes → length corners / 3 ≤ length firsts
      → Ready corners table found sizes firsts
  ready found sizes firsts t r l f = record {
    sound = k.woven.sound;
    few = k.fits.few_corners;
    named = corner_inside;
    table = k.woven.turns;
    table_long = t;
    rings_long = r;
    lengths_long = l;
    firsts_long = f;
  }

  pub lent_long : (path places : List ℕ) → length corners ≤ length path → length words / 3 ≤ length places → Lent corners path places
  lent_long path places p q = record { path_long = p; named = λ i h. omega (arith, k.woven.named i h) }

  -- no more is listed than there are corners and triangles
  pub rings_few : length (rings_of corners (loops corners)) ≤ length corners
  unfolding rings_of
  rings_few = omega (arith, vertices_in_all corners k.woven.sound, vertices_few corners k.woven.sound)

  pub loops_few : length (loops corners) ≤ length corners / 3
  loops_few = loops_third corners k.woven.sound

-- From the checks of a surface to what is promised of them, and what is known of a surface that passed.
use mathlib.Core.Path.{◌≡◌, refl, sym, ◌∙◌}
use mathlib.Core.Bool.{true, false, true≢false}
use mathlib.Core.List.{List}
use Prim.Native.Nat.{ℕ, ◌≤◌}
use native.Mathlib.Omega.{arith}
use lib.IntN.{ℤ}
use lib.ListN.{length}
use Rattle.base_answers.specs.Numbers.{refusing}
use Rattle.base_answers.specs.declared.Answer.{Answer}
use Rattle.base_answers.specs.declared.Answer.TheVariants.{Done}
use Rattle.base_types.specs.Pitches.{pitch_of}
use Rattle.base_types.specs.declared.Pitch.{Pitch}
use Rattle.surface_rules.specs.Buffers.{over}
use Rattle.surface_rules.specs.Refusals.{count_refusal}
use Rattle.surface_rules.proofs.Laws.Thens.{counts_fit}
use Rattle.surface_rules.proofs.Laws.Deciding.{content_decides, content_pass}
use Rattle.check_words.specs.Workings.OnGrid.{OnGrid}
use Rattle.check_surface.specs.Workings.Checks as checks
use Rattle.survey_grid.specs.Grid.{grid_of}
use Rattle.survey_rules.proofs.Laws.Known.{Known}
use Rattle.patch_surface.specs.Outcome.{Buffers, lent, needs}
use Rattle.patch_surface.specs.Workings.Checking.{Checked, GridFirst, ChecksWith, Checks}

module _ (p : Pitch) {words corners lent needs : List ℕ} {a : Answer} {table : List ℕ} (c : count_refusal (length words) (length corners) ≡ Done)
    (k : checks.Checked (pitch_of p) words corners lent needs a table) where
  pub checks_refuse : {grid : List ℤ} → refusing a ≡ true → ChecksWith (pitch_of p) words corners lent needs grid a table grid
  checks_refuse t = ((λ e. (sym (content_decides p words corners lent needs c a k.said), refl)), λ e. absurd (true≢false (sym t ∙ e)))

  passes : refusing a ≡ false → checks.Passed (pitch_of p) words corners lent needs table
  passes t = k.passed (content_pass (pitch_of p) words corners lent needs a k.said t)

  pub grid_ready : {grid : List ℤ} → GridFirst words lent needs grid → refusing a ≡ false → OnGrid (pitch_of p) words × (length words ≤ length grid)
  grid_ready g t = let s = passes t in (s.on_grid, omega (arith, s.long 0 g.some, g.lent_grid, g.needs_words))

  pub checks_pass : {grid grid' : List ℤ} → refusing a ≡ false → grid' ≡ over (grid_of (pitch_of p) words) grid → ChecksWith (pitch_of p) words corners lent needs grid a table grid'
  checks_pass t e =
      let s = passes t in (
        (λ q. absurd (true≢false (sym q ∙ t))),
        λ q. record {
          none_refused = content_decides p words corners lent needs c a k.said ∙ content_pass (pitch_of p) words corners lent needs a k.said t;
          checked = record { counts = c; woven = s.woven; on_grid = s.on_grid; gridded = refl };
          long = s.long;
          laid = e;
        },
      )

-- ---- the patcher's own buffers

module _ (words corners : List ℕ) (b : Buffers) where
  pub grid_first : GridFirst words (lent b) (needs words corners) b.grid
  grid_first = record { lent_grid = refl; needs_words = refl; some = omega arith }

  -- what is long enough of what was lent is room
  pub own_checks : {pitch : ℕ} {a : Answer} {table : List ℕ} {grid' : List ℤ} → ChecksWith pitch words corners (lent b) (needs words corners) b.grid a table grid' → Checks pitch words corners b a table grid'
  own_checks k = (
    k.0,
    λ t.
        let s = k.1 t in
        record {
          none_refused = s.none_refused;
          checked = s.checked;
          roomy = record { rings_long = s.long 1 (omega arith); records_long = s.long 2 (omega arith); patches_long = s.long 3 (omega arith) };
          laid = s.laid;
        },
  )

-- ---- a surface that passed

pub known : {pitch : ℕ} {words corners turns : List ℕ} {grid : List ℤ} → Checked pitch words corners turns grid → Known pitch words corners turns
known {pitch} {words} {corners} c = record { fits = counts_fit (length words) (length corners) c.counts; woven = c.woven; on_grid = c.on_grid }

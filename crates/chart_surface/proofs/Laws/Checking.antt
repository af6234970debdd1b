-- The checks with the buffers that charting is lent.
use mathlib.Core.Path.{refl}
use mathlib.Core.List.{List}
use Prim.Native.Nat.{ℕ}
use native.Mathlib.Omega.{arith}
use lib.IntN.{ℤ}
use Rattle.base_answers.specs.declared.Answer.{Answer}
use Rattle.patch_surface.specs.Workings.Checking.{GridFirst, ChecksWith}
use Rattle.chart_surface.specs.Outcome.{Buffers, lent, needs}
use Rattle.chart_surface.specs.Workings.Charting.{Checks}

module _ (words corners : List ℕ) (b : Buffers) where
  pub grid_first : GridFirst words (lent b) (needs words corners) b.grid
  grid_first = record { lent_grid = refl; needs_words = refl; some = omega arith }

  pub checks_of : {pitch : ℕ} {a : Answer} {turns : List ℕ} {grid' : List ℤ} → ChecksWith pitch words corners (lent b) (needs words corners) b.grid a turns grid'
      → Checks pitch words corners b a turns grid'
  checks_of k = (
    k.0,
    λ t.
        let p = k.1 t in
        record {
          none_refused = p.none_refused;
          checked = p.checked;
          roomy = record { rings_long = p.long 1 (omega arith); records_long = p.long 2 (omega arith); report_long = p.long 3 (omega arith) };
          laid = p.laid;
        },
  )

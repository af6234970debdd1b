-- `report_checked` has room for any number of points and corners.
use mathlib.Core.Path.{ap, ◌∙◌}
use Prim.Native.Nat.{ℕ, ◌/◌}
use mathlib.Core.List.{List}
use lib.IntN.{ℤ}
use lib.Dec.{lit≤}
use lib.ListN.{length, length-map}
use Rattle.chart_surface.proofs.Laws.Answering.{loop_bench}
use Rattle.chart.proofs.report_checked.Goals as goal

pub chart_loops-requires : goal.chart_loops-requires
chart_loops-requires c =
    let r = c.requires.room _ (lit≤ tt) in
    let points = ap (λ (g : List ℤ). length g / 3) r.checked.gridded ∙ ap (λ (n : ℕ). n / 3) (length-map r.words _) in
    record {
      loop_room = r;
      loop_bench = loop_bench r.words r.checked.counts points c.requires.turns_long (lit≤ tt) (lit≤ tt) (lit≤ tt) (lit≤ tt) (lit≤ tt) (lit≤ tt);
    }

pub returns : goal.returns
returns c = (_, _, _, c.chart_loops.ensures)

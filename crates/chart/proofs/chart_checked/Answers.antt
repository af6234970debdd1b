-- `chart_checked` has room for any number of points and corners.
use mathlib.Core.Path.{ap, ◌∙◌}
use Prim.Native.Nat.{ℕ, ◌/◌, ◌≤◌}
use native.Mathlib.Omega.{arith}
use mathlib.Core.List.{List}
use lib.IntN.{ℤ}
use lib.Dec.{lit≤}
use lib.ListN.{length, length-map}
use Rattle.base_limits.specs.Limits as limits
use Rattle.chart_surface.proofs.Laws.Answering.{loop_bench, chart_bench}
use Rattle.chart.proofs.chart_checked.Goals as goal

pub chart_checked-requires : goal.chart_checked-requires
chart_checked-requires c =
    let r = c.requires.room.0 in
    let points = ap (λ (g : List ℤ). length g / 3) r.checked.gridded ∙ ap (λ (n : ℕ). n / 3) (length-map r.words _) in
    let twice = c.requires.turns_long in
    let once : limits.corners ≤ length c.args.turns.now = omega arith in
    record {
      loop_room = c.requires.room;
      loop_bench = (
        loop_bench r.words r.checked.counts points once (lit≤ tt) (lit≤ tt) (lit≤ tt) (lit≤ tt) (lit≤ tt) (lit≤ tt),
        chart_bench r.words r.checked.counts twice (lit≤ tt) (lit≤ tt),
      );
    }

-- `patch_checked` has room for any number of points and corners.
use lib.Dec.{lit≤}
use Rattle.patch_surface.proofs.Laws.Answering.{bench_most, room_points}
use Rattle.patch.proofs.patch_checked.Goals as goal

pub patch_checked-requires : goal.patch_checked-requires
patch_checked-requires c =
    let r = c.requires.0 in
    record {
      patch_room = r;
      bench = bench_most r.words r.checked.counts (room_points r) c.requires.1 (lit≤ tt) (lit≤ tt) (lit≤ tt) (lit≤ tt) (lit≤ tt) (lit≤ tt);
    }

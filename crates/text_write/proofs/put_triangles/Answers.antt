-- `put_triangles`: after some turns what is left to write, laid over the present buffer, gives the whole.
use Prim.Native.Nat.{◌+◌, ◌*◌}
use native.Mathlib.Omega.{arith}
use Rattle.text_sheet.specs.Sheet.{triangles}
use Rattle.text_sheet.proofs.Laws.Putting.{putting_room, putting_more, putting_ends}
use Rattle.text_write.proofs.Laws.Fours.{served}
use Rattle.text_write.proofs.put_triangles.Goals as goal

pub put_triangle-place-requires : goal.put_triangle-place-requires
put_triangle-place-requires c =
    record {
      has = (
        served _ _ c.requires.corners_len.1 (3 * c.loop-k.k) (omega arith),
        served _ _ c.requires.corners_len.1 (3 * c.loop-k.k + 1) (omega arith),
        served _ _ c.requires.corners_len.1 (3 * c.loop-k.k + 2) (omega arith),
      );
      c_in_bounds = putting_room triangles.show _ c.loop-k.k c.loop-k.invariant (omega arith);
    }

pub loop-k-preserved : goal.loop-k-preserved
loop-k-preserved c =
    putting_more triangles.show _ c.loop-k.k c.loop-k.invariant (omega arith) c.put_triangle-place.ensures.0
    c.put_triangle-place.ensures.1

pub returns : goal.returns
returns c = putting_ends triangles.show _ c.loop-k.k c.loop-k.invariant (omega arith)

-- `put_points`: after some turns what is left to write, laid over the present buffer, gives the whole.
use Prim.Native.Nat.{◌+◌, ◌*◌}
use native.Mathlib.Omega.{arith}
use lib.ListN.{get_or}
use Rattle.surface_rules.specs.Threes.{three}
use Rattle.text_sheet.specs.Sheet.{points}
use Rattle.text_sheet.proofs.Laws.Exactly.{point_length}
use Rattle.text_sheet.proofs.Laws.Putting.{putting_room, putting_more, putting_ends}
use Rattle.text_write.proofs.put_points.Goals as goal

pub put_point-requires : goal.put_point-requires
put_point-requires c = (
  omega (
    arith,
    putting_room points.show c.args.words.now c.loop-k.k c.loop-k.invariant (omega arith),
    point_length
        (three (get_or c.args.words.now (3 * c.loop-k.k) 0) (get_or c.args.words.now (3 * c.loop-k.k + 1) 0)
        (get_or c.args.words.now (3 * c.loop-k.k + 2) 0)),
  ),
  c.spell_bytes.ensures,
)

pub loop-k-preserved : goal.loop-k-preserved
loop-k-preserved c =
    putting_more points.show
    c.args.words.now c.loop-k.k c.loop-k.invariant (omega arith) c.put_point.ensures
    (omega (
      arith,
      point_length (three (get_or c.args.words.now (3 * c.loop-k.k) 0) (get_or c.args.words.now (3 * c.loop-k.k + 1) 0)
          (get_or c.args.words.now (3 * c.loop-k.k + 2) 0)),
    ))

pub returns : goal.returns
returns c = putting_ends points.show _ c.loop-k.k c.loop-k.invariant (omega arith)

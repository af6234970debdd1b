-- `put_all`: what is put before the loops leaves room for them all.
use native.Mathlib.Omega.{arith}
use Rattle.program_lines.specs.Workings.Telling.{inventory}
use Rattle.program_lines.proofs.Laws.Nexts.{Typed}
use Rattle.program_roll.proofs.Laws.Going.{going_begins}
use Rattle.program_roll.proofs.Laws.Whole.{all_put}
use Rattle.program_roll.proofs.put_all.Goals as goal

pub fill-told-requires : goal.fill-told-requires
fill-told-requires c =
    record {
      bytes_in_bounds = omega (arith, c.begin-progress.ensures.bytes_bound, c.requires.most_in_bounds, c.begin-progress.auto);
      going = going_begins c.requires.listed c.begin-progress.ensures.begins;
    }

pub returns : goal.returns
returns c =
    let typed : Typed (inventory c.args.rings.now c.args.records.now c.args.patches.now) = record { rings_short = c.type_inv.rings; patches_short = c.type_inv.patches } in
    all_put typed c.requires.few c.begin-progress.ensures.begins c.begin-progress.ensures.bytes_bound
    (omega (arith, c.requires.most_in_bounds, c.begin-progress.auto)) c.fill-told.ensures

-- `lay` lays record after record, and reads each weight before its place is written.
use Rattle.patch_records.specs.Workings.Columns.{columns}
use Rattle.patch_records.proofs.Laws.Laying.{Going}
use Rattle.patch_records.proofs.lay.Given as goal

abbrev pub invariant-loop-l : goal.invariant-loop-l
invariant-loop-l l = Going (columns l.lengths l.states l.firsts l.pieces l.runs) l.initial.records l.l l.records

-- `rewrite` puts the answer where reading refuses, and has the rest written.
use mathlib.Core.Path.{refl}
use native.Mathlib.Omega.{arith}
use Rattle.base_answers.specs.declared.Answer.TheVariants.{Refused}
use Rattle.surface_rules.proofs.Laws.Lists.{as_long}
use Rattle.text_write.specs.Outcome.{writes}
use Rattle.program_lines.specs.Lines.{answer_line}
use Rattle.program_rewrite.specs.Rewriting.{printed}
use Rattle.program_rewrite.proofs.Theorems.{room_enough}
use Rattle.program_rewrite.proofs.Laws.Fronts.{start_within, sheet_within}
use Rattle.program_rewrite.proofs.Laws.Printed.{refused_rewrites, written_rewrites}
use Rattle.program_rewrite.proofs.rewrite.Goals as goal

pub slice_bounds-read-end-2 : goal.slice_bounds-read-end-2
slice_bounds-read-end-2 c = search as_long

pub slice_bounds-words-end : goal.slice_bounds-words-end
slice_bounds-words-end c = (sheet_within _ _ c.read.ensures c.in-Ok.is).0

pub slice_bounds-write-end : goal.slice_bounds-write-end
slice_bounds-write-end c = as_long _ _ (sheet_within _ _ c.read.ensures c.in-Ok.is).0

pub slice_bounds-corners-end : goal.slice_bounds-corners-end
slice_bounds-corners-end c = (sheet_within _ _ c.read.ensures c.in-Ok.is).1

pub slice_bounds-write-end-in-Ok : goal.slice_bounds-write-end-in-Ok
slice_bounds-write-end-in-Ok c = as_long _ _ (sheet_within _ _ c.read.ensures c.in-Ok.is).1

pub returns-in-Ok : goal.returns-in-Ok
returns-in-Ok c =
    record {
      out = printed (writes _ _ _ c.args.room.now);
      due = λ input held.
          room_enough c.requires.0 held
          (written_rewrites _ _ c.read.ensures (omega arith) (omega arith) c.in-Ok.is _ (λ _ x. start_within c.args.n c.args.room.now) refl);
      many = c.write.ensures.1;
      lies = c.write.ensures.0;
    }

pub returns-in-Err : goal.returns-in-Err
returns-in-Err c =
    record {
      out = answer_line (Refused c.in-Err.refusal);
      due = λ input held. room_enough c.requires.0 held (refused_rewrites _ _ c.read.ensures (omega arith) (omega arith) c.in-Err.is refl);
      many = c.put_answer.ensures.out_value.1;
      lies = c.put_answer.ensures.out_value.0;
    }

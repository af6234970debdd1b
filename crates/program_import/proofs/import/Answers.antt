-- `import` answers an input that fills the room by its size, puts the answer where reading any other refuses, and has every sheet put.
use mathlib.Core.Path.{ap, subst, ◌∙◌}
use native.Mathlib.Omega.{arith}
use Rattle.base_answers.specs.declared.Answer.TheVariants.{Refused}
use Rattle.surface_rules.proofs.Laws.Lists.{as_long}
use Rattle.stl_rules.specs.Reading.{size_refusal}
use Rattle.program_lines.specs.Lines.{answer_line}
use Rattle.program_import.specs.Importing.{Imports}
use Rattle.program_import.proofs.Theorems.{seen_whole}
use Rattle.program_import.proofs.Laws.Read.{sheet_given, refusal_imports, put_room, put_imports}
use Rattle.program_import.proofs.Laws.Longer.{longer_imports}
use Rattle.program_import.proofs.import.Goals as goal

pub returns-then-n-room : goal.returns-then-n-room
returns-then-n-room c =
    record {
      out = answer_line c.from.result;
      due = λ input seen. longer_imports c.requires.0 c.if-n-room.true seen (c.from.ensures ∙ c.sized-size.ensures ∙ ap (size_refusal c.args.long) c.count.ensures);
      many = c.put_answer.ensures.out_value.1;
      lies = c.put_answer.ensures.out_value.0;
    }

pub slice_bounds-read-end-2 : goal.slice_bounds-read-end-2
slice_bounds-read-end-2 c = search as_long

pub slice_bounds-words-end : goal.slice_bounds-words-end
slice_bounds-words-end c = (sheet_given _ _ _ _ c.read.ensures (omega arith) (omega arith) c.in-Ok.is).words_in

pub slice_bounds-put-end : goal.slice_bounds-put-end
slice_bounds-put-end c = as_long _ _ (sheet_given _ _ _ _ c.read.ensures (omega arith) (omega arith) c.in-Ok.is).words_in

pub slice_bounds-corners-end : goal.slice_bounds-corners-end
slice_bounds-corners-end c = (sheet_given _ _ _ _ c.read.ensures (omega arith) (omega arith) c.in-Ok.is).corners_inside

pub slice_bounds-put-end-in-Ok : goal.slice_bounds-put-end-in-Ok
slice_bounds-put-end-in-Ok c = as_long _ _ (sheet_given _ _ _ _ c.read.ensures (omega arith) (omega arith) c.in-Ok.is).corners_inside

pub put-requires : goal.put-requires
put-requires c = put_room _ _ (sheet_given _ _ _ _ c.read.ensures (omega arith) (omega arith) c.in-Ok.is) (omega (arith, c.requires.0))

pub returns-in-Ok : goal.returns-in-Ok
returns-in-Ok c =
    let p = c.put.ensures in
    record {
      out = p.out;
      due = λ input seen. subst (λ l. Imports l p.out) (seen_whole (omega (arith, c.if-n-room.false, c.requires.1)) seen)
          (put_imports _ _ (sheet_given _ _ _ _ c.read.ensures (omega arith) (omega arith) c.in-Ok.is) p);
      many = p.many;
      lies = p.lies;
    }

pub returns-in-Err : goal.returns-in-Err
returns-in-Err c =
    record {
      out = answer_line (Refused c.in-Err.refusal);
      due = λ input seen. subst (λ l. Imports l (answer_line (Refused c.in-Err.refusal))) (seen_whole (omega (arith, c.if-n-room.false, c.requires.1)) seen)
          (refusal_imports _ _ _ _ c.read.ensures (omega arith) (omega arith) c.in-Err.is);
      many = c.put_answer-in-Err.ensures.out_value.1;
      lies = c.put_answer-in-Err.ensures.out_value.0;
    }

-- `print`: the arrays are long enough for every surface, and the buffer for every listing.
use native.Mathlib.Omega.{arith}
use lib.ListN.{length-take}
use borrow.Author.Rules.{rules}
use Rattle.surface_rules.proofs.Laws.Lists.{as_long}
use Rattle.program_lines.proofs.Laws.Printing.{short_prints}
use Rattle.program_list.proofs.Laws.Left.{lists_listed}
use Rattle.program_list.proofs.Laws.Printouts.{refusal_prints, all_prints}
use Rattle.program_list.proofs.print.Goals as goal

pub returns-then-out-lt-LISTING : goal.returns-then-out-lt-LISTING
returns-then-out-lt-LISTING c = search short_prints

pub slice_bounds-rings-end : goal.slice_bounds-rings-end
slice_bounds-rings-end c = (lists_listed c.in-Ok.ensures).rings_in

pub slice_bounds-put_all-end : goal.slice_bounds-put_all-end
slice_bounds-put_all-end c = as_long _ _ (lists_listed c.in-Ok.ensures).rings_in

pub overflow_mul-records : goal.overflow_mul-records
overflow_mul-records c = let h = lists_listed c.in-Ok.ensures in omega (arith, h.records_in, c.list.auto)

pub slice_bounds-records-end : goal.slice_bounds-records-end
slice_bounds-records-end c = (lists_listed c.in-Ok.ensures).records_in

pub slice_bounds-put_all-end-in-Ok : goal.slice_bounds-put_all-end-in-Ok
slice_bounds-put_all-end-in-Ok c = as_long _ _ (lists_listed c.in-Ok.ensures).records_in

pub slice_bounds-patches-end : goal.slice_bounds-patches-end
slice_bounds-patches-end c = (lists_listed c.in-Ok.ensures).patches_in

pub slice_bounds-put_all-end-in-Ok-2 : goal.slice_bounds-put_all-end-in-Ok-2
slice_bounds-put_all-end-in-Ok-2 c = as_long _ _ (lists_listed c.in-Ok.ensures).patches_in

pub put_all-bytes-requires : goal.put_all-bytes-requires
put_all-bytes-requires c =
    let h = lists_listed c.in-Ok.ensures in
    record {
      most_in_bounds = search rules;
      listed = h.listed;
      few = record {
        few_loops = omega (arith, h.records_in, c.list.auto);
        few_vertices = omega (arith, h.rings_in, c.list.auto, length-take c.in-Ok.listed.vertices c.list.new.rings);
        few_corners = omega (arith, h.patches_in, c.list.auto, length-take c.in-Ok.listed.corners c.list.new.patches);
      };
    }

pub returns-in-Ok : goal.returns-in-Ok
returns-in-Ok c =
    all_prints (omega (arith, c.if-out-lt-LISTING.false))
    (record { grid_full = omega arith; rings_full = omega arith; records_full = omega arith; patches_full = omega arith })
    c.put_all-bytes.ensures c.in-Ok.ensures

pub returns-in-Err : goal.returns-in-Err
returns-in-Err c =
    refusal_prints (omega (arith, c.if-out-lt-LISTING.false))
    (record { grid_full = omega arith; rings_full = omega arith; records_full = omega arith; patches_full = omega arith })
    c.in-Err.ensures c.put_answer-bytes.ensures.out_value.1 c.put_answer-bytes.ensures.out_value.0

-- `put_next`: the parts of the buffers that are handed on are the next loop's.
use native.Mathlib.Omega.{arith}
use Rattle.program_lines.specs.Workings.Telling.{inventory}
use Rattle.program_lines.proofs.Laws.Nexts.{Typed, next_place, patch_in, next_wide, next_tells}
use Rattle.program_lines.proofs.put_next.Goals as goal

pub corners_of-k-requires : goal.corners_of-k-requires
corners_of-k-requires c = let h = next_place c.requires.next_room c.record_at-kept.ensures in (omega (arith, h), omega (arith, h))

pub overflow_add-r : goal.overflow_add-r
overflow_add-r c = omega (arith, next_place c.requires.next_room c.record_at-kept.ensures)

pub offset_bounds-rings-r : goal.offset_bounds-rings-r
offset_bounds-rings-r c = omega (arith, next_place c.requires.next_room c.record_at-kept.ensures)

pub slice_bounds-put_loop-end : goal.slice_bounds-put_loop-end
slice_bounds-put_loop-end c = omega (arith, next_place c.requires.next_room c.record_at-kept.ensures)

pub overflow_add-p : goal.overflow_add-p
overflow_add-p c = omega (arith, patch_in c.requires.next_room c.record_at-kept.ensures c.corners_of-k.ensures)

pub offset_bounds-patches-p : goal.offset_bounds-patches-p
offset_bounds-patches-p c = omega (arith, patch_in c.requires.next_room c.record_at-kept.ensures c.corners_of-k.ensures)

pub slice_bounds-put_loop-end-2 : goal.slice_bounds-put_loop-end-2
slice_bounds-put_loop-end-2 c = omega (arith, patch_in c.requires.next_room c.record_at-kept.ensures c.corners_of-k.ensures)

pub put_loop-bytes-requires : goal.put_loop-bytes-requires
put_loop-bytes-requires c =
    let typed : Typed (inventory c.args.rings.now c.args.records.now c.args.patches.now) = record { rings_short = c.type_inv.rings; patches_short = c.type_inv.patches } in
    omega (arith, next_wide c.requires.next_room c.record_at-kept.ensures c.corners_of-k.ensures typed, c.requires.most_in_bounds)

pub overflow_add-result : goal.overflow_add-result
overflow_add-result c = omega (arith, next_place c.requires.next_room c.record_at-kept.ensures, c.well_formed)

pub overflow_add-result-2 : goal.overflow_add-result-2
overflow_add-result-2 c = omega (arith, next_place c.requires.next_room c.record_at-kept.ensures, c.well_formed)

pub returns : goal.returns
returns c =
    let typed : Typed (inventory c.args.rings.now c.args.records.now c.args.patches.now) = record { rings_short = c.type_inv.rings; patches_short = c.type_inv.patches } in
    record {
      tells_next = next_tells c.record_at-kept.ensures c.corners_of-k.ensures c.put_loop-bytes.ensures;
      bytes_bound = omega (arith, next_wide c.requires.next_room c.record_at-kept.ensures c.corners_of-k.ensures typed, c.put_loop-bytes.ensures);
    }

-- `put_sheet` lays the head of a text and its four parts, each behind the last.
use native.Mathlib.Omega.{arith}
use Rattle.text_write.proofs.Laws.Whole.{pitch_is, words_whole, corners_whole, points_few, triangles_few, corners_served, parts_room, sheet_laid}
use Rattle.text_write.proofs.put_sheet.Goals as goal

pub number_points-requires : goal.number_points-requires
number_points-requires c = (omega (arith, points_few c.requires.0 c.of-sheet.ensures), omega (arith, c.of-sheet.ensures.0, c.requires.1))

pub put_head-start-requires : goal.put_head-start-requires
put_head-start-requires c = (pitch_is c.requires.0 c.of-sheet.ensures, omega (arith, parts_room c.requires.0 c.of-sheet.ensures))

pub put_count-first-requires : goal.put_count-first-requires
put_count-first-requires c = (omega (arith, points_few c.requires.0 c.of-sheet.ensures), omega (arith, parts_room c.requires.0 c.of-sheet.ensures, c.put_head-start.ensures.1))

pub put_points-middle-requires : goal.put_points-middle-requires
put_points-middle-requires c = (
  words_whole c.requires.0 c.of-sheet.ensures,
  omega (arith, parts_room c.requires.0 c.of-sheet.ensures, c.put_head-start.ensures.1, c.put_count-first.ensures.1),
)

pub put_count-second-requires : goal.put_count-second-requires
put_count-second-requires c = (
  omega (arith, triangles_few c.requires.0 c.of-sheet.ensures),
  omega (arith, parts_room c.requires.0 c.of-sheet.ensures, c.put_head-start.ensures.1, c.put_count-first.ensures.1, c.put_points-middle.ensures.1),
)

pub put_triangles-requires : goal.put_triangles-requires
put_triangles-requires c =
    record {
      corners_len = (corners_whole c.requires.0 c.of-sheet.ensures, corners_served c.requires.0 c.of-sheet.ensures _ c.number_points.ensures);
      corners_in_bounds = omega (arith, parts_room c.requires.0 c.of-sheet.ensures, c.put_head-start.ensures.1, c.put_count-first.ensures.1, c.put_points-middle.ensures.1, c.put_count-second.ensures.1);
    }

pub returns : goal.returns
returns c = sheet_laid c.requires.0 c.of-sheet.ensures c.put_head-start.ensures c.put_count-first.ensures c.put_points-middle.ensures c.put_count-second.ensures c.put_triangles.ensures

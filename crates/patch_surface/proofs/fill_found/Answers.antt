-- `fill_found` runs the course and lays the records.
use Rattle.patch_surface.proofs.Laws.Filling.{weigh_room, lay_room, fills}
use Rattle.patch_surface.proofs.fill_found.Goals as goal

pub run_course-laid-requires : goal.run_course-laid-requires
run_course-laid-requires c = (weigh_room c.requires.found_loops c.requires.fill_room.0, c.requires.fill_room.1)

pub lay-requires : goal.lay-requires
lay-requires c = lay_room c.requires.found_loops c.requires.fill_room.0 c.run_course-laid.ensures (search)

pub returns : goal.returns
returns c = fills c.requires.found_loops c.requires.fill_room.0 c.run_course-laid.ensures c.lay.ensures

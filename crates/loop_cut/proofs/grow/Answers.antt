-- `grow` adds the edge and its place, and cuts the path where an edge starts that the definition finds too.
use mathlib.Core.Path.{sym, ◌∙◌}
use Rattle.loop_cut.proofs.Laws.Pushes.{cut_room, grew_on, grew_cut}
use Rattle.loop_cut.proofs.grow.Goals as goal

pub cut-requires : goal.cut-requires
cut-requires c = cut_room c.requires (sym c.in-Some.is ∙ c.starts_at.ensures)

pub returns-in-None : goal.returns-in-None
returns-in-None c = search grew_on

pub returns-in-Some : goal.returns-in-Some
returns-in-Some c = search grew_cut

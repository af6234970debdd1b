-- `next_leader` looks at the next two, and else goes on where the quiet eights end; the one that it begins after does not lead.
use borrow.Author.Rules.{rules}
use Rattle.loop_leaders.proofs.Laws.Quiets.{quiet_before, quiet_join}
use Rattle.loop_leaders.proofs.next_leader.Goals as goal

pub returns-then-near-h : goal.returns-then-near-h
returns-then-near-h c = (search rules, search rules, quiet_before _ _ _ c.requires.2 c.leading-near.ensures.2)

pub returns : goal.returns
returns c = (search rules, search rules, quiet_before _ _ _ c.requires.2 (search (quiet_join, c.skip_quiet.ensures, c)))

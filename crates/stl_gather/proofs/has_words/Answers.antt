-- `has_words` compares word after word.
use Rattle.stl_gather.proofs.Laws.Walks.{first_agrees, first_other, third_tells, two_other}
use Rattle.stl_gather.proofs.has_words.Goals as goal
use Rattle.stl_gather.proofs.has_words.Goals.{then-ws-k, else-ws-k}

pub returns-then-ws-k-2 : goal.returns-then-ws-k-2
returns-then-ws-k-2 c =
    let s = c.args in
    third_tells s.ws.now s.k s.a s.b s.c
    (elim c.if-ws-k.branch [ then-ws-k w ↦ first_agrees s.ws.now s.k s.a s.b s.c w.value-is w.if-ws-k.true | else-ws-k w ↦ first_other s.ws.now s.k s.a s.b s.c w.value-is w.if-ws-k.false ])
    c.if-ws-k-2.true

pub returns-else-ws-k-2 : goal.returns-else-ws-k-2
returns-else-ws-k-2 c =
    let s = c.args in
    two_other s.ws.now s.k s.a s.b s.c
    (elim c.if-ws-k.branch [ then-ws-k w ↦ first_agrees s.ws.now s.k s.a s.b s.c w.value-is w.if-ws-k.true | else-ws-k w ↦ first_other s.ws.now s.k s.a s.b s.c w.value-is w.if-ws-k.false ])
    c.if-ws-k-2.false

-- `head_at` finds the line of a pitch other than 1, or none.
use mathlib.Core.Path.{sym, ◌∙◌}
use Rattle.text_sheet.proofs.Laws.Found.{head_short, head_other, head_keyless, head_numberless, head_one, head_pitchless, head_pitched}
use Rattle.text_sheet.proofs.head_at.Goals as goal

pub returns-then-text-lt8 : goal.returns-then-text-lt8
returns-then-text-lt8 c = search head_short

pub returns-then-text-ne105 : goal.returns-then-text-ne105
returns-then-text-ne105 c = search head_other

pub returns-in_err-i : goal.returns-in_err-i
returns-in_err-i c = rw c.from_residual.ensures (head_keyless c.args.text.now c.in_err-i.ensures)

pub returns-in_err-pitch : goal.returns-in_err-pitch
returns-in_err-pitch c = rw c.from_residual-in_err-pitch.ensures (head_numberless c.args.text.now c.in_ok-i.i c.in_ok-i.ensures c.in_err-pitch.ensures.0)

pub returns-then-pitch-eq1 : goal.returns-then-pitch-eq1
returns-then-pitch-eq1 c = head_one c.args.text.now c.in_ok-i.i c.in_ok-i.ensures c.in_ok-pitch.pitch c.in_ok-pitch.next c.in_ok-pitch.ensures.0 c.if-pitch-eq1.true

pub returns-in_err-ok : goal.returns-in_err-ok
returns-in_err-ok c =
    let w = c.in_ok-pitch in
    rw c.from_residual-in_err-ok.ensures
    (head_pitchless c.args.text.now c.in_ok-i.i c.in_ok-i.ensures w.pitch w.next w.ensures.0 c.try_from.result c.try_from.ensures (sym c.ok.ensures.value ∙ c.in_err-ok.was))

pub returns : goal.returns
returns c =
    let w = c.in_ok-pitch in
    head_pitched c.args.text.now c.in_ok-i.i c.in_ok-i.ensures w.pitch w.next w.ensures.0 c.try_from.result c.try_from.ensures w.ensures.1 (sym c.ok.ensures.value ∙ c.in_ok-ok.was) c.if-pitch-eq1.false

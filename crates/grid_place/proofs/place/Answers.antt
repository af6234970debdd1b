-- `place` gives each of the four answers where it is due.
use mathlib.Core.Path.{sym, ◌∙◌}
use native.Mathlib.Omega.{arith}
use borrow.Author.Tests.{leb-true, leb-false}
use Rattle.base_types.proofs.Laws.Pitches.{pitch_some, pitch_most}
use Rattle.grid_coordinate.proofs.Laws.Floats.{number, no_number}
use Rattle.grid_coordinate.proofs.Laws.Coordinates.{held}
use Rattle.grid_place.proofs.Laws.Placing.{beyond, too_far, exactly, shifted}
use Rattle.grid_place.proofs.place.Goals as goal

pub returns-then-field-eq255 : goal.returns-then-field-eq255
returns-then-field-eq255 c = no_number _ c.if-field-eq255.true

pub float_from_bits-result : goal.float_from_bits-result
float_from_bits-result c = number _ c.if-field-eq255.false

pub returns-then-field-ge149 : goal.returns-then-field-ge149
returns-then-field-ge149 c = beyond _ _ (pitch_some c.args.pitch) (pitch_most c.args.pitch) c.if-field-ge149.true c.if-field-eq255.false

pub float_from_bits-x : goal.float_from_bits-x
float_from_bits-x c = number _ (λ e. absurd (omega (arith, c.if-field-ge149.false)))

pub returns-then-not-holds : goal.returns-then-not-holds
returns-then-not-holds c =
    let h = c.if-field-ge149.false in too_far _ h _ (pitch_some c.args.pitch) _ (held _ h _ (pitch_some c.args.pitch) _ c.nearest-k.ensures)
    (leb-false _ _ (sym c.holds.ensures ∙ c.if-not-holds.true))

pub returns-then-x-near : goal.returns-then-x-near
returns-then-x-near c =
    let h = c.if-field-ge149.false in exactly _ h _ (pitch_some c.args.pitch) _ (held _ h _ (pitch_some c.args.pitch) _ c.nearest-k.ensures)
    (leb-true _ _ (sym c.holds.ensures ∙ c.if-not-holds.false)) c.if-x-near.true

pub returns : goal.returns
returns c =
    let h = c.if-field-ge149.false in shifted _ h _ (pitch_some c.args.pitch) _ (held _ h _ (pitch_some c.args.pitch) _ c.nearest-k.ensures)
    (leb-true _ _ (sym c.holds.ensures ∙ c.if-not-holds.false)) c.if-x-near.false

-- The corners' places, turned.
use native.Mathlib.Omega.{arith}
use Rattle.judge_seat.proofs.Laws.Seated.{seat_turned}
use Rattle.judge_seat.proofs.seat_at.Goals as goal

pub returns-in_err-c : goal.returns-in_err-c
returns-in_err-c c = grind arith

pub returns : goal.returns
returns c =
    seat_turned _ _ c.in_ok-a.ensures.lies c.in_ok-b.ensures.lies c.in_ok-c.ensures.lies c.in_ok-a.ensures.fits c.in_ok-b.ensures.fits c.in_ok-c.ensures.fits _
    c.seat_of.ensures

-- Reserved is at most capacity.
-- Assumes nothing.
use native.Mathlib.Omega.{arith}
use Rattle.questions.proofs.Seats.{reserved-le}
use Rattle.judge.proofs.answers.seats_left.Goals as goal

pub overflow_sub-result : goal.overflow_sub-result
overflow_sub-result c =
    let a = c.args in
    omega (arith, c.capacity.ensures, c.reserved.ensures, reserved-le c.args.diary.good a.date.0 a.room c.requires.date_lt_dates c.requires.room_lt_dining)

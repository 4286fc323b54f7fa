-- Reserved and n are few enough to be added.
-- Assumes nothing.
use Rattle.questions.specs.Asked.{room_left}
use Rattle.questions.proofs.Seats.{reserved-le, capacity-le}
use native.Mathlib.Omega.{arith}
use Rattle.questions.proofs.slots.room_left.Goals as goal

pub overflow_add-result : goal.overflow_add-result
overflow_add-result c =
    let a = c.args in
    omega (
      arith,
      c.reserved.ensures,
      reserved-le c.args.diary.good a.date.0 a.room c.requires.date_lt_dates c.requires.room_lt_dining,
      capacity-le c.args.diary.good a.room c.requires.room_lt_dining,
      c.requires.n_bound,
    )

pub returns : goal.returns
unfolding room_left
returns c = rw (← c.reserved.ensures, ← c.capacity.ensures)

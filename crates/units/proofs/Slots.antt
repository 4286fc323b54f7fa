-- How many slots a unit has at most, and the dates of slots.
-- Assumes nothing.
use Prim.Native.Nat.{ℕ, ◌≤◌, ◌<◌}
use native.Mathlib.Nat.{mul-le-mul, div-lt_iff_lt-mul}
use native.Mathlib.Omega.{arith}
use Rattle.model.specs.declared.Settings.{Settings}
use Rattle.model.specs.Site.{all_sessions, all_times}
use Rattle.model.specs.Kinds.{Unit, dates, sessions, times, slots_of, date_of}
use Rattle.model.proofs.Times.{time-date-lt}
use Rattle.units.specs.Ranges.{Ranges}

pub all-sessions : (S : Settings) → Ranges S → all_sessions S ≤ 6400
all-sessions S h = mul-le-mul {n₂ = 400} {m₂ = 16} h.dates.1 h.sessions.1

pub all-times : (S : Settings) → Ranges S → all_times S ≤ 38400
all-times S h = mul-le-mul {n₂ = 400} {m₂ = 96} h.dates.1 h.times.1

pub unit-le : (S : Settings) → Ranges S → (u : Unit) → slots_of S u ≤ 38400
unit-le S h dates = omega (arith, h.dates)
unit-le S h sessions = omega (arith, all-sessions S h)
unit-le S h times = omega (arith, all-times S h)

-- the date of a slot is a date
pub date-lt : (S : Settings) → Ranges S → (u : Unit) (i : ℕ) → i < slots_of S u → date_of S u i < S.dates
date-lt S h dates i l = l
date-lt S h sessions i l = (div-lt_iff_lt-mul {k = S.sessions} h.sessions.0).1 l
date-lt S h times i l = time-date-lt S h.times.0 i l

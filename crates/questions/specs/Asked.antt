-- Questions 9 to 20 as the code asks them: of the cells of a grid, and of what a state shows in a slot.
-- Assumes nothing.
use Rattle.std.specs.Prelude.{ℕ, ◌+◌, ◌/◌, ◌%◌, Bool, not, ◌&&◌, List, leb, eqb}
use Rattle.std.specs.Prelude.{Option}
use Rattle.book.specs.declared.grid.Grid.{Grid}
use Rattle.book.specs.Grids.{cell_at}
use Rattle.book.specs.Rows.{row_has}
use Rattle.model.specs.declared.Settings.{Settings}
use Rattle.model.specs.Bounded.{bit, failing}
use Rattle.model.specs.Site.{capacity, date_of_session}
use Rattle.model.specs.State.{State, reserved}
use Rattle.model.specs.Kinds.{Unit as SlotUnit, date_of}
use Rattle.model.specs.Questions.{bookings, stands_on, conf_held, lunch_held}
use Rattle.model.specs.Reading.{state_of}

-- the lowest row of first..last in which the cell of item j holds w; in which it does not
unfoldable pub first_with : Grid → List ℕ → ℕ → ℕ → ℕ → ℕ → Option ℕ
first_with g b j w first last = (failing (λ i. not (eqb (cell_at g b i j) w)) first last)

unfoldable pub first_without : Grid → List ℕ → ℕ → ℕ → ℕ → ℕ → Option ℕ
first_without g b j w first last = (failing (λ i. eqb (cell_at g b i j) w) first last)

-- the lowest row in which some cell holds w; in which none does
unfoldable pub first_row_with : Grid → List ℕ → ℕ → ℕ → ℕ → Option ℕ
first_row_with g b w first last = (failing (λ i. not (row_has g b i w)) first last)

unfoldable pub first_row_without : Grid → List ℕ → ℕ → ℕ → ℕ → Option ℕ
first_row_without g b w first last = (failing (λ i. row_has g b i w) first last)

-- the lowest row in which v is not in the pool
unfoldable pub first_not_member : Grid → List ℕ → ℕ → ℕ → ℕ → Option ℕ
first_not_member g b v first last = (failing (λ i. bit (cell_at g b i (v / 32)) (v % 32)) first last)

-- what is asked of one visitor, meeting or dining room in a slot: questions 9, 10, 14 and 16 to 20
pub data Test : Type 0 where
  -- the visitor has leave on the date of the slot, of that unit
  OnLeave : SlotUnit → Test
  -- the meeting stands in the session; it stands in some session of the date
  Stands StandsThatDate : Test
  -- n seats more leave the dining room within its capacity on the date
  RoomLeft : Test
  -- the meeting has a conference room in the session; it has a lunch on the date
  HasConf HasLunch : Test
  -- the visitor has no hotel, ride or attend entry on the date
  NoBookings : Test
  -- the meeting has no conference room in the session and no lunch on its date
  NotHeld : Test

-- questions 14 and 19 in slot i
unfoldable pub room_left : Settings → State → ℕ → ℕ → ℕ → Bool
room_left S x i room n = leb (reserved x i room + n) (capacity S room)

unfoldable pub not_held : Settings → State → ℕ → ℕ → Bool
not_held S x i m = not (conf_held x i m) && not (lunch_held x (date_of_session S i) m)

-- the test of `who` in slot i; n is the number of seats wanted
unfoldable pub holds_in : Settings → State → Test → ℕ → ℕ → ℕ → Bool
holds_in S x (OnLeave u) who n i = x.leave (date_of S u i) who
holds_in S x Stands who n i = x.standing i who
holds_in S x StandsThatDate who n i = stands_on x i who
holds_in S x RoomLeft who n i = room_left S x i who n
holds_in S x HasConf who n i = conf_held x i who
holds_in S x HasLunch who n i = lunch_held x i who
holds_in S x NoBookings who n i = eqb (bookings x who i i) 0
holds_in S x NotHeld who n i = not_held S x i who

-- the lowest slot of first..last that fails the test of what the book shows
abbrev pub slots_fail : Settings → List ℕ → Test → ℕ → ℕ → ℕ → ℕ → Option ℕ
slots_fail S b t who n first last = (failing (holds_in S (state_of b) t who n) first last)

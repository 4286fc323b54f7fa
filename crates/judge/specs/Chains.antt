-- The questions of each kind past 7 as the code asks them, one after the other, over the words of a book.
-- Assumes nothing.
use Rattle.std.specs.Prelude.{ℕ, ◌+◌, ◌-◌, Bool, true, false, List, [], ◌∷◌}
use Rattle.std.specs.Prelude.{Option, Some, None, Result, Ok, Err}
use Rattle.book.specs.declared.grid.Grid.{Grid}
use Rattle.book.specs.declared.grid.Grids.{Grids}
use Rattle.questions.specs.Asked.{first_with, first_without, first_row_with, slots_fail}
use Rattle.questions.specs.Asked.{OnLeave, Stands, StandsThatDate, RoomLeft, HasConf, HasLunch, NoBookings, NotHeld}
use Rattle.model.specs.declared.Settings.{Settings}
use Rattle.model.specs.declared.Request.{Request}
use Rattle.model.specs.declared.Refusal.{Refusal}
use Rattle.model.specs.Answers.{Answer}
use Rattle.model.specs.Answers.{done_with, refused_with}
use Rattle.model.specs.Bounded.{within, count}
use Rattle.model.specs.Site.{capacity, date_of_session}
use Rattle.model.specs.State.{State, reserved}
use Rattle.model.specs.Kinds.{Kind, Unit as SlotUnit, dates, sessions, times}
use Rattle.model.specs.Kinds.{Kind.add_leave, Kind.end_leave, Kind.remove_visitor, Kind.add_hotel, Kind.erase_hotel, Kind.add_ride, Kind.erase_ride}
use Rattle.model.specs.Kinds.{Kind.add_standing, Kind.end_standing, Kind.add_attend, Kind.erase_attend, Kind.add_conf, Kind.erase_conf}
use Rattle.model.specs.Kinds.{Kind.add_lunch, Kind.erase_lunch, Kind.erase_conf_and_lunch}
use Rattle.model.specs.Kinds.{Kind.which_meeting, Kind.count_leave, Kind.seats_left, Kind.free_room}
use Rattle.model.specs.Questions.{Question, number, ask, further, bookings, meeting_of, lowest_free}
use Rattle.model.specs.Machine.{value}
use Rattle.model.specs.Reading.{state_of}

-- what the code does with the slot that a question found: refused there, or on to the next
abbrev pub ask_of : ℕ → Option ℕ → Result (Unit {0}) Refusal
ask_of n None = Ok tt
ask_of n (Some i) = Err (record { number = n; place = i })

-- a question with its number: refused at the slot found, or on to the next
abbrev pub asked : ℕ → Option ℕ → Answer → Answer
asked n None next = next
asked n (Some i) next = refused_with n i

-- a question of the request as a whole
abbrev pub tested : ℕ → Bool → Answer → Answer
tested n true next = next
tested n false next = refused_with n 0

-- kinds 4 and 6 by what question 9 found, where w stands for the visitor in a cell; after question 11 the pair's own cell does not hold it, so that
-- 13 may ask the whole row
unfoldable pub stay_adds : Option ℕ → List ℕ → Grid → ℕ → ℕ → ℕ → ℕ → Answer
stay_adds away b g a w first last =
    asked 9 away
    (asked 11 (first_with g b a w first last)
    (asked 12 (first_without g b a 0 first last)
    (asked 13 (first_row_with g b w first last) (done_with 0))))

-- kinds 4 and 6
unfoldable pub add_stay : Settings → List ℕ → Grid → SlotUnit → ℕ → ℕ → ℕ → ℕ → Answer
add_stay S b g u a v first last = stay_adds (slots_fail S b (OnLeave u) v 0 first last) b g a (v + 1) first last

-- kind 10; after question 11 the visitor's cell does not hold the meeting, so that 13 asks whether it is empty
unfoldable pub attend_adds : Settings → List ℕ → Grid → ℕ → ℕ → ℕ → ℕ → Answer
attend_adds S b g m v first last =
    asked 9 (slots_fail S b (OnLeave sessions) v 0 first last)
    (asked 10 (slots_fail S b Stands m 0 first last)
    (asked 11 (first_with g b v (m + 1) first last)
    (asked 13 (first_without g b v 0 first last) (done_with 0))))

-- kind 12
unfoldable pub conf_adds : Settings → List ℕ → Grid → ℕ → ℕ → ℕ → ℕ → Answer
conf_adds S b g c m first last =
    asked 10 (slots_fail S b Stands m 0 first last)
    (asked 11 (first_with g b c (m + 1) first last)
    (asked 12 (first_without g b c 0 first last) (done_with 0)))

-- kind 14 from question 10 on; question 13 as for kind 10
unfoldable pub lunch_adds : Settings → List ℕ → Grid → ℕ → ℕ → ℕ → ℕ → ℕ → Answer
lunch_adds S b g d m n first last =
    asked 10 (slots_fail S b StandsThatDate m 0 first last)
    (asked 11 (first_with g b m (d + 1) first last)
    (asked 13 (first_without g b m 0 first last)
    (asked 14 (slots_fail S b RoomLeft d n first last) (done_with 0))))

-- kind 14
unfoldable pub lunch_fits : Settings → List ℕ → Grid → ℕ → ℕ → ℕ → ℕ → ℕ → Answer
lunch_fits S b g d m n first last = tested 8 (within 1 (capacity S d) n) (lunch_adds S b g d m n first last)

-- kind 9
unfoldable pub standing_ends : Settings → List ℕ → ℕ → ℕ → ℕ → Answer
standing_ends S b m first last =
    asked 19 (slots_fail S b NotHeld m 0 first last)
    (asked 20 (slots_fail S b Stands m 0 first last) (done_with 0))

-- kind 16: a conference room in each session, and a lunch on each date from first's to last's
unfoldable pub erase_all : Settings → List ℕ → ℕ → ℕ → ℕ → Answer
erase_all S b m first last =
    asked 16 (slots_fail S b HasConf m 0 first last)
    (asked 17 (slots_fail S b HasLunch m 0 (date_of_session S first) (date_of_session S last)) (done_with 0))

-- kinds 5, 7, 11 and 15: the cell of item j holds w in each slot
unfoldable pub erase_pair : List ℕ → Grid → ℕ → ℕ → ℕ → ℕ → Answer
erase_pair b g j w first last = asked 15 (first_without g b j w first last) (done_with 0)

-- done with what was found, or refused
abbrev pub found_or : ℕ → ℕ → Option ℕ → Answer
found_or n place (Some v) = done_with v
found_or n place None = refused_with n place

-- the answer of each kind past question 7, as the code finds it
unfoldable pub in_words : Settings → Grids → List ℕ → Request → Kind → Answer
in_words S g b r add_leave = done_with 0
in_words S g b r end_leave = asked 18 (slots_fail S b NoBookings r.b 0 r.first r.last) (done_with 0)
in_words S g b r remove_visitor = done_with (bookings (state_of b) r.b r.first r.last)
in_words S g b r add_hotel = add_stay S b g.hotel dates r.a r.b r.first r.last
in_words S g b r erase_hotel = erase_pair b g.hotel r.a (r.b + 1) r.first r.last
in_words S g b r add_ride = add_stay S b g.ride times r.a r.b r.first r.last
in_words S g b r erase_ride = erase_pair b g.ride r.a (r.b + 1) r.first r.last
in_words S g b r add_standing = done_with 0
in_words S g b r end_standing = standing_ends S b r.a r.first r.last
in_words S g b r add_attend = attend_adds S b g.attend r.a r.b r.first r.last
in_words S g b r erase_attend = erase_pair b g.attend r.b (r.a + 1) r.first r.last
in_words S g b r add_conf = conf_adds S b g.conf r.a r.b r.first r.last
in_words S g b r erase_conf = asked 16 (slots_fail S b HasConf r.b 0 r.first r.last) (done_with 0)
in_words S g b r add_lunch = lunch_fits S b g.lunch r.a r.b r.n r.first r.last
in_words S g b r erase_lunch = erase_pair b g.lunch r.b (r.a + 1) r.first r.last
in_words S g b r erase_conf_and_lunch = erase_all S b r.b r.first r.last
in_words S g b r which_meeting = found_or 21 r.first (meeting_of (state_of b) r.first r.b)
in_words S g b r count_leave = done_with (count (λ v. (state_of b).leave r.first v) S.visitors)
in_words S g b r seats_left = done_with (capacity S r.a - reserved (state_of b) r.first r.a)
in_words S g b r free_room = found_or 22 0 (lowest_free (state_of b) r.first r.last)

-- the model's questions one after the other, and what follows them
abbrev pub asked_all : State → Request → Kind → List Question → Answer → Answer
asked_all x r k [] end = end
asked_all x r k (q ∷ qs) end = asked (number q) (ask x r k q) (asked_all x r k qs end)

-- the answer of a request of kind k whose questions up to 7 are answered yes
abbrev pub answer_for : State → Request → Kind → Answer
answer_for x r k = asked_all x r k (further k) (done_with (value x r k))

-- Two offices, computed. Where the conditions of the exchange are needed (rule 21.4): pairs that share a date and do differ, on the site of
-- rule 13.1 and, for early times, on that of rule 13.5; pairs that look alike and share none; and two changes where the count can rise by one
-- only. And two lists merged (rule 21.3).
-- Assumes nothing.
use Prim.Native.Nat.{ℕ}
use mathlib.Core.Path.{◌≡◌, refl}
use mathlib.Core.Bool.{true, false}
use mathlib.Core.List.{List, [], ◌∷◌}
use native.Mathlib.Omega.{arith}
use Rattle.model.specs.declared.Request.{Request}
use Rattle.model.specs.Answers.{done_with, refused_with}
use Rattle.model.specs.State.{empty_state, reserved}
use Rattle.model.specs.Kinds.{kind_of, Kind.add_leave, Kind.add_ride, Kind.add_standing, Kind.add_lunch}
use Rattle.model.specs.Questions.{bookings, stands_on, conf_held, lunch_held, meeting_of, lowest_free, ask, test}
use Rattle.model.specs.Ledger.{Ledger, empty_ledger}
use Rattle.model.specs.Machine.{change, value, step, raise, counted_step, request, Reply, told, run}
use Rattle.model.specs.Seen.{with_changes}
use Rattle.model.specs.Exchange.{NoDateShared, merge}
use Rattle.model.proofs.Runs.{sent}
use Rattle.model.proofs.Rehearsal.{site}
use Rattle.model.proofs.Early
use Rattle.model.proofs.Exchange.{before-slots}

-- kind a b first last n info
abbrev row : ℕ → ℕ → ℕ → ℕ → ℕ → ℕ → ℕ → Request
row k a b f l n i = record { kind = k; a = a; b = b; first = f; last = l; n = n; info = i }

-- the replies to two requests in either order
abbrev either_order : Ledger → Request → Request → List Reply × List Reply
either_order l r r' = ((run l (request r ∷ request r' ∷ [])).replies, (run l (request r' ∷ request r ∷ [])).replies)

-- ---- the site of rule 13.1

-- leave for visitor 1, and a hotel room for them, on both dates: without the leave the room is refused
abbrev leave : Request
leave = row 1 0 1 0 1 0 0

abbrev hotel : Request
hotel = row 4 0 1 0 1 0 0

pub leave-and-hotel : either_order (empty_ledger site) leave hotel ≡ (told (done_with 0) ∷ told (done_with 0) ∷ [], told (refused_with 9 0) ∷ told (done_with 0) ∷ [])
unfolding run counted_step raise step change value kind_of ask test empty_ledger empty_state reserved bookings stands_on conf_held lunch_held meeting_of lowest_free
leave-and-hotel = refl

-- a meeting stands in session 1, which is on date 0, and has a lunch on date 0: they share it though no slot has the same number
abbrev standing : Request
standing = row 8 0 0 1 1 0 0

abbrev lunch : ℕ → Request
lunch d = row 14 0 0 d d 4 7

pub standing-and-lunch : either_order (empty_ledger site) standing (lunch 0) ≡ (told (done_with 0) ∷ told (done_with 0) ∷ [], told (refused_with 10 0) ∷ told (done_with 0) ∷ [])
unfolding run counted_step raise step change value kind_of ask test empty_ledger empty_state reserved bookings stands_on conf_held lunch_held meeting_of lowest_free
standing-and-lunch = refl

pub session-on-date : NoDateShared site standing (lunch 0) → ⊥
unfolding kind_of
session-on-date h = h add_standing add_lunch refl refl 1 0 refl refl refl

-- a lunch on date 1 has the number of the session as its slot, and shares no date with it
pub session-off-date : NoDateShared site standing (lunch 1)
unfolding kind_of
session-off-date = before-slots site standing (lunch 1) add_standing add_lunch refl refl (omega arith)

pub standing-or-lunch : either_order (empty_ledger site) standing (lunch 1) ≡ (told (done_with 0) ∷ told (refused_with 10 1) ∷ [], told (refused_with 10 1) ∷ told (done_with 0) ∷ [])
unfolding run counted_step raise step change value kind_of ask test empty_ledger empty_state reserved bookings stands_on conf_held lunch_held meeting_of lowest_free
standing-or-lunch = refl

-- ---- early times: the site of rule 13.5, whose time 4 is on date 0, though 4 divided by the four times of a date is 1

abbrev leave_on : ℕ → Request
leave_on d = row 1 0 0 d d 0 0

abbrev ride : Request
ride = row 6 0 0 4 4 0 0

-- leave on date 0 and a ride at time 4 share date 0
pub leave-and-ride : either_order (empty_ledger Early.site) (leave_on 0) ride ≡ (told (done_with 0) ∷ told (done_with 0) ∷ [], told (refused_with 9 4) ∷ told (done_with 0) ∷ [])
unfolding run counted_step raise step change value kind_of ask test empty_ledger empty_state reserved bookings stands_on conf_held lunch_held meeting_of lowest_free
leave-and-ride = refl

pub time-on-date : NoDateShared Early.site (leave_on 0) ride → ⊥
unfolding kind_of
time-on-date h = h add_leave add_ride refl refl 0 4 refl refl refl

-- leave on date 1 and that ride share none, and either order is the same
pub time-off-date : NoDateShared Early.site ride (leave_on 1)
unfolding kind_of
time-off-date = before-slots Early.site ride (leave_on 1) add_ride add_leave refl refl (omega arith)

pub leave-or-ride : either_order (empty_ledger Early.site) (leave_on 1) ride ≡ (told (done_with 0) ∷ told (refused_with 9 4) ∷ [], told (refused_with 9 4) ∷ told (done_with 0) ∷ [])
unfolding run counted_step raise step change value kind_of ask test empty_ledger empty_state reserved bookings stands_on conf_held lunch_held meeting_of lowest_free
leave-or-ride = refl

-- two rides at times 4 and 5, one behind the other and with the same quotient, share none
pub times-apart : NoDateShared Early.site ride (row 6 0 0 5 5 0 0)
unfolding kind_of
times-apart = before-slots Early.site ride (row 6 0 0 5 5 0 0) add_ride add_ride refl refl (omega arith)

-- ---- the count

-- leave on two dates where the count can rise by one only: they share no date, and the one that comes first is done
pub one-change-left : either_order (with_changes (empty_ledger site) 4294967294) (leave_on 0) (leave_on 1)
    ≡ (told (done_with 0) ∷ told (refused_with 30 0) ∷ [], told (done_with 0) ∷ told (refused_with 30 0) ∷ [])
unfolding run counted_step raise step change value kind_of ask test empty_ledger empty_state reserved bookings stands_on conf_held lunch_held meeting_of lowest_free
one-change-left = refl

-- ---- two lists (rule 21.3)

-- one office on date 0, the other on date 1, which is that of sessions 2 and 3
abbrev reception : List Request
reception = row 1 0 1 0 0 0 0 ∷ row 4 0 1 0 0 0 0 ∷ row 1 0 2 0 0 0 0 ∷ row 4 0 2 0 0 0 0 ∷ []

abbrev catering : List Request
catering = row 8 0 0 2 3 0 0 ∷ row 14 0 0 1 1 4 7 ∷ row 14 0 1 1 1 1 0 ∷ []

pub reception-alone : (run (empty_ledger site) (sent reception)).replies ≡ told (done_with 0) ∷ told (done_with 0) ∷ told (done_with 0) ∷ told (refused_with 12 0) ∷ []
unfolding run counted_step raise step change value kind_of ask test empty_ledger empty_state reserved bookings stands_on conf_held lunch_held meeting_of lowest_free
reception-alone = refl

pub catering-alone : (run (empty_ledger site) (sent catering)).replies ≡ told (done_with 0) ∷ told (done_with 0) ∷ told (refused_with 10 1) ∷ []
unfolding run counted_step raise step change value kind_of ask test empty_ledger empty_state reserved bookings stands_on conf_held lunch_held meeting_of lowest_free
catering-alone = refl

-- catering first, then by turns
pub side_by_side : (run (empty_ledger site) (sent (merge (false ∷ true ∷ false ∷ true ∷ false ∷ []) reception catering))).replies
    ≡ told (done_with 0) ∷ told (done_with 0) ∷ told (done_with 0) ∷ told (done_with 0) ∷ told (refused_with 10 1) ∷ told (done_with 0) ∷ told (refused_with 12 0) ∷ []
unfolding run counted_step raise step change value kind_of ask test empty_ledger empty_state reserved bookings stands_on conf_held lunch_held meeting_of lowest_free
side_by_side = refl

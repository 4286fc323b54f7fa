-- The specification while a site could not name early times: nine numbers before the capacities, and the date of a time its number divided
-- by the times of a date. What reads the date of a time is restated here over any such function, so that then and now are two cases of
-- one text; the rest is used as it stands. That the text is today's with today's date, and that a site without early times gets the
-- answers of then, is proved (proofs/Before).
-- Assumes nothing.
use Rattle.std.specs.Prelude.{ℕ, ◌+◌, ◌/◌, Bool, true, false, ◌&&◌, cond, List, [], ◌∷◌, ◌++◌, ltb, eqb, length, take, drop}
use Rattle.std.specs.Prelude.{Option, None, Some}
use Rattle.model.specs.declared.Settings.{Settings}
use Rattle.model.specs.declared.Request.{Request}
use Rattle.model.specs.declared.Guest.{Guest}
use Rattle.std.specs.Prelude.{Err}
use Rattle.model.specs.Answers.{done_with, refused_with}
use Rattle.model.specs.Bounded.{all, within, conj, every, failing, count2}
use Rattle.model.specs.Site.{capacity, all_sessions, all_times, date_of_session, dining_most}
use Rattle.model.specs.State.{State, Pairs, hotels, rides, attends}
use Rattle.model.specs.Kinds.{Kind, kind_of, Unit, dates, sessions, times, row}
use Rattle.model.specs.Questions.{Question, Scope, whole, each_slot, each_date, scope, number, test, Refusal, refusal, always, further}
use Rattle.model.specs.Machine.{with_leave, with_hotel, with_ride, with_attend, slot, minus, change, value, Outcome, joining, if_done}
use Rattle.model.specs.Machine.{all_or_none, party_fits, Call, ordered, party, ask, commit, Performed, Counted, raise, is_change, stepped}
use Rattle.model.specs.Machine.{kept_answer, Run, told, asked}
use Rattle.model.specs.Words.{total, order, blocks}
use Rattle.model.specs.Tail.{kept_at, entry_at, noted}
use Rattle.model.specs.Ledger.{Ledger, behind_length, behind_words}
use Rattle.model.specs.Laws.{unit_of, each_entry, Law.seats_within, all_laws, law}
use Rattle.model.specs.Calls.{Calls}

-- the date of a time as it was
abbrev pub date_then : Settings → ℕ → ℕ
date_then S t = t / S.times

module _ (date : Settings → ℕ → ℕ) where
  -- the date of a slot, and the bookings of a visitor on the dates from..to
  abbrev pub date_by : Settings → Unit → ℕ → ℕ
  date_by S dates i = i
  date_by S sessions i = date_of_session S i
  date_by S times i = date S i

  unfoldable pub bookings_by : State → ℕ → ℕ → ℕ → ℕ
  bookings_by x v from to =
      count2 (λ d r. within from to d && x.hotel d r v) x.settings.dates x.settings.hotels
      + count2 (λ t k. within from to (date x.settings t) && x.ride t k v) (all_times x.settings) x.settings.transports
      + count2 (λ s m. within from to (date_of_session x.settings s) && x.attend s m v) (all_sessions x.settings) x.settings.meetings

  -- questions 9 and 18 read the date; so does the place of a question that is asked of dates
  unfoldable pub test_by : State → Request → Kind → Question → ℕ → Bool
  test_by x r k q i =
      cond (eqb (number q) 9) (x.leave (date_by x.settings (row k).unit i) r.b)
      (cond (eqb (number q) 18) (eqb (bookings_by x r.b i i) 0) (test x r k q i))

  abbrev pub placed_by : State → Request → Kind → Scope → (ℕ → Bool) → Option ℕ
  placed_by x r k whole t = cond (t 0) None (Some 0)
  placed_by x r k each_slot t = failing t r.first r.last
  placed_by x r k each_date t = failing t (date_by x.settings (row k).unit r.first) (date_by x.settings (row k).unit r.last)

  abbrev pub judge_by : State → Request → Kind → List Question → Option Refusal
  judge_by x r k [] = None
  judge_by x r k (q ∷ qs) = let later = judge_by x r k qs in refusal q (placed_by x r k (scope q) (test_by x r k q)) later

  -- what kind 3 takes away and counts
  unfoldable pub remove_by : State → Request → State
  remove_by x r =
      with_attend
      (with_ride
      (with_hotel
      (with_leave x (λ d v. minus (x.leave d v) (slot r d && eqb v r.b)))
      (λ d h v. minus (x.hotel d h v) (slot r d && eqb v r.b)))
      (λ t k v. minus (x.ride t k v) (slot r (date x.settings t) && eqb v r.b)))
      (λ s m v. minus (x.attend s m v) (slot r (date_of_session x.settings s) && eqb v r.b))

  abbrev pub change_by : State → Request → Kind → State
  change_by x r k = cond (eqb r.kind 3) (remove_by x r) (change x r k)

  abbrev pub value_by : State → Request → Kind → ℕ
  value_by x r k = cond (eqb r.kind 3) (bookings_by x r.b r.first r.last) (value x r k)

  -- the machine
  abbrev pub finish_by : State → Request → Kind → Option Refusal → Outcome
  finish_by x r k None = record { answer = done_with (value_by x r k); state = change_by x r k }
  finish_by x r k (Some f) = record { answer = Err f; state = x }

  abbrev pub step_kind_by : State → Request → Option Kind → Outcome
  step_kind_by x r None = record { answer = refused_with 3 0; state = x }
  step_kind_by x r (Some k) = finish_by x r k (judge_by x r k (always ++ further k))

  unfoldable pub step_by : State → Request → Outcome
  step_by x r = step_kind_by x r (kind_of r.kind)

  unfoldable pub joined_by : State → ℕ → List Guest → Outcome
  joined_by x m [] = record { answer = done_with 0; state = x }
  joined_by x m (g ∷ gs) =
      let o = step_by x (joining m g) in
      if_done o.answer (joined_by o.state m gs) o

  unfoldable pub admit_by : State → ℕ → List Guest → Outcome
  admit_by x m gs = cond (party_fits gs) (all_or_none x (joined_by x m gs)) (record { answer = refused_with 27 0; state = x })

  unfoldable pub counted_step_by : State → ℕ → Request → Counted
  counted_step_by x n r =
      let o = step_by x r in
      cond (is_change r) (raise x n o o.answer) (record { answer = o.answer; state = o.state; changes = n })

  unfoldable pub counted_party_by : State → ℕ → ℕ → List Guest → Counted
  counted_party_by x n m gs =
      let o = admit_by x m gs in
      raise x n o o.answer

  abbrev pub answer_order_by : Ledger → ℕ → Request → Option ℕ → Performed
  answer_order_by l n r None =
      let o = counted_step_by l.diary l.changes r in
      stepped (noted l.tail n r o.answer) o
  answer_order_by l n r (Some i) = record { reply = told (kept_answer (entry_at l.tail i) r); ledger = l }

  abbrev pub answer_commit_by : Ledger → Bool → Request → Performed
  answer_commit_by l true r = answer_order_by l 0 r None
  answer_commit_by l false r = record { reply = told (refused_with 29 0); ledger = l }

  abbrev pub perform_by : Ledger → Call → Performed
  perform_by l (ordered n r) = answer_order_by l n r (kept_at l.tail n)
  perform_by l (party m gs) = stepped l.tail (counted_party_by l.diary l.changes m gs)
  perform_by l (ask r) = record { reply = asked (counted_step_by l.diary l.changes r).answer l.changes; ledger = l }
  perform_by l (commit n r) = answer_commit_by l (eqb n l.changes) r

  unfoldable pub run_by : Ledger → List Call → Run
  run_by l [] = record { replies = []; ledger = l }
  run_by l (c ∷ cs) =
      let o = perform_by l c in
      let later = run_by o.ledger cs in
      record { replies = o.reply ∷ later.replies; ledger = later.ledger }

  -- the laws: 7.1 to 7.10, those of leave, and 7.14
  abbrev pub guests_by : State → Pairs → Bool
  guests_by x p = each_entry x p (λ i a v. x.leave (date_by x.settings (unit_of p) i) v)

  unfoldable pub laws_by : State → Bool
  laws_by x = every (law x) (take 10 all_laws) && guests_by x hotels && guests_by x rides && guests_by x attends && law x seats_within

-- settings and books as they were: the nine limits, then the capacities; the same ranges; and the words of a ledger, and how many they are
abbrev pub limits_of : Settings → List ℕ
limits_of S = S.dates ∷ S.sessions ∷ S.times ∷ S.visitors ∷ S.meetings ∷ S.rooms ∷ S.dining ∷ S.hotels ∷ S.transports ∷ []

unfoldable pub valid_then : Settings → Bool
valid_then S =
    conj
    (within 1 400 S.dates
    ∷ within 1 16 S.sessions
    ∷ within 1 96 S.times
    ∷ within 1 512 S.visitors
    ∷ within 1 128 S.meetings
    ∷ within 1 64 S.rooms
    ∷ within 1 dining_most S.dining
    ∷ within 1 512 S.hotels
    ∷ within 1 128 S.transports
    ∷ eqb (length S.capacities) dining_most
    ∷ all (λ g. cond (ltb g S.dining) (within 1 1000 (capacity S g)) (eqb (capacity S g) 0)) dining_most
    ∷ [])

unfoldable pub book_then : Ledger → List ℕ
book_then l =
    let S = l.diary.settings in
    ((limits_of S ++ take S.dining S.capacities) ++ blocks l.diary order) ++ behind_words l.tail l.changes

unfoldable pub length_then : Settings → ℕ
length_then S = 9 + S.dining + total S order + behind_length

-- a 0 put in behind nine words
abbrev pub with_zero : List ℕ → List ℕ
with_zero w = take 9 w ++ 0 ∷ drop 9 w

-- what a list of calls leaves of a run of then: its replies, and its book with the 0
abbrev pub shown_then : Run → Calls
shown_then u = record { replies = u.replies; book = with_zero (book_then u.ledger) }

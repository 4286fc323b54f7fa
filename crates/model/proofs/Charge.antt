-- What a meeting costs: a worked example, the rounding, parts of the dates, all the meetings, and what leaves a charge as it is.
-- Assumes nothing.
use Prim.Native.Nat.{ℕ, zero, suc, ◌+◌, ◌*◌, ◌-◌, ◌≤◌, ◌<◌}
use mathlib.Core.Path.{◌≡◌, refl, sym, ◌∙◌, ap, ap₂}
use mathlib.Core.Bool.{Bool, true, false, ◌&&◌, cond}
use Rattle.std.specs.Prelude.{Option, None, Some}
use mathlib.Core.List.{List, [], ◌∷◌, ◌++◌}
use native.Mathlib.Nat.{add-mul}
use native.Mathlib.Omega.{arith}
use lib.Dec.{leb, ltb, eqb}
use borrow.Author.Tests.{le-leb, lt-leb, lt-ltb, leb-true, leb-false}
use Rattle.model.specs.declared.Settings.{Settings}
use Rattle.model.specs.declared.Request.{Request}
use Rattle.model.specs.declared.Guest.{Guest}
use Rattle.model.specs.Answers.{Answer}
use Rattle.std.specs.Prelude.{Ok, Err}
use Rattle.model.specs.Answers.{done_with, refused_with}
use Rattle.model.specs.declared.Tariff.{Tariff}
use Rattle.model.specs.Answers.{Charged}
use Rattle.model.specs.Bounded.{lowest, any, within, is_some, sum, sum_from, one, count, count2, list}
use Rattle.model.specs.Site.{all_sessions, date_of_session}
use Rattle.model.specs.State.{State, confs, empty_state, seats_of, reserved}
use Rattle.model.specs.Kinds.{Kind, kind_of}
use Rattle.model.specs.Kinds.{Kind.add_leave, Kind.end_leave, Kind.remove_visitor, Kind.add_hotel, Kind.erase_hotel, Kind.add_ride, Kind.erase_ride}
use Rattle.model.specs.Kinds.{Kind.add_standing, Kind.end_standing, Kind.add_attend, Kind.erase_attend, Kind.add_conf, Kind.erase_conf}
use Rattle.model.specs.Kinds.{Kind.add_lunch, Kind.erase_lunch, Kind.erase_conf_and_lunch, Kind.which_meeting, Kind.count_leave, Kind.seats_left}
use Rattle.model.specs.Kinds.{Kind.free_room}
use Rattle.model.specs.Questions.{bookings, stands_on, conf_held, lunch_held, meeting_of, lowest_free, ask as asked, test, judge, always, further, Refusal}
use Rattle.model.specs.Machine.{slot, step, steps, change, value, finish, step_kind, Call, ordered, answer_order, party, ask, commit, answer_commit, perform}
use Rattle.model.specs.Machine.{joining, if_done, joined, all_or_none, party_fits, admit}
use Rattle.model.specs.Tail.{kept_at}
use Rattle.model.specs.Ledger.{Ledger, ledger_of}
use Rattle.model.specs.Laws.{well_laid, lawful}
use Rattle.model.specs.Calls.{call_on, call_order, call_commit, call_ask, call_party}
use Rattle.model.specs.Charge.{room_sessions, seats_on, lunch_seats, reduced, room_charge, cost, tariff_fits, charge_by, charged, charge}
use Rattle.model.proofs.Search.{never}
use Rattle.model.proofs.Sums.{sum_same, sum-agree, sum-empty, sum-add, sum-nothing, count2-add}
use Rattle.model.proofs.Laws.{Sound}
use Rattle.model.proofs.Frame.{step-settings}
use Rattle.model.proofs.Counting.{counted-state, counted-party-state}
use Rattle.model.proofs.Shows.{Shows, Passes, shows-passes, shown-is, passes-shows, passes-next}
use Rattle.model.proofs.Locality.{on_date, local-change}

-- the site of the rehearsal with one date more, so that a meeting can have ten room-sessions (rule 20.7)
abbrev pub site : Settings
site =
    record {
      dates = 3;
      sessions = 2;
      times = 2;
      visitors = 3;
      meetings = 2;
      rooms = 2;
      dining = 1;
      hotels = 2;
      transports = 1;
      early = 0;
      capacities = 4 ∷ 0 ∷ 0 ∷ 0 ∷ 0 ∷ 0 ∷ 0 ∷ 0 ∷ 0 ∷ 0 ∷ 0 ∷ 0 ∷ 0 ∷ 0 ∷ 0 ∷ 0 ∷ [];
    }

-- meeting 0 has room 0 in all six sessions and room 1 in the first four, meeting 1 has room 1 in the last two; lunches of 3 seats on
-- date 0, and of 2 and 2 on date 2
abbrev pub sent : ℕ → ℕ → ℕ → ℕ → ℕ → ℕ → Request
sent k a b f l n = record { kind = k; a = a; b = b; first = f; last = l; n = n; info = 0 }

abbrev pub requests : List Request
requests =
    sent 8 0 0 0 5 0
    ∷ sent 8 1 0 4 5 0
    ∷ sent 12 0 0 0 5 0
    ∷ sent 12 1 0 0 3 0
    ∷ sent 12 1 1 4 5 0
    ∷ sent 14 0 0 0 0 3
    ∷ sent 14 0 0 2 2 2
    ∷ sent 14 0 1 2 2 2
    ∷ []

abbrev pub after : State
after = (steps (empty_state site) requests).state

-- a tariff by its three numbers
abbrev pub tariff : ℕ → ℕ → ℕ → Tariff
tariff r s p = record { room = r; seat = s; percent = p }

-- meeting, first and last date, and the tariff: ten room-sessions are reduced, eight and two are not; the rounding goes up by half a cent;
-- the questions in their order, each of them with the later ones failing too
pub example-charges :
    charged after 0 0 2 (tariff 1001 1250 25)
    ∷ charged after 0 0 1 (tariff 1001 1250 25)
    ∷ charged after 0 2 2 (tariff 1001 1250 25)
    ∷ charged after 1 0 2 (tariff 1001 1250 25)
    ∷ charged after 0 0 2 (tariff 1001 1250 0)
    ∷ charged after 0 0 2 (tariff 1001 1250 100)
    ∷ charged after 1 0 1 (tariff 1001 1250 0)
    ∷ charged after 2 2 1 (tariff 1001 1250 101)
    ∷ charged after 0 2 1 (tariff 1001 1250 101)
    ∷ charged after 0 0 3 (tariff 1001 1250 25)
    ∷ charged after 1 0 1 (tariff 1000001 1250 25)
    ∷ charged after 1 0 1 (tariff 1001 1000001 25)
    ∷ charged after 1 0 1 (tariff 1001 1250 101)
    ∷ charged after 1 0 1 (tariff 1000000 1000000 100)
    ∷ []
    ≡ done_with 13758
    ∷ done_with 11758
    ∷ done_with 4502
    ∷ done_with 4502
    ∷ done_with 16260
    ∷ done_with 6250
    ∷ done_with 0
    ∷ refused_with 6 0
    ∷ refused_with 7 0
    ∷ refused_with 7 0
    ∷ refused_with 31 0
    ∷ refused_with 31 0
    ∷ refused_with 31 0
    ∷ done_with 0
    ∷ []
unfolding steps step change value kind_of asked test empty_state reserved bookings stands_on conf_held lunch_held meeting_of lowest_free
    room_sessions seats_on lunch_seats reduced room_charge cost tariff_fits charged
example-charges = refl

-- r cents are so many hundredths of a cent to the nearest: at most half a cent more, and less than half a cent less, so that a half goes up
pub record Nearest (hundredths r : ℕ) : Type 0 where
  pub over : 100 * r ≤ hundredths + 50
  pub under : hundredths < 100 * r + 50

-- "The reduction is exact to half a cent, and halves go up", and it is the only amount that is
pub reduced-nearest : (p cents : ℕ) → Nearest (cents * (100 - p)) (reduced p cents)
unfolding reduced
reduced-nearest p cents = let h = cents * (100 - p) in record { over = omega arith; under = omega arith }

pub nearest-reduced : (p cents r : ℕ) → Nearest (cents * (100 - p)) r → r ≡ reduced p cents
nearest-reduced p cents r n =
    let m = reduced-nearest p cents in
    omega (arith, n.over, n.under, m.over, m.under)

-- with no reduction every room-session costs its rate
pub plain-rooms : (t : Tariff) (n : ℕ) → t.percent ≡ 0 → room_charge t n ≡ n * t.room
unfolding room_charge
plain-rooms t n e = go (leb 10 n)
  where
    whole : reduced t.percent (n * t.room) ≡ n * t.room
    whole = sym (nearest-reduced t.percent (n * t.room) (n * t.room) (rw e (record { over = omega arith; under = omega arith })))

    go : (b : Bool) → cond b (reduced t.percent (n * t.room)) (n * t.room) ≡ n * t.room
    go true = whole
    go false = refl

pub plain-cost : (x : State) (m first last : ℕ) (t : Tariff) → t.percent ≡ 0
    → cost x m first last t ≡ room_sessions x m first last * t.room + lunch_seats x m first last * t.seat
unfolding cost
plain-cost x m first last t e = ap (λ (n : ℕ). n + lunch_seats x m first last * t.seat) (plain-rooms t (room_sessions x m first last) e)

-- dates in two parts
module _ (first k last : ℕ) (h : first ≤ suc k) (l : k ≤ last) where
  in_parts : (d n : ℕ) → cond (within first last d) n 0 ≡ cond (within first k d) n 0 + cond (within (suc k) last d) n 0
  in_parts d n = go (leb d k) refl
    where
      go : (t : Bool) → leb d k ≡ t → cond (within first last d) n 0 ≡ cond (within first k d) n 0 + cond (within (suc k) last d) n 0
      go true e =
          let g : d ≤ k = leb-true d k e in
          rw (e, le-leb d last (omega (arith, g, l)), lt-leb (suc k) d (omega (arith, g))) (omega arith)
      go false e =
          let g : k < d = leb-false d k e in
          rw (e, le-leb (suc k) d (omega (arith, g)), le-leb first d (omega (arith, g, h))) (omega arith)

-- a test and another as a choice
one-and : (w q : Bool) → one (w && q) ≡ cond w (one q) 0
one-and true q = refl
one-and false q = refl

module _ (x : State) (m first k last : ℕ) (h : first ≤ suc k) (l : k ≤ last) where
  rooms-parts : room_sessions x m first last ≡ room_sessions x m first k + room_sessions x m (suc k) last
  unfolding room_sessions
  rooms-parts =
      let S = x.settings in
      count2-add (λ s c. within first k (date_of_session S s) && is_some (x.conf s c m))
      (λ s c. within (suc k) last (date_of_session S s) && is_some (x.conf s c m))
      (λ s c. within first last (date_of_session S s) && is_some (x.conf s c m)) (all_sessions S) S.rooms
      (λ s c. one-and (within first last (date_of_session S s)) (is_some (x.conf s c m))
      ∙ in_parts first k last h l (date_of_session S s) (one (is_some (x.conf s c m)))
      ∙ sym (ap₂ ◌+◌ (one-and (within first k (date_of_session S s)) (is_some (x.conf s c m)))
      (one-and (within (suc k) last (date_of_session S s)) (is_some (x.conf s c m)))))

  seats-parts : lunch_seats x m first last ≡ lunch_seats x m first k + lunch_seats x m (suc k) last
  unfolding lunch_seats
  seats-parts =
      sum_same (λ d. cond (within first last d) (seats_on x m d) 0)
      (λ d. cond (within first k d) (seats_on x m d) 0 + cond (within (suc k) last d) (seats_on x m d) 0) 0 x.settings.dates (λ d. in_parts first k last h l d (seats_on x m d))
      ∙ sum-add (λ d. cond (within first k d) (seats_on x m d) 0) (λ d. cond (within (suc k) last d) (seats_on x m d) 0) 0 x.settings.dates

  -- "With no reduction, a charge over dates is the sum of the charges over two parts of them."
  pub charge-parts : (t : Tariff) → t.percent ≡ 0 → cost x m first last t ≡ cost x m first k t + cost x m (suc k) last t
  charge-parts t e =
      omega (
        arith,
        plain-cost x m first last t e,
        plain-cost x m first k t e,
        plain-cost x m (suc k) last t e,
        ap (λ (n : ℕ). n * t.room) rooms-parts,
        add-mul (room_sessions x m first k) (room_sessions x m (suc k) last) t.room,
        ap (λ (n : ℕ). n * t.seat) seats-parts,
        add-mul (lunch_seats x m first k) (lunch_seats x m (suc k) last) t.seat,
      )

-- sums in the other order, of what is chosen by a test, and of what has a factor
sum-swap : (f : ℕ → ℕ → ℕ) (i n m : ℕ) → sum_from (λ k. sum (f k) m) i n ≡ sum (λ j. sum_from (λ k. f k j) i n) m
sum-swap f i zero m = sym (sum-nothing (λ j. 0) 0 m (λ j. refl))
sum-swap f i (suc n) m =
    ap (λ (k : ℕ). sum (f i) m + k) (sum-swap f (suc i) n m) ∙ sym (sum-add (f i) (λ j. sum_from (λ k. f k j) (suc i) n) 0 m)

sum-chosen : (w : Bool) (f : ℕ → ℕ) (n : ℕ) → sum (λ j. cond w (f j) 0) n ≡ cond w (sum f n) 0
sum-chosen true f n = refl
sum-chosen false f n = sum-nothing (λ j. 0) 0 n (λ j. refl)

sum-times : (f : ℕ → ℕ) (r i n : ℕ) → sum_from (λ j. f j * r) i n ≡ sum_from f i n * r
sum-times f r i zero = omega arith
sum-times f r i (suc n) = ap (λ (k : ℕ). f i * r + k) (sum-times f r (suc i) n) ∙ sym (add-mul (f i) (sum_from f (suc i) n) r)

-- all the conf entries of a session, and all the room-sessions of the dates first..last
unfoldable pub conf_entries : State → ℕ → ℕ
conf_entries x s = count2 (λ c m. is_some (x.conf s c m)) x.settings.rooms x.settings.meetings

unfoldable pub all_room_sessions : State → ℕ → ℕ → ℕ
all_room_sessions x first last =
    sum (λ s. cond (within first last (date_of_session x.settings s)) (conf_entries x s) 0) (all_sessions x.settings)

-- all the seats that are reserved in the dining rooms on those dates
unfoldable pub all_seats : State → ℕ → ℕ → ℕ
all_seats x first last = sum (λ d. cond (within first last d) (sum (reserved x d) x.settings.dining) 0) x.settings.dates

module _ (x : State) (first last : ℕ) where
  rooms-of-all : sum (λ m. room_sessions x m first last) x.settings.meetings ≡ all_room_sessions x first last
  unfolding room_sessions all_room_sessions conf_entries
  rooms-of-all =
      let S = x.settings in
      let w : ℕ → Bool = λ s. within first last (date_of_session S s) in
      sum-swap (λ m s. count (λ c. w s && is_some (x.conf s c m)) S.rooms) 0 S.meetings (all_sessions S)
      ∙ sum_same (λ s. sum (λ m. count (λ c. w s && is_some (x.conf s c m)) S.rooms) S.meetings)
      (λ s. cond (w s) (count2 (λ c m. is_some (x.conf s c m)) S.rooms S.meetings) 0) 0 (all_sessions S)
      (λ s. sum_same (λ m. count (λ c. w s && is_some (x.conf s c m)) S.rooms)
      (λ m. cond (w s) (count (λ c. is_some (x.conf s c m)) S.rooms) 0) 0 S.meetings
      (λ m. sum_same (λ c. one (w s && is_some (x.conf s c m))) (λ c. cond (w s) (one (is_some (x.conf s c m))) 0) 0 S.rooms
      (λ c. one-and (w s) (is_some (x.conf s c m)))
      ∙ sum-chosen (w s) (λ c. one (is_some (x.conf s c m))) S.rooms)
      ∙ sum-chosen (w s) (λ m. count (λ c. is_some (x.conf s c m)) S.rooms) S.meetings
      ∙ ap (λ (n : ℕ). cond (w s) n 0) (sum-swap (λ m c. one (is_some (x.conf s c m))) 0 S.meetings S.rooms))

  seats-of-all : sum (λ m. lunch_seats x m first last) x.settings.meetings ≡ all_seats x first last
  unfolding lunch_seats seats_on all_seats reserved
  seats-of-all =
      let S = x.settings in
      sum-swap (λ m d. cond (within first last d) (sum (λ g. seats_of (x.lunch d g m)) S.dining) 0) 0 S.meetings S.dates
      ∙ sum_same (λ d. sum (λ m. cond (within first last d) (sum (λ g. seats_of (x.lunch d g m)) S.dining) 0) S.meetings)
      (λ d. cond (within first last d) (sum (λ g. sum (λ m. seats_of (x.lunch d g m)) S.meetings) S.dining) 0) 0 S.dates
      (λ d. sum-chosen (within first last d) (λ m. sum (λ g. seats_of (x.lunch d g m)) S.dining) S.meetings
      ∙ ap (λ (n : ℕ). cond (within first last d) n 0) (sum-swap (λ m g. seats_of (x.lunch d g m)) 0 S.meetings S.dining))

  -- "With no reduction, the meetings' charges add up to all room-sessions and all seats of those dates at their rates."
  pub charges-add-up : (t : Tariff) → t.percent ≡ 0
      → sum (λ m. cost x m first last t) x.settings.meetings ≡ all_room_sessions x first last * t.room + all_seats x first last * t.seat
  charges-add-up t e =
      let n = x.settings.meetings in
      let room : ℕ → ℕ = λ m. room_sessions x m first last in
      let seat : ℕ → ℕ = λ m. lunch_seats x m first last in
      sum_same (λ m. cost x m first last t) (λ m. room m * t.room + seat m * t.seat) 0 n (λ m. plain-cost x m first last t e)
      ∙ sum-add (λ m. room m * t.room) (λ m. seat m * t.seat) 0 n
      ∙ ap₂ ◌+◌ (sum-times room t.room 0 n ∙ ap (λ (k : ℕ). k * t.room) rooms-of-all)
      (sum-times seat t.seat 0 n ∙ ap (λ (k : ℕ). k * t.seat) seats-of-all)

-- Where a room has one meeting in a session, as in every lawful state, the conf entries of a session are its rooms in use.
module _ (p : ℕ → Bool) (only : (u v : ℕ) → p u ≡ true → p v ≡ true → u ≡ v) where
  count-one : (i n : ℕ) → sum_from (λ j. one (p j)) i n ≡ one (is_some (lowest p i n))
  count-one i zero = refl
  count-one i (suc n) = go (p i) refl (count-one (suc i) n)
    where
      go : (t : Bool) → p i ≡ t → sum_from (λ j. one (p j)) (suc i) n ≡ one (is_some (lowest p (suc i) n))
          → one t + sum_from (λ j. one (p j)) (suc i) n ≡ one (is_some (cond t (Some i) (lowest p (suc i) n)))
      go true e rest =
          let z : sum_from (λ j. one (p j)) (suc i) n ≡ 0
          = sum-empty (λ j. one (p j)) (suc i) n (λ j l k. ap one (never (p j) (λ q. omega (arith, l, only i j e q)))) in
          omega (arith, z)
      go false e rest = omega (arith, rest)

pub rooms-in-use : (x : State) → Sound x → (s : ℕ) → conf_entries x s
    ≡ count (λ c. any (λ m. is_some (x.conf s c m)) x.settings.meetings) x.settings.rooms
unfolding conf_entries
rooms-in-use x sound s =
    sum_same (λ c. count (λ m. is_some (x.conf s c m)) x.settings.meetings)
    (λ c. one (any (λ m. is_some (x.conf s c m)) x.settings.meetings)) 0 x.settings.rooms
    (λ c. count-one (λ m. is_some (x.conf s c m)) (λ u v e f. sound.one_b confs refl s c u v e f) 0 x.settings.meetings)

-- two states of one site agree on the rooms of meeting m and the seats of its lunches on the dates first..last
pub record SameFor (x y : State) (m first last : ℕ) : Type 0 where
  pub settings : x.settings ≡ y.settings
  pub conf : (s c : ℕ) → within first last (date_of_session x.settings s) ≡ true → is_some (x.conf s c m) ≡ is_some (y.conf s c m)
  pub lunch : (d g : ℕ) → within first last d ≡ true → seats_of (x.lunch d g m) ≡ seats_of (y.lunch d g m)

-- "A charge says nothing but which rooms the meeting holds on those dates, and how many seats its lunches have."
module _ (x y : State) (m first last : ℕ) (h : SameFor x y m first last) where
  same-rooms : room_sessions x m first last ≡ room_sessions y m first last
  unfolding room_sessions
  same-rooms =
      let S = x.settings in
      sum_same (λ s. count (λ c. within first last (date_of_session S s) && is_some (x.conf s c m)) S.rooms)
      (λ s. count (λ c. within first last (date_of_session S s) && is_some (y.conf s c m)) S.rooms) 0 (all_sessions S)
      (λ s. sum_same (λ c. one (within first last (date_of_session S s) && is_some (x.conf s c m)))
      (λ c. one (within first last (date_of_session S s) && is_some (y.conf s c m))) 0 S.rooms
      (λ c. ap one (under (within first last (date_of_session S s)) (h.conf s c))))
      ∙ ap (λ (T : Settings). count2 (λ s c. within first last (date_of_session T s) && is_some (y.conf s c m)) (all_sessions T) T.rooms) h.settings
    where
      under : {a b : Bool} (t : Bool) → (t ≡ true → a ≡ b) → t && a ≡ t && b
      under true f = f refl
      under false f = refl

  same-seats : lunch_seats x m first last ≡ lunch_seats y m first last
  unfolding lunch_seats seats_on
  same-seats =
      let S = x.settings in
      sum_same (λ d. cond (within first last d) (sum (λ g. seats_of (x.lunch d g m)) S.dining) 0)
      (λ d. cond (within first last d) (sum (λ g. seats_of (y.lunch d g m)) S.dining) 0) 0 S.dates
      (λ d. under (within first last d)
      (λ e. sum_same (λ g. seats_of (x.lunch d g m)) (λ g. seats_of (y.lunch d g m)) 0 S.dining (λ g. h.lunch d g e)))
      ∙ ap (λ (T : Settings). sum (λ d. cond (within first last d) (sum (λ g. seats_of (y.lunch d g m)) T.dining) 0) T.dates) h.settings
    where
      under : {a b : ℕ} (t : Bool) → (t ≡ true → a ≡ b) → cond t a 0 ≡ cond t b 0
      under true f = f refl
      under false f = refl

  pub same-cost : (t : Tariff) → cost x m first last t ≡ cost y m first last t
  unfolding cost
  same-cost t = ap₂ (λ (n k : ℕ). room_charge t n + k * t.seat) same-rooms same-seats

  pub same-charged : (t : Tariff) → charged x m first last t ≡ charged y m first last t
  unfolding charged
  same-charged t =
      ap₂ (λ (T : Settings) (c : ℕ). charge_by (ltb m T.meetings) (leb first last && ltb last T.dates) (tariff_fits t) c) h.settings (same-cost t)

-- the kinds that change conf or lunch entries, 12 to 16, whose meeting is b: the request is one of them for meeting m
abbrev charges : Option Kind → Bool
charges None = false
charges (Some add_leave) = false
charges (Some end_leave) = false
charges (Some remove_visitor) = false
charges (Some add_hotel) = false
charges (Some erase_hotel) = false
charges (Some add_ride) = false
charges (Some erase_ride) = false
charges (Some add_standing) = false
charges (Some end_standing) = false
charges (Some add_attend) = false
charges (Some erase_attend) = false
charges (Some add_conf) = true
charges (Some erase_conf) = true
charges (Some add_lunch) = true
charges (Some erase_lunch) = true
charges (Some erase_conf_and_lunch) = true
charges (Some which_meeting) = false
charges (Some count_leave) = false
charges (Some seats_left) = false
charges (Some free_room) = false

unfoldable pub books_for : Request → ℕ → Bool
books_for r m = charges (kind_of r.kind) && eqb m r.b

-- by the numbers of the kinds
pub kinds-that-book : list (λ k. one (charges (kind_of k))) 22
    ≡ 0 ∷ 0 ∷ 0 ∷ 0 ∷ 0 ∷ 0 ∷ 0 ∷ 0 ∷ 0 ∷ 0 ∷ 0 ∷ 0 ∷ 1 ∷ 1 ∷ 1 ∷ 1 ∷ 1 ∷ 0 ∷ 0 ∷ 0 ∷ 0 ∷ 0 ∷ []
unfolding kind_of
kinds-that-book = refl

-- the entries of meeting m are the same
record Kept (x y : State) (m : ℕ) : Type 0 where
  pub conf : (s c : ℕ) → x.conf s c m ≡ y.conf s c m
  pub lunch : (d g : ℕ) → x.lunch d g m ≡ y.lunch d g m

same-sets : (x y : State) (m : ℕ) → x.conf ≡ y.conf → x.lunch ≡ y.lunch → Kept x y m
same-sets x y m e f = record { conf = λ s c. ap (λ g. g s c m) e; lunch = λ d g. ap (λ h. h d g m) f }

ends-no : (t u : Bool) → u ≡ false → t && u ≡ false
ends-no true u e = e
ends-no false u e = refl

change-kept : (x : State) (r : Request) (m : ℕ) (k : Kind) → charges (Some k) && eqb m r.b ≡ false → Kept (change x r k) x m
unfolding change
change-kept x r m add_leave e = same-sets _ x m refl refl
change-kept x r m end_leave e = same-sets _ x m refl refl
change-kept x r m remove_visitor e = same-sets _ x m refl refl
change-kept x r m add_hotel e = same-sets _ x m refl refl
change-kept x r m erase_hotel e = same-sets _ x m refl refl
change-kept x r m add_ride e = same-sets _ x m refl refl
change-kept x r m erase_ride e = same-sets _ x m refl refl
change-kept x r m add_standing e = same-sets _ x m refl refl
change-kept x r m end_standing e = same-sets _ x m refl refl
change-kept x r m add_attend e = same-sets _ x m refl refl
change-kept x r m erase_attend e = same-sets _ x m refl refl
change-kept x r m add_conf e =
    record {
      conf = λ s c. ap (λ (t : Bool). cond t (Some r.info) (x.conf s c m)) (ends-no (slot r s && eqb c r.a) (eqb m r.b) e);
      lunch = λ d g. refl;
    }
change-kept x r m erase_conf e =
    record { conf = λ s c. ap (λ (t : Bool). cond t None (x.conf s c m)) (ends-no (slot r s) (eqb m r.b) e); lunch = λ d g. refl }
change-kept x r m add_lunch e =
    record {
      conf = λ s c. refl;
      lunch = λ d g.
          ap (λ (t : Bool). cond t (Some (record { seats = r.n; info = r.info })) (x.lunch d g m))
          (ends-no (slot r d && eqb g r.a) (eqb m r.b) e);
    }
change-kept x r m erase_lunch e =
    record {
      conf = λ s c. refl;
      lunch = λ d g. ap (λ (t : Bool). cond t None (x.lunch d g m)) (ends-no (slot r d && eqb g r.a) (eqb m r.b) e);
    }
change-kept x r m erase_conf_and_lunch e =
    record {
      conf = λ s c. ap (λ (t : Bool). cond t None (x.conf s c m)) (ends-no (slot r s) (eqb m r.b) e);
      lunch = λ d g.
          ap (λ (t : Bool). cond t None (x.lunch d g m))
          (ends-no (within (date_of_session x.settings r.first) (date_of_session x.settings r.last) d) (eqb m r.b) e);
    }
change-kept x r m which_meeting e = same-sets _ x m refl refl
change-kept x r m count_leave e = same-sets _ x m refl refl
change-kept x r m seats_left e = same-sets _ x m refl refl
change-kept x r m free_room e = same-sets _ x m refl refl

step_kept : (x : State) (r : Request) (m : ℕ) → books_for r m ≡ false → Kept (step x r).state x m
unfolding step books_for
step_kept x r m h = kind (kind_of r.kind) h
  where
    done : (k : Kind) (o : Option Refusal) → charges (Some k) && eqb m r.b ≡ false → Kept (finish x r k o).state x m
    done k None e = change-kept x r m k e
    done k (Some f) e = same-sets x x m refl refl

    kind : (o : Option Kind) → charges o && eqb m r.b ≡ false → Kept (step_kind x r o).state x m
    kind None e = same-sets x x m refl refl
    kind (Some k) e = done k (judge x r k (always ++ further k)) e

same-all : (x : State) (m first last : ℕ) → SameFor x x m first last
same-all x m first last = record { settings = refl; conf = λ s c e. refl; lunch = λ d g e. refl }

-- "Requests of other meetings leave a meeting's charge as it is": every request, done or refused, but those of kinds 12 to 16 with b = m
pub other-meeting : (x : State) (r : Request) (m first last : ℕ) → books_for r m ≡ false → SameFor (step x r).state x m first last
other-meeting x r m first last h =
    let k = step_kept x r m h in
    record { settings = step-settings x r; conf = λ s c _. ap is_some (k.conf s c); lunch = λ d g _. ap seats_of (k.lunch d g) }

-- "So do requests of other dates": every request, done or refused, none of whose slots is on a date of first..last
pub other-dates : (x : State) (r : Request) (m first last : ℕ) → ((d : ℕ) → within first last d ≡ true → on_date x.settings r d ≡ false)
    → SameFor (step x r).state x m first last
other-dates x r m first last h =
    let S = step-settings x r in
    record {
      settings = S;
      conf = λ s c e.
          let q = ap (λ (T : Settings). date_of_session T s) (sym S) in
          let w = ap (within first last) q ∙ e in
          ap is_some ((local-change x r (date_of_session x.settings s) (h _ w)).conf s c m refl);
      lunch = λ d g e. ap seats_of ((local-change x r d (h d e)).lunch g m);
    }

-- the charge from a book that shows a ledger
shown-charge : (b : List ℕ) (l : Ledger) → Shows b l → (m first last : ℕ) (t : Tariff) → charge b m first last t ≡ charged l.diary m first last t
unfolding charge
shown-charge b l h m first last t = let q = shows-passes b l h in rw (q.one, q.two, shown-is b l h)

-- "Two books that agree on what the meeting holds charge the same."
pub same-charge : (b c : List ℕ) → Passes b → Passes c → (m first last : ℕ) → SameFor (ledger_of b).diary (ledger_of c).diary m first last → (t : Tariff)
    → charge b m first last t ≡ charge c m first last t
same-charge b c q r m first last h t =
    shown-charge b (ledger_of b) (passes-shows b q) m first last t
    ∙ same-charged (ledger_of b).diary (ledger_of c).diary m first last h t
    ∙ sym (shown-charge c (ledger_of c) (passes-shows c r) m first last t)

-- a call that leaves what the meeting holds leaves its charge, on every list of words
untouched : (b : List ℕ) (c : Call) (m first last : ℕ) → SameFor (perform (ledger_of b) c).ledger.diary (ledger_of b).diary m first last → (t : Tariff)
    → charge (call_on b c).book m first last t ≡ charge b m first last t
unfolding call_on
untouched b c m first last h t = go (well_laid b) refl (lawful b) refl
  where
    go : (o : Bool) → well_laid b ≡ o → (u : Bool) → lawful b ≡ u → charge (call_on b c).book m first last t ≡ charge b m first last t
    go true e true f =
        let q : Passes b = record { one = e; two = f } in
        let l = (perform (ledger_of b) c).ledger in
        shown-charge (call_on b c).book l (passes-next b q c) m first last t
        ∙ same-charged l.diary (ledger_of b).diary m first last h t
        ∙ sym (shown-charge b (ledger_of b) (passes-shows b q) m first last t)
    go true e false f = ap (λ (d : List ℕ). charge d m first last t) (rw (e, f))
    go false e u f = ap (λ (d : List ℕ). charge d m first last t) (rw e)

-- an order leaves of a diary what the step of its request leaves, or all of it where it is kept
after-order : (l : Ledger) (n : ℕ) (r : Request) (m first last : ℕ) → SameFor (step l.diary r).state l.diary m first last → (o : Option ℕ)
    → SameFor (answer_order l n r o).ledger.diary l.diary m first last
after-order l n r m first last h None =
    counted-state (λ (y : State). SameFor y l.diary m first last) l.diary l.changes r (same-all l.diary m first last) h
after-order l n r m first last h (Some i) = same-all l.diary m first last

-- a commit that is not refused by 29 as an order that is not kept
after-commit : (l : Ledger) (r : Request) (m first last : ℕ) → SameFor (step l.diary r).state l.diary m first last → (t : Bool)
    → SameFor (answer_commit l t r).ledger.diary l.diary m first last
after-commit l r m first last h true = after-order l 0 r m first last h None
after-commit l r m first last h false = same-all l.diary m first last

-- and so on every list of words, one that questions 1 and 2 refuse included, with the number of an order or with 0 for none
pub other-meeting-book : (b : List ℕ) (n : ℕ) (r : Request) (m first last : ℕ) → books_for r m ≡ false → (t : Tariff)
    → charge (call_order b n r).book m first last t ≡ charge b m first last t
other-meeting-book b n r m first last h t =
    untouched b (ordered n r) m first last
    (after-order (ledger_of b) n r m first last (other-meeting (ledger_of b).diary r m first last h) (kept_at (ledger_of b).tail n)) t

pub other-dates-book : (b : List ℕ) (n : ℕ) (r : Request) (m first last : ℕ)
    → ((d : ℕ) → within first last d ≡ true → on_date (ledger_of b).diary.settings r d ≡ false) → (t : Tariff)
    → charge (call_order b n r).book m first last t ≡ charge b m first last t
other-dates-book b n r m first last h t =
    untouched b (ordered n r) m first last
    (after-order (ledger_of b) n r m first last (other-dates (ledger_of b).diary r m first last h) (kept_at (ledger_of b).tail n)) t

-- the same of requests that are committed; and asking leaves every charge
pub other-meeting-commit : (b : List ℕ) (n : ℕ) (r : Request) (m first last : ℕ) → books_for r m ≡ false → (t : Tariff)
    → charge (call_commit b n r).book m first last t ≡ charge b m first last t
other-meeting-commit b n r m first last h t =
    untouched b (commit n r) m first last
    (after-commit (ledger_of b) r m first last (other-meeting (ledger_of b).diary r m first last h) (eqb n (ledger_of b).changes)) t

pub other-dates-commit : (b : List ℕ) (n : ℕ) (r : Request) (m first last : ℕ)
    → ((d : ℕ) → within first last d ≡ true → on_date (ledger_of b).diary.settings r d ≡ false) → (t : Tariff)
    → charge (call_commit b n r).book m first last t ≡ charge b m first last t
other-dates-commit b n r m first last h t =
    untouched b (commit n r) m first last
    (after-commit (ledger_of b) r m first last (other-dates (ledger_of b).diary r m first last h) (eqb n (ledger_of b).changes)) t

pub asking-charge : (b : List ℕ) (r : Request) (m first last : ℕ) (t : Tariff) → charge (call_ask b r).book m first last t ≡ charge b m first last t
asking-charge b r m first last t = untouched b (ask r) m first last (same-all (ledger_of b).diary m first last) t

-- "A party leaves every meeting's charge as it is": its guests attend, and hold no room and no lunch
same-trans : (x y z : State) (m first last : ℕ) → SameFor x y m first last → SameFor y z m first last → SameFor x z m first last
same-trans x y z m first last g h =
    record {
      settings = g.settings ∙ h.settings;
      conf = λ s c e. g.conf s c e ∙ h.conf s c (ap (λ (T : Settings). within first last (date_of_session T s)) (sym g.settings) ∙ e);
      lunch = λ d k e. g.lunch d k e ∙ h.lunch d k e;
    }

joining-books : (p : ℕ) (g : Guest) (m : ℕ) → books_for (joining p g) m ≡ false
unfolding books_for kind_of
joining-books p g m = refl

module _ (p m first last : ℕ) where
  joined_same : (x : State) (gs : List Guest) → SameFor (joined x p gs).state x m first last
  unfolding joined
  joined_same x [] = same-all x m first last
  joined_same x (g ∷ gs) = go (joined_same (step x (joining p g)).state gs) (step x (joining p g)).answer
    where
      one-guest : SameFor (step x (joining p g)).state x m first last
      one-guest = other-meeting x (joining p g) m first last (joining-books p g m)

      go : SameFor (joined (step x (joining p g)).state p gs).state (step x (joining p g)).state m first last → (a : Answer)
          → SameFor (if_done a (joined (step x (joining p g)).state p gs) (step x (joining p g))).state x m first last
      go rest (Ok v) = same-trans _ (step x (joining p g)).state x m first last rest one-guest
      go rest (Err refused) = let n = refused.number in let i = refused.place in one-guest

  admit-same : (x : State) (gs : List Guest) → SameFor (admit x p gs).state x m first last
  unfolding admit
  admit-same x gs = fits (party_fits gs)
    where
      all : (a : Answer) (y : State) → SameFor y x m first last
          → SameFor (if_done a (record { answer = a; state = y }) (record { answer = a; state = x })).state x m first last
      all (Ok v) y h = h
      all (Err refused) y h = let n = refused.number in let i = refused.place in same-all x m first last

      fits : (t : Bool) → SameFor (cond t (all_or_none x (joined x p gs)) (record { answer = refused_with 27 0; state = x })).state x m first last
      fits true = all (joined x p gs).answer (joined x p gs).state (joined_same x gs)
      fits false = same-all x m first last

pub party-charge : (b : List ℕ) (p : ℕ) (gs : List Guest) (m first last : ℕ) (t : Tariff)
    → charge (call_party b p gs).book m first last t ≡ charge b m first last t
party-charge b p gs m first last t =
    let x = (ledger_of b).diary in
    untouched b (party p gs) m first last
    (counted-party-state (λ (y : State). SameFor y x m first last) x (ledger_of b).changes p gs (same-all x m first last) (admit-same p m first last x gs)) t

-- what a book that passes charges, where questions 6, 7 and 31 say yes
pub charge-is : (b : List ℕ) → Passes b → (m first last : ℕ) (t : Tariff) → m < (ledger_of b).diary.settings.meetings → first ≤ last
    → last < (ledger_of b).diary.settings.dates → tariff_fits t ≡ true → charge b m first last t ≡ done_with (cost (ledger_of b).diary m first last t)
unfolding charged
charge-is b q m first last t h k l f =
    shown-charge b (ledger_of b) (passes-shows b q) m first last t ∙ rw (lt-ltb m _ h, le-leb first last k, lt-ltb last _ l, f)

-- the cents of a charge, 0 where it is refused
abbrev pub cents_of : Charged → ℕ
cents_of (Ok c) = c
cents_of (Err refused) = let n = refused.number in let p = refused.place in 0

-- "With p = 0 the meetings' charges add up": of every book that passes, for dates of the site and a tariff within its limits
pub charges-add-up-book : (b : List ℕ) → Passes b → (first last : ℕ) (t : Tariff) → first ≤ last → last < (ledger_of b).diary.settings.dates
    → tariff_fits t ≡ true → t.percent ≡ 0 → sum (λ m. cents_of (charge b m first last t)) (ledger_of b).diary.settings.meetings
    ≡ all_room_sessions (ledger_of b).diary first last * t.room + all_seats (ledger_of b).diary first last * t.seat
charges-add-up-book b q first last t k l f e =
    sum-agree (λ m. cents_of (charge b m first last t)) (λ m. cost (ledger_of b).diary m first last t) 0 (ledger_of b).diary.settings.meetings
    (λ m _ h. ap cents_of (charge-is b q m first last t (omega (arith, h)) k l f))
    ∙ charges-add-up (ledger_of b).diary first last t e

-- "and a charge over dates is the sum over two parts of them": the same, for a meeting of the site
pub charge-parts-book : (b : List ℕ) → Passes b → (m first k last : ℕ) (t : Tariff) → m < (ledger_of b).diary.settings.meetings → first ≤ k → k < last
    → last < (ledger_of b).diary.settings.dates → tariff_fits t ≡ true → t.percent ≡ 0
    → cents_of (charge b m first last t) ≡ cents_of (charge b m first k t) + cents_of (charge b m (suc k) last t)
charge-parts-book b q m first k last t h i j l f e =
    ap cents_of (charge-is b q m first last t h (omega arith) l f)
    ∙ charge-parts (ledger_of b).diary m first k last (omega arith) (omega arith) t e
    ∙ sym (ap₂ (λ (c d : Charged). cents_of c + cents_of d) (charge-is b q m first k t h i (omega arith) f) (charge-is b q m (suc k) last t h (omega arith) l f))

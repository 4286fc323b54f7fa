-- A site without early times is told what it was told before a site could name them, and its book has the words of then with a 0 put in
-- as the tenth (specs/Before).
-- Assumes nothing.
use Prim.Native.Nat.{ℕ, ◌+◌, ◌-◌, ◌/◌}
use mathlib.Core.Path.{◌≡◌, refl, sym, ◌∙◌, ap, ap₂, fun_ext, subst}
use mathlib.Core.Bool.{Bool, true, false, ◌&&◌, cond, and_assoc, and-true}
use Rattle.std.specs.Prelude.{Option, None, Some}
use mathlib.Core.List.{List, [], ◌∷◌, ◌++◌}
use native.Mathlib.Omega.{arith}
use lib.Dec.{leb, ltb, eqb}
use lib.ListN.{length, take}
use borrow.Author.Tests.{lt-ltb, eqb-true, ne_eqb}
use Rattle.model.specs.declared.Settings.{Settings}
use Rattle.model.specs.declared.Request.{Request}
use Rattle.model.specs.declared.Guest.{Guest}
use Rattle.model.specs.Answers.{done_with, refused_with}
use Rattle.model.specs.Bounded.{all, within, failing, every, count2}
use Rattle.model.specs.Site.{capacity, all_sessions, all_times, date_of_session, date_of_time, valid_settings, fixed_words, settings_length, settings_words}
use Rattle.model.specs.State.{State, empty_state, Pairs, hotels, rides, attends}
use Rattle.model.specs.Kinds.{Kind, Kind.remove_visitor, kind_of, Unit, dates, sessions, times, row, date_of}
use Rattle.model.specs.Questions.{Question, Scope, whole, each_slot, each_date, scope, test, placed, ask, bookings, Refusal, refusal, judge}
use Rattle.model.specs.Questions.{always, further, unused_zero, a_below, b_below, slots_fit, seats_fit, on_leave, stands, stands_that_date, absent}
use Rattle.model.specs.Questions.{free, elsewhere, room_left, present, has_conf, has_lunch, no_bookings, not_held, stands_yet, attends_one, room_free}
use Rattle.model.specs.Machine.{with_leave, with_hotel, with_ride, with_attend, slot, minus, change, value, Outcome, finish, step_kind, step}
use Rattle.model.specs.Machine.{joining, if_done, joined, all_or_none, party_fits, admit, Counted, raise, is_change, counted_step, counted_party}
use Rattle.model.specs.Machine.{Call, ordered, party, commit, asked, Performed, stepped, answer_order, answer_commit, perform, Run, run}
use Rattle.model.specs.Words.{diary_length, words}
use Rattle.model.specs.Reading.{settings_of}
use Rattle.model.specs.Tail.{kept_at, noted}
use Rattle.model.specs.Ledger.{Ledger, empty_ledger, book_length, book_words}
use Rattle.model.specs.Laws.{unit_of, each_entry, guests_on_leave, all_laws, law, laws, one_visitor_a_room, one_room_a_visitor, one_visitor_a_ride}
use Rattle.model.specs.Laws.{one_ride_a_visitor, one_meeting_a_visitor, one_meeting_a_room, one_room_a_lunch, attended_stands, conf_stands, lunch_stands}
use Rattle.model.specs.Laws.{hotel_leave, ride_leave, attend_leave, seats_within}
use Rattle.model.specs.Before.{date_then, date_by, bookings_by, test_by, placed_by, judge_by, remove_by, change_by, value_by, finish_by, step_kind_by}
use Rattle.model.specs.Calls.{calls, fresh_book, settings_good}
use Rattle.model.specs.Before.{step_by, joined_by, admit_by, counted_step_by, counted_party_by, answer_order_by, answer_commit_by, perform_by, run_by}
use Rattle.model.specs.Before.{guests_by, laws_by, valid_then, book_then, length_then, with_zero, shown_then}
use Rattle.model.proofs.Frame.{step-settings}
use Rattle.model.proofs.Party.{admit-settings}
use Rattle.model.proofs.Counting.{counted-party-state}
use Rattle.model.proofs.Effect.{counted-settings}
use Rattle.model.proofs.Search.{within-true}
use Rattle.model.proofs.Shows.{Shows, shown-calls, fresh-shows}

-- a call leaves the settings
pub perform-settings : (l : Ledger) (c : Call) → (perform l c).ledger.diary.settings ≡ l.diary.settings
perform-settings l (ordered n r) = order (kept_at l.tail n)
  where
    order : (o : Option ℕ) → (answer_order l n r o).ledger.diary.settings ≡ l.diary.settings
    order None = counted-settings l.diary l.changes r
    order (Some i) = refl
perform-settings l (party m gs) =
    counted-party-state (λ (z : State). z.settings ≡ l.diary.settings) l.diary l.changes m gs refl (admit-settings l.diary m gs)
perform-settings l (Call.ask r) = refl
perform-settings l (commit n r) = go (eqb n l.changes)
  where
    go : (t : Bool) → (answer_commit l t r).ledger.diary.settings ≡ l.diary.settings
    go true = counted-settings l.diary l.changes r
    go false = refl

pub run-settings : (l : Ledger) (cs : List Call) → (run l cs).ledger.diary.settings ≡ l.diary.settings
unfolding run
run-settings l [] = refl
run-settings l (c ∷ cs) = run-settings (perform l c).ledger cs ∙ perform-settings l c

module _ (date : Settings → ℕ → ℕ) where
  -- a date of times that is today's for the settings of x
  module _ (x : State) (e : date x.settings ≡ date_of_time x.settings) where
    date-by : (u : Unit) (i : ℕ) → date_by date x.settings u i ≡ date_of x.settings u i
    date-by dates i = refl
    date-by sessions i = refl
    date-by times i = ap (λ (f : ℕ → ℕ). f i) e

    bookings-by : (v from to : ℕ) → bookings_by date x v from to ≡ bookings x v from to
    unfolding bookings_by bookings
    bookings-by v from to =
        ap (λ (f : ℕ → ℕ). count2 (λ d r. within from to d && x.hotel d r v) x.settings.dates x.settings.hotels
        + count2 (λ t k. within from to (f t) && x.ride t k v) (all_times x.settings) x.settings.transports
        + count2 (λ s m. within from to (date_of_session x.settings s) && x.attend s m v) (all_sessions x.settings) x.settings.meetings) e

    test-by : (r : Request) (k : Kind) (q : Question) (i : ℕ) → test_by date x r k q i ≡ test x r k q i
    unfolding test_by test
    test-by r k unused_zero i = refl
    test-by r k a_below i = refl
    test-by r k b_below i = refl
    test-by r k slots_fit i = refl
    test-by r k seats_fit i = refl
    test-by r k on_leave i = ap (λ (d : ℕ). x.leave d r.b) (date-by (row k).unit i)
    test-by r k (stands w) i = refl
    test-by r k stands_that_date i = refl
    test-by r k (absent p) i = refl
    test-by r k (free p) i = refl
    test-by r k (elsewhere p) i = refl
    test-by r k room_left i = refl
    test-by r k (present p) i = refl
    test-by r k has_conf i = refl
    test-by r k has_lunch i = refl
    test-by r k no_bookings i = ap (λ (n : ℕ). eqb n 0) (bookings-by r.b i i)
    test-by r k not_held i = refl
    test-by r k stands_yet i = refl
    test-by r k attends_one i = refl
    test-by r k room_free i = refl

    placed-by : (r : Request) (k : Kind) (s : Scope) (t : ℕ → Bool) → placed_by date x r k s t ≡ placed x r k s t
    placed-by r k whole t = refl
    placed-by r k each_slot t = refl
    placed-by r k each_date t = ap₂ (failing t) (date-by (row k).unit r.first) (date-by (row k).unit r.last)

    judge-by : (r : Request) (k : Kind) (qs : List Question) → judge_by date x r k qs ≡ judge x r k qs
    unfolding ask
    judge-by r k [] = refl
    judge-by r k (q ∷ qs) =
        ap₂ (refusal q) (placed-by r k (scope q) (test_by date x r k q) ∙ ap (placed x r k (scope q)) (fun_ext (test-by r k q))) (judge-by r k qs)

    remove-by : (r : Request) → remove_by date x r ≡ change x r remove_visitor
    unfolding remove_by change
    remove-by r =
        ap (λ (f : ℕ → ℕ).
        with_attend
        (with_ride
        (with_hotel
        (with_leave x (λ d v. minus (x.leave d v) (slot r d && eqb v r.b)))
        (λ d h v. minus (x.hotel d h v) (slot r d && eqb v r.b)))
        (λ t k v. minus (x.ride t k v) (slot r (f t) && eqb v r.b)))
        (λ s m v. minus (x.attend s m v) (slot r (date_of_session x.settings s) && eqb v r.b))) e

    -- the kind of the number 3 is the removal
    module _ (r : Request) (k : Kind) (is : kind_of r.kind ≡ Some k) where
      third : r.kind ≡ 3 → k ≡ remove_visitor
      unfolding kind_of
      third q = ap (λ (o : Option Kind). known o) (sym is ∙ ap kind_of q)
        where
          known : Option Kind → Kind
          known None = k
          known (Some j) = j

      change-by : change_by date x r k ≡ change x r k
      change-by = go (eqb r.kind 3) refl
        where
          go : (t : Bool) → eqb r.kind 3 ≡ t → cond t (remove_by date x r) (change x r k) ≡ change x r k
          go true q = remove-by r ∙ ap (change x r) (sym (third (eqb-true _ _ q)))
          go false q = refl

      value-by : value_by date x r k ≡ value x r k
      unfolding value
      value-by = go (eqb r.kind 3) refl
        where
          go : (t : Bool) → eqb r.kind 3 ≡ t → cond t (bookings_by date x r.b r.first r.last) (value x r k) ≡ value x r k
          go true q = bookings-by r.b r.first r.last ∙ ap (value x r) (sym (third (eqb-true _ _ q)))
          go false q = refl

      finish-by : (o : Option Refusal) → finish_by date x r k o ≡ finish x r k o
      finish-by None = λ i. record { answer = done_with (value-by i); state = change-by i }
      finish-by (Some f) = refl

    step-at : (r : Request) → step_by date x r ≡ step x r
    unfolding step_by step
    step-at r = go (kind_of r.kind) refl
      where
        go : (o : Option Kind) → kind_of r.kind ≡ o → step_kind_by date x r o ≡ step_kind x r o
        go None q = refl
        go (Some k) q = ap (finish_by date x r k) (judge-by r k (always ++ further k)) ∙ finish-by r k q (judge x r k (always ++ further k))

    guests-by : (p : Pairs) → guests_by date x p ≡ guests_on_leave x p
    guests-by p = ap (λ (f : ℕ → ℕ). each_entry x p (λ i a v. x.leave (f i) v)) (fun_ext (date-by (unit_of p)))

    laws_at : laws_by date x ≡ laws x
    unfolding laws_by laws
    laws_at =
        (λ i. every (law x) (take 10 all_laws) && guests-by hotels i && guests-by rides i && guests-by attends i && law x seats_within)
        ∙ tests (law x one_visitor_a_room) (law x one_room_a_visitor) (law x one_visitor_a_ride) (law x one_ride_a_visitor) (law x one_meeting_a_visitor)
        (law x one_meeting_a_room) (law x one_room_a_lunch) (law x attended_stands) (law x conf_stands) (law x lunch_stands) (law x hotel_leave)
        (law x ride_leave) (law x attend_leave) (law x seats_within)
      where
        tests : (a b c d e f g h i j k l m n : Bool)
            → (a && (b && (c && (d && (e && (f && (g && (h && (i && (j && true)))))))))) && k && l && m && n
            ≡ a && (b && (c && (d && (e && (f && (g && (h && (i && (j && (k && (l && (m && (n && true)))))))))))))
        tests a b c d e f g h i j k l m n = simp (and_assoc, and-true)

  -- the date is today's for the settings of a diary, before a request and after it
  abbrev Same : State → Type 0
  Same x = date x.settings ≡ date_of_time x.settings

  still : (x y : State) → y.settings ≡ x.settings → Same x → Same y
  still x y q e = subst (λ (S : Settings). date S ≡ date_of_time S) (sym q) e

  joined-by : (x : State) → Same x → (m : ℕ) (gs : List Guest) → joined_by date x m gs ≡ joined x m gs
  unfolding joined_by joined
  joined-by x e m [] = refl
  joined-by x e m (g ∷ gs) =
      let o : Outcome = step x (joining m g) in
      ap (λ (o : Outcome). if_done o.answer (joined_by date o.state m gs) o) (step-at x e (joining m g))
      ∙ ap (λ (z : Outcome). if_done o.answer z o) (joined-by o.state (still x o.state (step-settings x (joining m g)) e) m gs)

  admit-by : (x : State) → Same x → (m : ℕ) (gs : List Guest) → admit_by date x m gs ≡ admit x m gs
  unfolding admit_by admit
  admit-by x e m gs =
      ap (λ (o : Outcome). cond (party_fits gs) (all_or_none x o) (record { answer = refused_with 27 0; state = x })) (joined-by x e m gs)

  counted-by : (x : State) → Same x → (n : ℕ) (r : Request) → counted_step_by date x n r ≡ counted_step x n r
  unfolding counted_step_by counted_step
  counted-by x e n r =
      ap (λ (o : Outcome). cond (is_change r) (raise x n o o.answer) (record { answer = o.answer; state = o.state; changes = n })) (step-at x e r)

  counted-party-by : (x : State) → Same x → (n m : ℕ) (gs : List Guest) → counted_party_by date x n m gs ≡ counted_party x n m gs
  unfolding counted_party_by counted_party
  counted-party-by x e n m gs = ap (λ (o : Outcome). raise x n o o.answer) (admit-by x e m gs)

  order-by : (l : Ledger) → Same l.diary → (n : ℕ) (r : Request) (o : Option ℕ) → answer_order_by date l n r o ≡ answer_order l n r o
  order-by l e n r None = ap (λ (o : Counted). stepped (noted l.tail n r o.answer) o) (counted-by l.diary e l.changes r)
  order-by l e n r (Some i) = refl

  perform-by : (l : Ledger) → Same l.diary → (c : Call) → perform_by date l c ≡ perform l c
  perform-by l e (ordered n r) = order-by l e n r (kept_at l.tail n)
  perform-by l e (party m gs) = ap (stepped l.tail) (counted-party-by l.diary e l.changes m gs)
  perform-by l e (Call.ask r) =
      ap (λ (o : Counted). record { reply = asked o.answer l.changes; ledger = l }) (counted-by l.diary e l.changes r)
  perform-by l e (commit n r) = go (eqb n l.changes)
    where
      go : (t : Bool) → answer_commit_by date l t r ≡ answer_commit l t r
      go true = order-by l e 0 r None
      go false = refl

  run_at : (l : Ledger) → Same l.diary → (cs : List Call) → run_by date l cs ≡ run l cs
  unfolding run_by run
  run_at l e [] = refl
  run_at l e (c ∷ cs) =
      let o : Performed = perform l c in
      ap (λ (o : Performed). record { replies = o.reply ∷ (run_by date o.ledger cs).replies; ledger = (run_by date o.ledger cs).ledger })
      (perform-by l e c)
      ∙ ap (λ (u : Run). record { replies = o.reply ∷ u.replies; ledger = u.ledger })
      (run_at o.ledger (still l.diary o.ledger.diary (perform-settings l c) e) cs)

-- The restated text is today's specification where the date of a time is today's, whatever the site ..
pub run-now : (l : Ledger) (cs : List Call) → run_by date_of_time l cs ≡ run l cs
run-now l cs = run_at date_of_time l refl cs

pub laws-now : (x : State) → laws_by date_of_time x ≡ laws x
laws-now x = laws_at date_of_time x refl

-- .. and without early times the two dates are one, so that every reply, every ledger and the laws are those of then.
pub date-then : (S : Settings) → S.early ≡ 0 → date_then S ≡ date_of_time S
date-then S e = fun_ext (λ t. let q : t ≡ t - S.early = omega (arith, e) in ap (λ (n : ℕ). n / S.times) q)

pub run-then : (l : Ledger) → l.diary.settings.early ≡ 0 → (cs : List Call) → run_by date_then l cs ≡ run l cs
run-then l e cs = run_at date_then l (date-then l.diary.settings e) cs

pub step_then : (x : State) → x.settings.early ≡ 0 → (r : Request) → step_by date_then x r ≡ step x r
step_then x e r = step-at date_then x (date-then x.settings e) r

pub laws-then : (x : State) → x.settings.early ≡ 0 → laws_by date_then x ≡ laws x
laws-then x e = laws_at date_then x (date-then x.settings e)

-- Such settings are valid when they were then, and a book has the words of then with a 0 put in as the tenth.
pub valid-then : (S : Settings) → S.early ≡ 0 → valid_then S ≡ valid_settings S
unfolding valid_then valid_settings
valid-then S e =
    tests (within 1 400 S.dates) (within 1 16 S.sessions) (within 1 96 S.times) (within 1 512 S.visitors) (within 1 128 S.meetings)
    (within 1 64 S.rooms) (within 1 16 S.dining) (within 1 512 S.hotels) (within 1 128 S.transports) (ltb S.early S.times)
    (eqb (length S.capacities) 16)
    (all (λ g. cond (ltb g S.dining) (within 1 1000 (capacity S g)) (eqb (capacity S g) 0)) 16)
    (λ q. lt-ltb S.early S.times (omega (arith, e, within-true 1 96 S.times q)))
  where
    tests : (a b c d e f g h i l n s : Bool) → (c ≡ true → l ≡ true)
        → a && (b && (c && (d && (e && (f && (g && (h && (i && (n && (s && true))))))))))
        ≡ a && (b && (c && (d && (e && (f && (g && (h && (i && (l && (n && (s && true)))))))))))
    tests a b true d e f g h i l n s q = rw (q refl) refl
    tests a b false d e f g h i l n s q = refl

pub words-then : (l : Ledger) → l.diary.settings.early ≡ 0 → book_words l ≡ with_zero (book_then l)
unfolding book_words words settings_words book_then
words-then l e = rw e refl

pub length-then : (S : Settings) → book_length S ≡ length_then S + 1
unfolding book_length diary_length settings_length length_then
length-then S = omega arith

-- On books: of every list of calls, on any book without early times that passes and on a fresh one, the replies are those of then, and so
-- are all words but the tenth.
pub calls-then : (b : List ℕ) (l : Ledger) → Shows b l → l.diary.settings.early ≡ 0 → (cs : List Call)
    → calls b cs ≡ shown_then (run_by date_then l cs)
calls-then b l h e cs =
    let k : book_words (run l cs).ledger ≡ with_zero (book_then (run l cs).ledger)
    = words-then (run l cs).ledger (ap (λ (S : Settings). S.early) (run-settings l cs) ∙ e) in
    shown-calls b l h cs
    ∙ ap (λ (w : List ℕ). record { replies = (run l cs).replies; book = w }) k
    ∙ ap shown_then (sym (run-then l e cs))

pub fresh-then : (S : Settings) → valid_then S ≡ true → S.early ≡ 0 → (cs : List Call)
    → calls (fresh_book S) cs ≡ shown_then (run_by date_then (empty_ledger S) cs)
unfolding empty_ledger empty_state
fresh-then S v e cs = calls-then (fresh_book S) (empty_ledger S) (fresh-shows S (sym (valid-then S e) ∙ v)) e cs

-- settings of the length of then are none now
pub settings-then : (w : List ℕ) → length w ≡ 9 + (settings_of w).dining → settings_good w ≡ false
unfolding settings_good settings_length
settings-then w h =
    ap (λ (t : Bool). leb fixed_words (length w) && t && valid_settings (settings_of w))
    (ne_eqb (length w) (fixed_words + (settings_of w).dining) (λ q. omega (arith, h, q)))
    ∙ go (leb fixed_words (length w)) (valid_settings (settings_of w))
  where
    go : (a b : Bool) → a && false && b ≡ false
    go true b = refl
    go false b = refl

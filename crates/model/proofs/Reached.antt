-- Reachable = lawful, but for the change count: the books of 32-bit words that pass questions 1 and 2, with an empty ring and the next
-- place 0, are the books after a list of requests of 32-bit words, without orders, on a fresh one, with every count from the number of
-- their entries on.
-- Assumes nothing.
use Prim.Native.Nat.{ℕ, zero, suc, ◌+◌, ◌-◌, ◌/◌, ◌%◌, ◌≤◌, ◌<◌}
use mathlib.Core.Path.{◌≡◌, refl, sym, ◌∙◌, ap, subst}
use mathlib.Core.Logic.{◌↔◌}
use mathlib.Core.Bool.{Bool, true, false, ◌||◌, cond}
use Rattle.std.specs.Prelude.{Option, None, Some}
use mathlib.Core.List.{List, [], ◌∷◌, ◌++◌, map}
use native.Mathlib.Nat.{le_refl}
use native.Mathlib.Omega.{arith}
use lib.Dec.{ltb, eqb}
use lib.ListN.{length, get_or, take, replicate, length-append, length-replicate}
use lib.Seq.{set-get_or}
use borrow.Author.Tests.{lt-ltb, ltb-true, eqb-true}
use Rattle.model.specs.declared.Settings.{Settings}
use Rattle.model.specs.declared.Request.{Request}
use Rattle.model.specs.Answers.{Answer}
use Rattle.model.specs.Answers.{done_with}
use Rattle.model.specs.Bounded.{every, is_some, within}
use Rattle.model.specs.Site.{valid_settings}
use Rattle.model.specs.State.{State, empty_state, Lunch, Pairs, hotels, rides, attends, confs, lunches}
use Rattle.model.specs.Kinds.{kind_of, Kind.remove_visitor}
use Rattle.model.specs.Questions.{ask, test, bookings, Question.b_below}
use Rattle.model.specs.Words.{diary_length, address, conf_pairs, lunch_triples}
use Rattle.model.specs.Machine.{Outcome, change, value, step, steps, most_changes, is_change, told, Run, run}
use Rattle.model.specs.Reading.{holds, read_state, state_of, settings_of}
use Rattle.model.specs.Tail.{empty_tail}
use Rattle.model.specs.Ledger.{Ledger, empty_ledger, book_words, diary_of, ledger_of}
use Rattle.model.specs.Calls.{Calls, calls, fresh_book}
use Rattle.model.specs.Seen.{last_word, with_last, with_changes}
use Rattle.model.proofs.Search.{and-true, and_left, and_right}
use Rattle.model.proofs.Laws.{Sound, Bounds}
use Rattle.model.proofs.ReadBack.{Valid, valid-is}
use Rattle.model.proofs.Lengths.{sessions-le, times-le}
use Rattle.model.proofs.Ledger.{LedgerSound}
use Rattle.model.proofs.Calls.{empty-sound, empty-ledger, from-fresh, run_sound}
use Rattle.model.proofs.Done.{ask-whole}
use Rattle.model.proofs.Removal.{removed-bookings, nothing-removed}
use Rattle.model.proofs.Again.{fits_by, performs}
use Rattle.model.proofs.Runs.{AllZero, zero-append, sent, steps_run, run-sent}
use Rattle.model.proofs.Shows.{Shows, Passes, passes-shows, shows-passes, shown-is}
use Rattle.model.proofs.Effect.{all_done}
use Rattle.model.proofs.Raised.{last-changes, words-with, any-count-shows, any-count}
use Rattle.model.proofs.Reachable.{Stage, to_leave, to_standing, to_hotel, to_ride, to_attend, to_conf, to_lunch}
use Rattle.model.proofs.Reachable.{adding, add_if, add_conf_if, add_lunch_if, entry, entries_of, Made, made_each, built, few-entries, adds_entry}
use Rattle.model.proofs.Reachable.{one_entry, one-entry-each}

-- a number that is a 32-bit word, and a request of seven such words
abbrev pub is_word : ℕ → Bool
is_word w = ltb w 4294967296

abbrev pub of_words : Request → Bool
of_words r = every is_word (r.kind ∷ r.a ∷ r.b ∷ r.first ∷ r.last ∷ r.n ∷ r.info ∷ [])

is-word : (w : ℕ) → w < 4294967296 → is_word w ≡ true
is-word w l = lt-ltb w 4294967296 l

-- what a book of words has at a place is a word
word_at : (b : List ℕ) (k : ℕ) → every is_word b ≡ true → get_or b k 0 < 4294967296
word_at [] k e = omega arith
word_at (w ∷ b) zero e = ltb-true w 4294967296 (and_left (is_word w) _ e)
word_at (w ∷ b) (suc k) e = word_at b k (and_right (is_word w) _ e)

-- so is what its diary has
words-in : (b : List ℕ) → every is_word b ≡ true → every is_word (diary_of b) ≡ true
unfolding diary_of
words-in b e = go (diary_length (settings_of b)) b e
  where
    go : (n : ℕ) (l : List ℕ) → every is_word l ≡ true → every is_word (take n l) ≡ true
    go zero l e = refl
    go (suc n) [] e = refl
    go (suc n) (w ∷ l) e = and-true (and_left (is_word w) _ e) (go n l (and_right (is_word w) _ e))

adding-words : (k i a b n w : ℕ) → k < 4294967296 → i < 4294967296 → a < 4294967296 → b < 4294967296 → n < 4294967296 → w < 4294967296
    → of_words (adding k i a b n w) ≡ true
adding-words k i a b n w hk hi ha hb hn hw =
    and-true (is-word k hk)
    (and-true (is-word a ha) (and-true (is-word b hb)
    (and-true (is-word i hi) (and-true (is-word i hi) (and-true (is-word n hn) (and-true (is-word w hw) refl))))))

-- the slots, a and b of an entry are words
record Small (i a b : ℕ) : Type 0 where
  slot : i < 4294967296
  first : a < 4294967296
  second : b < 4294967296

small : (S : Settings) → valid_settings S ≡ true → (p : Pairs) (i a b : ℕ) → Bounds S p i a b → Small i a b
small S e hotels i a b n =
    record {
      slot = omega (arith, n.slot, (valid-is S e).dates);
      first = omega (arith, n.first, (valid-is S e).hotels);
      second = omega (arith, n.second, (valid-is S e).visitors);
    }
small S e rides i a b n =
    record {
      slot = omega (arith, n.slot, times-le S e);
      first = omega (arith, n.first, (valid-is S e).transports);
      second = omega (arith, n.second, (valid-is S e).visitors);
    }
small S e attends i a b n =
    record {
      slot = omega (arith, n.slot, sessions-le S e);
      first = omega (arith, n.first, (valid-is S e).meetings);
      second = omega (arith, n.second, (valid-is S e).visitors);
    }
small S e confs i a b n =
    record {
      slot = omega (arith, n.slot, sessions-le S e);
      first = omega (arith, n.first, (valid-is S e).rooms);
      second = omega (arith, n.second, (valid-is S e).meetings);
    }
small S e lunches i a b n =
    record {
      slot = omega (arith, n.slot, (valid-is S e).dates);
      first = omega (arith, n.first, (valid-is S e).few);
      second = omega (arith, n.second, (valid-is S e).meetings);
    }

-- information and seats come from the book
module _ (b : List ℕ) (h : every is_word b ≡ true) where
  info-word : (i c m w : ℕ) → (state_of b).conf i c m ≡ Some w → w < 4294967296
  unfolding state_of read_state
  info-word i c m w e = go (holds (settings_of b) b conf_pairs i c m) e
    where
      go : (t : Bool) → cond t (Some (get_or b (address (settings_of b) conf_pairs i c 1) 0)) None ≡ Some w → w < 4294967296
      go true q =
          let z : get_or b (address (settings_of b) conf_pairs i c 1) 0 ≡ w = cc in
          omega (arith, z, word_at b (address (settings_of b) conf_pairs i c 1) h)
      go false q = absurd (let z : ◌≡◌ {A = ℕ} 0 1 = cc in omega arith)

  lunch-words : (d g m : ℕ) (l : Lunch) → (state_of b).lunch d g m ≡ Some l → (l.seats < 4294967296) × (l.info < 4294967296)
  unfolding state_of read_state
  lunch-words d g m l e = go (holds (settings_of b) b lunch_triples d m g) e
    where
      seats : ℕ
      seats = address (settings_of b) lunch_triples d m 1

      info : ℕ
      info = address (settings_of b) lunch_triples d m 2

      go : (t : Bool) → cond t (Some (record { seats = get_or b seats 0; info = get_or b info 0 })) None ≡ Some l
          → (l.seats < 4294967296) × (l.info < 4294967296)
      go true q =
          let z : record { seats = get_or b seats 0; info = get_or b info 0 } ≡ l = cc in (
            omega (arith, ap (λ (l : Lunch). l.seats) z, word_at b seats h),
            omega (arith, ap (λ (l : Lunch). l.info) z, word_at b info h),
          )
      go false q = absurd (let z : ◌≡◌ {A = ℕ} 0 1 = cc in omega arith)

-- the requests that build a state whose information and seats are words
module _ (x : State) (s : Sound x) (infos : (i c m w : ℕ) → x.conf i c m ≡ Some w → w < 4294967296)
    (seats : (d g m : ℕ) (l : Lunch) → x.lunch d g m ≡ Some l → (l.seats < 4294967296) × (l.info < 4294967296)) where
  v : Valid x.settings
  v = valid-is x.settings s.valid

  plain : (k i a c : ℕ) (t : Bool) → k < 4294967296 → (t ≡ true → Small i a c) → Made of_words (add_if k i a c t)
  plain k i a c false l n = tt
  plain k i a c true l n = adding-words k i a c 0 0 l (n refl).slot (n refl).first (n refl).second (omega arith) (omega arith)

  conf : (i a c : ℕ) (o : Option ℕ) → x.conf i a c ≡ o → Made of_words (add_conf_if i a c o)
  conf i a c None e = tt
  conf i a c (Some w) e =
      let n : Small i a c = small x.settings s.valid confs i a c (s.pairs confs i a c (ap is_some e)) in
      adding-words 12 i a c 0 w (omega arith) n.slot n.first n.second (omega arith) (infos i a c w e)

  lunch : (i a c : ℕ) (o : Option Lunch) → x.lunch i a c ≡ o → Made of_words (add_lunch_if i a c o)
  lunch i a c None e = tt
  lunch i a c (Some l) e =
      let n : Small i a c = small x.settings s.valid lunches i a c (s.pairs lunches i a c (ap is_some e)) in
      adding-words 14 i a c l.seats l.info (omega arith) n.slot n.first n.second (seats i a c l e).0 (seats i a c l e).1

  made : (q : Stage) (c : ℕ) → Made of_words (entry x q c)
  made to_leave c =
      let vs : ℕ = x.settings.visitors in
      plain 1 (c / vs) 0 (c % vs) (x.leave (c / vs) (c % vs)) (omega arith)
      (λ e. record {
        slot = omega (arith, (s.leaves (c / vs) (c % vs) e).0, v.dates);
        first = omega arith;
        second = omega (arith, (s.leaves (c / vs) (c % vs) e).1, v.visitors);
      })
  made to_standing c =
      let ms : ℕ = x.settings.meetings in
      plain 8 (c / ms) (c % ms) 0 (x.standing (c / ms) (c % ms)) (omega arith)
      (λ e. record {
        slot = omega (arith, (s.stands (c / ms) (c % ms) e).0, sessions-le x.settings s.valid);
        first = omega (arith, (s.stands (c / ms) (c % ms) e).1, v.meetings);
        second = omega arith;
      })
  made to_hotel c =
      let M : ℕ = x.settings.hotels in
      let vs : ℕ = x.settings.visitors in
      plain 4 (c / vs / M) (c / vs % M) (c % vs) (x.hotel (c / vs / M) (c / vs % M) (c % vs)) (omega arith)
      (λ e. small x.settings s.valid hotels _ _ _ (s.pairs hotels (c / vs / M) (c / vs % M) (c % vs) e))
  made to_ride c =
      let M : ℕ = x.settings.transports in
      let vs : ℕ = x.settings.visitors in
      plain 6 (c / vs / M) (c / vs % M) (c % vs) (x.ride (c / vs / M) (c / vs % M) (c % vs)) (omega arith)
      (λ e. small x.settings s.valid rides _ _ _ (s.pairs rides (c / vs / M) (c / vs % M) (c % vs) e))
  made to_attend c =
      let M : ℕ = x.settings.meetings in
      let vs : ℕ = x.settings.visitors in
      plain 10 (c / vs / M) (c / vs % M) (c % vs) (x.attend (c / vs / M) (c / vs % M) (c % vs)) (omega arith)
      (λ e. small x.settings s.valid attends _ _ _ (s.pairs attends (c / vs / M) (c / vs % M) (c % vs) e))
  made to_conf c =
      let M : ℕ = x.settings.rooms in
      let ms : ℕ = x.settings.meetings in
      conf (c / ms / M) (c / ms % M) (c % ms) (x.conf (c / ms / M) (c / ms % M) (c % ms)) refl
  made to_lunch c =
      let M : ℕ = x.settings.dining in
      let ms : ℕ = x.settings.meetings in
      lunch (c / ms / M) (c / ms % M) (c % ms) (x.lunch (c / ms / M) (c / ms % M) (c % ms)) refl

  words-each : every of_words (entries_of x) ≡ true
  words-each = made_each x of_words made

-- ---- a request that is done and changes no set

-- visitor 0 is removed on date 0
abbrev pub idle : Request
idle = record { kind = 3; a = 0; b = 0; first = 0; last = 0; n = 0; info = 0 }

-- on an empty diary there is nothing to remove: it is done, and leaves every set empty
idle-done : (S : Settings) → valid_settings S ≡ true → step (empty_state S) idle ≡ record { answer = done_with 0; state = empty_state S }
unfolding kind_of ask test value empty_state
idle-done S e =
    let x : State = empty_state S in
    let v : Valid S = valid-is S e in
    let same : change x idle remove_visitor ≡ x = nothing-removed x idle (empty-sound S e) (λ d l h. refl) in
    performs x idle remove_visitor refl (
      refl,
      (
        refl,
        (
          ask-whole x idle remove_visitor b_below refl (lt-ltb 0 S.visitors (omega (arith, v.visitors))),
          (fits_by x idle remove_visitor (le_refl 0) (omega (arith, v.dates)) refl, tt),
        ),
      ),
    )
    tt 0 x (sym (ap (λ (z : State). bookings z 0 0 0) same) ∙ removed-bookings x idle) same

idles : (S : Settings) → valid_settings S ≡ true → (k : ℕ) → AllZero (steps (empty_state S) (replicate k idle)) k (empty_state S)
unfolding steps
idles S e zero = record { answers = refl; state = refl }
idles S e (suc k) =
    subst (λ (o : Outcome).
    AllZero (record { answers = o.answer ∷ (steps o.state (replicate k idle)).answers; state = (steps o.state (replicate k idle)).state }) (suc k) (empty_state S))
    (sym (idle-done S e))
    (record { answers = ap (λ (l : List Answer). done_with 0 ∷ l) (idles S e k).answers; state = (idles S e k).state })

every_append : {A : Type 0} (f : A → Bool) (l m : List A) → every f l ≡ true → every f m ≡ true → every f (l ++ m) ≡ true
every_append f [] m e g = g
every_append f (a ∷ l) m e g = and-true (and_left (f a) _ e) (every_append f l m (and_right (f a) _ e) g)

every-replicate : (f : Request → Bool) (k : ℕ) (r : Request) → f r ≡ true → every f (replicate k r) ≡ true
every-replicate f zero r e = refl
every-replicate f (suc k) r e = and-true e (every-replicate f k r e)

-- the requests for entries are changes
entries-change : (x : State) → every is_change (entries_of x) ≡ true
entries-change x = go (entries_of x) (one-entry-each x)
  where
    either : (a b : Bool) {A : Type 0} → a || b ≡ true → (a ≡ true → A) → (b ≡ true → A) → A
    either true b e f g = f refl
    either false b e f g = g e

    by : (k n : ℕ) → within 1 16 n ≡ true → eqb k n ≡ true → within 1 16 k ≡ true
    by k n w e = ap (within 1 16) (eqb-true k n e) ∙ w

    adds : (k : ℕ) → adds_entry k ≡ true → within 1 16 k ≡ true
    adds k e =
        either _ _ e
        (λ e. either _ _ e
        (λ e. either _ _ e
        (λ e. either _ _ e
        (λ e. either _ _ e
        (λ e. either _ _ e (by k 1 refl) (by k 8 refl)) (by k 4 refl)) (by k 6 refl)) (by k 10 refl)) (by k 12 refl)) (by k 14 refl)

    go : (rs : List Request) → every one_entry rs ≡ true → every is_change rs ≡ true
    go [] e = refl
    go (r ∷ rs) e = and-true (adds r.kind (and_right (eqb r.first r.last) _ (and_left (one_entry r) _ e))) (go rs (and_right (one_entry r) _ e))

-- ---- books

-- the book after a list of requests of 32-bit words on a fresh book of valid settings
pub record Reached (b : List ℕ) : Type 0 where
  pub settings : Settings
  pub valid : valid_settings settings ≡ true
  pub list : List Request
  pub small : every of_words list ≡ true
  pub book : (calls (fresh_book settings) (sent list)).book ≡ b

-- all of them are done, and the count is how many they are
pub record Built (b : List ℕ) : Type 0 where
  pub reached : Reached b
  pub done : (calls (fresh_book reached.settings) (sent reached.list)).replies ≡ map told (replicate (length reached.list) (done_with 0))
  pub count : last_word b ≡ length reached.list

-- the requests for the entries of a sound ledger with an empty tail, behind k that change nothing
module _ (l : Ledger) (s : LedgerSound l) (t : l.tail ≡ empty_tail) (k : ℕ) (fit : k + length (entries_of l.diary) ≤ most_changes) where
  x : State
  x = l.diary

  S : Settings
  S = x.settings

  rs : List Request
  rs = replicate k idle ++ entries_of x

  long : length rs ≡ k + length (entries_of x)
  unfolding x rs
  long = length-append (replicate k idle) (entries_of x) ∙ ap (λ (n : ℕ). n + length (entries_of x)) (length-replicate {A = Request} k idle)

  through : run (empty_ledger S) (sent rs)
      ≡ record { replies = map told (replicate (length rs) (done_with 0)); ledger = with_changes l (length rs) }
  unfolding empty_ledger x S rs
  through =
      let a : AllZero (steps (empty_state S) rs) (k + length (entries_of x)) x
      = zero-append (empty_state S) (empty_state S) x (replicate k idle) (entries_of x) k _ (idles S s.diary.valid k) (built x s.diary) in
      let z : 0 + length rs ≡ length rs = omega arith in
      run-sent (empty_ledger S) rs
      ∙ ap (steps_run empty_tail)
      (all_done (empty_state S) 0 rs (every_append is_change (replicate k idle) (entries_of x) (every-replicate is_change k idle refl) (entries-change x))
      (a.answers ∙ ap (λ (n : ℕ). replicate n (done_with 0)) (sym long)) (omega (arith, fit, long)))
      ∙ (λ i. record { replies = map told (replicate (length rs) (done_with 0)); ledger = record { diary = a.state i; tail = sym t i; changes = z i } })

  build : every of_words (entries_of l.diary) ≡ true → Built (book_words (with_changes l (k + length (entries_of l.diary))))
  unfolding x S rs
  build w =
      let f = from-fresh S s.diary.valid (sent rs) in
      let e : (calls (fresh_book S) (sent rs)).book ≡ book_words (with_changes l (k + length (entries_of x)))
      = ap (λ (c : Calls). c.book) f ∙ ap (λ (u : Run). book_words u.ledger) through ∙ ap (λ (n : ℕ). book_words (with_changes l n)) long in
      record {
        reached =
            record {
              settings = S;
              valid = s.diary.valid;
              list = rs;
              small = every_append of_words (replicate k idle) (entries_of x) (every-replicate of_words k idle refl) w;
              book = e;
            };
        done = ap (λ (c : Calls). c.replies) f ∙ ap (λ (u : Run). u.replies) through;
        count = last-changes (with_changes l (k + length (entries_of x))) ∙ sym long;
      }

-- every book after a list of requests passes questions 1 and 2, and its ring is empty and the next place 0
pub reached-passes : (b : List ℕ) → Reached b → Passes b × ((ledger_of b).tail ≡ empty_tail)
unfolding empty_ledger
reached-passes b h =
    let l : Ledger = empty_ledger h.settings in
    let m : Ledger = (run l (sent h.list)).ledger in
    let shows : Shows b m
    = record {
      sound = run_sound l (empty-ledger h.settings h.valid) (sent h.list);
      is = sym h.book ∙ ap (λ (c : Calls). c.book) (from-fresh h.settings h.valid (sent h.list));
    } in (
      shows-passes b m shows,
      ap (λ (l : Ledger). l.tail) (shown-is b m shows) ∙ ap (λ (u : Run). u.ledger.tail) (run-sent l h.list),
    )

module _ (b : List ℕ) (w : every is_word b ≡ true) (q : Passes b) (t : (ledger_of b).tail ≡ empty_tail) where
  entries-words : every of_words (entries_of (ledger_of b).diary) ≡ true
  unfolding ledger_of
  entries-words = words-each (ledger_of b).diary (passes-shows b q).sound.diary (info-word (diary_of b) (words-in b w)) (lunch-words (diary_of b) (words-in b w))

  entries : ℕ
  entries = length (entries_of (ledger_of b).diary)

  few : entries ≤ most_changes
  unfolding entries
  few = omega (arith, few-entries (ledger_of b).diary (passes-shows b q).sound.diary.valid)

  -- with the count that is the number of its entries, and with every greater one, a book is built by requests that are all done, as
  -- many as the count says: 30 comes nowhere on the way
  pub builds : length (entries_of (ledger_of b).diary) ≤ last_word b → Built b
  unfolding entries
  builds h =
      let c : last_word b < 4294967296 = word_at b (length b - 1) w in
      let k : last_word b - entries + entries ≡ last_word b = omega (arith, h) in
      let e : book_words (with_changes (ledger_of b) (last_word b - entries + entries)) ≡ b
      = words-with b q (last_word b - entries + entries) ∙ ap (with_last b) k ∙ set-get_or b (length b - 1) 0 in
      subst Built e
      (build (ledger_of b) (passes-shows b q).sound t (last_word b - entries) (omega (arith, c, h)) entries-words)

  pub builds-with : Built (with_last b (length (entries_of (ledger_of b).diary)))
  unfolding entries
  builds-with =
      let k : 0 + entries ≡ entries = omega arith in
      subst Built (words-with b q (0 + entries) ∙ ap (with_last b) k)
      (build (ledger_of b) (passes-shows b q).sound t 0 (omega (arith, few)) entries-words)

-- "A book of 32-bit words passes questions 1 and 2, its ring is empty and the next place 0, exactly when a list of requests without orders
-- leads to it from a fresh book, but for the change count": with some last word, and by `builds` with every one from the number of its
-- entries on. Of a ring the law asks less: it may have gaps, and answers that no request got; of a count it asks nothing.
pub passes-iff-reached : (b : List ℕ) → every is_word b ≡ true → (Passes b × ((ledger_of b).tail ≡ empty_tail)) ↔ ((n : ℕ) × Reached (with_last b n))
passes-iff-reached b w = (λ p. (length (entries_of (ledger_of b).diary), (builds-with b w p.0 p.1).reached), λ h. from h.0 h.1)
  where
    from : (n : ℕ) → Reached (with_last b n) → Passes b × ((ledger_of b).tail ≡ empty_tail)
    from n h =
        let p = reached-passes (with_last b n) h in
        let q : Passes b = (any-count b n).1 p.0 in
        (q, sym (ap (λ (l : Ledger). l.tail) (shown-is (with_last b n) (with_changes (ledger_of b) n) (any-count-shows b q n))) ∙ p.1)

-- A date by the parts of it that the code is lent, and at the model's addresses.
-- Assumes nothing.
use Prim.Native.Nat.{ℕ, ◌+◌, ◌*◌, ◌/◌, ◌%◌, ◌-◌, ◌<◌}
use mathlib.Core.Path.{◌≡◌, sym, ◌∙◌, ap, ap₂, subst}
use mathlib.Core.Bool.{Bool, true, ◌&&◌, cond}
use mathlib.Core.List.{List}
use native.Mathlib.Omega.{arith}
use lib.Dec.{eqb}
use lib.ListN.{length, get_or}
use borrow.Author.Tests.{eqb-true, eq-eqb}
use Rattle.model.specs.declared.Settings.{Settings}
use Rattle.model.specs.Bounded.{any, bit, sum}
use Rattle.model.specs.Site.{all_sessions, date_of_session}
use Rattle.model.specs.Kinds.{sessions, times}
use Rattle.model.specs.Questions.{stands_on}
use Rattle.model.specs.Words.{leaves, hotel_cells, standings, attend_cells, conf_pairs, lunch_triples, ride_cells, groups}
use Rattle.model.specs.Reading.{at, bit_at, read_state}
use Rattle.model.proofs.Search.{and_left, and_right, and-true, bool_eq, any-true, true-any}
use Rattle.model.proofs.ReadBack.{inside-by}
use Rattle.model.proofs.Sums.{sum-agree}
use Rattle.pool.specs.Pool.{member}
use Rattle.book.specs.Grids.{Laid}
use Rattle.units.specs.Units.{OnDates}
use Rattle.rules.specs.Rows.{row_at, seats_in}
use Rattle.checking.specs.Days.{Met, Day, stands_in}
use Rattle.checking.specs.Kept.{GuestsAt, SessionAt, seats_at, Kept}
use Rattle.checking.proofs.Addresses.{run_of, run_long, day-long}
use Rattle.checking.proofs.Addresses.{leave-at, hotel-at, lunch-at, stand-word, stand-at, attend-at, ride-at, conf-at}
use Rattle.rules.proofs.Parts.{row-long-is}
use Rattle.checking.proofs.Runs.{run-order, run-slot, run-date, run-from, run_inside}
use Rattle.checking.proofs.Slots.{slot-by, by-slot, bit_is}

module _ (S : Settings) (caps b : List ℕ) (laid : Laid S b) (d : ℕ) (h : d < S.dates) {from to first last : ℕ}
    (ss : OnDates S sessions d d from to) (ts : OnDates S times d d first last) where
  -- the seven parts
  abbrev leave : List ℕ
  leave = run_of S b leaves d (d + 1)

  abbrev hotel : List ℕ
  hotel = run_of S b hotel_cells d (d + 1)

  abbrev stand : List ℕ
  stand = run_of S b standings from to

  abbrev attend : List ℕ
  attend = run_of S b attend_cells from to

  abbrev conf : List ℕ
  conf = run_of S b conf_pairs from to

  abbrev lunch : List ℕ
  lunch = run_of S b lunch_triples d (d + 1)

  abbrev ride : List ℕ
  ride = run_of S b ride_cells first last

  leave-bit : (v : ℕ) → v < S.visitors → bit_at S b leaves d v ≡ member leave v
  leave-bit v l = bit_is S b leaves d v leave h (omega arith) (leave-at S b d (v / 32) (omega arith))

  stand-bit : (p m : ℕ) → p < to - from → m < S.meetings → bit_at S b standings (from + p) m ≡ member (row_at (groups S.meetings) p stand) m
  stand-bit p m k l =
      bit_is S b standings (from + p) m (row_at (groups S.meetings) p stand) (run-slot ss p k) (omega arith)
      (stand-at S b from to p (m / 32) k (omega arith))

  -- meeting m stands in some session of the date
  stands_same : (m : ℕ) → m < S.meetings → stands_on (read_state S b) d m ≡ stands_in stand (to - from) (groups S.meetings) m
  unfolding stands_on read_state
  stands_same m l =
      bool_eq (any (λ s. eqb (date_of_session S s) d && bit_at S b standings s m) (all_sessions S)) (any there (to - from))
      (λ e. forth (any-true (λ s. eqb (date_of_session S s) d && bit_at S b standings s m) (all_sessions S) e))
      (λ e. back (any-true there (to - from) e))
    where
      there : ℕ → Bool
      there p = bit (get_or stand (p * groups S.meetings + m / 32) 0) (m % 32)

      word : (p : ℕ) → p < to - from → bit_at S b standings (from + p) m ≡ there p
      word p k = rw (inside-by S standings (from + p) (m / 32) (run-slot ss p k) (omega arith), stand-word S b from to p (m / 32) k (omega arith))

      forth : ((s : ℕ) × (s < all_sessions S) × (eqb (date_of_session S s) d && bit_at S b standings s m ≡ true)) → any there (to - from) ≡ true
      forth w =
          let e : date_of_session S w.0 ≡ d = eqb-true _ _ (and_left (eqb (date_of_session S w.0) d) _ w.2) in
          let k : w.0 - from < to - from = run_inside ss w.0 w.1 e in
          true-any there (to - from) (w.0 - from) k
          (sym (word (w.0 - from) k) ∙ ap (λ (x : ℕ). bit_at S b standings x m) (run-from ss w.0 w.1 e)
          ∙ and_right (eqb (date_of_session S w.0) d) _ w.2)

      back : ((p : ℕ) × (p < to - from) × (there p ≡ true)) → any (λ s. eqb (date_of_session S s) d && bit_at S b standings s m) (all_sessions S) ≡ true
      back w =
          true-any (λ s. eqb (date_of_session S s) d && bit_at S b standings s m) (all_sessions S) (from + w.0) (run-slot ss w.0 w.1)
          (and-true (eq-eqb _ d (run-date ss w.0 w.1)) (word w.0 w.1 ∙ w.2))

  -- lengths
  long-leave : length leave ≡ groups S.visitors
  long-leave = day-long S b laid leaves d h

  long-hotel : length hotel ≡ S.hotels
  long-hotel = day-long S b laid hotel_cells d h

  long-attend : (p : ℕ) → p < to - from → length (row_at S.visitors p attend) ≡ S.visitors
  long-attend p k = row-long-is S.visitors p (to - from) attend k
      (omega (arith, run_long S b laid attend_cells from to (run-order ss) ss.ends.most))

  long-stand : (p : ℕ) → p < to - from → length (row_at (groups S.meetings) p stand) ≡ groups S.meetings
  long-stand p k =
      row-long-is (groups S.meetings) p (to - from) stand k (omega (arith, run_long S b laid standings from to (run-order ss) ss.ends.most))

  long-ride : (i : ℕ) → i < last - first → length (row_at S.transports i ride) ≡ S.transports
  long-ride i k = row-long-is S.transports i (last - first) ride k
      (omega (arith, run_long S b laid ride_cells first last (run-order ts) ts.ends.most))

  -- the first word of a pair and of a triple
  conf-zero : (p j : ℕ) → p < to - from → j < S.rooms → at S b conf_pairs (from + p) j 0 ≡ get_or (row_at (S.rooms * 2) p conf) (j * 2) 0
  conf-zero p j k l = conf-at S b from to p j 0 k l (omega arith) ∙ ap (λ (x : ℕ). get_or (row_at (S.rooms * 2) p conf) x 0) (omega arith)

  lunch-zero : (j : ℕ) → j < S.meetings → at S b lunch_triples d j 0 ≡ get_or lunch (j * 3) 0
  lunch-zero j l = lunch-at S b d j 0 l (omega arith) ∙ ap (λ (x : ℕ). get_or lunch x 0) (omega arith)

  sums_same : (g : ℕ) → sum (seats_at S b d g) S.meetings ≡ sum (seats_in lunch g) S.meetings
  sums_same g =
      sum-agree (seats_at S b d g) (seats_in lunch g) 0 S.meetings
      (λ j _ k. ap₂ (λ (x y : ℕ). cond (eqb x g) y 0) (lunch-zero j (omega arith)) (lunch-at S b d j 1 (omega arith) (omega arith)))

  -- a session
  abbrev MetIn : ℕ → Type 0
  MetIn p = Met (row_at (groups S.meetings) p stand) (row_at S.visitors p attend) (row_at (S.rooms * 2) p conf) leave S.rooms S.meetings

  met-session : (p : ℕ) → p < to - from → MetIn p → SessionAt S b (from + p) d
  met-session p k m =
      let la = long-attend p k in
      let ls = long-stand p k in
      record {
        pad = λ j l. rw (stand-at S b from to p j k l) (m.pad j (omega arith));
        range = λ j l. rw (attend-at S b from to p j k l) (m.range j (omega arith));
        on_leave = λ j l n. leave-bit j l ∙ m.on_leave j (omega arith) (λ z. n (attend-at S b from to p j k l ∙ z));
        attended = λ j u l e.
            let w = sym (attend-at S b from to p j k l) ∙ e in
            stand-bit p u k (omega (arith, w, m.range j (omega arith))) ∙ m.attended j u (omega arith) w;
        within = λ j l. rw (conf-zero p j k l) (m.within j l);
        stands = λ j u l e.
            let w = sym (conf-zero p j k l) ∙ e in
            stand-bit p u k (omega (arith, w, m.within j l)) ∙ m.stands j u l w;
        beside = λ j l e. conf-at S b from to p j 1 k l (omega arith) ∙ m.beside j l (sym (conf-zero p j k l) ∙ e);
      }

  session-met : (p : ℕ) → p < to - from → SessionAt S b (from + p) d → MetIn p
  session-met p k m =
      let la = long-attend p k in
      let ls = long-stand p k in
      record {
        pad = λ j l. rw (stand-at S b from to p j k (omega arith)) at (m.pad j (omega arith));
        range = λ j l. rw (attend-at S b from to p j k (omega arith)) at (m.range j (omega arith));
        on_leave = λ j l n. sym (leave-bit j (omega arith)) ∙ m.on_leave j (omega arith)
            (λ z. n (sym (attend-at S b from to p j k (omega arith)) ∙ z));
        attended = λ j u l e.
            let w = attend-at S b from to p j k (omega arith) ∙ e in
            sym (stand-bit p u k (omega (arith, w, m.range j (omega arith)))) ∙ m.attended j u (omega arith) w;
        within = λ j l. rw (conf-zero p j k l) at (m.within j l);
        stands = λ j u l e.
            let w = conf-zero p j k l ∙ e in
            sym (stand-bit p u k (omega (arith, w, m.within j l))) ∙ m.stands j u l w;
        beside = λ j l e. sym (conf-at S b from to p j 1 k l (omega arith)) ∙ m.beside j l (conf-zero p j k l ∙ e);
      }

  abbrev DayIn : Type 0
  DayIn = Day S (to - from) (last - first) caps leave hotel stand attend conf lunch ride

  pub day-kept : DayIn → Kept S caps b d
  day-kept f = record {
    pad = λ j l. rw (leave-at S b d j l) (f.pad j (omega (arith, long-leave)));
    hotel = slot-by S b hotel_cells S.visitors d d hotel leave long-hotel (hotel-at S b d) leave-bit f.slept;
    ride = λ t l e.
        let i = t - first in
        let k = run_inside ts t l e in
        subst (λ (x : ℕ). GuestsAt S b ride_cells S.visitors x d) (run-from ts t l e)
        (slot-by S b ride_cells S.visitors (first + i) d (row_at S.transports i ride) leave (long-ride i k)
        (λ j m. ride-at S b first last i j k m)
        leave-bit (f.ridden i k));
    session = λ s l e.
        let k = run_inside ss s l e in
        subst (λ (x : ℕ). SessionAt S b x d) (run-from ss s l e) (met-session (s - from) k (f.met (s - from) k));
    lunch = λ j l.
        rw (stands_same j l, lunch-zero j l, lunch-at S b d j 1 l (omega arith), lunch-at S b d j 2 l (omega arith)) (f.eaten j l);
    sums = λ g l. rw (sums_same g) (f.sums g l);
  }

  pub kept-day : Kept S caps b d → DayIn
  kept-day f = record {
    pad = λ j l. rw (leave-at S b d j (omega (arith, long-leave))) at (f.pad j (omega (arith, long-leave)));
    slept = by-slot S b hotel_cells S.visitors d d hotel leave long-hotel (hotel-at S b d) leave-bit f.hotel;
    met = λ p k. session-met p k (f.session (from + p) (run-slot ss p k) (run-date ss p k));
    eaten = λ j l.
        rw (stands_same j l, lunch-zero j l, lunch-at S b d j 1 l (omega arith), lunch-at S b d j 2 l (omega arith)) at (f.lunch j l);
    sums = λ g l. rw (sums_same g) at (f.sums g l);
    ridden = λ i k. by-slot S b ride_cells S.visitors (first + i) d (row_at S.transports i ride) leave (long-ride i k)
        (λ j m. ride-at S b first last i j k m) leave-bit (f.ride (first + i) (run-slot ts i k) (run-date ts i k));
  }

-- The facts of a book's words are the model's cell rules and laws.
-- Assumes nothing.
use Prim.Native.Nat.{ℕ, zero, suc, ◌*◌, ◌^◌, ◌-◌, ◌≤◌, ◌<◌, min}
use mathlib.Core.Path.{◌≡◌, refl, sym, ◌∙◌, ap, subst}
use mathlib.Core.Bool.{Bool, true, false, ◌&&◌, cond}
use Rattle.std.specs.Prelude.{None, Some}
use mathlib.Core.List.{List}
use native.Mathlib.Omega.{arith}
use lib.Dec.{leb, ltb, eqb}
use lib.ListN.{get_or}
use borrow.Author.Tests.{ltb-true, ltb-false, lt-ltb, leb-true, le-leb, eqb-true, eq-eqb, ne_eqb}
use Rattle.model.specs.declared.Settings.{Settings}
use Rattle.model.specs.Bounded.{sum, within}
use Rattle.units.specs.Ranges.{Ranges}
use Rattle.units.proofs.Slots.{date-lt}
use Rattle.model.specs.Site.{all_sessions, all_times, date_of_session, date_of_time, capacity}
use Rattle.model.specs.Kinds.{sessions, times}
use Rattle.model.specs.State.{seats_of, hotels, rides, attends, confs, lunches, reserved}
use Rattle.model.specs.Questions.{stands_on}
use Rattle.model.specs.Words.{Region, leaves, hotel_cells, standings, attend_cells, conf_pairs, lunch_triples, ride_cells, slots, items}
use Rattle.model.specs.Reading.{at, bit_at, holds, read_state}
use Rattle.model.specs.Laws.{each_cell, cells_within, conf_rule, lunch_rule, cell_tests, cell_rules, laws, law, Law}
use Rattle.model.specs.Laws.{Law.one_visitor_a_room, Law.one_room_a_visitor, Law.one_visitor_a_ride, Law.one_ride_a_visitor, Law.one_meeting_a_visitor}
use Rattle.model.specs.Laws.{Law.one_meeting_a_room, Law.one_room_a_lunch}
use Rattle.model.specs.Laws.{Law.attended_stands, Law.conf_stands, Law.lunch_stands, Law.hotel_leave, Law.ride_leave, Law.attend_leave, Law.seats_within}
use Rattle.model.proofs.Search.{conj-by, and_left, and_right, and-true, true-all, within-true, true-within}
use Rattle.model.proofs.ReadBack.{inside-by}
use Rattle.model.proofs.Sums.{sum-agree, sum-empty}
use Rattle.model.proofs.Laws.{Sound, law-by, one_a-by, one_b-by, each-by}
use Rattle.model.proofs.Shown.{CellRules, cell-rules-is, each-cell, some_is}
use Rattle.model.proofs.Sound.{book-sound, held-some}
use Rattle.model.specs.Reading.{settings_of, state_of}
use Rattle.model.specs.Laws.{diary_laid, diary_lawful}
use Rattle.rules.specs.Rows.{Decides, Caps}
use Rattle.checking.specs.Days.{Eaten}
use Rattle.checking.specs.Kept.{GuestsAt, SessionAt, seats_at, Kept}
use Rattle.checking.proofs.Slots.{held, holds_by, within_by, one-a-cell, one-a-row}

module _ (S : Settings) (caps b : List ℕ) (r : Ranges S) (cs : Caps S caps) where
  -- the seats of a lunch in the state, and in the words
  seats-same : (d g m : ℕ) → d < S.dates → m < S.meetings → seats_of ((read_state S b).lunch d g m) ≡ seats_at S b d (suc g) m
  unfolding read_state
  seats-same d g m h l = rw (inside-by S lunch_triples d m h l) (go (eqb (at S b lunch_triples d m 0) (suc g)))
    where
      go : (t : Bool)
          → seats_of (cond t (Some (record { seats = at S b lunch_triples d m 1; info = at S b lunch_triples d m 2 })) None) ≡ cond t
          (at S b lunch_triples d m 1) 0
      go true = refl
      go false = refl

  reserved-is : (d g : ℕ) → d < S.dates → reserved (read_state S b) d g ≡ sum (seats_at S b d (suc g)) S.meetings
  unfolding reserved read_state
  reserved-is d g h =
      sum-agree (λ m. seats_of ((read_state S b).lunch d g m)) (seats_at S b d (suc g)) 0 S.meetings (λ m _ l. seats-same d g m h (omega arith))

  -- facts give the tests
  module _ (f : (d : ℕ) → d < S.dates → Kept S caps b d) where
    fs : (s : ℕ) → s < all_sessions S → SessionAt S b s (date_of_session S s)
    fs s h = (f (date_of_session S s) (date-lt S r sessions s h)).session s h refl

    fr : (t : ℕ) → t < all_times S → GuestsAt S b ride_cells S.visitors t (date_of_time S t)
    fr t h = (f (date_of_time S t) (date-lt S r times t h)).ride t h refl

    each : (g : Region) (p : ℕ → ℕ → Bool) → ((i j : ℕ) → i < slots S g → j < items S g → p i j ≡ true) → each_cell S g p ≡ true
    each g p h = true-all _ (slots S g) (λ i a. true-all (p i) (items S g) (λ j c. h i j a c))

    conf-rule : (i j : ℕ) → i < all_sessions S → j < S.rooms → conf_rule S b i j ≡ true
    conf-rule i j h l = go (eqb (at S b conf_pairs i j 0) 0) refl
      where
        go : (t : Bool) → eqb (at S b conf_pairs i j 0) 0 ≡ t → cond t (eqb (at S b conf_pairs i j 1) 0) true ≡ true
        go true e = eq-eqb _ 0 ((fs i h).beside j l (eqb-true _ 0 e))
        go false e = refl

    lunch-rule : (d j : ℕ) → d < S.dates → j < S.meetings → lunch_rule S b d j ≡ true
    lunch-rule d j h l = go (at S b lunch_triples d j 0) (at S b lunch_triples d j 1) (at S b lunch_triples d j 2) ((f d h).lunch j l)
      where
        go : (w n i : ℕ) → Eaten S.dining caps (stands_on (read_state S b) d j) w n i
            → cond (eqb w 0) (eqb n 0 && eqb i 0) (within 1 (capacity S (w - 1)) n) ≡ true
        go zero n i e = and-true (eq-eqb n 0 (omega (arith, e.fit, cs.none))) (eq-eqb i 0 (e.beside refl))
        go (suc w) n i e =
            let q : eqb (suc w) 0 ≡ false = ne_eqb (suc w) 0 (λ z. omega (arith, z)) in
            let z : suc w - 1 ≡ w = omega arith in
            rw (q, z) (true-within 1 (capacity S w) n (e.some (λ z. omega (arith, z)))
            (omega (arith, e.fit, cs.each w (omega (arith, e.range, r.dining.1)))))

    rules-by : cell_rules S b ≡ true
    unfolding cell_rules
    rules-by =
        conj-by (cell_tests S b) (
          each leaves (λ i j. ltb (at S b leaves i j 0) (2 ^ min 32 (S.visitors - j * 32))) (λ i j h l. lt-ltb _ _ ((f i h).pad j l)),
          (
            within_by S b hotel_cells S.visitors (λ i j h l. (f i h).hotel.range j l),
            (
              each standings (λ i j. ltb (at S b standings i j 0) (2 ^ min 32 (S.meetings - j * 32))) (λ i j h l. lt-ltb _ _ ((fs i h).pad j l)),
              (
                within_by S b attend_cells S.meetings (λ i j h l. (fs i h).range j l),
                (
                  within_by S b conf_pairs S.meetings (λ i j h l. (fs i h).within j l),
                  (
                    each conf_pairs (conf_rule S b) conf-rule,
                    (
                      within_by S b lunch_triples S.dining (λ i j h l. ((f i h).lunch j l).range),
                      (
                        each lunch_triples (lunch_rule S b) lunch-rule,
                        (
                          within_by S b ride_cells S.visitors (λ i j h l. (fr i h).range j l),
                          tt,
                        ),
                      ),
                    ),
                  ),
                ),
              ),
            ),
          ),
        )

    pub laws-by : laws (read_state S b) ≡ true
    unfolding read_state
    laws-by = law-by (read_state S b) go
      where
        go : (l : Law) → law (read_state S b) l ≡ true
        go one_visitor_a_room = one_b-by (read_state S b) hotels (λ i a u v e q. one-a-cell S b hotel_cells i a u v e q)
        go one_room_a_visitor =
            one_a-by (read_state S b) hotels (λ i v j k e q. one-a-row S b hotel_cells S.visitors i i v j k
            (f i (held S b hotel_cells i j v e).slot).hotel e q)
        go one_visitor_a_ride = one_b-by (read_state S b) rides (λ i a u v e q. one-a-cell S b ride_cells i a u v e q)
        go one_ride_a_visitor =
            one_a-by (read_state S b) rides (λ i v j k e q. one-a-row S b ride_cells S.visitors (date_of_time S i) i v j k
            (fr i (held S b ride_cells i j v e).slot) e q)
        go one_meeting_a_visitor = one_a-by (read_state S b) attends (λ i v m n e q. one-a-cell S b attend_cells i v m n e q)
        go one_meeting_a_room =
            one_b-by (read_state S b) confs (λ i c m n e q. one-a-cell S b conf_pairs i c m n (held-some (holds S b conf_pairs i c m) _ e)
            (held-some (holds S b conf_pairs i c n) _ q))
        go one_room_a_lunch =
            one_a-by (read_state S b) lunches (λ d m g n e q. one-a-cell S b lunch_triples d m g n (held-some (holds S b lunch_triples d m g) _ e)
            (held-some (holds S b lunch_triples d m n) _ q))
        go attended_stands =
            each-by (read_state S b) attends (λ s m v. bit_at S b standings s m)
            (λ s m v e. let h = held S b attend_cells s v m e in (fs s h.slot).attended v m h.item h.word)
        go conf_stands =
            each-by (read_state S b) confs (λ s c m. bit_at S b standings s m)
            (λ s c m e. let h = held S b conf_pairs s c m (held-some (holds S b conf_pairs s c m) _ e) in (fs s h.slot).stands c m h.item
            h.word)
        go lunch_stands =
            each-by (read_state S b) lunches (λ d g m. stands_on (read_state S b) d m)
            (λ d g m e. let h = held S b lunch_triples d m g (held-some (holds S b lunch_triples d m g) _ e) in ((f d h.slot).lunch m
            h.item).stood (λ z. omega (arith, z, h.word)))
        go hotel_leave =
            each-by (read_state S b) hotels (λ i a v. bit_at S b leaves i v)
            (λ i a v e. let h = held S b hotel_cells i a v e in (f i h.slot).hotel.on_leave a v h.item h.word)
        go ride_leave =
            each-by (read_state S b) rides (λ i a v. bit_at S b leaves (date_of_time S i) v)
            (λ i a v e. let h = held S b ride_cells i a v e in (fr i h.slot).on_leave a v h.item h.word)
        go attend_leave =
            each-by (read_state S b) attends (λ s m v. bit_at S b leaves (date_of_session S s) v)
            (λ s m v e. let h = held S b attend_cells s v m e in (fs s h.slot).on_leave v h.item (λ z. omega (arith, z, h.word)))
        go seats_within =
            true-all _ S.dates (λ d h. true-all (λ g. leb (reserved (read_state S b) d g) (capacity S g)) S.dining
            (λ g l. le-leb (reserved (read_state S b) d g) (capacity S g)
            (omega (arith, reserved-is d g h, (f d h).sums (suc g) (omega (arith, r.dining.1)), cs.each g (omega (arith, r.dining.1))))))

    pub lawful-by : cell_rules S b && laws (read_state S b) ≡ true
    lawful-by = and-true rules-by laws-by

  -- a sound state that keeps the cell rules gives the facts
  module _ (s : Sound (read_state S b)) (rules : CellRules S b) where
    range-is : (g : Region) (n : ℕ) → cells_within S b g n ≡ true → (i j : ℕ) → i < slots S g → j < items S g → at S b g i j 0 ≤ n
    range-is g n e i j h l = leb-true _ n (each-cell S g (λ i j. leb (at S b g i j 0) n) e i j h l)

    once_is : (g : Region) (i : ℕ) → i < slots S g → ((v j k : ℕ) → holds S b g i j v ≡ true → holds S b g i k v ≡ true → j ≡ k)
        → (j k : ℕ) → j < k → k < items S g → at S b g i j 0 ≡ at S b g i k 0 → at S b g i j 0 ≡ 0
    once_is g i h one j k l m e = go (at S b g i j 0) refl
      where
        go : (w : ℕ) → at S b g i j 0 ≡ w → at S b g i j 0 ≡ 0
        go zero q = q
        go (suc v) q = absurd (omega (arith, one v j k (holds_by S b g i j v h (omega arith) q) (holds_by S b g i k v h m (sym e ∙ q))))

    hotel-is : (d : ℕ) → d < S.dates → GuestsAt S b hotel_cells S.visitors d d
    unfolding read_state
    hotel-is d h = record {
      range = λ j l. range-is hotel_cells S.visitors rules.hotel-cells d j h l;
      on_leave = λ j v l e. s.guests hotels refl d j v (holds_by S b hotel_cells d j v h l e);
      once = once_is hotel_cells d h (λ v j k e q. s.one_a hotels refl d v j k e q);
    }

    ride-is : (t : ℕ) → t < all_times S → GuestsAt S b ride_cells S.visitors t (date_of_time S t)
    unfolding read_state
    ride-is t h = record {
      range = λ j l. range-is ride_cells S.visitors rules.ride-cells t j h l;
      on_leave = λ j v l e. s.guests rides refl t j v (holds_by S b ride_cells t j v h l e);
      once = once_is ride_cells t h (λ v j k e z. s.one_a rides refl t v j k e z);
    }

    session-is : (i : ℕ) → i < all_sessions S → SessionAt S b i (date_of_session S i)
    unfolding read_state
    session-is i h = record {
      pad = λ j l.
          ltb-true _ _ (each-cell S standings (λ i j. ltb (at S b standings i j 0) (2 ^ min 32 (S.meetings - j * 32)))
          rules.standing-bits i j h l);
      range = λ j l. range-is attend_cells S.meetings rules.attend-cells i j h l;
      on_leave = λ j l n.
          let w : at S b attend_cells i j 0 ≡ suc (at S b attend_cells i j 0 - 1) = omega (arith, n) in
          s.guests attends refl i (at S b attend_cells i j 0 - 1) j (holds_by S b attend_cells i j _ h l w);
      attended = λ j m l e. s.attended i m j (holds_by S b attend_cells i j m h l e);
      within = λ j l. range-is conf_pairs S.meetings rules.conf-cells i j h l;
      stands = λ j m l e. s.held i j m (some_is (holds S b conf_pairs i j m) _ ∙ holds_by S b conf_pairs i j m h l e);
      beside = λ j l e. eqb-true _ 0 (rw (eq-eqb _ 0 e) at (each-cell S conf_pairs (conf_rule S b) rules.conf-beside i j h l));
    }

    lunch-is : (d j : ℕ) → d < S.dates → j < S.meetings
        → Eaten S.dining caps (stands_on (read_state S b) d j) (at S b lunch_triples d j 0) (at S b lunch_triples d j 1) (at S b lunch_triples d j 2)
    unfolding read_state
    lunch-is d j h l =
        go (at S b lunch_triples d j 0) (at S b lunch_triples d j 1) (at S b lunch_triples d j 2) refl
        (range-is lunch_triples S.dining rules.lunch-cells d j h l)
        (each-cell S lunch_triples (lunch_rule S b) rules.lunch-beside d j h l)
      where
        go : (w n i : ℕ) → at S b lunch_triples d j 0 ≡ w → w ≤ S.dining
            → cond (eqb w 0) (eqb n 0 && eqb i 0) (within 1 (capacity S (w - 1)) n) ≡ true
            → Eaten S.dining caps (stands_on (read_state S b) d j) w n i
        go zero n i q a e =
            let z : n ≡ 0 = eqb-true n 0 (and_left (eqb n 0) (eqb i 0) e) in
            record {
              range =
                  a;
              fit =
                  omega arith;
              some =
                  λ x. absurd (x refl);
              stood = λ x. absurd (x refl);
              beside = λ _. eqb-true i 0 (and_right (eqb n 0) (eqb i 0) e);
            }
        go (suc w) n i q a e =
            let z : suc w - 1 ≡ w = omega arith in
            let no : eqb (suc w) 0 ≡ false = ne_eqb (suc w) 0 (λ y. omega (arith, y)) in
            let t : within 1 (capacity S w) n ≡ true = rw (no, z) at e in
            let u = within-true 1 (capacity S w) n t in
            record {
              range = a;
              fit = omega (arith, u.1, cs.each w (omega (arith, r.dining.1)));
              some = λ _. u.0;
              stood = λ _. s.lunched d w j (some_is (holds S b lunch_triples d j w) _ ∙ holds_by S b lunch_triples d j w h l q);
              beside = λ y. absurd (omega (arith, y));
            }

    room : (d g : ℕ) → d < S.dates → g < S.dining → reserved (read_state S b) d g ≤ capacity S g
    unfolding read_state
    room d g h k = s.reserve d g h k

    sums-is : (d g : ℕ) → d < S.dates → g < 17 → sum (seats_at S b d g) S.meetings ≤ get_or caps g 0
    sums-is d zero h l =
        omega (
          arith,
          sum-empty (seats_at S b d 0) 0 S.meetings
              (λ j _ k. go j (lunch-is d j h (omega arith)) (eqb (at S b lunch_triples d j 0) 0) refl),
        )
      where
        go : (j : ℕ)
            → Eaten S.dining caps (stands_on (read_state S b) d j) (at S b lunch_triples d j 0) (at S b lunch_triples d j 1)
            (at S b lunch_triples d j 2)
            → (t : Bool) → eqb (at S b lunch_triples d j 0) 0 ≡ t → cond t (at S b lunch_triples d j 1) 0 ≡ 0
        go j e true q =
            let z : at S b lunch_triples d j 0 ≡ 0 = eqb-true (at S b lunch_triples d j 0) 0 q in
            let c : get_or caps (at S b lunch_triples d j 0) 0 ≡ get_or caps 0 0 = ap (λ (x : ℕ). get_or caps x 0) z in
            omega (arith, e.fit, c, cs.none)
        go j e false q = refl
    sums-is d (suc g) h l = go (ltb g S.dining) refl
      where
        out : (j : ℕ) → S.dining ≤ g → at S b lunch_triples d j 0 ≤ S.dining → seats_at S b d (suc g) j ≡ 0
        out j a c = rw (ne_eqb (at S b lunch_triples d j 0) (suc g) (λ q. omega (arith, q)))

        go : (t : Bool) → ltb g S.dining ≡ t → sum (seats_at S b d (suc g)) S.meetings ≤ get_or caps (suc g) 0
        go true q =
            let k : g < S.dining = ltb-true g S.dining q in
            omega (arith, reserved-is d g h, room d g h k, cs.each g (omega arith))
        go false q =
            omega (
              arith,
              sum-empty (seats_at S b d (suc g)) 0 S.meetings
                  (λ j _ k. out j (ltb-false g S.dining q) (range-is lunch_triples S.dining rules.lunch-cells d j h (omega arith))),
            )

    pub kept-is : (d : ℕ) → d < S.dates → Kept S caps b d
    kept-is d h = record {
      pad = λ j l.
          ltb-true _ _ (each-cell S leaves (λ i j. ltb (at S b leaves i j 0) (2 ^ min 32 (S.visitors - j * 32))) rules.leave-bits d j h l);
      hotel = hotel-is d h;
      ride = λ t l e. subst (λ (x : ℕ). GuestsAt S b ride_cells S.visitors t x) e (ride-is t l);
      session = λ i l e. subst (λ (x : ℕ). SessionAt S b i x) e (session-is i l);
      lunch = λ j l. lunch-is d j h l;
      sums = λ g l. sums-is d g h l;
    }

rules-of : (b : List ℕ) → diary_lawful b ≡ true → CellRules (settings_of b) b
unfolding diary_lawful
rules-of b q = cell-rules-is (settings_of b) b (and_left (cell_rules (settings_of b) b) _ q)

-- question 2
pub lawful-said : (b caps : List ℕ) → diary_laid b ≡ true → (S : Settings) → S ≡ settings_of b → Ranges S → Caps S caps
    → (answer : Bool) → Decides answer ((d : ℕ) → d < S.dates → Kept S caps b d) → answer ≡ diary_lawful b
unfolding diary_lawful state_of
lawful-said b caps q1 S e r cs true k = sym (ap (λ (T : Settings). cell_rules T b && laws (read_state T b)) (sym e) ∙ lawful-by S caps b r cs k)
lawful-said b caps q1 S e r cs false k = go (diary_lawful b) refl
  where
    go : (t : Bool) → diary_lawful b ≡ t → false ≡ diary_lawful b
    go false q = sym q
    go true q =
        absurd (k (subst (λ (T : Settings). Caps T caps → Ranges T → (d : ℕ) → d < T.dates → Kept T caps b d) (sym e)
        (λ k h. kept-is (settings_of b) caps b h k (book-sound b q1 q) (rules-of b q)) cs r))

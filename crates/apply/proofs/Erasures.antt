-- The kinds that set or clear a member's bit, and those that erase a word from rows of cells: after each write the book has the
-- words of the state with one set replaced.
-- Assumes nothing.
use Prim.Native.Nat.{ℕ, zero, suc, ◌+◌, ◌≤◌, ◌<◌}
use mathlib.Core.Path.{◌≡◌, refl, sym, ◌∙◌, ap, ap₂}
use mathlib.Core.Bool.{Bool, true, false, not, ◌&&◌, cond, and-false, and-true as and_one}
use Rattle.std.specs.Prelude.{Option, None}
use mathlib.Core.List.{List, ◌++◌}
use native.Mathlib.Omega.{arith}
use lib.Dec.{leb, ltb, eqb}
use borrow.Author.Tests.{ltb-true}
use Rattle.model.specs.declared.Settings.{Settings}
use Rattle.model.specs.declared.Request.{Request}
use Rattle.model.specs.Bounded.{lowest, found, is_some, within}
use Rattle.model.specs.Site.{date_of_session, date_of_time}
use Rattle.model.specs.State.{State, Lunch, seats_of, hotels, rides, attends, confs}
use Rattle.model.specs.Kinds.{sessions, times, Kind.add_leave, Kind.end_leave, Kind.add_standing, Kind.end_standing, Kind.erase_conf}
use Rattle.model.specs.Kinds.{Kind.erase_conf_and_lunch}
use Rattle.model.specs.Questions.{test, always, further, Question.a_below, Question.b_below}
use Rattle.model.specs.Machine.{change, slot, minus, with_leave, with_standing, with_hotel, with_ride, with_attend, with_conf, with_lunch}
use Rattle.model.specs.Words.{Region, leaves, hotel_cells, standings, attend_cells, conf_pairs, lunch_triples, ride_cells, slots, word, cell, info_of}
use Rattle.model.specs.Words.{lunch_info}
use Rattle.model.proofs.Laws.{Sound}
use Rattle.model.proofs.Places.{Cell}
use Rattle.model.proofs.Keeps.{Yes, said, yes, slots-fit}
use Rattle.book.specs.Grids.{grid_of}
use Rattle.book.proofs.Regions.{group-lt}
use Rattle.units.proofs.Slots.{date-lt}
use Rattle.book.proofs.Goods.{ranges-by}
use Rattle.book.specs.Stores.{word_in, empty, swept}
use Rattle.apply.specs.Removals.{without}
use Rattle.apply.specs.Stores.{filled, marked_all}
use Rattle.units.specs.Units.{OnDates}
use Rattle.apply.proofs.Writes.{empty-word}
use Rattle.apply.proofs.Stages.{Frame, Carries, column, rows, bits, up_to, in-slots, last-slot}
use Rattle.apply.proofs.Contents.{emptied, swept_of, some-less, less-same, turned, turned-bits}
use Rattle.apply.proofs.Frames.{leave-frame, standing-frame, hotel-frame, ride-frame, attend-frame, conf-frame, lunch-frame}

-- one write in the slots with the test t, those from `from` to before `to`
module _ {S : Settings} (x : State) {b : List ℕ} (a : Carries S x b) (t : ℕ → Bool) (from to : ℕ) where
  -- the bit of a member
  leave-bits : (on : Bool) (v : ℕ) → v < S.visitors → to ≤ S.dates → ((i : ℕ) → i < S.dates → t i ≡ leb from i && ltb i to)
      → Carries S (with_leave x (λ d u. turned on (x.leave d u) (t d && eqb u v))) (marked_all (grid_of S leaves) on v from to b)
  unfolding word
  leave-bits on v h most agree =
      bits a leaves t from to most agree (with_leave x (λ d u. turned on (x.leave d u) (t d && eqb u v))) (leave-frame x (λ d u. turned on (x.leave d u) (t d && eqb u v))) refl on v
      (group-lt S.visitors v h)
      (λ i j k c. turned-bits on (x.leave i) (t i) v j)

  standing-bits : (on : Bool) (m : ℕ) → m < S.meetings → to ≤ slots S standings → ((i : ℕ) → i < slots S standings → t i ≡ leb from i && ltb i to)
      → Carries S (with_standing x (λ i u. turned on (x.standing i u) (t i && eqb u m))) (marked_all (grid_of S standings) on m from to b)
  unfolding word
  standing-bits on m h most agree =
      bits a standings t from to most agree (with_standing x (λ i u. turned on (x.standing i u) (t i && eqb u m))) (standing-frame x (λ i u. turned on (x.standing i u) (t i && eqb u m))) refl on m
      (group-lt S.meetings m h)
      (λ i j k c. turned-bits on (x.standing i) (t i) m j)

  -- rows of cells of one word lose the entry v: p before, q after
  module _ (g : Region) (p q : ℕ → ℕ → ℕ → Bool) (n v : ℕ) (z : State) (frame : Frame g x z)
      (most : to ≤ slots S g) (agree : (i : ℕ) → i < slots S g → t i ≡ leb from i && ltb i to)
      (before : (i j m : ℕ) → word x g i j m ≡ cell (p i j) n) (after : (i j m : ℕ) → word z g i j m ≡ cell (q i j) n)
      (is : (i j u : ℕ) → q i j u ≡ p i j u && not (t i && eqb u v)) (one : (i j u w : ℕ) → p i j u ≡ true → p i j w ≡ true → u ≡ w) where
    cell-rows : Carries S z (swept (grid_of S g) (v + 1) from to b)
    cell-rows =
        rows a g t from to most agree z frame (v + 1)
        (λ i j k c. after i j k
        ∙ swept_of (p i j) (q i j) n suc suc (t i) v (is i j) (λ u _. refl) (one i j)
        ∙ ap₂ (λ (m o : ℕ). cond (t i) (cond (eqb m (v + 1)) 0 o) o) (sym (before i j 0)) (sym (before i j k)))

  hotel-rows : (v : ℕ) → to ≤ S.dates → ((i : ℕ) → i < S.dates → t i ≡ leb from i && ltb i to)
      → ((i j u w : ℕ) → x.hotel i j u ≡ true → x.hotel i j w ≡ true → u ≡ w)
      → Carries S (with_hotel x (λ d h u. minus (x.hotel d h u) (t d && eqb u v))) (swept (grid_of S hotel_cells) (v + 1) from to b)
  unfolding word
  hotel-rows v most agree one =
      cell-rows hotel_cells x.hotel (λ d h u. minus (x.hotel d h u) (t d && eqb u v)) x.settings.visitors v _ (hotel-frame x _) most agree
      (λ i j m. refl) (λ i j m. refl) (λ i j u. refl) one

  ride-rows : (v : ℕ) → to ≤ slots S ride_cells → ((i : ℕ) → i < slots S ride_cells → t i ≡ leb from i && ltb i to)
      → ((i j u w : ℕ) → x.ride i j u ≡ true → x.ride i j w ≡ true → u ≡ w)
      → Carries S (with_ride x (λ i k u. minus (x.ride i k u) (t i && eqb u v))) (swept (grid_of S ride_cells) (v + 1) from to b)
  unfolding word
  ride-rows v most agree one =
      cell-rows ride_cells x.ride (λ i k u. minus (x.ride i k u) (t i && eqb u v)) x.settings.visitors v _ (ride-frame x _) most agree
      (λ i j m. refl) (λ i j m. refl) (λ i j u. refl) one

  attend-rows : (m : ℕ) → to ≤ slots S attend_cells → ((i : ℕ) → i < slots S attend_cells → t i ≡ leb from i && ltb i to)
      → ((i v u w : ℕ) → x.attend i u v ≡ true → x.attend i w v ≡ true → u ≡ w)
      → Carries S (with_attend x (λ i u v. minus (x.attend i u v) (t i && eqb u m))) (swept (grid_of S attend_cells) (m + 1) from to b)
  unfolding word
  attend-rows m most agree one =
      cell-rows attend_cells (λ i v u. x.attend i u v) (λ i v u. minus (x.attend i u v) (t i && eqb u m)) x.settings.meetings m _
      (attend-frame x _) most agree
      (λ i j m. refl) (λ i j m. refl) (λ i j u. refl) one

  conf-rows : (m : ℕ) → to ≤ slots S conf_pairs → ((i : ℕ) → i < slots S conf_pairs → t i ≡ leb from i && ltb i to)
      → ((i c u w : ℕ) → is_some (x.conf i c u) ≡ true → is_some (x.conf i c w) ≡ true → u ≡ w)
      → Carries S (with_conf x (λ i c u. cond (t i && eqb u m) None (x.conf i c u))) (swept (grid_of S conf_pairs) (m + 1) from to b)
  unfolding word
  conf-rows m most agree one =
      rows a conf_pairs t from to most agree (with_conf x C) (conf-frame x C) (m + 1) here
    where
      C : ℕ → ℕ → ℕ → Option ℕ
      C i c u = cond (t i && eqb u m) None (x.conf i c u)

      here : (i j k : ℕ) → Cell S conf_pairs i j k
          → word (with_conf x C) conf_pairs i j k
          ≡ cond (t i) (cond (eqb (word x conf_pairs i j 0) (m + 1)) 0 (word x conf_pairs i j k)) (word x conf_pairs i j k)
      here i j zero c =
          swept_of (λ u. is_some (x.conf i j u)) (λ u. is_some (C i j u)) x.settings.meetings suc suc (t i) m
          (λ u. some-less (t i && eqb u m) (x.conf i j u)) (λ u _. refl) (one i j)
      here i j (suc zero) c =
          swept_of (λ u. is_some (x.conf i j u)) (λ u. is_some (C i j u)) x.settings.meetings (λ u. info_of (x.conf i j u))
          (λ u. info_of (C i j u)) (t i) m
          (λ u. some-less (t i && eqb u m) (x.conf i j u)) (λ u e. ap info_of (less-same (t i && eqb u m) (x.conf i j u) e)) (one i j)
      here i j (suc (suc k)) c = absurd (omega (arith, c.word))

  -- every entry of one item goes
  attend-column : (v : ℕ) → v < S.visitors → to ≤ slots S attend_cells → ((i : ℕ) → i < slots S attend_cells → t i ≡ leb from i && ltb i to)
      → Carries S (with_attend x (λ i m u. minus (x.attend i m u) (t i && eqb u v))) (filled (grid_of S attend_cells) v empty from to b)
  unfolding word
  attend-column v h most agree =
      column a attend_cells t from to most agree (with_attend x (λ i m u. minus (x.attend i m u) (t i && eqb u v))) (attend-frame x _) v empty h
      (λ i j k c.
      emptied (λ m. x.attend i m j) (λ m. minus (x.attend i m j) (t i && eqb j v)) x.settings.meetings suc suc (t i && eqb j v)
      (λ e m. rw e (and-false (x.attend i m j))) (λ e m. rw e (and_one (x.attend i m j))) (λ _ m. refl)
      ∙ ap (λ (w : ℕ). cond (t i && eqb j v) w (cell (λ m. x.attend i m j) x.settings.meetings)) (sym (empty-word k)))

  lunch-column : (m : ℕ) → m < S.meetings → to ≤ S.dates → ((i : ℕ) → i < S.dates → t i ≡ leb from i && ltb i to)
      → Carries S (with_lunch x (λ d g u. cond (t d && eqb u m) None (x.lunch d g u))) (filled (grid_of S lunch_triples) m empty from to b)
  unfolding word
  lunch-column m h most agree = column a lunch_triples t from to most agree (with_lunch x U) (lunch-frame x U) m empty h here
    where
      U : ℕ → ℕ → ℕ → Option Lunch
      U d g u = cond (t d && eqb u m) None (x.lunch d g u)

      by : (i j : ℕ) (f h : ℕ → ℕ) → (t i && eqb j m ≡ false → (g : ℕ) → h g ≡ f g)
          → found (lowest (λ g. is_some (U i g j)) 0 x.settings.dining) h
          ≡ cond (t i && eqb j m) 0 (found (lowest (λ g. is_some (x.lunch i g j)) 0 x.settings.dining) f)
      by i j f h off =
          emptied (λ g. is_some (x.lunch i g j)) (λ g. is_some (U i g j)) x.settings.dining f h (t i && eqb j m) (λ e g. rw e) (λ e g. rw e) off

      here : (i j k : ℕ) → Cell S lunch_triples i j k
          → word (with_lunch x U) lunch_triples i j k ≡ cond (t i && eqb j m) (word_in empty k) (word x lunch_triples i j k)
      here i j zero c = by i j suc suc (λ _ g. refl)
      here i j (suc zero) c = by i j (λ g. seats_of (x.lunch i g j)) (λ g. seats_of (U i g j)) (λ e g. rw e)
      here i j (suc (suc zero)) c = by i j (λ g. lunch_info (x.lunch i g j)) (λ g. lunch_info (U i g j)) (λ e g. rw e)
      here i j (suc (suc (suc k))) c = absurd (omega (arith, c.word))

-- ---- the kinds

module _ (x : State) (s : Sound x) (r : Request) (b : List ℕ) (a : Carries x.settings x b) where
  abbrev S : Settings
  S = x.settings

  -- kinds 1, 2 and 8
  pub write-add_leave : Yes x r add_leave (always ++ further add_leave)
      → Carries S (change x r add_leave) (marked_all (grid_of S leaves) true r.b r.first (r.last + 1) b)
  unfolding change test
  write-add_leave y =
      leave-bits x a (slot r) r.first (r.last + 1) true r.b (ltb-true _ _ (yes x r add_leave b_below refl (said x r add_leave 6 y)))
      (last-slot x r add_leave y) (λ i _. in-slots r i)

  pub write-end_leave : Yes x r end_leave (always ++ further end_leave)
      → Carries S (change x r end_leave) (marked_all (grid_of S leaves) false r.b r.first (r.last + 1) b)
  unfolding change test
  write-end_leave y =
      leave-bits x a (slot r) r.first (r.last + 1) false r.b (ltb-true _ _ (yes x r end_leave b_below refl (said x r end_leave 6 y)))
      (last-slot x r end_leave y) (λ i _. in-slots r i)

  pub write-add_standing : Yes x r add_standing (always ++ further add_standing)
      → Carries S (change x r add_standing) (marked_all (grid_of S standings) true r.a r.first (r.last + 1) b)
  unfolding change test
  write-add_standing y =
      standing-bits x a (slot r) r.first (r.last + 1) true r.a (ltb-true _ _ (yes x r add_standing a_below refl (said x r add_standing 5 y)))
      (last-slot x r add_standing y) (λ i _. in-slots r i)

  -- kind 9: the standing, then the meeting's entries in the attend rows
  pub write-end_standing : Yes x r end_standing (always ++ further end_standing)
      → Carries S (change x r end_standing) (swept (grid_of S attend_cells) (r.a + 1) r.first (r.last + 1)
      (marked_all (grid_of S standings) false r.a r.first (r.last + 1) b))
  unfolding change test
  write-end_standing y =
      attend-rows (with_standing x _)
      (standing-bits x a (slot r) r.first (r.last + 1) false r.a (ltb-true _ _ (yes x r end_standing a_below refl (said x r end_standing 5 y)))
      (last-slot x r end_standing y) (λ i _. in-slots r i))
      (slot r) r.first (r.last + 1) r.a (last-slot x r end_standing y) (λ i _. in-slots r i) (s.one_a attends refl)

  -- kind 13
  pub write-erase_conf : Yes x r erase_conf (always ++ further erase_conf)
      → Carries S (change x r erase_conf) (swept (grid_of S conf_pairs) (r.b + 1) r.first (r.last + 1) b)
  unfolding change
  write-erase_conf y = conf-rows x a (slot r) r.first (r.last + 1) r.b (last-slot x r erase_conf y) (λ i _. in-slots r i) (s.one_b confs refl)

  -- kind 16: the same, then the meeting's lunches on the dates from first's to last's
  pub write-erase_conf_and_lunch : Yes x r erase_conf_and_lunch (always ++ further erase_conf_and_lunch)
      → Carries S (change x r erase_conf_and_lunch)
      (filled (grid_of S lunch_triples) r.b empty (date_of_session S r.first) (date_of_session S r.last + 1)
      (swept (grid_of S conf_pairs) (r.b + 1) r.first (r.last + 1) b))
  unfolding change test
  write-erase_conf_and_lunch y =
      lunch-column (with_conf x _)
      (conf-rows x a (slot r) r.first (r.last + 1) r.b (last-slot x r erase_conf_and_lunch y) (λ i _. in-slots r i) (s.one_b confs refl))
      (within (date_of_session S r.first) (date_of_session S r.last)) (date_of_session S r.first) (date_of_session S r.last + 1) r.b
      (ltb-true _ _ (yes x r erase_conf_and_lunch b_below refl (said x r erase_conf_and_lunch 6 y))) last-date
      (λ i _. up_to (date_of_session S r.first) (date_of_session S r.last) i)
    where
      last-date : date_of_session S r.last + 1 ≤ S.dates
      last-date =
          let l = (slots-fit x r erase_conf_and_lunch (said x r erase_conf_and_lunch 7 y)).1 in
          omega (arith, date-lt S (ranges-by S s.valid) sessions r.last l)

-- kind 3: leave, hotel rows of the dates, ride rows of the times and the attend column of the sessions on those dates
module _ (x : State) (s : Sound x) (b : List ℕ) (a : Carries x.settings x b) (v first last : ℕ) (hv : v < x.settings.visitors)
    (hd : last + 1 ≤ x.settings.dates) where
  pub write-removal : (lo hi from to : ℕ) → OnDates x.settings times first last lo hi → OnDates x.settings sessions first last from to
      → Carries x.settings (without x v first last)
      (filled (grid_of x.settings attend_cells) v empty from to
      (swept (grid_of x.settings ride_cells) (v + 1) lo hi
      (swept (grid_of x.settings hotel_cells) (v + 1) first (last + 1)
      (marked_all (grid_of x.settings leaves) false v first (last + 1) b))))
  unfolding change
  write-removal lo hi from to rode met =
      attend-column (with_ride (with_hotel (with_leave x _) _) _)
      (ride-rows (with_hotel (with_leave x _) _)
      (hotel-rows (with_leave x _)
      (leave-bits x a (within first last) first (last + 1) false v hv hd (λ i _. up_to first last i))
      (within first last) first (last + 1) v hd (λ i _. up_to first last i) (s.one_b hotels refl))
      (λ i. within first last (date_of_time x.settings i)) lo hi v rode.ends.most rode.exactly
      (s.one_b rides refl))
      (λ i. within first last (date_of_session x.settings i)) from to v hv met.ends.most met.exactly

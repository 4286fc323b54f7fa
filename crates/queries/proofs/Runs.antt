-- Counts over the slots of a run of dates, and the members of a date.
-- Assumes nothing.
use Prim.Native.Nat.{ℕ, suc, ◌+◌, ◌*◌, ◌/◌, ◌%◌, ◌-◌, ◌≤◌, ◌<◌}
use mathlib.Core.Path.{◌≡◌, refl, sym, ◌∙◌, ap}
use mathlib.Core.Bool.{Bool, true, false, not, ◌&&◌}
use mathlib.Core.List.{List}
use native.Mathlib.Omega.{arith}
use lib.Dec.{leb, ltb, eqb}
use borrow.Author.Tests.{le-leb, lt-ltb, lt-leb, le-ltb, leb-true, leb-false, ltb-true}
use Rattle.model.specs.declared.Settings.{Settings}
use Rattle.model.specs.Bounded.{bit, one, sum_from, count, count2, within}
use Rattle.model.specs.Kinds.{Unit, sessions, times}
use Rattle.model.specs.Site.{all_sessions, all_times, date_of_session, date_of_time}
use Rattle.model.specs.State.{State, hotels, rides, attends, booked}
use Rattle.model.specs.Questions.{bookings}
use Rattle.model.specs.Words.{leaves, hotel_cells, attend_cells, ride_cells, groups}
use Rattle.model.specs.Reading.{state_of, read_state}
use Rattle.model.proofs.Search.{bool_eq, and-true}
use Rattle.model.proofs.Sums.{sum-last, sum-agree, sum-empty}
use Rattle.book.specs.Grids.{cell_at, grid_of}
use Rattle.book.specs.Rows.{row_count, rows_count, row_members}
use Rattle.book.specs.Good.{Good}
use Rattle.units.specs.Units.{OnDates}
use Rattle.book.proofs.Counts.{sum-part, count_same}
use Rattle.book.proofs.RowRuns.{one-row}
use Rattle.book.proofs.Entries.{booked-eqb}
use Rattle.book.proofs.Goods.{good-state, good-sound, good-cell}
use Rattle.pool.proofs.Counts.{count-upto}
use Rattle.queries.specs.Shown.{column_count}
use Rattle.queries.proofs.Shows.{leave-bit, count-cell}

-- one more term of a sum from lo on
pub sum-next : (f : ℕ → ℕ) (lo i : ℕ) → lo ≤ i → sum_from f lo (i + 1 - lo) ≡ sum_from f lo (i - lo) + f i
sum-next f lo i h =
    let e : i + 1 - lo ≡ suc (i - lo) = omega arith in
    let k : lo + (i - lo) ≡ i = omega arith in
    ap (sum_from f lo) e ∙ sum-last f lo (i - lo) ∙ ap (λ (j : ℕ). sum_from f lo (i - lo) + f j) k

pub sum-start : (f : ℕ → ℕ) (lo : ℕ) → 0 ≡ sum_from f lo (lo - lo)
sum-start f lo = let e : lo - lo ≡ 0 = omega arith in sym (ap (sum_from f lo) e)

-- a count of pairs whose first part lies in a run
module _ (t : ℕ → Bool) (q : ℕ → ℕ → Bool) (f : ℕ → ℕ) (lo hi n m : ℕ) (l : lo ≤ hi) (h : hi ≤ n)
    (in-run : (i : ℕ) → i < n → t i ≡ leb lo i && ltb i hi) (each : (i : ℕ) → i < n → count (q i) m ≡ f i) where
  outside : (i : ℕ) → t i ≡ false → count (λ j. t i && q i j) m ≡ 0
  outside i e = sum-empty (λ j. one (t i && q i j)) 0 m (λ j a b. ap (λ (b : Bool). one (b && q i j)) e)

  inside : (i : ℕ) → i < n → t i ≡ true → count (λ j. t i && q i j) m ≡ f i
  inside i k e = count_same (λ j. t i && q i j) (q i) m (λ j b. ap (λ (b : Bool). b && q i j) e) ∙ each i k

  pub count-run : count2 (λ i j. t i && q i j) n m ≡ sum_from f lo (hi - lo)
  count-run =
      sum-part (λ i. count (λ j. t i && q i j) m) lo hi n l h
      (λ i k. outside i (in-run i (omega arith) ∙ ap (λ (b : Bool). b && ltb i hi) (lt-leb lo i k)))
      (λ i k g. outside i (in-run i g ∙ off i k))
      ∙ sum-agree (λ i. count (λ j. t i && q i j) m) f lo (hi - lo)
      (λ i k g. inside i (omega arith) (in-run i (omega arith) ∙ and-true (le-leb lo i k) (lt-ltb i hi (omega arith))))
    where
      off : (i : ℕ) → hi ≤ i → leb lo i && ltb i hi ≡ false
      off i k = rw (le-leb lo i (omega arith), le-ltb i hi k)

-- the slots of a run of dates begin no later than they end
pub run-order : (S : Settings) (u : Unit) (first last from to : ℕ) → OnDates S u first last from to → first ≤ last → from ≤ to
run-order S u first last from to r h = go (leb from to) refl
  where
    go : (t : Bool) → leb from to ≡ t → from ≤ to
    go true q = leb-true from to q
    go false q =
        let l : to < from = leb-false from to q in
        absurd (omega (arith, r.begins.before to l, r.ends.after to (omega arith) (omega (arith, r.begins.most)), h))

-- the bookings of a visitor on a date, by its times and sessions
module _ (S : Settings) (b : List ℕ) (good : Good S b) (v d : ℕ) (hv : v < S.visitors) (hd : d < S.dates) where
  abbrev x : State
  x = read_state S b

  nights : count2 (λ i r. within d d i && x.hotel i r v) S.dates S.hotels ≡ row_count (grid_of S hotel_cells) b d (v + 1)
  unfolding rows_count row_count
  nights =
      count-run (within d d) (λ i r. booked x hotels i r v) (λ i. row_count (grid_of S hotel_cells) b i (v + 1)) d (d + 1) S.dates S.hotels
      (omega arith) (omega arith) (λ i k. ap (λ (t : Bool). leb d i && t) (last i))
      (λ i k. count_same (λ r. booked x hotels i r v) (λ r. eqb (cell_at (grid_of S hotel_cells) b i r) (v + 1)) S.hotels
      (λ r g. booked-eqb S b hotels i k g hv))
      ∙ one-row (grid_of S hotel_cells) b (v + 1) d
    where
      last : (i : ℕ) → leb i d ≡ ltb i (d + 1)
      last i = bool_eq _ _ (λ e. lt-ltb i (d + 1) (omega (arith, leb-true i d e))) (λ e. le-leb i d (omega (arith, ltb-true i (d + 1) e)))

  taxis : (t0 t1 : ℕ) → OnDates S times d d t0 t1
      → count2 (λ t k. within d d (date_of_time S t) && x.ride t k v) (all_times S) S.transports ≡ rows_count (grid_of S ride_cells) b (v + 1) t0 t1
  unfolding rows_count row_count
  taxis t0 t1 rt =
      count-run (λ t. within d d (date_of_time S t)) (λ t k. booked x rides t k v) (λ t. row_count (grid_of S ride_cells) b t (v + 1)) t0 t1 (all_times S)
      S.transports
      (run-order S times d d t0 t1 rt (omega arith)) rt.ends.most rt.exactly
      (λ t k. count_same (λ r. booked x rides t r v) (λ r. eqb (cell_at (grid_of S ride_cells) b t r) (v + 1)) S.transports
      (λ r g. booked-eqb S b rides t k g hv))

  seated : (s0 s1 : ℕ) → OnDates S sessions d d s0 s1
      → count2 (λ s m. within d d (date_of_session S s) && x.attend s m v) (all_sessions S) S.meetings ≡ column_count (grid_of S attend_cells) b v s0 s1
  unfolding column_count
  seated s0 s1 rs =
      count-run (λ s. within d d (date_of_session S s)) (λ s m. booked x attends s m v) (λ s. one (not (eqb (cell_at (grid_of S attend_cells) b s v) 0)))
      s0 s1 (all_sessions S) S.meetings
      (run-order S sessions d d s0 s1 rs (omega arith)) rs.ends.most rs.exactly
      (λ s k. count_same (λ m. booked x attends s m v) (λ m. eqb (cell_at (grid_of S attend_cells) b s v) (m + 1)) S.meetings
      (λ m g. booked-eqb S b attends s k g hv)
      ∙ count-cell (cell_at (grid_of S attend_cells) b s v) S.meetings (good-cell good attends s v k hv))

  pub bookings-is : (s0 s1 t0 t1 : ℕ) → OnDates S sessions d d s0 s1 → OnDates S times d d t0 t1
      → row_count (grid_of S hotel_cells) b d (v + 1) + column_count (grid_of S attend_cells) b v s0 s1 + rows_count (grid_of S ride_cells) b (v + 1) t0 t1
      ≡ bookings (state_of b) v d d
  unfolding bookings read_state
  bookings-is s0 s1 t0 t1 rs rt = rw (good-state good) (omega (arith, nights, taxis t0 t1 rt, seated s0 s1 rs))

  -- hotel rooms alone, and meetings alone, are no more than all
  pub nights-le : row_count (grid_of S hotel_cells) b d (v + 1) ≤ bookings (state_of b) v d d
  unfolding bookings read_state
  nights-le = rw (good-state good) (omega (arith, nights))

  pub seated-le : (s0 s1 : ℕ) → OnDates S sessions d d s0 s1 → column_count (grid_of S attend_cells) b v s0 s1 ≤ bookings (state_of b) v d d
  unfolding bookings read_state
  seated-le s0 s1 rs = rw (good-state good) (omega (arith, seated s0 s1 rs))

-- the members of a date are the bits of its row
module _ (S : Settings) (b : List ℕ) (good : Good S b) (d : ℕ) (h : d < S.dates) where
  none-past : (v : ℕ) → S.visitors ≤ v → (t : Bool) → (state_of b).leave d v ≡ t → t ≡ false
  unfolding read_state
  none-past v k false q = refl
  none-past v k true q = absurd (omega (arith, k, ((good-sound good).leaves d v (sym (ap (λ (x : State). x.leave d v) (good-state good)) ∙ q)).1))

  pub members-is : row_members (grid_of S leaves) b d ≡ count (λ v. (state_of b).leave d v) S.visitors
  unfolding row_members
  members-is =
      count_same (λ v. bit (cell_at (grid_of S leaves) b d (v / 32)) (v % 32)) (λ v. (state_of b).leave d v) (groups S.visitors * 32)
      (λ v k. sym (leave-bit S b good d v h (omega arith)))
      ∙ count-upto (λ v. (state_of b).leave d v) S.visitors (groups S.visitors * 32) (omega arith)
      (λ v k l. none-past v k ((state_of b).leave d v) refl)

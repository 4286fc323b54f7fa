-- The bookings of a visitor: dates without leave have none, and those of a run are those of its dates together.
-- Assumes nothing.
use Prim.Native.Nat.{ℕ, zero, suc, ◌+◌, ◌*◌, ◌-◌, ◌≤◌}
use mathlib.Core.Path.{◌≡◌, refl, sym, ◌∙◌, ap, ap₂}
use mathlib.Core.Bool.{Bool, true, false, ◌&&◌}
use mathlib.Core.List.{List}
use native.Mathlib.Nat.{le_antisymm, mul-le-mul}
use native.Mathlib.Omega.{arith}
use lib.Dec.{leb}
use borrow.Author.Tests.{leb-true, leb-false}
use Rattle.model.specs.declared.Settings.{Settings}
use Rattle.model.specs.Bounded.{one, sum_from, count, count2, within}
use Rattle.model.specs.Site.{all_sessions, all_times, date_of_session, date_of_time}
use Rattle.model.specs.State.{State, hotels, rides, attends}
use Rattle.model.specs.Questions.{bookings}
use Rattle.model.specs.Reading.{state_of, read_state}
use Rattle.model.proofs.Search.{within-true, both}
use Rattle.model.proofs.Sums.{sum-last, sum-empty, sum-most, count2-add}
use Rattle.book.specs.Good.{Good}
use Rattle.book.proofs.Counts.{count-le}
use Rattle.book.proofs.Goods.{good-laid, good-state, good-sound}
use Rattle.units.proofs.Slots.{all-sessions, all-times}

-- a count of pairs whose first part has its date in a run
module _ (date : ℕ → ℕ) (q : ℕ → ℕ → Bool) (n m : ℕ) where
  abbrev on : ℕ → ℕ → ℕ
  on from to = count2 (λ i j. within from to (date i) && q i j) n m

  on_none : (from to : ℕ) → ((i j : ℕ) → from ≤ date i → date i ≤ to → q i j ≡ false) → on from to ≡ 0
  on_none from to h =
      sum-empty (λ i. count (λ j. within from to (date i) && q i j) m) 0 n
      (λ i _ _. sum-empty (λ j. one (within from to (date i) && q i j)) 0 m (λ j _ _. off i j (within from to (date i)) refl))
    where
      off : (i j : ℕ) (t : Bool) → within from to (date i) ≡ t → one (within from to (date i) && q i j) ≡ 0
      off i j false e = rw e
      off i j true e =
          let w : (from ≤ date i) × (date i ≤ to) = within-true from to (date i) e in
          rw (e, h i j w.0 w.1)

module _ {S : Settings} {b : List ℕ} (good : Good S b) (v : ℕ) where
  abbrev x : State
  x = read_state S b

  pub bookings-none : (from to : ℕ) → ((d : ℕ) → from ≤ d → d ≤ to → (state_of b).leave d v ≡ false) → bookings (state_of b) v from to ≡ 0
  unfolding bookings read_state
  bookings-none from to e =
      rw (good-state good)
      (omega (
        arith,
        on_none (λ d. d) (λ d r. x.hotel d r v) S.dates S.hotels from to
            (λ i j l h. gone i l h (x.hotel i j v) ((good-sound good).guests hotels refl i j v)),
        on_none (date_of_time S) (λ t k. x.ride t k v) (all_times S) S.transports from to
            (λ i j l h. gone (date_of_time S i) l h (x.ride i j v) ((good-sound good).guests rides refl i j v)),
        on_none (date_of_session S) (λ s m. x.attend s m v) (all_sessions S) S.meetings from to
            (λ i j l h. gone (date_of_session S i) l h (x.attend i j v) ((good-sound good).guests attends refl i j v)),
      ))
    where
      away : (d : ℕ) → from ≤ d → d ≤ to → x.leave d v ≡ false
      away d l h = sym (ap (λ (x : State). x.leave d v) (good-state good)) ∙ e d l h

      gone : (i : ℕ) → from ≤ i → i ≤ to → (p : Bool) → (p ≡ true → x.leave i v ≡ true) → p ≡ false
      gone i l h false f = refl
      gone i l h true f = both (f refl) (away i l h)

  -- the same of one date
  pub bookings-none-on : (d : ℕ) → (state_of b).leave d v ≡ false → bookings (state_of b) v d d ≡ 0
  bookings-none-on d e = bookings-none d d (λ i l h. ap (λ (i : ℕ). (state_of b).leave i v) (le_antisymm h l) ∙ e)

-- one date more
one-within : (from to d : ℕ) (q : Bool) → from ≤ to → one (within from (suc to) d && q)
    ≡ one (within from to d && q) + one (within (suc to) (suc to) d && q)
one-within from to d q h = go (leb from d) (leb d to) (leb d (suc to)) (leb (suc to) d) refl refl refl refl
  where
    go : (a b c e : Bool) → leb from d ≡ a → leb d to ≡ b → leb d (suc to) ≡ c → leb (suc to) d ≡ e
        → one ((a && c) && q) ≡ one ((a && b) && q) + one ((e && c) && q)
    go true true true false pa pb pc pe = omega arith
    go false true true false pa pb pc pe = refl
    go a true true true pa pb pc pe = absurd (omega (arith, leb-true d to pb, leb-true (suc to) d pe))
    go true false true true pa pb pc pe = omega arith
    go false false true true pa pb pc pe = absurd (omega (arith, leb-false from d pa, leb-false d to pb))
    go a false true false pa pb pc pe = absurd (omega (arith, leb-false d to pb, leb-false (suc to) d pe))
    go a true false e pa pb pc pe = absurd (omega (arith, leb-true d to pb, leb-false d (suc to) pc))
    go true false false true pa pb pc pe = refl
    go true false false false pa pb pc pe = refl
    go false false false true pa pb pc pe = refl
    go false false false false pa pb pc pe = refl

on-next : (date : ℕ → ℕ) (q : ℕ → ℕ → Bool) (n m from to : ℕ) → from ≤ to → on date q n m from (suc to)
    ≡ on date q n m from to + on date q n m (suc to) (suc to)
on-next date q n m from to h =
    count2-add (λ i j. within from to (date i) && q i j) (λ i j. within (suc to) (suc to) (date i) && q i j)
    (λ i j. within from (suc to) (date i) && q i j) n m
    (λ i j. one-within from to (date i) (q i j) h)

module _ (x : State) (v : ℕ) where
  bookings-next : (from to : ℕ) → from ≤ to → bookings x v from (suc to) ≡ bookings x v from to + bookings x v (suc to) (suc to)
  unfolding bookings
  bookings-next from to h =
      let S = x.settings in
      omega (
        arith,
        on-next (λ d. d) (λ d r. x.hotel d r v) S.dates S.hotels from to h,
        on-next (date_of_time S) (λ t k. x.ride t k v) (all_times S) S.transports from to h,
        on-next (date_of_session S) (λ s m. x.attend s m v) (all_sessions S) S.meetings from to h,
      )

  bookings-from : (from n : ℕ) → sum_from (λ d. bookings x v d d) from (suc n) ≡ bookings x v from (from + n)
  bookings-from from zero = let e : from ≡ from + zero = omega arith in omega arith ∙ ap (bookings x v from) e
  bookings-from from (suc n) =
      let e : suc (from + n) ≡ from + suc n = omega arith in
      sum-last (λ d. bookings x v d d) from (suc n)
      ∙ ap₂ ◌+◌ (bookings-from from n) (ap (λ (d : ℕ). bookings x v d d) (sym e))
      ∙ sym (bookings-next from (from + n) (omega arith))
      ∙ ap (bookings x v from) e

  -- date by date
  pub bookings-sum : (from to : ℕ) → from ≤ to → sum_from (λ d. bookings x v d d) from (to + 1 - from) ≡ bookings x v from to
  bookings-sum from to h =
      let k : to + 1 - from ≡ suc (to - from) = omega arith in
      let e : from + (to - from) ≡ to = omega arith in
      ap (sum_from (λ d. bookings x v d d) from) k ∙ bookings-from from (to - from) ∙ ap (bookings x v from) e

-- few enough to be counted
count2-le : (p : ℕ → ℕ → Bool) (n m : ℕ) → count2 p n m ≤ n * m
count2-le p n m = sum-most (λ i. count (p i) m) m 0 n (λ i. count-le (p i) 0 m)

pub bookings-few : {S : Settings} {b : List ℕ} → Good S b → (v from to : ℕ) → bookings (state_of b) v from to ≤ 10000000
unfolding bookings read_state
bookings-few {S} {b} good v from to =
    let x = read_state S b in
    let r = (good-laid good).ranges in
    rw (good-state good)
    (omega (
      arith,
      count2-le (λ d r. within from to d && x.hotel d r v) S.dates S.hotels,
      count2-le (λ t k. within from to (date_of_time S t) && x.ride t k v) (all_times S) S.transports,
      count2-le (λ s m. within from to (date_of_session S s) && x.attend s m v) (all_sessions S) S.meetings,
      mul-le-mul {n₂ = 400} {m₂ = 512} r.dates.1 r.hotels.1,
      mul-le-mul {n₂ = 38400} {m₂ = 128} (all-times S r) r.transports.1,
      mul-le-mul {n₂ = 6400} {m₂ = 128} (all-sessions S r) r.meetings.1,
    ))

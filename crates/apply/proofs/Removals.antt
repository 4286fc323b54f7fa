-- A removal date by date: the dates one after the other, and a date without leave, on which there is nothing to remove.
-- Assumes nothing.
use Prim.Native.Nat.{ℕ, zero, suc, ◌+◌, ◌-◌, ◌≤◌, ◌<◌}
use mathlib.Core.Path.{◌≡◌, refl, sym, ◌∙◌, ap, subst}
use mathlib.Core.Bool.{Bool, true, false, not}
use mathlib.Core.List.{List}
use native.Mathlib.Omega.{arith}
use lib.Dec.{leb}
use borrow.Author.Tests.{leb-true, leb-false}
use Rattle.std.specs.Prelude.{Option, Some, None}
use Rattle.model.specs.declared.Settings.{Settings}
use Rattle.model.specs.State.{State}
use Rattle.model.specs.Kinds.{sessions, times, Kind.remove_visitor}
use Rattle.model.specs.Bounded.{failing}
use Rattle.model.specs.Questions.{bookings}
use Rattle.model.specs.Machine.{change}
use Rattle.model.specs.Words.{leaves, hotel_cells, attend_cells, ride_cells, words}
use Rattle.model.specs.Reading.{settings_of, state_of, read_state}
use Rattle.model.proofs.Laws.{Sound}
use Rattle.model.proofs.Sound.{book-sound}
use Rattle.model.proofs.Keeps.{keep-remove_visitor}
use Rattle.model.proofs.ReadBack.{state_of-words}
use Rattle.model.proofs.Removal.{nothing-removed}
use Rattle.model.proofs.Slots.{changes, bookings-add}
use Rattle.model.proofs.Shown.{words-state_of}
use Rattle.book.specs.Good.{Good}
use Rattle.book.specs.declared.grid.Grids.{Grids}
use Rattle.book.specs.Grids.{grid_of, grids_of}
use Rattle.book.specs.Stores.{Wrote, Swept}
use Rattle.units.specs.Units.{OnDates}
use Rattle.book.proofs.Goods.{good-words}
use Rattle.book.proofs.Regions.{group-lt}
use Rattle.book.proofs.RowRuns.{one-row}
use Rattle.book.proofs.Turns.{wrote_then}
use Rattle.queries.proofs.Found.{found-in, found-past, found-none}
use Rattle.queries.proofs.Runs.{bookings-is}
use Rattle.queries.proofs.Spans.{bookings-none, bookings-none-on, bookings-few}
use Rattle.apply.specs.Removals.{removal, without, Erased}
use Rattle.apply.specs.Stores.{marked_all, Emptied}
use Rattle.apply.proofs.Writes.{swept-writes, marked_all-writes}
use Rattle.apply.proofs.Counts.{Kept, kept_by, kept_then, rows-kept, column-kept}
use Rattle.apply.proofs.Stages.{carries-all, carries-shown}
use Rattle.apply.proofs.Erasures.{write-removal}

module _ (x : State) (v : ℕ) where
  -- a run of dates is its first date and the rest
  pub without-first : (d e : ℕ) → d ≤ e → without x v d e ≡ without (without x v d d) v (d + 1) e
  without-first d e h =
      let n : suc d ≡ d + 1 = omega arith in
      sym (changes x (removal v d e) d e h remove_visitor refl) ∙ ap (λ (n : ℕ). without (without x v d d) v n e) n

  -- no dates, and a date without leave
  without-none : Sound x → (d e : ℕ) → e < d → without x v d e ≡ x
  without-none s d e h = nothing-removed x (removal v d e) s (λ i l k. absurd (omega (arith, h, l, k)))

  without-away : Sound x → (d : ℕ) → x.leave d v ≡ false → without x v d d ≡ x
  without-away s d away =
      nothing-removed x (removal v d d) s (λ i l k. let e : i ≡ d = omega (arith, l, k) in rw e away)

module _ {S : Settings} {b : List ℕ} (good : Good S b) (v : ℕ) where
  sound : Sound (state_of b)
  sound = book-sound b good.laid good.lawful

  -- a good book stays one, and shows the state
  module _ (d e : ℕ) where
    abbrev after : State
    after = without (state_of b) v d e

    after-sound : Sound after
    after-sound = keep-remove_visitor (state_of b) sound (removal v d e)

    settings-are : after.settings ≡ S
    unfolding change state_of read_state
    settings-are = sym good.read

    pub without-good : Good S (words after)
    without-good = subst (λ (S : Settings). Good S (words after)) settings-are (good-words after after-sound)

    pub without-shown : state_of (words after) ≡ after
    without-shown = state_of-words after after-sound

  -- nothing to remove
  pub none_left : (d e : ℕ) → e < d → b ≡ words (without (state_of b) v d e)
  none_left d e h = sym (ap words (without-none (state_of b) v sound d e h) ∙ words-state_of b good.laid good.lawful)

  pub away-kept : (d : ℕ) → (state_of b).leave d v ≡ false → b ≡ words (without (state_of b) v d d)
  away-kept d away = sym (ap words (without-away (state_of b) v sound d away) ∙ words-state_of b good.laid good.lawful)

-- after the dates before d of first..last: what is left to remove from the words b gives what is removed from the words b₀, and n
-- bookings are erased already
pub record Removing (S : Settings) (v first last : ℕ) (b₀ : List ℕ) (d : ℕ) (b : List ℕ) (n : ℕ) : Type 0 where
  pub good : Good S b
  pub rest : without (state_of b) v d last ≡ without (state_of b₀) v first last
  pub count : n + bookings (state_of b) v d last ≡ bookings (state_of b₀) v first last

-- the bookings of the first date, and those left after its removal
bookings-first : (x : State) (v d e : ℕ) → d ≤ e → bookings x v d d + bookings (without x v d d) v (d + 1) e ≡ bookings x v d e
bookings-first x v d e h =
    let n : d + 1 ≡ suc d = omega arith in
    ap (λ (n : ℕ). bookings x v d d + bookings (without x v d d) v n e) n ∙ bookings-add x (removal v d e) d e h

pub removing-next : {S : Settings} {v first last : ℕ} {b₀ : List ℕ} {d : ℕ} {b c : List ℕ} {n m : ℕ} → Removing S v first last b₀ d b n → d ≤ last
    → c ≡ words (without (state_of b) v d d) → m ≡ bookings (state_of b) v d d → Removing S v first last b₀ (d + 1) c (n + m)
removing-next {S} {v} {first} {last} {b₀} {d} {b} {c} {n} {m} r h e k =
    let shown : state_of c ≡ without (state_of b) v d d = ap state_of e ∙ without-shown r.good v d d in
    record {
      good = subst (Good S) (sym e) (without-good r.good v d d);
      rest = ap (λ (x : State). without x v (d + 1) last) shown ∙ sym (without-first (state_of b) v d last h) ∙ r.rest;
      count = omega (arith, k, ap (λ (x : State). bookings x v (d + 1) last) shown, bookings-first (state_of b) v d last h, r.count);
    }

pub removing-end : {S : Settings} {v first last : ℕ} {b₀ : List ℕ} {d : ℕ} {b : List ℕ} {n : ℕ} → Removing S v first last b₀ d b n → last < d
    → (b ≡ words (without (state_of b₀) v first last)) × (n ≡ bookings (state_of b₀) v first last)
removing-end {S} {v} {first} {last} {b₀} {d} r h = (
  none_left r.good v d last h ∙ ap words r.rest,
  omega (arith, r.count, bookings-none r.good v d last (λ i l k. absurd (omega (arith, h, l, k)))),
)

-- dates without leave are passed: nothing is to be removed on them
pub removing-past : {S : Settings} {v first last : ℕ} {b₀ : List ℕ} {d : ℕ} {b : List ℕ} {n : ℕ} → Removing S v first last b₀ d b n
    → (e : ℕ) → d ≤ e → e ≤ suc last → ((i : ℕ) → d ≤ i → i < e → (state_of b).leave i v ≡ false) → Removing S v first last b₀ e b n
removing-past {S} {v} {first} {last} {b₀} {d} {b} {n} r e h l away =
    let k : d + (e - d) ≡ e = omega (arith, h) in subst (λ (i : ℕ). Removing S v first last b₀ i b n) k (go (e - d) (omega (arith, h)))
  where
    go : (k : ℕ) → d + k ≤ e → Removing S v first last b₀ (d + k) b n
    go zero m = subst (λ (i : ℕ). Removing S v first last b₀ i b n) (omega arith) r
    go (suc k) m =
        let p = go k (omega (arith, m)) in
        let off = away (d + k) (omega arith) (omega (arith, m)) in
        let q : Removing S v first last b₀ (d + k + 1) b (n + 0)
        = removing-next p (omega (arith, m, l)) (away-kept p.good v (d + k) off) (sym (bookings-none-on p.good v (d + k) off)) in
        let i : d + k + 1 ≡ d + suc k = omega arith in
        let z : n + 0 ≡ n = omega arith in
        subst (λ (i : ℕ). Removing S v first last b₀ i b n) i (subst (λ (m : ℕ). Removing S v first last b₀ (d + k + 1) b m) z q)

-- the search for a date with leave passes those before it, and where it finds none all of them
module _ {S : Settings} {v first last : ℕ} {b₀ : List ℕ} {d : ℕ} {b : List ℕ} {n : ℕ} (r : Removing S v first last b₀ d b n) {o : Option ℕ}
    (s : o ≡ failing (λ i. not ((state_of b).leave i v)) d last) where
  abbrev leave : ℕ → Bool
  leave i = (state_of b).leave i v

  pub removing-found : {e : ℕ} → o ≡ Some e → ((d ≤ e) × (e ≤ last)) × Removing S v first last b₀ e b n
  removing-found {e} q =
      let h = found-in leave d last s q in
      (h, removing-past r e h.0 (omega (arith, h.1)) (found-past leave d last s q))

  pub removing-over : o ≡ None → (b ≡ words (without (state_of b₀) v first last)) × (n ≡ bookings (state_of b₀) v first last)
  removing-over q = go (leb d last) refl
    where
      go : (t : Bool) → leb d last ≡ t → (b ≡ words (without (state_of b₀) v first last)) × (n ≡ bookings (state_of b₀) v first last)
      go true e =
          let away = λ (i : ℕ) (a : d ≤ i) (k : i < suc last). found-none leave d last s q i a (omega (arith, k)) in
          removing-end (removing-past r (suc last) (omega (arith, leb-true d last e)) (omega arith) away) (omega arith)
      go false e = removing-end r (leb-false d last e)

-- few enough to be counted
pub removing-few : {S : Settings} {v first last : ℕ} {b₀ : List ℕ} {d : ℕ} {b : List ℕ} {n m : ℕ} → Good S b₀ → Removing S v first last b₀ d b n
    → d ≤ last → m ≡ bookings (state_of b) v d d → n + m ≤ 10000000
removing-few {S} {v} {first} {last} {b₀} {d} {b} good r h k =
    omega (arith, k, r.count, bookings-first (state_of b) v d last h, bookings-few good v first last)

-- the four writes of one date, by grids that are the site's
pub erased-by : {S : Settings} {G : Grids} {v d lo hi from to : ℕ} {b after_leave after_hotel after_rides c : List ℕ} {hotel_count ride_count attend_count : ℕ} → G ≡ grids_of S
    → OnDates S times d d lo hi → OnDates S sessions d d from to → Wrote (marked_all G.leave false v d (d + 1)) b after_leave
    → Swept G.hotel (v + 1) d (d + 1) after_leave after_hotel hotel_count → Swept G.ride (v + 1) lo hi after_hotel after_rides ride_count → Emptied G.attend v from to after_rides c attend_count
    → Erased S v d b c (hotel_count + ride_count + attend_count)
erased-by {S} {G} {v} {d} {lo} {hi} {from} {to} {b} {after_leave} {after_hotel} {after_rides} {c} {hotel_count} {ride_count} {attend_count} e rides meetings leave hotel ride attend =
    record {
      lo = lo;
      hi = hi;
      from = from;
      to = to;
      rides = rides;
      meetings = meetings;
      after_leave = after_leave;
      after_hotel = after_hotel;
      after_rides = after_rides;
      hotel_count = hotel_count;
      ride_count = ride_count;
      attend_count = attend_count;
      leave = subst (λ (G : Grids). Wrote (marked_all G.leave false v d (d + 1)) b after_leave) e leave;
      hotel = subst (λ (G : Grids). Swept G.hotel (v + 1) d (d + 1) after_leave after_hotel hotel_count) e hotel;
      ride = subst (λ (G : Grids). Swept G.ride (v + 1) lo hi after_hotel after_rides ride_count) e ride;
      attend = subst (λ (G : Grids). Emptied G.attend v from to after_rides c attend_count) e attend;
      count = refl;
    }

-- the writes of one date leave the words of the state without the visitor on it
pub erased-is : {S : Settings} {b c : List ℕ} {v d r : ℕ} → Good S b → v < S.visitors → d < S.dates → Erased S v d b c r
    → c ≡ words (without (state_of b) v d d)
unfolding change state_of read_state
erased-is {S} {b} {c} {v} {d} {r} good =
    subst (λ (S : Settings). v < S.visitors → d < S.dates → Erased S v d b c r → c ≡ words (without (state_of b) v d d)) (sym good.read) by-date
  where
    by-date : v < (settings_of b).visitors → d < (settings_of b).dates → Erased (settings_of b) v d b c r → c ≡ words (without (state_of b) v d d)
    by-date hv hd e =
        (wrote_then (wrote_then e.leave e.hotel.wrote) (wrote_then e.ride.wrote e.attend.wrote)).is
        ∙ carries-all (without (state_of b) v d d) _
        (write-removal (state_of b) (sound good v) b (carries-shown b good.laid good.lawful) v d d hv (omega (arith, hd))
        e.lo e.hi e.from e.to e.rides e.meetings)

-- and as many entries as the visitor had on it are erased
pub erased-count : {S : Settings} {b c : List ℕ} {v d r : ℕ} → Good S b → v < S.visitors → d < S.dates → Erased S v d b c r
    → r ≡ bookings (state_of b) v d d
erased-count {S} {b} {c} {v} {d} good hv hd e =
    let leave = marked_all-writes S leaves refl false v d (d + 1) (omega (arith, hd)) (group-lt S.visitors v hv) in
    let hotel = swept-writes S hotel_cells (v + 1) d (d + 1) (omega (arith, hd)) in
    let ride = swept-writes S ride_cells (v + 1) e.lo e.hi e.rides.ends.most in
    let k1 : Kept S hotel_cells b e.after_leave = kept_by leave refl e.leave.is in
    let k2 : Kept S ride_cells b e.after_hotel = kept_then (kept_by leave refl e.leave.is) (kept_by hotel refl e.hotel.wrote.is) in
    let k3 : Kept S attend_cells b e.after_rides = kept_then (kept_then (kept_by leave refl e.leave.is)
    (kept_by hotel refl e.hotel.wrote.is)) (kept_by ride refl e.ride.wrote.is) in
    omega (
      arith,
      e.count,
      e.hotel.count,
      e.ride.count,
      e.attend.count,
      rows-kept k1 (v + 1) d (d + 1) (omega (arith, hd)),
      rows-kept k2 (v + 1) e.lo e.hi e.rides.ends.most,
      column-kept k3 v e.from e.to hv e.meetings.ends.most,
      one-row (grid_of S hotel_cells) b (v + 1) d,
      bookings-is S b good v d hv hd e.from e.to e.lo e.hi e.meetings e.rides,
    )

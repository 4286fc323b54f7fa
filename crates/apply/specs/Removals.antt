-- Kind 3: the state without a visitor on some dates, and what one date's removal does to a list of words.
-- Assumes nothing.
use Rattle.std.specs.Prelude.{ℕ, ◌+◌, ◌≡◌, false, List}
use Rattle.model.specs.declared.Settings.{Settings}
use Rattle.model.specs.declared.Request.{Request}
use Rattle.model.specs.State.{State}
use Rattle.model.specs.Kinds.{sessions, times, Kind.remove_visitor}
use Rattle.model.specs.Machine.{change}
use Rattle.model.specs.Words.{leaves, hotel_cells, attend_cells, ride_cells}
use Rattle.book.specs.Grids.{grid_of}
use Rattle.book.specs.Stores.{Wrote, Swept}
use Rattle.units.specs.Units.{OnDates}
use Rattle.apply.specs.Stores.{marked_all, Emptied}

-- the request, and the state after it
abbrev pub removal : ℕ → ℕ → ℕ → Request
removal v first last = record { kind = 3; a = 0; b = v; first = first; last = last; n = 0; info = 0 }

abbrev pub without : State → ℕ → ℕ → ℕ → State
without x v first last = change x (removal v first last) remove_visitor

-- on the date d, from b to c: its leave, then the hotel row, the rides at its times and the meetings in its sessions, r bookings in all
pub record Erased (S : Settings) (v d : ℕ) (b c : List ℕ) (r : ℕ) : Type 0 where
  pub lo : ℕ
  pub hi : ℕ
  pub from : ℕ
  pub to : ℕ
  pub rides : OnDates S times d d lo hi
  pub meetings : OnDates S sessions d d from to
  pub after_leave : List ℕ
  pub after_hotel : List ℕ
  pub after_rides : List ℕ
  pub hotel_count : ℕ
  pub ride_count : ℕ
  pub attend_count : ℕ
  pub leave : Wrote (marked_all (grid_of S leaves) false v d (d + 1)) b after_leave
  pub hotel : Swept (grid_of S hotel_cells) (v + 1) d (d + 1) after_leave after_hotel hotel_count
  pub ride : Swept (grid_of S ride_cells) (v + 1) lo hi after_hotel after_rides ride_count
  pub attend : Emptied (grid_of S attend_cells) v from to after_rides c attend_count
  pub count : r ≡ hotel_count + ride_count + attend_count

-- What a date of a book has to keep, at the model's addresses: the rules of single cells and the laws.
-- Assumes nothing.
use Rattle.std.specs.Prelude.{ℕ, suc, ◌*◌, ◌^◌, ◌-◌, ◌≤◌, ◌<◌, min, ◌≡◌, true, cond, List, eqb, get_or}
use Rattle.model.specs.declared.Settings.{Settings}
use Rattle.model.specs.Bounded.{sum}
use Rattle.model.specs.Site.{all_sessions, all_times, date_of_session, date_of_time}
use Rattle.model.specs.Kinds.{sessions, times}
use Rattle.model.specs.Questions.{stands_on}
use Rattle.model.specs.Words.{Region, leaves, hotel_cells, standings, attend_cells, conf_pairs, lunch_triples, ride_cells, items, groups}
use Rattle.model.specs.Reading.{at, bit_at, read_state}
use Rattle.book.specs.declared.grid.Grids.{Grids}
use Rattle.book.specs.Grids.{Laid, grids_of}
use Rattle.units.specs.Units.{OnDates}
use Rattle.checking.specs.Days.{Eaten}

-- slot i of a region of visitors, on date d
pub record GuestsAt (S : Settings) (b : List ℕ) (g : Region) (limit i d : ℕ) : Type 0 where
  pub range : (j : ℕ) → j < items S g → at S b g i j 0 ≤ limit
  pub on_leave : (j v : ℕ) → j < items S g → at S b g i j 0 ≡ suc v → bit_at S b leaves d v ≡ true
  pub once : (j k : ℕ) → j < k → k < items S g → at S b g i j 0 ≡ at S b g i k 0 → at S b g i j 0 ≡ 0

-- session s, on date d
pub record SessionAt (S : Settings) (b : List ℕ) (s d : ℕ) : Type 0 where
  pub pad : (j : ℕ) → j < groups S.meetings → at S b standings s j 0 < 2 ^ min 32 (S.meetings - j * 32)
  pub range : (j : ℕ) → j < S.visitors → at S b attend_cells s j 0 ≤ S.meetings
  pub on_leave : (j : ℕ) → j < S.visitors → (at S b attend_cells s j 0 ≡ 0 → ⊥) → bit_at S b leaves d j ≡ true
  pub attended : (j m : ℕ) → j < S.visitors → at S b attend_cells s j 0 ≡ suc m → bit_at S b standings s m ≡ true
  pub within : (j : ℕ) → j < S.rooms → at S b conf_pairs s j 0 ≤ S.meetings
  pub stands : (j m : ℕ) → j < S.rooms → at S b conf_pairs s j 0 ≡ suc m → bit_at S b standings s m ≡ true
  pub beside : (j : ℕ) → j < S.rooms → at S b conf_pairs s j 0 ≡ 0 → at S b conf_pairs s j 1 ≡ 0

-- the seats of meeting j's lunch on date d if it is in room g - 1
abbrev pub seats_at : Settings → List ℕ → ℕ → ℕ → ℕ → ℕ
seats_at S b d g j = cond (eqb (at S b lunch_triples d j 0) g) (at S b lunch_triples d j 1) 0

-- date d with all its sessions and times, whichever the date-of functions say they are
pub record Kept (S : Settings) (caps b : List ℕ) (d : ℕ) : Type 0 where
  pub pad : (j : ℕ) → j < groups S.visitors → at S b leaves d j 0 < 2 ^ min 32 (S.visitors - j * 32)
  pub hotel : GuestsAt S b hotel_cells S.visitors d d
  pub ride : (t : ℕ) → t < all_times S → date_of_time S t ≡ d → GuestsAt S b ride_cells S.visitors t d
  pub session : (s : ℕ) → s < all_sessions S → date_of_session S s ≡ d → SessionAt S b s d
  pub lunch : (j : ℕ) → j < S.meetings
      → Eaten S.dining caps (stands_on (read_state S b) d j) (at S b lunch_triples d j 0) (at S b lunch_triples d j 1) (at S b lunch_triples d j 2)
  pub sums : (g : ℕ) → g < 17 → sum (seats_at S b d g) S.meetings ≤ get_or caps g 0

-- where the code finds date d of a well-laid book: in the seven grids, from its first session and time to before the next date's
pub record At (S : Settings) (b : List ℕ) (grids : Grids) (d from to first last : ℕ) : Type 0 where
  pub laid : Laid S b
  pub starts : grids ≡ grids_of S
  pub date : d < S.dates
  pub sessions : OnDates S sessions d d from to
  pub times : OnDates S times d d first last

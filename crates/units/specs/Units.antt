-- The date of a slot, and the slots of a run of dates.
-- Assumes nothing.
use Rattle.std.specs.Prelude.{ℕ, ◌+◌, ◌-◌, ◌/◌, ◌≤◌, ◌<◌, ◌≡◌, ◌&&◌, leb, ltb}
use Rattle.model.specs.declared.Settings.{Settings}
use Rattle.model.specs.Bounded.{within}
use Rattle.model.specs.Kinds.{Unit, dates, sessions, times, date_of, slots_of}

-- how many slots of a unit a date has, and how many slots later each date but the first begins
abbrev pub each_of : Settings → Unit → ℕ
each_of S dates = 1
each_of S sessions = S.sessions
each_of S times = S.times

abbrev pub late_of : Settings → Unit → ℕ
late_of S dates = 0
late_of S sessions = 0
late_of S times = S.early

-- the date of slot i, if a date has `each` slots and every date but the first begins `late` slots later
unfoldable pub day_of : ℕ → ℕ → ℕ → ℕ
day_of each late i = (i - late) / each

-- r parts n slots, of which slot i is on date f i: those before date d, and those from d on
pub record CutOf (f : ℕ → ℕ) (n d r : ℕ) : Type 0 where
  pub most : r ≤ n
  pub before : (i : ℕ) → i < r → f i < d
  pub after : (i : ℕ) → r ≤ i → i < n → d ≤ f i

-- the cut of date d lies in lo..hi
pub record Bracket (f : ℕ → ℕ) (n d lo hi : ℕ) : Type 0 where
  pub order : lo ≤ hi
  pub most : hi ≤ n
  pub before : (i : ℕ) → i < lo → f i < d
  pub after : (i : ℕ) → hi ≤ i → i < n → d ≤ f i

-- before lo, which is not behind hi, the slots are before date d
pub record Passed (f : ℕ → ℕ) (d lo hi : ℕ) : Type 0 where
  pub order : lo ≤ hi
  pub before : (i : ℕ) → i < lo → f i < d

-- from hi on, which is not before lo, the slots are on date d or later
pub record Reached (f : ℕ → ℕ) (n d lo hi : ℕ) : Type 0 where
  pub order : lo ≤ hi
  pub most : hi ≤ n
  pub after : (i : ℕ) → hi ≤ i → i < n → d ≤ f i

-- r parts the slots of a unit
abbrev pub Cut : Settings → Unit → ℕ → ℕ → Type 0
Cut S u d r = CutOf (date_of S u) (slots_of S u) d r

-- from `from` to before `to` are exactly the slots of a unit whose date is in first..last
pub record OnDates (S : Settings) (u : Unit) (first last from to : ℕ) : Type 0 where
  pub begins : Cut S u first from
  pub ends : Cut S u (last + 1) to
  pub exactly : (i : ℕ) → i < slots_of S u → within first last (date_of S u i) ≡ leb from i && ltb i to

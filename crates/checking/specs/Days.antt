-- What the words of one date have to keep, in terms of the words alone.
-- Assumes nothing.
use Rattle.std.specs.Prelude.{ℕ, suc, ◌+◌, ◌*◌, ◌/◌, ◌%◌, ◌≤◌, ◌<◌, ◌≡◌, Bool, true, List, length, get_or}
use Rattle.model.specs.declared.Settings.{Settings}
use Rattle.model.specs.Bounded.{any, sum, bit}
use Rattle.model.specs.Words.{groups}
use Rattle.rules.specs.Rows.{Blank, Padded, row_at, seats_in}
use Rattle.pool.specs.Pool.{member}

-- one session of a date, by the most that a visitor may hold
pub record Session (stand attend conf bounds : List ℕ) (rooms meetings : ℕ) : Type 0 where
  pub pad : Padded stand meetings
  pub attends : (i : ℕ) → i < length attend → get_or attend i 0 ≤ get_or bounds i 0
  pub attended : (i m : ℕ) → i < length attend → get_or attend i 0 ≡ suc m → member stand m ≡ true
  pub within : (j : ℕ) → j < rooms → get_or conf (j * 2) 0 ≤ meetings
  pub stands : (j m : ℕ) → j < rooms → get_or conf (j * 2) 0 ≡ suc m → member stand m ≡ true
  pub beside : (j : ℕ) → j < rooms → get_or conf (j * 2) 0 ≡ 0 → get_or conf (j * 2 + 1) 0 ≡ 0

-- a row of visitors: within the limit, each with leave, each once
pub record Guested (row leave : List ℕ) (limit : ℕ) : Type 0 where
  pub range : (i : ℕ) → i < length row → get_or row i 0 ≤ limit
  pub on_leave : (i v : ℕ) → i < length row → get_or row i 0 ≡ suc v → member leave v ≡ true
  pub once : (i j : ℕ) → i < j → j < length row → get_or row i 0 ≡ get_or row j 0 → get_or row i 0 ≡ 0

-- a session: standing words, attend cells, conf pairs
pub record Met (stand attend conf leave : List ℕ) (rooms meetings : ℕ) : Type 0 where
  pub pad : Padded stand meetings
  pub range : (i : ℕ) → i < length attend → get_or attend i 0 ≤ meetings
  pub on_leave : (i : ℕ) → i < length attend → (get_or attend i 0 ≡ 0 → ⊥) → member leave i ≡ true
  pub attended : (i m : ℕ) → i < length attend → get_or attend i 0 ≡ suc m → member stand m ≡ true
  pub within : (j : ℕ) → j < rooms → get_or conf (j * 2) 0 ≤ meetings
  pub stands : (j m : ℕ) → j < rooms → get_or conf (j * 2) 0 ≡ suc m → member stand m ≡ true
  pub beside : (j : ℕ) → j < rooms → get_or conf (j * 2) 0 ≡ 0 → get_or conf (j * 2 + 1) 0 ≡ 0

-- a lunch; caps is 0 for none, then the capacities
pub record Eaten (dining : ℕ) (caps : List ℕ) (stands : Bool) (w seats info : ℕ) : Type 0 where
  pub range : w ≤ dining
  pub fit : seats ≤ get_or caps w 0
  pub some : (w ≡ 0 → ⊥) → 1 ≤ seats
  pub stood : (w ≡ 0 → ⊥) → stands ≡ true
  pub beside : w ≡ 0 → info ≡ 0

-- meeting m stands in one of the date's n sessions
abbrev pub stands_in : List ℕ → ℕ → ℕ → ℕ → Bool
stands_in stand n width m = any (λ p. bit (get_or stand (p * width + m / 32) 0) (m % 32)) n

-- a date with n sessions and q times
pub record Day (S : Settings) (n q : ℕ) (caps leave hotel stand attend conf lunch ride : List ℕ) : Type 0 where
  pub pad : Padded leave S.visitors
  pub slept : Guested hotel leave S.visitors
  pub met : (p : ℕ) → p < n
      → Met (row_at (groups S.meetings) p stand) (row_at S.visitors p attend) (row_at (S.rooms * 2) p conf) leave S.rooms S.meetings
  pub eaten : (j : ℕ) → j < S.meetings
      → Eaten S.dining caps (stands_in stand n (groups S.meetings) j)
      (get_or lunch (j * 3) 0) (get_or lunch (j * 3 + 1) 0) (get_or lunch (j * 3 + 2) 0)
  pub sums : (g : ℕ) → g < 17 → sum (seats_in lunch g) S.meetings ≤ get_or caps g 0
  pub ridden : (i : ℕ) → i < q → Guested (row_at S.transports i ride) leave S.visitors

-- a date without entries
pub record Empty (hotel attend conf lunch ride : List ℕ) : Type 0 where
  pub hotels : Blank hotel
  pub attends : Blank attend
  pub confs : Blank conf
  pub lunches : Blank lunch
  pub rides : Blank ride

-- the lengths of the parts of a date with n sessions and q times
pub record Long (S : Settings) (n q : ℕ) (leave hotel stand attend conf lunch ride : List ℕ) : Type 0 where
  pub leaves : length leave ≡ groups S.visitors
  pub hotels : length hotel ≡ S.hotels
  pub stands : length stand ≡ n * groups S.meetings
  pub attends : length attend ≡ n * S.visitors
  pub confs : length conf ≡ n * (S.rooms * 2)
  pub lunches : length lunch ≡ S.meetings * 3
  pub rides : length ride ≡ q * S.transports

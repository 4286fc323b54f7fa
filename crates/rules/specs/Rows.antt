-- What a row of a book has to keep, over the row's words and tables of what is barred.
-- Assumes nothing.
use Rattle.std.specs.Prelude.{ℕ, zero, suc, ◌+◌, ◌*◌, ◌/◌, ◌%◌, ◌^◌, ◌-◌, ◌≤◌, ◌<◌, min, ◌≡◌, Bool, true, false, not, cond, List, length, get_or, take, drop, eqb}
use Rattle.std.specs.Int.Bits.{bit_or}
use Rattle.model.specs.declared.Settings.{Settings}
use Rattle.model.specs.Bounded.{bit, sum, any}
use Rattle.pool.specs.Pool.{member}

-- the answer to a question: true where P holds, false where it does not
abbrev pub Decides : Bool → Type 0 → Type 0
Decides true P = P
Decides false P = P → ⊥

-- entry 0 is false, entry v + 1 says that bit v of the row is clear
pub record Barred (row : List ℕ) (n : ℕ) (t : List Bool) : Type 0 where
  pub none : get_or t 0 false ≡ false
  pub each : (v : ℕ) → v < n → get_or t (suc v) false ≡ not (member row v)

-- what is past the limit is barred
abbrev pub Past : ℕ → List Bool → Type 0
Past limit t = (v : ℕ) → limit < v → v < length t → get_or t v false ≡ true

-- what was barred is still barred, but for entry 0
abbrev pub Marked : List Bool → List Bool → Type 0
Marked before after = (v : ℕ) → 0 < v → get_or before v false ≡ true → get_or after v false ≡ true

-- a table of guests, and one for those seen in a row: both bar what is past the limit
pub record Ready (limit : ℕ) (table seen : List Bool) : Type 0 where
  pub few : limit ≤ 512
  pub size : length table ≡ 1024
  pub same : length seen ≡ 1024
  pub none : get_or table 0 false ≡ false
  pub past : Past limit table
  pub kept : Past limit seen

-- the most that column v may hold
abbrev pub Most : List Bool → ℕ → ℕ → List ℕ → Type 0
Most t n limit m = (v : ℕ) → v < n → get_or m v 0 ≡ cond (get_or t (suc v) false) 0 limit

-- no cell of a row is barred, and none is there twice but 0
pub record Free (row : List ℕ) (t : List Bool) : Type 0 where
  pub free : (i : ℕ) → i < length row → get_or t (get_or row i 0) false ≡ false
  pub once : (i j : ℕ) → i < j → j < length row → get_or row i 0 ≡ get_or row j 0 → get_or row i 0 ≡ 0

-- and each is within the limit
pub record Guests (row : List ℕ) (limit : ℕ) (t : List Bool) : Type 0 where
  pub range : (i : ℕ) → i < length row → get_or row i 0 ≤ limit
  pub free : (i : ℕ) → i < length row → get_or t (get_or row i 0) false ≡ false
  pub once : (i j : ℕ) → i < j → j < length row → get_or row i 0 ≡ get_or row j 0 → get_or row i 0 ≡ 0

abbrev pub Attended : List ℕ → List ℕ → List Bool → Type 0
Attended row bounds stands = (i : ℕ) → i < length row → (get_or row i 0 ≤ get_or bounds i 0) × (get_or stands (get_or row i 0) false ≡ false)

pub record Pair (limit : ℕ) (t : List Bool) (w info : ℕ) : Type 0 where
  pub range : w ≤ limit
  pub stands : get_or t w false ≡ false
  pub beside : w ≡ 0 → info ≡ 0

abbrev pub Paired : List ℕ → ℕ → ℕ → List Bool → Type 0
Paired row n limit stands = (j : ℕ) → j < n → Pair limit stands (get_or row (j * 2) 0) (get_or row (j * 2 + 1) 0)

-- row i of rows of `width` words
abbrev pub row_at : ℕ → ℕ → List ℕ → List ℕ
row_at width i cells = take width (drop (i * width) cells)

-- the bits from the limit on are 0
abbrev pub Padded : List ℕ → ℕ → Type 0
Padded row n = (j : ℕ) → j < length row → get_or row j 0 < 2 ^ min 32 (n - j * 32)

-- a lunch: dining room w of `dining`, 0 for none; caps has 0 for none, then the capacities
pub record Triple (dining : ℕ) (caps : List ℕ) (absent : Bool) (w seats info : ℕ) : Type 0 where
  pub range : w ≤ dining
  pub fit : seats ≤ get_or caps w 0
  pub some : (w ≡ 0 → ⊥) → 1 ≤ seats
  pub stands : (w ≡ 0 → ⊥) → absent ≡ false
  pub beside : w ≡ 0 → info ≡ 0

-- the seats of triple j if it is in room g - 1
abbrev pub seats_in : List ℕ → ℕ → ℕ → ℕ
seats_in row g j = cond (eqb (get_or row (j * 3) 0) g) (get_or row (j * 3 + 1) 0) 0

pub record Lunches (row : List ℕ) (n dining : ℕ) (caps : List ℕ) (t : List Bool) : Type 0 where
  pub each : (j : ℕ) → j < n → Triple dining caps (get_or t (j + 1) false) (get_or row (j * 3) 0) (get_or row (j * 3 + 1) 0) (get_or row (j * 3 + 2) 0)
  pub sums : (g : ℕ) → g < 17 → sum (seats_in row g) n ≤ get_or caps g 0

-- the first n of f or-ed together
unfoldable pub ors : (ℕ → ℕ) → ℕ → ℕ
ors f zero = 0
ors f (suc n) = bit_or (ors f n) (f n)

-- the first m words of rows of `width`, each or-ed over the n rows
pub record Columns (rows : List ℕ) (n m width : ℕ) (r : List ℕ) : Type 0 where
  pub size : length r ≡ 4
  pub each : (k : ℕ) → k < m → get_or r k 0 ≡ ors (λ p. get_or rows (p * width + k) 0) n

-- entry m + 1 says that bit m is set in no row
abbrev pub BarredDate : List ℕ → ℕ → ℕ → List Bool → Type 0
BarredDate rows n width t =
    (m : ℕ) → m < width * 32 → get_or t (suc m) false ≡ not (any (λ p. bit (get_or rows (p * width + m / 32) 0) (m % 32)) n)

-- a row of zeros
abbrev pub Blank : List ℕ → Type 0
Blank row = (j : ℕ) → get_or row j 0 ≡ 0

-- 0, then the capacities
pub record Caps (S : Settings) (caps : List ℕ) : Type 0 where
  pub size : length caps ≡ 17
  pub none : get_or caps 0 0 ≡ 0
  pub each : (g : ℕ) → g < 16 → get_or caps (suc g) 0 ≡ get_or S.capacities g 0
  pub low : (g : ℕ) → get_or caps g 0 ≤ 1000

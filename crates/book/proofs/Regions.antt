-- The regions as grids: each starts where the one before ends, all lie in the book, and their numbers are small.
-- Assumes nothing.
use Prim.Native.Nat.{ℕ, ◌+◌, ◌/◌, ◌≤◌, ◌<◌}
use native.Mathlib.Nat.{mul-le-mul}
use native.Mathlib.Omega.{arith}
use mathlib.Core.Path.{◌≡◌, sym, ◌∙◌, ap, subst}
use mathlib.Core.List.{List}
use lib.ListN.{length}
use Rattle.book.specs.declared.grid.Grid.{Grid}
use Rattle.book.specs.Grids.{Fits, Small, end}
use Rattle.book.specs.Grids.{grid_of, Laid}
use Rattle.book.specs.Lent.{Lies}
use Rattle.model.specs.declared.Settings.{Settings}
use Rattle.units.specs.Ranges.{Ranges}
use Rattle.model.proofs.Places.{settings-length}
use Rattle.units.proofs.Slots.{all-sessions, all-times}
use Rattle.model.specs.Words.{Region, leaves, hotel_cells, standings, attend_cells, conf_pairs, lunch_triples, ride_cells}
use Rattle.model.specs.Words.{base, slots, items, width, size, diary_length}

slots-le : (S : Settings) → Ranges S → (g : Region) → slots S g ≤ 38400
slots-le S h leaves = omega (arith, h.dates)
slots-le S h hotel_cells = omega (arith, h.dates)
slots-le S h standings = omega (arith, all-sessions S h)
slots-le S h attend_cells = omega (arith, all-sessions S h)
slots-le S h conf_pairs = omega (arith, all-sessions S h)
slots-le S h lunch_triples = omega (arith, h.dates)
slots-le S h ride_cells = omega (arith, all-times S h)

items-le : (S : Settings) → Ranges S → (g : Region) → items S g ≤ 512
items-le S h leaves = omega (arith, h.visitors)
items-le S h hotel_cells = omega (arith, h.hotels)
items-le S h standings = omega (arith, h.meetings)
items-le S h attend_cells = omega (arith, h.visitors)
items-le S h conf_pairs = omega (arith, h.rooms)
items-le S h lunch_triples = omega (arith, h.meetings)
items-le S h ride_cells = omega (arith, h.transports)

pub width-le : (g : Region) → (1 ≤ width g) × (width g ≤ 3)
width-le leaves = (omega arith, omega arith)
width-le hotel_cells = (omega arith, omega arith)
width-le standings = (omega arith, omega arith)
width-le attend_cells = (omega arith, omega arith)
width-le conf_pairs = (omega arith, omega arith)
width-le lunch_triples = (omega arith, omega arith)
width-le ride_cells = (omega arith, omega arith)

size-le : (S : Settings) → Ranges S → (g : Region) → size S g ≤ 58982400
unfolding size
size-le S h g = mul-le-mul {n₂ = 19660800} {m₂ = 3} (mul-le-mul {n₂ = 38400} {m₂ = 512} (slots-le S h g) (items-le S h g)) (width-le g).1

pub book-le : (S : Settings) → Ranges S → diary_length S ≤ 1000000000
unfolding diary_length
book-le S h =
    omega (
      arith,
      settings-length S,
      h.dining,
      size-le S h leaves,
      size-le S h hotel_cells,
      size-le S h standings,
      size-le S h attend_cells,
      size-le S h conf_pairs,
      size-le S h lunch_triples,
      size-le S h ride_cells,
    )

-- a region ends where the next begins, and the last where the book ends
pub end-le : (S : Settings) (g : Region) → base S g + size S g ≤ diary_length S
unfolding base diary_length
end-le S leaves = omega arith
end-le S hotel_cells = omega arith
end-le S standings = omega arith
end-le S attend_cells = omega arith
end-le S conf_pairs = omega arith
end-le S lunch_triples = omega arith
end-le S ride_cells = omega arith

pub base-next : (S : Settings) → (base S hotel_cells ≡ end (grid_of S leaves)) × (base S standings ≡ end (grid_of S hotel_cells))
    × (base S attend_cells ≡ end (grid_of S standings))
    × (base S conf_pairs ≡ end (grid_of S attend_cells)) × (base S lunch_triples ≡ end (grid_of S conf_pairs))
    × (base S ride_cells ≡ end (grid_of S lunch_triples))
unfolding base size
base-next S = (omega arith, omega arith, omega arith, omega arith, omega arith, omega arith)

pub small : (S : Settings) → Ranges S → (g : Region) → Small (grid_of S g)
small S h g =
    record {
      base = omega (arith, base-le);
      slots = slots-le S h g;
      items = items-le S h g;
      width = (width-le g).1;
    }
  where
    base-le : base S g ≤ 1000000000
    base-le = omega (arith, end-le S g, book-le S h)

pub fits : (S : Settings) (b : List ℕ) → Laid S b → (g : Region) → Fits (grid_of S g) (length b)
unfolding size
fits S b l g =
    record {
      ends = omega (arith, end-le S g, l.long);
      small = omega (arith, l.long, book-le S l.ranges);
      wide = (width-le g).0;
    }

-- a grid with the numbers of a region, and one right behind the region before it
pub grid-by : (S : Settings) (g : Region) (n : ℕ) → n ≡ base S g
    → ◌≡◌ {A = Grid} (record { base = n; slots = slots S g; items = items S g; width = width g }) (grid_of S g)
grid-by S g n e = ap (λ (n : ℕ). record { base = n; slots = slots S g; items = items S g; width = width g }) e

pub grid-behind : (S : Settings) (g h : Region) {a b : Grid} → base S h ≡ end (grid_of S g) → a ≡ grid_of S g
    → b ≡ record { base = end a; slots = slots S h; items = items S h; width = width h } → b ≡ grid_of S h
grid-behind S g h {a} n e q = q ∙ grid-by S h (end a) (ap end e ∙ sym n)

pub small-by : (S : Settings) → Ranges S → (g : Region) {a : Grid} → a ≡ grid_of S g → Small a
small-by S r g e = subst Small (sym e) (small S r g)

-- the word of a visitor is a word of the row
pub group-lt : (n v : ℕ) → v < n → v / 32 < (n + 31) / 32
group-lt n v h = omega (arith, h)

-- the same of the words of a lent book
pub lies : (S : Settings) (b : List ℕ) → Laid S b → (g : Region) → Lies (grid_of S g) b
unfolding Lies
lies S b l g = fits S b l g

-- Where the words of a run of slots stand in the book, by the model's addresses.
-- Assumes nothing.
use Prim.Native.Nat.{ℕ, ◌+◌, ◌*◌, ◌-◌, ◌≤◌, ◌<◌}
use mathlib.Core.Path.{◌≡◌, refl, sym, ◌∙◌, ap, subst}
use mathlib.Core.List.{List}
use native.Mathlib.Nat.{mul_assoc, add-mul, mul-one, one-mul}
use native.Mathlib.Omega.{arith}
use lib.ListN.{length, get_or, take, drop}
use lib.Seq.{get_or-take, get_or-drop}
use Rattle.model.specs.declared.Settings.{Settings}
use Rattle.model.specs.Words.{Region, leaves, hotel_cells, standings, attend_cells, conf_pairs, lunch_triples, ride_cells}
use Rattle.model.specs.Words.{groups, slots, items, width, base, address}
use Rattle.model.specs.Reading.{at}
use Rattle.book.specs.declared.grid.Grid.{Grid}
use Rattle.book.specs.declared.grid.Grids.{Grids}
use Rattle.book.specs.Grids.{Laid, grid_of, grids_of}
use Rattle.book.specs.Blocks.{Part, across, block_of}
use Rattle.book.specs.Lent.{Lies}
use Rattle.book.proofs.Regions.{fits, lies}
use Rattle.book.proofs.Spans.{block-by}
use Rattle.rules.specs.Rows.{row_at}
use Rattle.rules.proofs.Parts.{row_inside}

-- the words of a slot in a region
abbrev pub row_of : Settings → Region → ℕ
row_of S leaves = groups S.visitors
row_of S hotel_cells = S.hotels
row_of S standings = groups S.meetings
row_of S attend_cells = S.visitors
row_of S conf_pairs = S.rooms * 2
row_of S lunch_triples = S.meetings * 3
row_of S ride_cells = S.transports

row_is : (S : Settings) (g : Region) → items S g * width g ≡ row_of S g
row_is S leaves = mul-one (groups S.visitors)
row_is S hotel_cells = mul-one S.hotels
row_is S standings = mul-one (groups S.meetings)
row_is S attend_cells = mul-one S.visitors
row_is S conf_pairs = refl
row_is S lunch_triples = refl
row_is S ride_cells = mul-one S.transports

-- the slots from `from` to before `to` of a region
abbrev pub run_of : Settings → List ℕ → Region → ℕ → ℕ → List ℕ
run_of S b g from to = take ((to - from) * row_of S g) (drop (base S g + from * row_of S g) b)

pub one-long : (d n : ℕ) → (d + 1 - d) * n ≡ n
one-long d n = let e : d + 1 - d ≡ 1 = omega arith in ap (λ (x : ℕ). x * n) e ∙ one-mul n

part-is : (S : Settings) (b : List ℕ) (g : Region) (from to : ℕ) {r : List ℕ}
    → Part r ((to - from) * across (grid_of S g)) (block_of (grid_of S g) b from to)
    → Part r ((to - from) * row_of S g) (run_of S b g from to)
part-is S b g from to {r} q = subst (λ (w : ℕ). Part r ((to - from) * w) (take ((to - from) * w) (drop (base S g + from * w) b))) (row_is S g) q

pub run_long : (S : Settings) (b : List ℕ) → Laid S b → (g : Region) (from to : ℕ) → from ≤ to → to ≤ slots S g
    → length (run_of S b g from to) ≡ (to - from) * row_of S g
run_long S b l g from to h k =
    let p = part-is S b g from to (block-by (grid_of S g) b (fits S b l g) from to h k) in
    ap length (sym p.is) ∙ p.long

-- one slot
pub day-long : (S : Settings) (b : List ℕ) → Laid S b → (g : Region) (d : ℕ) → d < slots S g → length (run_of S b g d (d + 1)) ≡ row_of S g
day-long S b l g d h = run_long S b l g d (d + 1) (omega arith) (omega arith) ∙ one-long d (row_of S g)

-- the grid of a region, and what a block of it is
abbrev grid_in : Grids → Region → Grid
grid_in g leaves = g.leave
grid_in g hotel_cells = g.hotel
grid_in g standings = g.standing
grid_in g attend_cells = g.attend
grid_in g conf_pairs = g.conf
grid_in g lunch_triples = g.lunch
grid_in g ride_cells = g.ride

grid-is : (S : Settings) (g : Region) → grid_in (grids_of S) g ≡ grid_of S g
grid-is S leaves = refl
grid-is S hotel_cells = refl
grid-is S standings = refl
grid-is S attend_cells = refl
grid-is S conf_pairs = refl
grid-is S lunch_triples = refl
grid-is S ride_cells = refl

module _ (S : Settings) {G : Grids} (e : G ≡ grids_of S) (b : List ℕ) (g : Region) (from to : ℕ) where
  grid : grid_in G g ≡ grid_of S g
  grid = ap (λ (G : Grids). grid_in G g) e ∙ grid-is S g

  pub block-fits : Laid S b → from ≤ to → to ≤ slots S g → Lies (grid_in G g) b × ((from ≤ to) × (to ≤ (grid_in G g).slots))
  block-fits l h k = subst (λ (x : Grid). Lies x b × ((from ≤ to) × (to ≤ x.slots))) (sym grid) (lies S b l g, (h, k))

  pub block_run : {r : List ℕ} → Part r ((to - from) * across (grid_in G g)) (block_of (grid_in G g) b from to)
      → Part r ((to - from) * row_of S g) (run_of S b g from to)
  block_run {r} q = part-is S b g from to (subst (λ (x : Grid). Part r ((to - from) * across x) (block_of x b from to)) grid q)

-- a word of a part of a list, and of a row of it
part_at : (b : List ℕ) (n at x : ℕ) → x < n → get_or (take n (drop at b)) x 0 ≡ get_or b (at + x) 0
part_at b n at x h = get_or-take n (drop at b) x 0 h ∙ get_or-drop at b x 0

pub row-at : (w p : ℕ) (cells : List ℕ) (x : ℕ) → x < w → get_or (row_at w p cells) x 0 ≡ get_or cells (p * w + x) 0
row-at w p cells x h = part_at cells w (p * w) x h

-- the place of a word: slot f + p, item j of n, word k of w
place_of : (f p n j w k : ℕ) → ((f + p) * n + j) * w + k ≡ f * (n * w) + (p * (n * w) + (j * w + k))
place_of f p n j w k =
    let e : ((f + p) * n + j) * w ≡ (f + p) * n * w + j * w = add-mul ((f + p) * n) j w in
    let q : (f + p) * n * w ≡ (f + p) * (n * w) = mul_assoc (f + p) n w in
    let r : (f + p) * (n * w) ≡ f * (n * w) + p * (n * w) = add-mul f p (n * w) in
    omega (arith, e, q, r)

module _ (S : Settings) (b : List ℕ) (from to : ℕ) where
  -- a word by its place in the run, and in the row of its slot
  word_at : (g : Region) (p j k : ℕ) → p < to - from → j * width g + k < row_of S g
      → at S b g (from + p) j k ≡ get_or (run_of S b g from to) (p * row_of S g + (j * width g + k)) 0
  unfolding address
  word_at g p j k h l =
      let r = row_is S g in
      let q : base S g + (((from + p) * items S g + j) * width g + k) ≡ base S g + from * row_of S g + (p * row_of S g + (j * width g + k))
      = omega (arith, place_of from p (items S g) j (width g) k, ap (λ (x : ℕ). from * x) r, ap (λ (x : ℕ). p * x) r) in
      ap (λ (x : ℕ). get_or b x 0) q
      ∙ sym (part_at b ((to - from) * row_of S g) (base S g + from * row_of S g) (p * row_of S g + (j * width g + k))
      (omega (arith, row_inside p (to - from) (row_of S g) h, l)))

  slot_at : (g : Region) (p j k : ℕ) → p < to - from → j * width g + k < row_of S g
      → at S b g (from + p) j k ≡ get_or (row_at (row_of S g) p (run_of S b g from to)) (j * width g + k) 0
  slot_at g p j k h l = word_at g p j k h l ∙ sym (row-at (row_of S g) p (run_of S b g from to) (j * width g + k) l)

  pub stand-word : (p j : ℕ) → p < to - from → j < groups S.meetings
      → at S b standings (from + p) j 0 ≡ get_or (run_of S b standings from to) (p * groups S.meetings + j) 0
  stand-word p j h l = word_at standings p j 0 h (omega arith) ∙ ap (λ (x : ℕ). get_or (run_of S b standings from to) x 0) (omega arith)

  pub stand-at : (p j : ℕ) → p < to - from → j < groups S.meetings
      → at S b standings (from + p) j 0 ≡ get_or (row_at (groups S.meetings) p (run_of S b standings from to)) j 0
  stand-at p j h l = stand-word p j h l ∙ sym (row-at (groups S.meetings) p (run_of S b standings from to) j l)

  pub attend-at : (p j : ℕ) → p < to - from → j < S.visitors
      → at S b attend_cells (from + p) j 0 ≡ get_or (row_at S.visitors p (run_of S b attend_cells from to)) j 0
  attend-at p j h l =
      slot_at attend_cells p j 0 h (omega arith) ∙ ap (λ (x : ℕ). get_or (row_at S.visitors p (run_of S b attend_cells from to)) x 0) (omega arith)

  pub ride-at : (p j : ℕ) → p < to - from → j < S.transports
      → at S b ride_cells (from + p) j 0 ≡ get_or (row_at S.transports p (run_of S b ride_cells from to)) j 0
  ride-at p j h l =
      slot_at ride_cells p j 0 h (omega arith) ∙ ap (λ (x : ℕ). get_or (row_at S.transports p (run_of S b ride_cells from to)) x 0) (omega arith)

  pub conf-at : (p j k : ℕ) → p < to - from → j < S.rooms → k < 2
      → at S b conf_pairs (from + p) j k ≡ get_or (row_at (S.rooms * 2) p (run_of S b conf_pairs from to)) (j * 2 + k) 0
  conf-at p j k h l m = slot_at conf_pairs p j k h (omega arith)

-- a region with one slot to a date
module _ (S : Settings) (b : List ℕ) (d : ℕ) where
  day-at : (g : Region) (j k : ℕ) → j * width g + k < row_of S g → at S b g d j k ≡ get_or (run_of S b g d (d + 1)) (j * width g + k) 0
  day-at g j k h =
      ap (λ (i : ℕ). at S b g i j k) (omega arith) ∙ word_at S b d (d + 1) g 0 j k (omega arith) h
      ∙ ap (λ (x : ℕ). get_or (run_of S b g d (d + 1)) x 0) (omega arith)

  pub leave-at : (j : ℕ) → j < groups S.visitors → at S b leaves d j 0 ≡ get_or (run_of S b leaves d (d + 1)) j 0
  leave-at j h = day-at leaves j 0 (omega arith) ∙ ap (λ (x : ℕ). get_or (run_of S b leaves d (d + 1)) x 0) (omega arith)

  pub hotel-at : (j : ℕ) → j < S.hotels → at S b hotel_cells d j 0 ≡ get_or (run_of S b hotel_cells d (d + 1)) j 0
  hotel-at j h = day-at hotel_cells j 0 (omega arith) ∙ ap (λ (x : ℕ). get_or (run_of S b hotel_cells d (d + 1)) x 0) (omega arith)

  pub lunch-at : (j k : ℕ) → j < S.meetings → k < 3 → at S b lunch_triples d j k ≡ get_or (run_of S b lunch_triples d (d + 1)) (j * 3 + k) 0
  lunch-at j k h l = day-at lunch_triples j k (omega arith)

-- What a good book's cells say of its state: entries, rows, single cells.
-- Assumes nothing.
use Prim.Native.Nat.{ℕ, zero, suc, ◌+◌, ◌/◌, ◌%◌, ◌-◌, ◌≤◌, ◌<◌}
use mathlib.Core.Path.{◌≡◌, refl, sym, ◌∙◌, ap}
use mathlib.Core.Bool.{Bool, true, false, not, cond}
use Rattle.std.specs.Option.{SomeIff}
use Rattle.std.specs.Prelude.{Option, None, Some}
use mathlib.Core.List.{List}
use native.Mathlib.Omega.{arith}
use lib.Dec.{eqb}
use borrow.Author.Tests.{eq-eqb, ne_eqb, eqb-true}
use Rattle.model.specs.declared.Settings.{Settings}
use Rattle.model.specs.Bounded.{lowest, is_some, any, bit, one, count}
use Rattle.model.specs.Site.{all_sessions, capacity}
use Rattle.model.specs.State.{State, Lunch, attends, confs, lunches, booked, seats_of}
use Rattle.model.specs.Questions.{conf_held, lunch_held, meeting_of}
use Rattle.model.specs.Words.{leaves, standings, attend_cells, conf_pairs, lunch_triples, groups}
use Rattle.model.specs.Reading.{state_of, read_state, holds, at}
use Rattle.model.proofs.Search.{any_same, lowest_by, lowest-same, bool_eq}
use Rattle.model.proofs.ReadBack.{valid-is}
use Rattle.model.proofs.Sums.{sum-delta}
use Rattle.book.specs.Grids.{cell_at, grid_of}
use Rattle.book.specs.Rows.{row_has}
use Rattle.book.specs.Good.{Good}
use Rattle.book.proofs.Entries.{booked-eqb, bit_is, holds-is}
use Rattle.book.proofs.Goods.{good-state, good-sound, good-cell}
use Rattle.book.proofs.Regions.{group-lt}
use Rattle.model.proofs.Sums.{sum-empty}
use Rattle.book.proofs.Counts.{count_same}
use Rattle.queries.specs.Shown.{Seats, room_taken}

-- the number that a cell holds, if it is full
abbrev pub held : ℕ → Option ℕ
held zero = None
held (suc k) = Some k

pub held-full : (c : ℕ) → (c ≡ 0 → ⊥) → held c ≡ Some (c - 1)
held-full zero h = absurd (h refl)
held-full (suc k) h = ap Some (let e : k ≡ suc k - 1 = omega arith in e)

-- what is left of it without the 1, as the code takes it
pub held_less : (c : ℕ) (r : Option ℕ) → SomeIff r (1 ≤ c) (c - 1) → r ≡ held c
held_less zero None h = refl
held_less zero (Some x) h = absurd (omega (arith, h.0))
held_less (suc k) None h = absurd (h (omega arith))
held_less (suc k) (Some x) h = ap Some (omega (arith, h.1))

same-suc : (k w : ℕ) → eqb (suc k) (w + 1) ≡ eqb w k
same-suc k w = bool_eq _ _ (λ e. eq-eqb w k (omega (arith, eqb-true (suc k) (w + 1) e))) (λ e. eq-eqb (suc k) (w + 1) (omega (arith, eqb-true w k e)))

-- a search, a test and a count for the number of a cell
pub lowest-cell : (c n : ℕ) → c ≤ n → lowest (λ w. eqb c (w + 1)) 0 n ≡ held c
lowest-cell zero n h = lowest_by (λ w. eqb 0 (w + 1)) 0 n None (λ j l k. ne_eqb 0 (j + 1) (λ e. omega (arith, e)))
lowest-cell (suc c) n h =
    lowest_by (λ w. eqb (suc c) (w + 1)) 0 n (Some c)
    (record {
      low = omega arith;
      high = omega (arith, h);
      holds = eq-eqb (suc c) (c + 1) (omega arith);
      first = λ j l k. ne_eqb (suc c) (j + 1) (λ e. omega (arith, e, k));
    })

pub any-cell : (c n : ℕ) → c ≤ n → any (λ w. eqb c (w + 1)) n ≡ not (eqb c 0)
any-cell c n h = ap is_some (lowest-cell c n h) ∙ go c
  where
    go : (c : ℕ) → is_some (held c) ≡ not (eqb c 0)
    go zero = refl
    go (suc c) = sym (ap not (ne_eqb (suc c) 0 (λ e. omega (arith, e))))

pub count-cell : (c n : ℕ) → c ≤ n → count (λ w. eqb c (w + 1)) n ≡ one (not (eqb c 0))
count-cell zero n h = sum-empty (λ w. one (eqb 0 (w + 1))) 0 n (λ j l k. ap one (ne_eqb 0 (j + 1) (λ e. omega (arith, e))))
count-cell (suc c) n h =
    count_same (λ w. eqb (suc c) (w + 1)) (λ w. eqb w c) n (λ w l. same-suc c w)
    ∙ sum-delta 1 c 0 n (omega arith) (omega (arith, h))
    ∙ sym (ap (λ (b : Bool). one (not b)) (ne_eqb (suc c) 0 (λ e. omega (arith, e))))

module _ (S : Settings) (b : List ℕ) (good : Good S b) where
  -- members of the pools
  pub leave-bit : (d v : ℕ) → d < S.dates → v / 32 < groups S.visitors → (state_of b).leave d v
      ≡ bit (cell_at (grid_of S leaves) b d (v / 32)) (v % 32)
  unfolding read_state
  leave-bit d v h k = ap (λ (x : State). x.leave d v) (good-state good) ∙ bit_is S b leaves d v h k

  pub leave-is : (d v : ℕ) → d < S.dates → v < S.visitors → (state_of b).leave d v ≡ bit (cell_at (grid_of S leaves) b d (v / 32)) (v % 32)
  leave-is d v h k = leave-bit d v h (group-lt S.visitors v k)

  pub standing-is : (i m : ℕ) → i < all_sessions S → m < S.meetings → (state_of b).standing i m
      ≡ bit (cell_at (grid_of S standings) b i (m / 32)) (m % 32)
  unfolding read_state
  standing-is i m h k = ap (λ (x : State). x.standing i m) (good-state good) ∙ bit_is S b standings i m h (group-lt S.meetings m k)

  -- entries in the cells
  pub conf-held-is : (i m : ℕ) → i < all_sessions S → m < S.meetings → conf_held (state_of b) i m ≡ row_has (grid_of S conf_pairs) b i (m + 1)
  unfolding conf_held row_has read_state
  conf-held-is i m h k =
      ap (λ (x : State). any (λ c. is_some (x.conf i c m)) x.settings.rooms) (good-state good)
      ∙ any_same (λ c. booked (read_state S b) confs i c m) (λ c. eqb (cell_at (grid_of S conf_pairs) b i c) (m + 1)) S.rooms
      (λ c l. booked-eqb S b confs i h l k)

  pub lunch-held-is : (d m : ℕ) → d < S.dates → m < S.meetings → lunch_held (state_of b) d m ≡ not (eqb (cell_at (grid_of S lunch_triples) b d m) 0)
  unfolding lunch_held read_state
  lunch-held-is d m h k =
      ap (λ (x : State). any (λ g. is_some (x.lunch d g m)) x.settings.dining) (good-state good)
      ∙ any_same (λ g. booked (read_state S b) lunches d g m) (λ g. eqb (cell_at (grid_of S lunch_triples) b d m) (g + 1)) S.dining
      (λ g l. booked-eqb S b lunches d h l k)
      ∙ any-cell (cell_at (grid_of S lunch_triples) b d m) S.dining (good-cell good lunches d m h k)

  pub room-taken-is : (c i : ℕ) → i < all_sessions S → c < S.rooms → room_taken (state_of b) c i ≡ not (eqb (cell_at (grid_of S conf_pairs) b i c) 0)
  unfolding room_taken read_state
  room-taken-is c i h k =
      ap (λ (x : State). any (λ m. is_some (x.conf i c m)) x.settings.meetings) (good-state good)
      ∙ any_same (λ m. booked (read_state S b) confs i c m) (λ m. eqb (cell_at (grid_of S conf_pairs) b i c) (m + 1)) S.meetings
      (λ m l. booked-eqb S b confs i h k l)
      ∙ any-cell (cell_at (grid_of S conf_pairs) b i c) S.meetings (good-cell good confs i c h k)

  pub meeting-of-is : (i v : ℕ) → i < all_sessions S → v < S.visitors → meeting_of (state_of b) i v ≡ held (cell_at (grid_of S attend_cells) b i v)
  unfolding meeting_of read_state
  meeting-of-is i v h k =
      ap (λ (x : State). lowest (λ m. x.attend i m v) 0 x.settings.meetings) (good-state good)
      ∙ lowest-same (λ m. booked (read_state S b) attends i m v) (λ m. eqb (cell_at (grid_of S attend_cells) b i v) (m + 1)) 0 S.meetings
      (λ m l j. booked-eqb S b attends i h (omega (arith, j)) k)
      ∙ lowest-cell (cell_at (grid_of S attend_cells) b i v) S.meetings (good-cell good attends i v h k)

  -- the seats of a lunch
  lunch-pick : (d g m : ℕ) (t : Bool) → holds S b lunch_triples d m g ≡ t
      → seats_of ((read_state S b).lunch d g m) ≡ cond t (at S b lunch_triples d m 1) 0
  unfolding read_state
  lunch-pick d g m true e = rw e
  lunch-pick d g m false e = rw e

  pub seats-is : (d g m : ℕ) → d < S.dates → g < S.dining → m < S.meetings
      → seats_of ((state_of b).lunch d g m) ≡ cond (eqb (cell_at (grid_of S lunch_triples) b d m) (g + 1)) (at S b lunch_triples d m 1) 0
  seats-is d g m h l k =
      ap (λ (x : State). seats_of (x.lunch d g m)) (good-state good)
      ∙ lunch-pick d g m (eqb (cell_at (grid_of S lunch_triples) b d m) (g + 1)) (holds-is S b lunch_triples d m g h k)

  pub seats-few : (d g m : ℕ) → seats_of ((state_of b).lunch d g m) ≤ capacity S g
  unfolding read_state
  seats-few d g m = rw (good-state good) (go ((read_state S b).lunch d g m) refl)
    where
      go : (o : Option Lunch) → (read_state S b).lunch d g m ≡ o → seats_of o ≤ capacity S g
      go None e = omega arith
      go (Some l) e = ((good-sound good).seats d g m l e).1

  pub seats-most : (d g m : ℕ) → g < S.dining → seats_of ((state_of b).lunch d g m) ≤ 1000
  unfolding read_state
  seats-most d g m l = omega (arith, seats-few d g m, (valid-is S (good-sound good).valid).seats g l)

-- the meeting's seats in a dining room, by its cell
module _ (S : Settings) (b : List ℕ) (good : Good S b) (d g m : ℕ) (h : d < S.dates) (l : g < S.dining) (k : m < S.meetings) where
  pub seats-other : (cell_at (grid_of S lunch_triples) b d m ≡ g + 1 → ⊥) → Seats (state_of b) d g m 0
  seats-other n =
      let e : seats_of ((state_of b).lunch d g m) ≡ 0 = seats-is S b good d g m h l k
      ∙ ap (λ (t : Bool). cond t (at S b lunch_triples d m 1) 0) (ne_eqb _ (g + 1) n) in
      record { is = sym e; few = omega arith }

  pub seats-own : (w : ℕ) → cell_at (grid_of S lunch_triples) b d m ≡ g + 1 → w ≡ at S b lunch_triples d m 1 → Seats (state_of b) d g m w
  seats-own w n q =
      let e : seats_of ((state_of b).lunch d g m) ≡ at S b lunch_triples d m 1 = seats-is S b good d g m h l k
      ∙ ap (λ (t : Bool). cond t (at S b lunch_triples d m 1) 0) (eq-eqb _ (g + 1) n) in
      record { is = q ∙ sym e; few = omega (arith, seats-most S b good d g m l, e, q) }

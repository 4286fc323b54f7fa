-- What the cells of a good diary say of the lines of a page.
-- Assumes nothing.
use Prim.Native.Nat.{ℕ, zero, suc, ◌+◌, ◌-◌, ◌≤◌, ◌<◌}
use native.Mathlib.Decide.{ℕ_discrete}
use native.Mathlib.Numerals.{add-one}
use native.Mathlib.Omega.{arith}
use mathlib.Core.Path.{◌≡◌, refl, sym, ◌∙◌, ap, ap₂}
use mathlib.Core.Bool.{Bool, true, cond, not}
use Rattle.std.specs.Prelude.{Option, None, Some}
use mathlib.Core.List.{List, [], ◌∷◌}
use lib.Dec.{eqb}
use lib.ListN.{length, get_or, set, length-set}
use lib.Seq.{get_or-set_same, get_or-set_other}
use borrow.Author.Tests.{eq-eqb, ne_eqb}
use Rattle.model.specs.declared.Settings.{Settings}
use Rattle.model.specs.Bounded.{lowest, is_some, one, count, sum_from}
use Rattle.model.specs.Site.{all_sessions}
use Rattle.model.specs.State.{State, attends, confs, booked}
use Rattle.model.specs.Words.{attend_cells, conf_pairs, info_of}
use Rattle.model.specs.Reading.{state_of, read_state, holds, at}
use Rattle.model.specs.Page.{attending, holder, room_line, join_from, session_lines}
use Rattle.model.proofs.Search.{lowest-same}
use Rattle.model.proofs.Sums.{sum-agree, sum-most}
use Rattle.book.specs.Good.{Good}
use Rattle.book.specs.Grids.{cell_at, word_at, grid_of}
use Rattle.book.specs.declared.grid.Grid.{Grid}
use Rattle.book.proofs.Counts.{count_same, count-more, count-le}
use Rattle.book.proofs.Entries.{booked-eqb, holds-is, word-is}
use Rattle.book.proofs.Goods.{good-state, good-cell, good-laid}
use Rattle.queries.proofs.Shows.{held, held-full, lowest-cell}
use Rattle.units.proofs.Slots.{all-sessions}
use Rattle.pages.specs.Pages.{Tally, line_of, between}
use Rattle.pages.proofs.Joins.{join-length}

-- entry w says how many of the first n cells of row i hold w
pub record Tallied (g : Grid) (b : List ℕ) (i n : ℕ) (t : List ℕ) : Type 0 where
  pub long : length t ≡ 129
  pub each : (w : ℕ) → w ≤ 128 → get_or t w 0 ≡ count (λ j. eqb (cell_at g b i j) w) n

-- no cell, and one cell more
module _ (g : Grid) (b : List ℕ) (i : ℕ) where
  pub tallied-none : {t : List ℕ} → length t ≡ 129 → ((w : ℕ) → w ≤ 128 → get_or t w 0 ≡ 0) → Tallied g b i 0 t
  tallied-none e z = record { long = e; each = z }

  pub tallied-more : {n w : ℕ} {t : List ℕ} → w ≡ cell_at g b i n → w ≤ 128 → Tallied g b i n t → Tallied g b i (n + 1) (set t w (get_or t w 0 + 1))
  tallied-more {n} {w} {t} e h a =
      record { long = length-set t w _ ∙ a.long; each = λ u k. go u k (ℕ_discrete u w) }
    where
      is : ℕ → ℕ → Bool
      is u j = eqb (cell_at g b i j) u

      go : (u : ℕ) → u ≤ 128 → Dec (u ≡ w) → get_or (set t w (get_or t w 0 + 1)) u 0 ≡ count (is u) (n + 1)
      go u k (yes q) =
          let hit : one (is w n) ≡ 1 = ap one (eq-eqb (cell_at g b i n) w (sym e)) in
          let now : get_or (set t w (get_or t w 0 + 1)) w 0 ≡ get_or t w 0 + 1 = get_or-set_same t w _ 0 (omega (arith, a.long, h)) in
          rw q (omega (arith, now, a.each w h, count-more (is w) n, hit))
      go u k (no q) =
          let miss : one (is u n) ≡ 0 = ap one (ne_eqb (cell_at g b i n) u (λ z. q (sym z ∙ sym e))) in
          omega (arith, get_or-set_other t w u (get_or t w 0 + 1) 0 q, a.each u k, count-more (is u) n, miss)

  pub tallied-few : {n w : ℕ} {t : List ℕ} → w ≤ 128 → Tallied g b i n t → get_or t w 0 ≤ n
  tallied-few {n} {w} {t} h a = omega (arith, a.each w h, count-le (λ j. eqb (cell_at g b i j) w) 0 n)

module _ {S : Settings} {b : List ℕ} (good : Good S b) (s : ℕ) (hs : s < all_sessions S) where
  -- how many attend a meeting
  attending-is : (m : ℕ) → m < S.meetings → attending (state_of b) s m ≡ count (λ v. eqb (cell_at (grid_of S attend_cells) b s v) (suc m)) S.visitors
  unfolding attending read_state
  attending-is m k =
      ap (λ (x : State). count (λ v. x.attend s m v) x.settings.visitors) (good-state good)
      ∙ count_same (λ v. booked (read_state S b) attends s m v) (λ v. eqb (cell_at (grid_of S attend_cells) b s v) (suc m)) S.visitors
      (λ v l. booked-eqb S b attends s hs k l ∙ ap (eqb (cell_at (grid_of S attend_cells) b s v)) (add-one m))

  pub tally-all : {n : ℕ} {t : List ℕ} → n ≡ S.visitors → Tallied (grid_of S attend_cells) b s n t → Tally (state_of b) s t
  unfolding read_state
  tally-all {n} {t} e h =
      record {
        long = h.long;
        each = λ m k.
            let l : m < S.meetings = rw (good-state good) at k in
            h.each (suc m) (omega (arith, l, (good-laid good).ranges.meetings))
            ∙ ap (count (λ v. eqb (cell_at (grid_of S attend_cells) b s v) (suc m))) e
            ∙ sym (attending-is m l);
      }

  -- which meeting holds a room
  module _ (c : ℕ) (hc : c < S.rooms) where
    holder-is : holder (state_of b) s c ≡ held (cell_at (grid_of S conf_pairs) b s c)
    unfolding holder read_state
    holder-is =
        ap (λ (x : State). lowest (λ m. is_some (x.conf s c m)) 0 x.settings.meetings) (good-state good)
        ∙ lowest-same (λ m. booked (read_state S b) confs s c m) (λ m. eqb (cell_at (grid_of S conf_pairs) b s c) (m + 1)) 0 S.meetings
        (λ m l j. booked-eqb S b confs s hs hc (omega (arith, j)))
        ∙ lowest-cell (cell_at (grid_of S conf_pairs) b s c) S.meetings (good-cell good confs s c hs hc)

    info-is : (m : ℕ) → cell_at (grid_of S conf_pairs) b s c ≡ m + 1 → info_of ((state_of b).conf s c m) ≡ word_at (grid_of S conf_pairs) b s c 1
    unfolding read_state
    info-is m e =
        let h : holds S b conf_pairs s c m ≡ true = holds-is S b conf_pairs s c m hs hc ∙ eq-eqb _ (m + 1) e in
        ap (λ (x : State). info_of (x.conf s c m)) (good-state good)
        ∙ ap (λ (t : Bool). info_of (cond t (Some (at S b conf_pairs s c 1)) None)) h
        ∙ sym (word-is S b conf_pairs s c 1)

    pub no_line : cell_at (grid_of S conf_pairs) b s c ≡ 0 → [] ≡ room_line (state_of b) s c
    no_line e = sym (ap (λ (o : Option ℕ). Rattle.model.specs.Page.line_of (state_of b) s c o) (holder-is ∙ ap held e))

    pub the-line : {w n i : ℕ} → w ≡ cell_at (grid_of S conf_pairs) b s c → (w ≡ 0 → ⊥) → n ≡ attending (state_of b) s (w - 1)
        → i ≡ word_at (grid_of S conf_pairs) b s c 1 → line_of s c (w - 1) n i ∷ [] ≡ room_line (state_of b) s c
    the-line {w} {n} {i} e f a q =
        let m : cell_at (grid_of S conf_pairs) b s c ≡ w - 1 + 1 = omega (arith, e, f) in
        ap₂ (λ (x y : ℕ). line_of s c (w - 1) x y ∷ []) a (q ∙ sym (info-is (w - 1) m))
        ∙ sym (ap (λ (o : Option ℕ). Rattle.model.specs.Page.line_of (state_of b) s c o) (holder-is ∙ ap held (sym e) ∙ held-full w f))

    pub full-few : {w : ℕ} → w ≡ cell_at (grid_of S conf_pairs) b s c → w ≤ 128
    full-few e = omega (arith, e, good-cell good confs s c hs hc, (good-laid good).ranges.meetings)

    pub line-one : {w : ℕ} → w ≡ cell_at (grid_of S conf_pairs) b s c → (w ≡ 0 → ⊥) → length (room_line (state_of b) s c) ≡ 1
    line-one e f = sym (ap length (the-line e f refl refl))

    -- and by the table of its session
    pub table-line : {w i : ℕ} {t : List ℕ} → w ≡ cell_at (grid_of S conf_pairs) b s c → (w ≡ 0 → ⊥) → Tally (state_of b) s t
        → i ≡ word_at (grid_of S conf_pairs) b s c 1 → line_of s c (w - 1) (get_or t w 0) i ∷ [] ≡ room_line (state_of b) s c
    unfolding read_state
    table-line {w} {i} {t} e f h q =
        let k : suc (w - 1) ≡ w = omega (arith, f) in
        let l : w - 1 < (state_of b).settings.meetings = rw (good-state good) (omega (arith, f, e, good-cell good confs s c hs hc)) in
        the-line e f (ap (λ (n : ℕ). get_or t n 0) (sym k) ∙ h.each (w - 1) l) q

    -- a cell counts one line where it is full
    pub line-count : one (not (eqb (cell_at (grid_of S conf_pairs) b s c) 0)) ≡ length (room_line (state_of b) s c)
    line-count = go (cell_at (grid_of S conf_pairs) b s c) refl
      where
        go : (w : ℕ) → cell_at (grid_of S conf_pairs) b s c ≡ w → one (not (eqb w 0)) ≡ length (room_line (state_of b) s c)
        go zero e = ap length (no_line e)
        go (suc m) e =
            ap (λ (t : Bool). one (not t)) (ne_eqb (suc m) 0 (λ z. omega (arith, z)))
            ∙ ap length (the-line {w = suc m} (sym e) (λ z. omega (arith, z)) refl refl)

-- a cell of a session's visitors holds no more than the meetings
pub cell-few : {S : Settings} {b : List ℕ} → Good S b → (s : ℕ) → s < all_sessions S → (v : ℕ) → v < S.visitors
    → {w : ℕ} → w ≡ cell_at (grid_of S attend_cells) b s v → w ≤ 128
cell-few good s h v k e = omega (arith, e, good-cell good attends s v h k, (good-laid good).ranges.meetings)

-- the lines of sessions by their rooms
module _ {S : Settings} {b : List ℕ} (good : Good S b) where
  -- the rooms of the site are all of a session
  pub session-rooms : (s : ℕ) {n : ℕ} → n ≡ S.rooms → join_from (room_line (state_of b) s) 0 n ≡ session_lines (state_of b) s
  unfolding session_lines read_state
  session-rooms s e = ap (join_from (room_line (state_of b) s) 0) (e ∙ sym (ap (λ (x : State). x.settings.rooms) (good-state good)))

  -- as many as the cells that are full
  pub session-count : (s : ℕ) → s < all_sessions S → sum_from (λ c. one (not (eqb (cell_at (grid_of S conf_pairs) b s c) 0))) 0 (S.rooms - 0)
      ≡ length (session_lines (state_of b) s)
  session-count s h =
      let z : S.rooms - 0 ≡ S.rooms = omega arith in
      sum-agree (λ c. one (not (eqb (cell_at (grid_of S conf_pairs) b s c) 0))) (λ c. length (room_line (state_of b) s c)) 0 (S.rooms - 0)
      (λ c _ k. line-count good s h c (omega (arith, k)))
      ∙ join-length (room_line (state_of b) s) 0 (S.rooms - 0)
      ∙ ap length (session-rooms s z)

  -- and no more than all rooms
  pub session-few : (s : ℕ) → length (session_lines (state_of b) s) ≤ 64
  session-few s =
      omega (
        arith,
        sum-most (λ c. length (room_line (state_of b) s c)) 1 0 S.rooms (λ c. line-few c (holder (state_of b) s c)),
        join-length (room_line (state_of b) s) 0 S.rooms,
        ap length (session-rooms s refl),
        (good-laid good).ranges.rooms,
      )
    where
      line-few : (c : ℕ) (o : Option ℕ) → length (Rattle.model.specs.Page.line_of (state_of b) s c o) ≤ 1
      line-few c None = omega arith
      line-few c (Some m) = omega arith

  pub between-few : (lo hi : ℕ) → hi ≤ all_sessions S → length (between (state_of b) lo hi) ≤ 409600
  unfolding between
  between-few lo hi h =
      omega (
        arith,
        sum-most (λ s. length (session_lines (state_of b) s)) 64 lo (hi - lo) session-few,
        join-length (session_lines (state_of b)) lo (hi - lo),
        all-sessions S (good-laid good).ranges,
      )

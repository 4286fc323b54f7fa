-- Rooms free in a run of sessions, and meetings that stand in some session of a date.
-- Assumes nothing.
use Prim.Native.Nat.{ℕ, ◌+◌, ◌/◌, ◌%◌, ◌≤◌, ◌<◌}
use mathlib.Core.Path.{◌≡◌, refl, sym, ◌∙◌, ap, subst}
use mathlib.Core.Bool.{Bool, true, false, not, ◌&&◌}
use Rattle.std.specs.Prelude.{Option, None, Some}
use mathlib.Core.List.{List}
use native.Mathlib.Decide.{ℕ_discrete}
use native.Mathlib.Omega.{arith}
use lib.Dec.{leb, ltb, eqb}
use borrow.Author.Tests.{eq-eqb, eqb-true, le-leb, lt-ltb, leb-true, ltb-true}
use Rattle.model.specs.declared.Settings.{Settings}
use Rattle.model.specs.Bounded.{lowest, is_some, any, bit, failing}
use Rattle.model.specs.Kinds.{sessions}
use Rattle.model.specs.Site.{all_sessions, date_of_session}
use Rattle.model.specs.State.{State}
use Rattle.model.specs.Words.{standings, conf_pairs}
use Rattle.model.specs.Questions.{lowest_free, stands_on}
use Rattle.model.specs.Reading.{state_of, read_state}
use Rattle.model.proofs.Search.{any-true, any_false, true-any, false-any, none-failing, failing-none, and-true, and_left, and_right}
use Rattle.model.proofs.Search.{any_same, within-true, true-within, both, bool_eq, lowest-same}
use Rattle.book.specs.Good.{Good}
use Rattle.book.specs.Grids.{cell_at, grid_of}
use Rattle.units.specs.Units.{Cut}
use Rattle.units.proofs.Cuts.{between-cuts}
use Rattle.book.proofs.Founds.{found_at, found_none}
use Rattle.book.proofs.Goods.{good-state}
use Rattle.queries.specs.Shown.{room_taken, empty_in}
use Rattle.queries.proofs.Shows.{standing-is, room-taken-is}

-- room c is free in every session of first..last
abbrev pub free_in : State → ℕ → ℕ → ℕ → Bool
free_in x first last c = not (is_some (failing (λ s. not (room_taken x c s)) first last))

pub free-yes : (x : State) (first last c : ℕ) → ((s : ℕ) → first ≤ s → s ≤ last → room_taken x c s ≡ false) → free_in x first last c ≡ true
free-yes x first last c h =
    ap (λ (o : Option ℕ). not (is_some o)) (none-failing (λ s. not (room_taken x c s)) first last (λ s l k. ap not (h s l k)))

pub free-no : (x : State) (first last c s : ℕ) → first ≤ s → s ≤ last → room_taken x c s ≡ true → free_in x first last c ≡ false
free-no x first last c s l k e = go (failing (λ s. not (room_taken x c s)) first last) refl
  where
    go : (o : Option ℕ) → failing (λ s. not (room_taken x c s)) first last ≡ o → free_in x first last c ≡ false
    go None q = both (failing-none (λ s. not (room_taken x c s)) first last q s l k) (ap not e)
    go (Some i) q = ap (λ (o : Option ℕ). not (is_some o)) q

pub lowest-none : (x : State) (first last : ℕ) → ((c : ℕ) → c < x.settings.rooms → free_in x first last c ≡ false) → None
    ≡ (lowest_free x first last)
unfolding lowest_free room_taken
lowest-none x first last h = found_none (free_in x first last) x.settings.rooms h

pub lowest-at : (x : State) (first last c : ℕ) → c < x.settings.rooms → ((e : ℕ) → e < c → free_in x first last e ≡ false) → free_in x first last c
    ≡ true
    → Some c ≡ (lowest_free x first last)
unfolding lowest_free room_taken
lowest-at x first last c l h e = found_at (free_in x first last) x.settings.rooms c h l e

-- three slots that are all of a run: its first, its middle and its last
in_three : (P : ℕ → Type 0) (first middle last k : ℕ) → middle ≤ first + 1 → last ≤ middle + 1 → first ≤ k → k ≤ last → P first → P middle
    → P last
    → P k
in_three P first middle last k m n l h a b c = go (ℕ_discrete k first) (ℕ_discrete k middle)
  where
    go : Dec (k ≡ first) → Dec (k ≡ middle) → P k
    go (yes e) t = subst P (sym e) a
    go (no u) (yes e) = subst P (sym e) b
    go (no u) (no v) = subst P (let e : last ≡ k = omega (arith, u, v) in e) c

-- a room whose cells in them are empty is free in the run, and the lowest of these is the lowest free
module _ (S : Settings) (b : List ℕ) (good : Good S b) (first middle last : ℕ) (l : first ≤ middle) (h : middle ≤ last) (k : last < all_sessions S) where
  cell_free : (c s : ℕ) → c < S.rooms → s ≤ last → eqb (cell_at (grid_of S conf_pairs) b s c) 0 ≡ true → room_taken (state_of b) c s ≡ false
  cell_free c s r g e = room-taken-is S b good c s (omega (arith, k)) r ∙ ap not e

  free-cell : (c s : ℕ) → c < S.rooms → first ≤ s → s ≤ last → free_in (state_of b) first last c ≡ true → eqb (cell_at (grid_of S conf_pairs) b s c) 0 ≡ true
  free-cell c s r f g e = go (eqb (cell_at (grid_of S conf_pairs) b s c) 0) refl
    where
      go : (t : Bool) → eqb (cell_at (grid_of S conf_pairs) b s c) 0 ≡ t → eqb (cell_at (grid_of S conf_pairs) b s c) 0 ≡ true
      go true q = q
      go false q = both e (free-no (state_of b) first last c s f g (room-taken-is S b good c s (omega (arith, k)) r ∙ ap not q))

  empty-free : middle ≤ first + 1 → last ≤ middle + 1 → (c : ℕ) → c < S.rooms
      → empty_in (grid_of S conf_pairs) b first middle last c ≡ free_in (state_of b) first last c
  unfolding empty_in
  empty-free m n c r = bool_eq _ _ yes back
    where
      at : ℕ → Bool
      at s = eqb (cell_at (grid_of S conf_pairs) b s c) 0

      yes : at first && at middle && at last ≡ true → free_in (state_of b) first last c ≡ true
      yes e =
          free-yes (state_of b) first last c
          (λ s f g. in_three (λ s. room_taken (state_of b) c s ≡ false) first middle last s m n f g
          (cell_free c first r (omega (arith, l, h)) (and_left (at first) (at middle) (and_left (at first && at middle) (at last) e)))
          (cell_free c middle r h (and_right (at first) (at middle) (and_left (at first && at middle) (at last) e)))
          (cell_free c last r (omega arith) (and_right (at first && at middle) (at last) e)))

      back : free_in (state_of b) first last c ≡ true → at first && at middle && at last ≡ true
      back e =
          and-true
          (and-true (free-cell c first r (omega arith) (omega (arith, l, h)) e) (free-cell c middle r l h e))
          (free-cell c last r (omega (arith, l, h)) (omega arith) e)

  pub lowest-soon : middle ≤ first + 1 → last ≤ middle + 1
      → (lowest (empty_in (grid_of S conf_pairs) b first middle last) 0 S.rooms) ≡ (lowest_free (state_of b) first last)
  unfolding lowest_free room_taken read_state
  lowest-soon m n =
      (lowest-same (empty_in (grid_of S conf_pairs) b first middle last) (free_in (state_of b) first last) 0 S.rooms
      (λ c _ r. empty-free m n c (omega (arith, r)))
      ∙ ap (lowest (free_in (state_of b) first last) 0) (sym (ap (λ (x : State). x.settings.rooms) (good-state good))))

-- the sessions of a date are those between two cuts
module _ (x : State) (d m lo hi : ℕ) (a : Cut x.settings sessions d lo) (b : Cut x.settings sessions (d + 1) hi) where
  abbrev stands_in : ℕ → Bool
  stands_in s = eqb (date_of_session x.settings s) d && x.standing s m

  pub stands-yes : (s : ℕ) → lo ≤ s → s < hi → x.standing s m ≡ true → true ≡ stands_on x d m
  unfolding stands_on
  stands-yes s l k e =
      let n : s < all_sessions x.settings = omega (arith, b.most) in
      let w : (d ≤ date_of_session x.settings s) × (date_of_session x.settings s ≤ d)
      = within-true d d (date_of_session x.settings s)
      (between-cuts x.settings sessions d d lo hi a b s n ∙ and-true (le-leb lo s l) (lt-ltb s hi k)) in
      sym (true-any stands_in (all_sessions x.settings) s n (and-true (eq-eqb (date_of_session x.settings s) d (omega (arith, w))) e))

  pub stands-no : ((s : ℕ) → lo ≤ s → s < hi → x.standing s m ≡ false) → false ≡ stands_on x d m
  unfolding stands_on
  stands-no h = sym (false-any stands_in (all_sessions x.settings) (λ s n. go s n (eqb (date_of_session x.settings s) d) refl))
    where
      go : (s : ℕ) → s < all_sessions x.settings → (t : Bool) → eqb (date_of_session x.settings s) d ≡ t → stands_in s ≡ false
      go s n false q = rw q
      go s n true q =
          let e : date_of_session x.settings s ≡ d = eqb-true _ d q in
          let c : leb lo s && ltb s hi ≡ true
          = sym (between-cuts x.settings sessions d d lo hi a b s n)
          ∙ true-within d d (date_of_session x.settings s) (omega (arith, e)) (omega (arith, e)) in
          rw q (h s (leb-true lo s (and_left (leb lo s) (ltb s hi) c)) (ltb-true s hi (and_right (leb lo s) (ltb s hi) c)))

-- the same of a good book, by the cuts of its settings
module _ (S : Settings) (b : List ℕ) (good : Good S b) (d m lo hi : ℕ) (low : Cut S sessions d lo) (high : Cut S sessions (d + 1) hi) where
  settings-are : S ≡ (state_of b).settings
  unfolding read_state
  settings-are = sym (ap (λ (x : State). x.settings) (good-state good))

  pub date-yes : (s : ℕ) → lo ≤ s → s < hi → (state_of b).standing s m ≡ true → true ≡ stands_on (state_of b) d m
  date-yes =
      stands-yes (state_of b) d m lo hi (subst (λ (S : Settings). Cut S sessions d lo) settings-are low)
      (subst (λ (S : Settings). Cut S sessions (d + 1) hi) settings-are high)

  pub date-no : ((s : ℕ) → lo ≤ s → s < hi → (state_of b).standing s m ≡ false) → false ≡ stands_on (state_of b) d m
  date-no =
      stands-no (state_of b) d m lo hi (subst (λ (S : Settings). Cut S sessions d lo) settings-are low)
      (subst (λ (S : Settings). Cut S sessions (d + 1) hi) settings-are high)

  -- asked of the sessions between the cuts
  date-any : any (λ i. leb lo i && (state_of b).standing i m) hi ≡ stands_on (state_of b) d m
  date-any = go (any at hi) refl
    where
      at : ℕ → Bool
      at i = leb lo i && (state_of b).standing i m

      off : (s : ℕ) → leb lo s ≡ true → at s ≡ false → (state_of b).standing s m ≡ false
      off s e f = sym (ap (λ (t : Bool). t && (state_of b).standing s m) e) ∙ f

      go : (t : Bool) → any at hi ≡ t → any at hi ≡ stands_on (state_of b) d m
      go true q =
          let w : (k : ℕ) × (k < hi) × (at k ≡ true) = any-true at hi q in
          q ∙ date-yes w.0 (leb-true lo w.0 (and_left (leb lo w.0) ((state_of b).standing w.0 m) w.2)) w.1
          (and_right (leb lo w.0) ((state_of b).standing w.0 m) w.2)
      go false q = q ∙ date-no (λ s l k. off s (le-leb lo s l) (any_false at hi q s k))

  -- and of their words
  pub date-bits : m < S.meetings → any (λ i. leb lo i && bit (cell_at (grid_of S standings) b i (m / 32)) (m % 32)) hi ≡ stands_on (state_of b) d m
  date-bits k =
      any_same (λ i. leb lo i && bit (cell_at (grid_of S standings) b i (m / 32)) (m % 32)) (λ i. leb lo i && (state_of b).standing i m) hi
      (λ i h. ap (λ (t : Bool). leb lo i && t) (sym (standing-is S b good i m (omega (arith, high.most)) k)))
      ∙ date-any

-- sessions from lo on, before hi
pub between-yes : (t : ℕ → Bool) (lo hi i : ℕ) → lo ≤ i → i < hi → t i ≡ true → true ≡ any (λ i. leb lo i && t i) hi
between-yes t lo hi i l h e = sym (true-any (λ i. leb lo i && t i) hi i h (and-true (le-leb lo i l) e))

pub between-no : (t : ℕ → Bool) (lo hi : ℕ) → ((k : ℕ) → lo ≤ k → k < hi → t k ≡ false) → false ≡ any (λ i. leb lo i && t i) hi
between-no t lo hi h = sym (false-any (λ i. leb lo i && t i) hi (λ k g. go k g (leb lo k) refl))
  where
    go : (k : ℕ) → k < hi → (b : Bool) → leb lo k ≡ b → leb lo k && t k ≡ false
    go k g false q = rw q
    go k g true q = rw q (h k (leb-true lo k q) g)

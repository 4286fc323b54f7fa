-- The write of each kind: a book that has the words of a sound state then has those of the changed state.
-- Assumes nothing.
use Prim.Native.Nat.{ℕ, zero, suc, ◌+◌, ◌<◌}
use mathlib.Core.Path.{◌≡◌, refl, sym, ◌∙◌, ap, ap₂}
use mathlib.Core.Bool.{Bool, true, false, not, ◌&&◌, ◌||◌, cond, true≢false, and-true as and_one}
use Rattle.std.specs.Prelude.{Option, None, Some}
use Rattle.std.proofs.Math.Bool.{and_assoc, and_comm}
use mathlib.Core.List.{List, ◌++◌}
use native.Mathlib.Omega.{arith}
use lib.Dec.{eqb}
use borrow.Author.Tests.{ltb-true, eqb-true, eq-eqb, not-true}
use Rattle.model.specs.declared.Settings.{Settings}
use Rattle.model.specs.declared.Request.{Request}
use Rattle.model.specs.Bounded.{lowest, found, is_some}
use Rattle.model.specs.State.{State, Lunch, seats_of, Pairs, hotels, rides, attends, confs, lunches, booked}
use Rattle.model.specs.Kinds.{Kind, row, slots_of}
use Rattle.model.specs.Kinds.{Kind.add_hotel, Kind.erase_hotel, Kind.add_ride, Kind.erase_ride}
use Rattle.model.specs.Kinds.{Kind.add_attend, Kind.erase_attend, Kind.add_conf}
use Rattle.model.specs.Kinds.{Kind.add_lunch, Kind.erase_lunch}
use Rattle.model.specs.Questions.{ask, test, always, further, Question.a_below, Question.b_below, Question.absent, Question.elsewhere}
use Rattle.model.specs.Machine.{change, slot, with_lunch}
use Rattle.model.specs.Words.{Region, hotel_cells, attend_cells, conf_pairs, lunch_triples, ride_cells, slots, items, width, word, cell, info_of, lunch_info}
use Rattle.model.proofs.Search.{and_left, and_right}
use Rattle.model.proofs.Laws.{Sound}
use Rattle.model.proofs.Places.{Cell}
use Rattle.model.proofs.Keeps.{Yes, said, yes, yes-slot, was-present, is_free, not-elsewhere}
use Rattle.book.specs.Grids.{grid_of}
use Rattle.book.specs.declared.puts.Content.{Content}
use Rattle.book.specs.Stores.{word_in, empty}
use Rattle.apply.specs.Stores.{full, filled}
use Rattle.apply.proofs.Stages.{Frame, Carries, column, in-slots, last-slot}
use Rattle.apply.proofs.Contents.{added, emptied, some_or, some-less}
use Rattle.apply.proofs.Frames.{hotel-frame, ride-frame, attend-frame, conf-frame, lunch-frame}

-- ---- one item's cell in the request's slots; p and f before, q and h after: cell (i, j) holds u, and its word is read by f i j

module _ (r : Request) (p q : ℕ → ℕ → ℕ → Bool) (n : ℕ) (f h : ℕ → ℕ → ℕ → ℕ) (A B : ℕ)
    (off : (i j : ℕ) → slot r i && eqb j A ≡ false → (u : ℕ) → h i j u ≡ f i j u) where
  mine : (i j : ℕ) → slot r i && eqb j A ≡ true → (slot r i ≡ true) × (j ≡ A)
  mine i j e = (and_left (slot r i) _ e, eqb-true j A (and_right (slot r i) _ e))

  pair-added : ((i j u : ℕ) → q i j u ≡ p i j u || (slot r i && eqb j A && eqb u B)) → B < n → (w : ℕ) → ((i : ℕ) → slot r i ≡ true → h i A B ≡ w)
      → ((i u : ℕ) → slot r i ≡ true → p i A u ≡ true → ⊥)
      → (i j : ℕ) → found (lowest (q i j) 0 n) (h i j) ≡ cond (slot r i && eqb j A) w (found (lowest (p i j) 0 n) (f i j))
  pair-added is hb w new free i j =
      added (p i j) (q i j) n (f i j) (h i j) (slot r i && eqb j A) B w (is i j) (off i j)
      (λ e. (hb, rw (mine i j e).1 (new i (mine i j e).0)))
      (λ e u z. free i u (mine i j e).0 (rw (mine i j e).1 at z))

  pair-erased : ((i j u : ℕ) → q i j u ≡ p i j u && not (slot r i && eqb j A && eqb u B))
      → ((i u : ℕ) → slot r i ≡ true → p i A u ≡ true → u ≡ B)
      → (i j : ℕ) → found (lowest (q i j) 0 n) (h i j) ≡ cond (slot r i && eqb j A) 0 (found (lowest (p i j) 0 n) (f i j))
  pair-erased is only i j =
      emptied (p i j) (q i j) n (f i j) (h i j) (slot r i && eqb j A)
      (λ e u. is i j u ∙ rw e (out e u (p i j u) refl))
      (λ e u. is i j u ∙ rw e (and_one (p i j u)))
      (off i j)
    where
      out : slot r i && eqb j A ≡ true → (u : ℕ) (t : Bool) → p i j u ≡ t → p i j u && not (eqb u B) ≡ false
      out e u false z = rw z
      out e u true z = rw (z, eq-eqb u B (only i u (mine i j e).0 (rw (mine i j e).1 at z)))

swap : (s e c : Bool) → s && e && c ≡ s && c && e
swap s e c = and_assoc s e c ∙ ap (λ (t : Bool). s && t) (and_comm e c) ∙ sym (and_assoc s c e)

module _ (x : State) (s : Sound x) (r : Request) (b : List ℕ) (a : Carries x.settings x b) where
  abbrev S : Settings
  S = x.settings

  -- b has no a at all in the set
  alone : (k : Kind) (p : Pairs) → ask x r k (absent p) ≡ None → ask x r k (elsewhere p) ≡ None → (i c : ℕ) → slot r i ≡ true
      → booked x p i c r.b ≡ true → ⊥
  unfolding test
  alone k p e f i c h q =
      let z : booked x p i r.a r.b ≡ false = not-true _ (yes-slot x r k (absent p) refl e i h) in
      true≢false (sym (rw (not-elsewhere x r k s p f i c h q) at q) ∙ z)

  -- cells of one word, one item of them: p before and q after; A is the item, B what its cells hold
  module _ (k : Kind) (y : Yes x r k (always ++ further k)) (g : Region) (one : width g ≡ 1) (unit : slots S g ≡ slots_of S (row k).unit)
      (p q : ℕ → ℕ → ℕ → Bool) (n A B : ℕ) (z : State) (frame : Frame g x z) (item : A < items S g)
      (before : (i j m : ℕ) → word x g i j m ≡ cell (p i j) n) (after : (i j m : ℕ) → word z g i j m ≡ cell (q i j) n) where
    only-word : (c : Content) (m : ℕ) → m < width g → word_in c m ≡ c.entry
    only-word c zero l = refl
    only-word c (suc m) l = absurd (omega (arith, one))

    put_one : ((i j u : ℕ) → q i j u ≡ p i j u || (slot r i && eqb j A && eqb u B)) → B < n → ((i u : ℕ) → slot r i ≡ true → p i A u ≡ true → ⊥)
        → Carries S z (filled (grid_of S g) A (full B 0 0) r.first (r.last + 1) b)
    put_one is hb free =
        column a g (slot r) r.first (r.last + 1) (rw unit (last-slot x r k y)) (λ i _. in-slots r i) z frame A (full B 0 0) item
        (λ i j m c. after i j m
        ∙ pair-added r p q n (λ i j. suc) (λ i j. suc) A B (λ i j _ u. refl) is hb (B + 1) (λ i _. omega arith) free i j
        ∙ ap₂ (cond (slot r i && eqb j A)) (sym (only-word (full B 0 0) m c.word)) (sym (before i j m)))

    take-one : ((i j u : ℕ) → q i j u ≡ p i j u && not (slot r i && eqb j A && eqb u B)) → ((i u : ℕ) → slot r i ≡ true → p i A u ≡ true → u ≡ B)
        → Carries S z (filled (grid_of S g) A empty r.first (r.last + 1) b)
    take-one is only =
        column a g (slot r) r.first (r.last + 1) (rw unit (last-slot x r k y)) (λ i _. in-slots r i) z frame A empty item
        (λ i j m c. after i j m
        ∙ pair-erased r p q n (λ i j. suc) (λ i j. suc) A B (λ i j _ u. refl) is only i j
        ∙ ap₂ (cond (slot r i && eqb j A)) (sym (only-word empty m c.word)) (sym (before i j m)))

  -- kinds 4 and 5, 6 and 7: the item is a, and its cells hold b
  pub write-add_hotel : Yes x r add_hotel (always ++ further add_hotel)
      → Carries S (change x r add_hotel) (filled (grid_of S hotel_cells) r.a (full r.b 0 0) r.first (r.last + 1) b)
  unfolding change test word
  write-add_hotel y =
      put_one add_hotel y hotel_cells refl refl x.hotel _ S.visitors r.a r.b (change x r add_hotel) (hotel-frame x _)
      (ltb-true _ _ (yes x r add_hotel a_below refl (said x r add_hotel 5 y))) (λ i j m. refl) (λ i j m. refl) (λ i j u. refl)
      (ltb-true _ _ (yes x r add_hotel b_below refl (said x r add_hotel 6 y))) (λ i u h. is_free x r add_hotel s hotels (said x r add_hotel 12 y) i u h)

  pub write-erase_hotel : Yes x r erase_hotel (always ++ further erase_hotel)
      → Carries S (change x r erase_hotel) (filled (grid_of S hotel_cells) r.a empty r.first (r.last + 1) b)
  unfolding change test word
  write-erase_hotel y =
      take-one erase_hotel y hotel_cells refl refl x.hotel _ S.visitors r.a r.b (change x r erase_hotel) (hotel-frame x _)
      (ltb-true _ _ (yes x r erase_hotel a_below refl (said x r erase_hotel 5 y))) (λ i j m. refl) (λ i j m. refl) (λ i j u. refl)
      (λ i u h e. s.one_b hotels refl i r.a u r.b e (was-present x r erase_hotel hotels (said x r erase_hotel 15 y) i h))

  pub write-add_ride : Yes x r add_ride (always ++ further add_ride)
      → Carries S (change x r add_ride) (filled (grid_of S ride_cells) r.a (full r.b 0 0) r.first (r.last + 1) b)
  unfolding change test word
  write-add_ride y =
      put_one add_ride y ride_cells refl refl x.ride _ S.visitors r.a r.b (change x r add_ride) (ride-frame x _)
      (ltb-true _ _ (yes x r add_ride a_below refl (said x r add_ride 5 y))) (λ i j m. refl) (λ i j m. refl) (λ i j u. refl)
      (ltb-true _ _ (yes x r add_ride b_below refl (said x r add_ride 6 y))) (λ i u h. is_free x r add_ride s rides (said x r add_ride 12 y) i u h)

  pub write-erase_ride : Yes x r erase_ride (always ++ further erase_ride)
      → Carries S (change x r erase_ride) (filled (grid_of S ride_cells) r.a empty r.first (r.last + 1) b)
  unfolding change test word
  write-erase_ride y =
      take-one erase_ride y ride_cells refl refl x.ride _ S.visitors r.a r.b (change x r erase_ride) (ride-frame x _)
      (ltb-true _ _ (yes x r erase_ride a_below refl (said x r erase_ride 5 y))) (λ i j m. refl) (λ i j m. refl) (λ i j u. refl)
      (λ i u h e. s.one_b rides refl i r.a u r.b e (was-present x r erase_ride rides (said x r erase_ride 15 y) i h))

  -- kinds 10 and 11: the item is b, and its cells hold a
  pub write-add_attend : Yes x r add_attend (always ++ further add_attend)
      → Carries S (change x r add_attend) (filled (grid_of S attend_cells) r.b (full r.a 0 0) r.first (r.last + 1) b)
  unfolding change test word
  write-add_attend y =
      put_one add_attend y attend_cells refl refl (λ i j m. x.attend i m j) _ S.meetings r.b r.a (change x r add_attend) (attend-frame x _)
      (ltb-true _ _ (yes x r add_attend b_below refl (said x r add_attend 6 y))) (λ i j m. refl) (λ i j m. refl)
      (λ i j u. ap (λ (t : Bool). x.attend i u j || t) (swap (slot r i) (eqb u r.a) (eqb j r.b)))
      (ltb-true _ _ (yes x r add_attend a_below refl (said x r add_attend 5 y)))
      (λ i u h. alone add_attend attends (said x r add_attend 11 y) (said x r add_attend 13 y) i u h)

  pub write-erase_attend : Yes x r erase_attend (always ++ further erase_attend)
      → Carries S (change x r erase_attend) (filled (grid_of S attend_cells) r.b empty r.first (r.last + 1) b)
  unfolding change test word
  write-erase_attend y =
      take-one erase_attend y attend_cells refl refl (λ i j m. x.attend i m j) _ S.meetings r.b r.a (change x r erase_attend)
      (attend-frame x _)
      (ltb-true _ _ (yes x r erase_attend b_below refl (said x r erase_attend 6 y))) (λ i j m. refl) (λ i j m. refl)
      (λ i j u. ap (λ (t : Bool). x.attend i u j && not t) (swap (slot r i) (eqb u r.a) (eqb j r.b)))
      (λ i u h e. s.one_a attends refl i r.b u r.a e (was-present x r erase_attend attends (said x r erase_attend 15 y) i h))

  -- kind 12: a pair, the item a, holding b with its information
  pub write-add_conf : Yes x r add_conf (always ++ further add_conf)
      → Carries S (change x r add_conf) (filled (grid_of S conf_pairs) r.a (full r.b r.info 0) r.first (r.last + 1) b)
  unfolding change test word
  write-add_conf y =
      column a conf_pairs (slot r) r.first (r.last + 1) (last-slot x r add_conf y) (λ i _. in-slots r i) (change x r add_conf) (conf-frame x _)
      r.a _
      (ltb-true _ _ (yes x r add_conf a_below refl (said x r add_conf 5 y))) here
    where
      hb : r.b < S.meetings
      hb = ltb-true _ _ (yes x r add_conf b_below refl (said x r add_conf 6 y))

      C : ℕ → ℕ → ℕ → Option ℕ
      C i j m = cond (slot r i && eqb j r.a && eqb m r.b) (Some r.info) (x.conf i j m)

      off : (i j : ℕ) → slot r i && eqb j r.a ≡ false → (u : ℕ) → C i j u ≡ x.conf i j u
      off i j e u = rw e

      new : (i : ℕ) → slot r i ≡ true → C i r.a r.b ≡ Some r.info
      new i e = rw (e, eq-eqb r.a r.a refl, eq-eqb r.b r.b refl)

      free : (i u : ℕ) → slot r i ≡ true → is_some (x.conf i r.a u) ≡ true → ⊥
      free i u h = is_free x r add_conf s confs (said x r add_conf 12 y) i u h

      here : (i j k : ℕ) → Cell S conf_pairs i j k
          → word (change x r add_conf) conf_pairs i j k ≡ cond (slot r i && eqb j r.a) (word_in (full r.b r.info 0) k) (word x conf_pairs i j k)
      here i j zero c =
          pair-added r (λ i j m. is_some (x.conf i j m)) (λ i j m. is_some (C i j m)) S.meetings (λ i j. suc) (λ i j. suc) r.a r.b
          (λ i j _ u. refl)
          (λ i j u. some_or _ r.info (x.conf i j u)) hb (r.b + 1) (λ i _. omega arith) free i j
      here i j (suc zero) c =
          pair-added r (λ i j m. is_some (x.conf i j m)) (λ i j m. is_some (C i j m)) S.meetings (λ i j m. info_of (x.conf i j m))
          (λ i j m. info_of (C i j m)) r.a r.b
          (λ i j e u. ap info_of (off i j e u)) (λ i j u. some_or _ r.info (x.conf i j u)) hb r.info (λ i e. ap info_of (new i e)) free i j
      here i j (suc (suc k)) c = absurd (omega (arith, c.word))

  -- kind 14 and 15: a triple, the item b, holding a with its seats and information
  module _ (k : Kind) (y : Yes x r k (always ++ further k)) (unit : S.dates ≡ slots_of S (row k).unit) (hb : r.b < S.meetings)
      (new : Option Lunch) where
    abbrev U : ℕ → ℕ → ℕ → Option Lunch
    U d g m = cond (slot r d && eqb g r.a && eqb m r.b) new (x.lunch d g m)

    U-off : (i j : ℕ) → slot r i && eqb j r.b ≡ false → (g : ℕ) → U i g j ≡ x.lunch i g j
    U-off i j e g = rw (swap (slot r i) (eqb g r.a) (eqb j r.b), e)

    U-new : (i : ℕ) → slot r i ≡ true → U i r.a r.b ≡ new
    U-new i e = rw (e, eq-eqb r.a r.a refl, eq-eqb r.b r.b refl)

    -- the column, if each word of its cells is as c says
    lunch-column : (c : Content)
        → ((i j : ℕ) → cell (λ g. is_some (U i g j)) S.dining ≡ cond (slot r i && eqb j r.b) c.entry
        (cell (λ g. is_some (x.lunch i g j)) S.dining))
        → ((i j : ℕ) → found (lowest (λ g. is_some (U i g j)) 0 S.dining) (λ g. seats_of (U i g j))
        ≡ cond (slot r i && eqb j r.b) c.second (found (lowest (λ g. is_some (x.lunch i g j)) 0 S.dining) (λ g. seats_of (x.lunch i g j))))
        → ((i j : ℕ) → found (lowest (λ g. is_some (U i g j)) 0 S.dining) (λ g. lunch_info (U i g j))
        ≡ cond (slot r i && eqb j r.b) c.third (found (lowest (λ g. is_some (x.lunch i g j)) 0 S.dining) (λ g. lunch_info (x.lunch i g j))))
        → Carries S (with_lunch x U) (filled (grid_of S lunch_triples) r.b c r.first (r.last + 1) b)
    unfolding word
    lunch-column c w0 w1 w2 =
        column a lunch_triples (slot r) r.first (r.last + 1) (rw unit (last-slot x r k y)) (λ i _. in-slots r i) (with_lunch x U) (lunch-frame x U)
        r.b c hb here
      where
        here : (i j m : ℕ) → Cell S lunch_triples i j m
            → word (with_lunch x U) lunch_triples i j m ≡ cond (slot r i && eqb j r.b) (word_in c m) (word x lunch_triples i j m)
        here i j zero cell = w0 i j
        here i j (suc zero) cell = w1 i j
        here i j (suc (suc zero)) cell = w2 i j
        here i j (suc (suc (suc m))) cell = absurd (omega (arith, cell.word))

  pub write-add_lunch : Yes x r add_lunch (always ++ further add_lunch)
      → Carries S (change x r add_lunch) (filled (grid_of S lunch_triples) r.b (full r.a r.n r.info) r.first (r.last + 1) b)
  unfolding change test
  write-add_lunch y =
      lunch-column add_lunch y refl hb new _
      (pair-added r p q S.dining (λ i j. suc) (λ i j. suc) r.b r.a (λ i j _ u. refl) is ha (r.a + 1) (λ i _. omega arith) free)
      (beside seats_of r.n refl) (beside lunch_info r.info refl)
    where
      new : Option Lunch
      new = Some (record { seats = r.n; info = r.info })

      hb : r.b < S.meetings
      hb = ltb-true _ _ (yes x r add_lunch b_below refl (said x r add_lunch 6 y))

      ha : r.a < S.dining
      ha = ltb-true _ _ (yes x r add_lunch a_below refl (said x r add_lunch 5 y))

      p : ℕ → ℕ → ℕ → Bool
      p i j g = is_some (x.lunch i g j)

      q : ℕ → ℕ → ℕ → Bool
      q i j g = is_some (U add_lunch y refl hb new i g j)

      is : (i j u : ℕ) → q i j u ≡ p i j u || (slot r i && eqb j r.b && eqb u r.a)
      is i j u = some_or _ (record { seats = r.n; info = r.info }) (x.lunch i u j)
          ∙ ap (λ (t : Bool). p i j u || t) (swap (slot r i) (eqb u r.a) (eqb j r.b))

      free : (i u : ℕ) → slot r i ≡ true → p i r.b u ≡ true → ⊥
      free i u h = alone add_lunch lunches (said x r add_lunch 11 y) (said x r add_lunch 13 y) i u h

      beside : (f : Option Lunch → ℕ) (w : ℕ) → f new ≡ w → (i j : ℕ) → found (lowest (q i j) 0 S.dining) (λ g. f (U add_lunch y refl hb new i g j))
          ≡ cond (slot r i && eqb j r.b) w (found (lowest (p i j) 0 S.dining) (λ g. f (x.lunch i g j)))
      beside f w e =
          pair-added r p q S.dining (λ i j g. f (x.lunch i g j)) (λ i j g. f (U add_lunch y refl hb new i g j)) r.b r.a
          (λ i j e u. ap f (U-off add_lunch y refl hb new i j e u)) is ha w (λ i h. ap f (U-new add_lunch y refl hb new i h) ∙ e) free

  pub write-erase_lunch : Yes x r erase_lunch (always ++ further erase_lunch)
      → Carries S (change x r erase_lunch) (filled (grid_of S lunch_triples) r.b empty r.first (r.last + 1) b)
  unfolding change test
  write-erase_lunch y =
      lunch-column erase_lunch y refl hb None _
      (pair-erased r p q S.dining (λ i j. suc) (λ i j. suc) r.b r.a (λ i j _ u. refl) is only) (beside seats_of) (beside lunch_info)
    where
      hb : r.b < S.meetings
      hb = ltb-true _ _ (yes x r erase_lunch b_below refl (said x r erase_lunch 6 y))

      p : ℕ → ℕ → ℕ → Bool
      p i j g = is_some (x.lunch i g j)

      q : ℕ → ℕ → ℕ → Bool
      q i j g = is_some (U erase_lunch y refl hb None i g j)

      is : (i j u : ℕ) → q i j u ≡ p i j u && not (slot r i && eqb j r.b && eqb u r.a)
      is i j u = some-less (slot r i && eqb u r.a && eqb j r.b) (x.lunch i u j)
          ∙ ap (λ (t : Bool). p i j u && not t) (swap (slot r i) (eqb u r.a) (eqb j r.b))

      only : (i u : ℕ) → slot r i ≡ true → p i r.b u ≡ true → u ≡ r.a
      only i u h e = s.one_a lunches refl i r.b u r.a e (was-present x r erase_lunch lunches (said x r erase_lunch 15 y) i h)

      beside : (f : Option Lunch → ℕ) (i j : ℕ) → found (lowest (q i j) 0 S.dining) (λ g. f (U erase_lunch y refl hb None i g j))
          ≡ cond (slot r i && eqb j r.b) 0 (found (lowest (p i j) 0 S.dining) (λ g. f (x.lunch i g j)))
      beside f =
          pair-erased r p q S.dining (λ i j g. f (x.lunch i g j)) (λ i j g. f (U erase_lunch y refl hb None i g j)) r.b r.a
          (λ i j e u. ap f (U-off erase_lunch y refl hb None i j e u)) is only

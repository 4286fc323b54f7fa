-- The laws of what stands behind the diary: all that the rest asks of it. A sound ring is one whose words pass question 2; it is read
-- back from them, and keeping an order that the ring does not have leaves it sound.
-- Assumes nothing.
use Prim.Native.Nat.{ℕ, zero, suc, ◌+◌, ◌*◌, ◌-◌, ◌≤◌, ◌<◌}
use mathlib.Core.Path.{◌≡◌, refl, sym, ap, ap₂, ◌∙◌, subst}
use mathlib.Core.Bool.{Bool, true, false, not, ◌||◌, cond, false≢true}
use Rattle.std.specs.Prelude.{None, Some}
use mathlib.Core.List.{List, [], ◌∷◌, ◌++◌, append_assoc}
use native.Mathlib.Omega.{arith}
use lib.Dec.{eqb}
use lib.ListN.{length, get_or, take, drop, set, replicate, length-append, length-set, length-drop, length-replicate, get_or-replicate, get_or-append}
use lib.Seq.{length-take-le, take-suc, take_all, get_or-take, get_or-drop, take-append-add, drop-append-add, sets, sets-eq, set_at, get_or-set_same, get_or-set_other, take-add, drop_at, get_or_at, drop-drop, ext_get_or}
use borrow.Author.Tests.{eqb-true, eq-eqb, ne_eqb, lt-ltb, ltb-true}
use Rattle.model.specs.declared.Request.{Request}
use Rattle.model.specs.Answers.{Answer}
use Rattle.std.specs.Prelude.{Ok, Err}
use Rattle.model.specs.Answers.{refused_with}
use Rattle.model.specs.Bounded.{any, all, list}
use Rattle.model.specs.Messages.{answer_words, told_by}
use Rattle.model.specs.Tail.{Tail, Entry, empty_entry, ring_places, entry_at, kept_at, place_after, keep, noted, entry_length, entry_words}
use Rattle.model.specs.Tail.{ring_words, ring_length, tail_length, tail_words, entry_of, ring_of, tail_of, word_of, entry_kept, tail_kept, empty_tail}
use Rattle.model.specs.Tail.{number_differs, empty_unless_numbered, answer_told, next_within}
use Rattle.model.proofs.Places.{length-list, get_d-list}
use Rattle.model.proofs.Tells.{Tellable, done-tellable, told-tellable, told-words}
use Rattle.model.proofs.Search.{and_left, and_right, and-true, true-any, false-any, all_true, true-all, both, never, At, Lowest, lowest-is, lowest_by}

-- an entry that a ring can have: an answer that words tell, and nothing without a number
pub record EntrySound (e : Entry) : Type 0 where
  pub answer : Tellable e.answer
  pub unless : e.order ≡ 0 → e ≡ empty_entry

-- a tail that a book can show
pub record TailSound (t : Tail) : Type 0 where
  pub places : length t.ring ≡ ring_places
  pub entry : (i : ℕ) → i < ring_places → EntrySound (entry_at t i)
  pub differ : (i j : ℕ) → i < ring_places → j < i → ((entry_at t i).order ≡ 0 → ⊥) → (entry_at t j).order ≡ (entry_at t i).order → ⊥
  pub next : t.next < ring_places

-- ---- the words of an entry and the entry that words begin with

entry-words : (e : Entry) → Tellable e.answer → (w : List ℕ) → entry_of (entry_words e ++ w) ≡ e
entry-words e = go e.answer
  where
    go : (a : Answer) → Tellable a → (w : List ℕ) → entry_of (entry_words (record { order = e.order; request = e.request; answer = a }) ++ w)
        ≡ record { order = e.order; request = e.request; answer = a }
    go (Ok v) h w = refl
    go (Err refused) h w = numbered refused.number h
      where
        numbered : (n : ℕ) → Tellable (refused_with n refused.place)
            → entry_of (entry_words (record { order = e.order; request = e.request; answer = refused_with n refused.place }) ++ w)
            ≡ record { order = e.order; request = e.request; answer = refused_with n refused.place }
        numbered zero h = absurd (h refused.place refl)
        numbered (suc n) h = refl

entry-long : (e : Entry) → length (entry_words e) ≡ entry_length
entry-long e = go e.answer
  where
    go : (a : Answer) → length (entry_words (record { order = e.order; request = e.request; answer = a })) ≡ entry_length
    go (Ok v) = refl
    go (Err refused) = let n = refused.number in let p = refused.place in refl

-- the first words of a list, one by one
take-list : (n : ℕ) (w : List ℕ) → n ≤ length w → take n w ≡ list (λ i. get_or w i 0) n
take-list n w h =
    ext_get_or 0 (take n w) (list (λ i. get_or w i 0) n) (length-take-le n w h ∙ sym (length-list (λ i. get_or w i 0) n))
    (λ i l.
    let k : i < n = omega (arith, l, length-take-le n w h) in
    get_or-take n w i 0 k ∙ sym (get_d-list (λ i. get_or w i 0) n i k))

entry-shown : (w : List ℕ) → entry_length ≤ length w → answer_told w 0 ≡ true → entry_words (entry_of w) ≡ take entry_length w
entry-shown [] h e = absurd (omega (arith, h))
entry-shown (x ∷ w) h e =
    let a : List ℕ = answer_words (entry_of (x ∷ w)).answer in
    ap (λ (a : List ℕ). x ∷ get_or w 0 0 ∷ get_or w 1 0 ∷ get_or w 2 0 ∷ get_or w 3 0 ∷ get_or w 4 0 ∷ get_or w 5 0 ∷ get_or w 6 0 ∷ a)
    (told-words (get_or w 7 0) (get_or w 8 0) (get_or w 9 0) e)
    ∙ sym (take-list entry_length (x ∷ w) h)

-- ---- the ring's words, entry by entry

word-later : (w : List ℕ) (i j : ℕ) → word_of (drop entry_length w) i j ≡ word_of w (suc i) j
word-later w i j =
    let n : 11 + (i * 11 + j) ≡ suc i * 11 + j = omega arith in
    get_or-drop entry_length w (i * entry_length + j) 0 ∙ ap (λ (k : ℕ). get_or w k 0) n

told-later : (w : List ℕ) (i : ℕ) → answer_told w (suc i) ≡ true → answer_told (drop entry_length w) i ≡ true
told-later w i e = rw (word-later w i 8, word-later w i 9, word-later w i 10) e

pub ring-shown : (n : ℕ) (w : List ℕ) → n * entry_length ≤ length w → ((i : ℕ) → i < n → answer_told w i ≡ true)
    → ring_words (ring_of n w) ≡ take (n * entry_length) w
unfolding ring_words ring_of
ring-shown zero w h f = refl
ring-shown (suc n) w h f =
    let q : n * 11 ≤ length w - 11 = omega (arith, h) in
    let s : 11 + n * 11 ≡ suc n * 11 = omega arith in
    ap₂ (λ (v u : List ℕ). v ++ u) (entry-shown w (omega (arith, h)) (f 0 (omega arith)))
    (ring-shown n (drop entry_length w) (rw (length-drop entry_length w) q) (λ i l. told-later w i (f (suc i) (omega (arith, l)))))
    ∙ sym (take-add entry_length (n * entry_length) w) ∙ ap (λ (k : ℕ). take k w) s

pub ring_long : (es : List Entry) → length (ring_words es) ≡ length es * entry_length
unfolding ring_words
ring_long [] = refl
ring_long (e ∷ es) = length-append (entry_words e) (ring_words es) ∙ omega (arith, entry-long e, ring_long es)

ring-back : (n : ℕ) (es : List Entry) → length es ≡ n → ((i : ℕ) → i < n → Tellable (get_or es i empty_entry).answer) → (w : List ℕ)
    → ring_of n (ring_words es ++ w) ≡ es
unfolding ring_words ring_of
ring-back zero [] e h w = refl
ring-back zero (x ∷ es) e h w = absurd (omega (arith, e))
ring-back (suc n) [] e h w = absurd (omega (arith, e))
ring-back (suc n) (x ∷ es) e h w =
    let later : List ℕ = ring_words es ++ w in
    ap (λ (v : List ℕ). entry_of v ∷ ring_of n (drop entry_length v)) (append_assoc (entry_words x) (ring_words es) w)
    ∙ ap₂ (λ (y : Entry) (v : List ℕ). y ∷ ring_of n v) (entry-words x (h 0 (omega arith)) later) (drop_at (entry_words x) later entry_length (entry-long x))
    ∙ ap (λ (ys : List Entry). x ∷ ys) (ring-back n es (omega (arith, e)) (λ i l. h (suc i) (omega (arith, l))) w)

-- word j of entry i of a ring
word_in : (es : List Entry) (w : List ℕ) (i j : ℕ) → i < length es → j < entry_length
    → word_of (ring_words es ++ w) i j ≡ get_or (entry_words (get_or es i empty_entry)) j 0
unfolding ring_words
word_in [] w i j h l = absurd (omega (arith, h))
word_in (e ∷ es) w zero j h l =
    let n : 0 * 11 + j ≡ j = omega arith in
    let k : j < length (entry_words e) = omega (arith, l, entry-long e) in
    ap₂ (λ (v : List ℕ) (k : ℕ). get_or v k 0) (append_assoc (entry_words e) (ring_words es) w) n
    ∙ get_or-append (entry_words e) (ring_words es ++ w) 0 j k
word_in (e ∷ es) w (suc i) j h l =
    let later : List ℕ = ring_words es ++ w in
    ap (λ (v : List ℕ). word_of v (suc i) j) (append_assoc (entry_words e) (ring_words es) w)
    ∙ sym (word-later (entry_words e ++ later) i j)
    ∙ ap (λ (v : List ℕ). word_of v i j) (drop_at (entry_words e) later entry_length (entry-long e))
    ∙ word_in es w i j (omega (arith, h)) l

-- entry i of the ring that words show
pub entry-at : (n : ℕ) (w : List ℕ) (i : ℕ) → i < n → get_or (ring_of n w) i empty_entry ≡ entry_of (drop (i * entry_length) w)
unfolding ring_of
entry-at zero w i h = absurd (omega (arith, h))
entry-at (suc n) w zero h = refl
entry-at (suc n) w (suc i) h =
    let k : 11 + i * 11 ≡ suc i * 11 = omega arith in
    entry-at n (drop entry_length w) i (omega (arith, h))
    ∙ ap entry_of (drop-drop (i * entry_length) entry_length w ∙ ap (λ (k : ℕ). drop k w) k)

ring-places : (n : ℕ) (w : List ℕ) → length (ring_of n w) ≡ n
unfolding ring_of
ring-places zero w = refl
ring-places (suc n) w = ap suc (ring-places n (drop entry_length w))

told : (w : List ℕ) → Tellable (entry_of w).answer
told w = told-tellable (get_or w 8 0) (get_or w 9 0) (get_or w 10 0)

-- eleven zeros are the empty entry
zero-entry : (w : List ℕ) → ((j : ℕ) → j < entry_length → get_or w j 0 ≡ 0) → entry_of w ≡ empty_entry
zero-entry [] h = refl
zero-entry (x ∷ w) h =
    λ i. record {
      order = h 0 (omega arith) i;
      request =
          record {
            kind = h 1 (omega arith) i;
            a = h 2 (omega arith) i;
            b = h 3 (omega arith) i;
            first = h 4 (omega arith) i;
            last = h 5 (omega arith) i;
            n = h 6 (omega arith) i;
            info = h 7 (omega arith) i;
          };
      answer = told_by (h 8 (omega arith) i) (h 9 (omega arith) i) (h 10 (omega arith) i);
    }

-- a test that holds where another does not
otherwise : (a b : Bool) → a || b ≡ true → (a ≡ true → ⊥) → b ≡ true
otherwise true b e h = absurd (h refl)
otherwise false b e h = e

is_false : (b : Bool) → not b ≡ true → b ≡ true → ⊥
is_false true e h = false≢true e
is_false false e h = false≢true h

-- the number of entry i
pub order-at : (w : List ℕ) (i : ℕ) → i < ring_places → (entry_at (tail_of w) i).order ≡ word_of w i 0
unfolding tail_of
order-at w i h = ap (λ (e : Entry). e.order) (entry-at ring_places w i h) ∙ get_or-drop (i * entry_length) w 0 0

-- ---- words that keep the law, and the tail that they show

module _ (w : List ℕ) (n : length w ≡ tail_length) (e : tail_kept w ≡ true) where
  clauses : (i : ℕ) → i < ring_places → entry_kept w i ≡ true
  unfolding tail_kept
  clauses = all_true (entry_kept w) ring_places (and_left (all (entry_kept w) ring_places) (next_within w) e)

  one : (i : ℕ) → i < ring_places → number_differs w i ≡ true
  unfolding entry_kept
  one i h = and_left (number_differs w i) _ (clauses i h)

  two : (i : ℕ) → i < ring_places → empty_unless_numbered w i ≡ true
  unfolding entry_kept
  two i h = and_left (empty_unless_numbered w i) _ (and_right (number_differs w i) _ (clauses i h))

  three : (i : ℕ) → i < ring_places → answer_told w i ≡ true
  unfolding entry_kept
  three i h = and_left (answer_told w i) _ (and_right (empty_unless_numbered w i) _ (and_right (number_differs w i) _ (clauses i h)))

  -- words of the right number that keep the law are those of the tail read from them
  pub tail-shown : tail_words (tail_of w) ≡ w
  unfolding tail_length tail_words tail_of
  tail-shown =
      ap (λ (v : List ℕ). v ++ (get_or w ring_length 0 ∷ [])) (ring-shown ring_places w (omega (arith, n)) three)
      ∙ sym (take-suc w ring_length 0 (omega (arith, n))) ∙ take_all 705 w (omega (arith, n))

  -- and that tail is sound
  pub tail-read : TailSound (tail_of w)
  unfolding tail_of tail_kept
  tail-read =
      record {
        places = ring-places ring_places w;
        entry = λ i h. sound i h (entry-at ring_places w i h);
        differ = λ i j h l z q. differs i j l (λ o. z (order-at w i h ∙ o)) (sym (order-at w j (omega (arith, h, l))) ∙ q ∙ order-at w i h) (one i h);
        next = ltb-true (get_or w ring_length 0) ring_places (and_right (all (entry_kept w) ring_places) (next_within w) e);
      }
    where
      zeros : (i : ℕ) → i < ring_places → get_or (drop (i * entry_length) w) 0 0 ≡ 0 → (j : ℕ) → j < entry_length → word_of w i j ≡ 0
      zeros i h z j l =
          let o : word_of w i 0 ≡ 0 = sym (get_or-drop (i * entry_length) w 0 0) ∙ z in
          let each : all (λ j. eqb (word_of w i j) 0) entry_length ≡ true
          = otherwise (not (eqb (word_of w i 0) 0)) _ (two i h) (λ k. is_false _ k (eq-eqb (word_of w i 0) 0 o)) in
          eqb-true (word_of w i j) 0 (all_true (λ j. eqb (word_of w i j) 0) entry_length each j l)

      sound : (i : ℕ) → i < ring_places → entry_at (tail_of w) i ≡ entry_of (drop (i * entry_length) w) → EntrySound (entry_at (tail_of w) i)
      sound i h q =
          rw q
          (record {
            answer = told (drop (i * entry_length) w);
            unless = λ z. zero-entry (drop (i * entry_length) w) (λ j l. get_or-drop (i * entry_length) w j 0 ∙ zeros i h z j l);
          })

      differs : (i j : ℕ) → j < i → (word_of w i 0 ≡ 0 → ⊥) → word_of w j 0 ≡ word_of w i 0 → number_differs w i ≡ true → ⊥
      differs i j l z q k =
          let none_has : not (any (λ j. eqb (word_of w j 0) (word_of w i 0)) i) ≡ true = otherwise (eqb (word_of w i 0) 0) _ k (λ o. z (eqb-true _ 0 o)) in
          is_false _ none_has (true-any (λ j. eqb (word_of w j 0) (word_of w i 0)) i j l (eq-eqb _ _ q))

-- ---- the words of a sound tail keep the law, and show the tail

module _ (t : Tail) (s : TailSound t) where
  pub tail-long : length (tail_words t) ≡ tail_length
  unfolding tail_length tail_words
  tail-long =
      let one : length (t.next ∷ []) ≡ 1 = refl in
      length-append (ring_words t.ring) (t.next ∷ []) ∙ omega (arith, ring_long t.ring, s.places, one)

  next-is : get_or (tail_words t) ring_length 0 ≡ t.next
  unfolding tail_words
  next-is = get_or_at (ring_words t.ring) t.next [] 0 ring_length (omega (arith, ring_long t.ring, s.places))

  pub tail-back : tail_of (tail_words t) ≡ t
  unfolding tail_words tail_of
  tail-back =
      λ i. record { ring = ring-back ring_places t.ring s.places (λ j h. (s.entry j h).answer) (t.next ∷ []) i; next = next-is i }

  word-is : (i j : ℕ) → i < ring_places → j < entry_length → word_of (tail_words t) i j ≡ get_or (entry_words (entry_at t i)) j 0
  unfolding tail_words
  word-is i j h l = word_in t.ring (t.next ∷ []) i j (omega (arith, h, s.places)) l

  order_is : (i : ℕ) → i < ring_places → word_of (tail_words t) i 0 ≡ (entry_at t i).order
  order_is i h = word-is i 0 h (omega arith)

  differs : (i : ℕ) → i < ring_places → number_differs (tail_words t) i ≡ true
  differs i h = go (eqb (word_of (tail_words t) i 0) 0) refl
    where
      go : (z : Bool) → eqb (word_of (tail_words t) i 0) 0 ≡ z → z || not (any (λ j. eqb (word_of (tail_words t) j 0) (word_of (tail_words t) i 0)) i) ≡ true
      go true q = refl
      go false q =
          ap not
          (false-any (λ j. eqb (word_of (tail_words t) j 0) (word_of (tail_words t) i 0)) i
          (λ j l.
          never _
          (λ k.
          s.differ i j h l (λ o. both (eq-eqb _ 0 (order_is i h ∙ o)) q)
          (sym (order_is j (omega (arith, h, l))) ∙ eqb-true _ _ k ∙ order_is i h))))

  empties : (i : ℕ) → i < ring_places → empty_unless_numbered (tail_words t) i ≡ true
  empties i h = go (eqb (word_of (tail_words t) i 0) 0) refl
    where
      none-else : all (λ j. eqb (get_or (entry_words empty_entry) j 0) 0) entry_length ≡ true
      none-else = refl

      go : (z : Bool) → eqb (word_of (tail_words t) i 0) 0 ≡ z → not z || all (λ j. eqb (word_of (tail_words t) i j) 0) entry_length ≡ true
      go false q = refl
      go true q =
          let e : entry_at t i ≡ empty_entry = (s.entry i h).unless (sym (order_is i h) ∙ eqb-true _ 0 q) in
          true-all _ entry_length
          (λ j l.
          ap (λ (n : ℕ). eqb n 0) (word-is i j h l ∙ ap (λ (e : Entry). get_or (entry_words e) j 0) e)
          ∙ all_true (λ j. eqb (get_or (entry_words empty_entry) j 0) 0) entry_length none-else j l)

  tells : (i : ℕ) → i < ring_places → answer_told (tail_words t) i ≡ true
  tells i h =
      rw (word-is i 8 h (omega arith), word-is i 9 h (omega arith), word-is i 10 h (omega arith))
      (go (entry_at t i) (entry_at t i).answer refl (s.entry i h).answer)
    where
      go : (e : Entry) (a : Answer) → e.answer ≡ a → Tellable a
          → cond (eqb (get_or (entry_words e) 8 0) 0) (eqb (get_or (entry_words e) 9 0) 0) (eqb (get_or (entry_words e) 10 0) 0) ≡ true
      go e (Ok v) q k = rw q
      go e (Err refused) q k =
          let f : eqb refused.number 0 ≡ false = never _ (λ z. k refused.place (λ i. refused_with (eqb-true refused.number 0 z i) refused.place)) in
          rw (q, f)

  pub tail-kept : tail_kept (tail_words t) ≡ true
  unfolding tail_kept entry_kept
  tail-kept =
      and-true
      (true-all (entry_kept (tail_words t)) ring_places (λ i h. and-true (differs i h) (and-true (empties i h) (and-true (tells i h) refl))))
      (rw next-is (lt-ltb t.next ring_places s.next))

-- ---- keeping an order

-- what stands at a place after an entry is kept
pub kept_there : (t : Tail) → TailSound t → (e : Entry) → entry_at (keep t e) t.next ≡ e
unfolding keep
kept_there t s e = get_or-set_same t.ring t.next e empty_entry (omega (arith, s.next, s.places))

pub kept-else : (t : Tail) (e : Entry) (i : ℕ) → (i ≡ t.next → ⊥) → entry_at (keep t e) i ≡ entry_at t i
unfolding keep
kept-else t e i h = get_or-set_other t.ring t.next i e empty_entry h

pub kept_next : (t : Tail) (e : Entry) → (keep t e).next ≡ place_after t.next
unfolding keep
kept_next t e = refl

-- a place is the next one or another
pub here-or-not : {P : Type 0} (i n : ℕ) → (i ≡ n → P) → ((i ≡ n → ⊥) → P) → P
here-or-not {P} i n here away = decide (eqb i n) refl
  where
    decide : (b : Bool) → eqb i n ≡ b → P
    decide true q = here (eqb-true i n q)
    decide false q = away (λ e. both (eq-eqb i n e) q)

-- an order that the ring does not have
pub keep-sound : (t : Tail) → TailSound t → (e : Entry) → EntrySound e → ((i : ℕ) → i < ring_places → (entry_at t i).order ≡ e.order → ⊥)
    → TailSound (keep t e)
unfolding keep
keep-sound t s e h new =
    record { places = places; entry = entry; differ = differ; next = next }
  where
    places : length (keep t e).ring ≡ ring_places
    places = length-set t.ring t.next e ∙ s.places

    here : (i : ℕ) → i ≡ t.next → entry_at (keep t e) i ≡ e
    here i q = ap (entry_at (keep t e)) q ∙ kept_there t s e

    entry : (i : ℕ) → i < ring_places → EntrySound (entry_at (keep t e) i)
    entry i l = here-or-not i t.next (λ q. rw (here i q) h) (λ q. rw (kept-else t e i q) (s.entry i l))

    order : Entry → ℕ
    order e = e.order

    differ : (i j : ℕ) → i < ring_places → j < i → ((entry_at (keep t e) i).order ≡ 0 → ⊥) → (entry_at (keep t e) j).order ≡ (entry_at (keep t e) i).order → ⊥
    differ i j l k z q =
        here-or-not i t.next
        (λ a. new j (omega (arith, l, k)) (sym (ap order (kept-else t e j (λ b. omega (arith, a, b, k)))) ∙ q ∙ ap order (here i a)))
        (λ a.
        here-or-not j t.next (λ b. new i l (sym (ap order (kept-else t e i a)) ∙ sym q ∙ ap order (here j b)))
        (λ b.
        s.differ i j l k (λ o. z (ap order (kept-else t e i a) ∙ o)) (sym (ap order (kept-else t e j b)) ∙ q ∙ ap order (kept-else t e i a))))

    next : (keep t e).next < ring_places
    next = subst (λ (i : ℕ). i < ring_places) (sym (kept_next t e)) (go (eqb (suc t.next) ring_places) refl)
      where
        go : (b : Bool) → eqb (suc t.next) ring_places ≡ b → cond b 0 (suc t.next) < ring_places
        go true q = omega arith
        go false q =
            let h : suc t.next ≡ ring_places → ⊥ = λ p. both (eq-eqb (suc t.next) ring_places p) q in
            omega (arith, s.next, h)

-- the words of a tail after an order is kept: those of the entry in the place of the words at the next place, and the place after it
ring-set : (es : List Entry) (i : ℕ) (e : Entry) (w : List ℕ) → i < length es
    → take (i * entry_length) (ring_words es ++ w) ++ entry_words e ++ drop (i * entry_length + entry_length) (ring_words es ++ w)
    ≡ ring_words (set es i e) ++ w
unfolding ring_words
ring-set [] i e w h = absurd (omega (arith, h))
ring-set (x ∷ es) zero e w h =
    let later : List ℕ = ring_words es ++ w in
    ap (λ (v : List ℕ). entry_words e ++ drop entry_length v) (append_assoc (entry_words x) (ring_words es) w)
    ∙ ap (λ (v : List ℕ). entry_words e ++ v) (drop_at (entry_words x) later entry_length (entry-long x))
    ∙ sym (append_assoc (entry_words e) (ring_words es) w)
ring-set (x ∷ es) (suc i) e w h =
    let later : List ℕ = ring_words es ++ w in
    let n : suc i * 11 ≡ length (entry_words x) + i * 11 = omega (arith, entry-long x) in
    let m : suc i * 11 + 11 ≡ length (entry_words x) + (i * 11 + 11) = omega (arith, entry-long x) in
    ap (λ (v : List ℕ). take (suc i * entry_length) v ++ entry_words e ++ drop (suc i * entry_length + entry_length) v)
    (append_assoc (entry_words x) (ring_words es) w)
    ∙ ap₂ (λ (v u : List ℕ). v ++ entry_words e ++ u)
    (ap (λ (k : ℕ). take k (entry_words x ++ later)) n ∙ take-append-add (entry_words x) later (i * entry_length))
    (ap (λ (k : ℕ). drop k (entry_words x ++ later)) m ∙ drop-append-add (entry_words x) later (i * entry_length + entry_length))
    ∙ ap (λ (v : List ℕ). v ++ drop (i * entry_length + entry_length) later) (append_assoc (entry_words x) (take (i * entry_length) later) (entry_words e))
    ∙ append_assoc (entry_words x) (take (i * entry_length) later ++ entry_words e) (drop (i * entry_length + entry_length) later)
    ∙ ap (λ (v : List ℕ). entry_words x ++ v) (ring-set es i e w (omega (arith, h)))
    ∙ sym (append_assoc (entry_words x) (ring_words (set es i e)) w)

pub keep-words : (w : List ℕ) (n : length w ≡ tail_length) (k : tail_kept w ≡ true) (e : Entry)
    → set (sets w (get_or w ring_length 0 * entry_length) (entry_words e)) ring_length (place_after (get_or w ring_length 0)) ≡ tail_words (keep (tail_of w) e)
unfolding keep tail_words tail_of tail_length
keep-words w n k e =
    let s : TailSound (tail_of w) = tail-read w n k in
    let i : ℕ = get_or w ring_length 0 in
    let es : List Entry = ring_of ring_places w in
    let es' : List Entry = set es i e in
    let h : i < ring_places = s.next in
    let fits : i * entry_length + length (entry_words e) ≤ length w = omega (arith, h, n, entry-long e) in
    let put : sets w (i * entry_length) (entry_words e) ≡ ring_words es' ++ (i ∷ [])
    = sets-eq (entry_words e) w (i * entry_length) fits
    ∙ ap (λ (m : ℕ). take (i * entry_length) w ++ entry_words e ++ drop (i * entry_length + m) w) (entry-long e)
    ∙ ap (λ (v : List ℕ). take (i * entry_length) v ++ entry_words e ++ drop (i * entry_length + entry_length) v) (sym (tail-shown w n k))
    ∙ ring-set es i e (i ∷ []) (omega (arith, h, s.places)) in
    ap (λ (v : List ℕ). set v ring_length (place_after i)) put
    ∙ set_at (ring_words es') i [] (place_after i) ring_length (ring_long es' ∙ omega (arith, length-set es i e, s.places))

-- the numbers of a ring without an order
pub none_kept : (t : Tail) (n : ℕ) → kept_at t (suc n) ≡ None → (i : ℕ) → i < ring_places → (entry_at t i).order ≡ suc n → ⊥
none_kept t n e i h q =
    let numbered : ℕ → Bool = λ i. eqb (entry_at t i).order (suc n) in
    let each : Lowest numbered 0 ring_places None = subst (Lowest numbered 0 ring_places) e (lowest-is numbered 0 ring_places) in
    both (eq-eqb _ _ q) (each i (omega arith) (omega (arith, h)))

-- where an order is kept: its number stands there, and at no place before
pub kept-first : (t : Tail) (n : ℕ) {i : ℕ} → kept_at t n ≡ Some i → (n ≡ 0 → ⊥) × At (λ i. eqb (entry_at t i).order n) 0 ring_places i
kept-first t zero e = absurd (let z : ◌≡◌ {A = ℕ} 0 1 = cc in omega arith)
kept-first t (suc n) {i} e =
    let numbered : ℕ → Bool = λ i. eqb (entry_at t i).order (suc n) in
    (λ z. omega (arith, z), subst (Lowest numbered 0 ring_places) e (lowest-is numbered 0 ring_places))

pub kept-place : (t : Tail) (n : ℕ) {i : ℕ} → kept_at t n ≡ Some i → i < ring_places
kept-place t n e = omega (arith, (kept-first t n e).1.high)

pub kept-order : (t : Tail) (n : ℕ) {i : ℕ} → kept_at t n ≡ Some i → (entry_at t i).order ≡ n
kept-order t n {i} e = eqb-true (entry_at t i).order n (kept-first t n e).1.holds

-- an order is kept where its number stands and no place before has it, and nowhere if no place has it
pub kept_by : (t : Tail) (n i : ℕ) → (n ≡ 0 → ⊥) → i < ring_places → (entry_at t i).order ≡ n → ((j : ℕ) → j < i → (entry_at t j).order ≡ n → ⊥)
    → kept_at t n ≡ Some i
kept_by t zero i z h e f = absurd (z refl)
kept_by t (suc n) i z h e f =
    lowest_by _ 0 ring_places (Some i)
    (record { low = omega arith; high = omega (arith, h); holds = eq-eqb _ _ e; first = λ j l g. ne_eqb _ _ (f j g) })

pub not-kept : (t : Tail) (n : ℕ) → ((i : ℕ) → i < ring_places → (entry_at t i).order ≡ n → ⊥) → kept_at t n ≡ None
not-kept t zero f = refl
not-kept t (suc n) f = lowest_by _ 0 ring_places None (λ j l h. ne_eqb _ _ (f j (omega (arith, h))))

-- an order is noted by keeping its entry, whatever the answer
pub noted-is : (t : Tail) (n : ℕ) → (n ≡ 0 → ⊥) → (r : Request) (a : Answer) → keep t (record { order = n; request = r; answer = a }) ≡ noted t n r a
noted-is t zero h r a = absurd (h refl)
noted-is t (suc n) h r a = refl

pub noted-sound : (t : Tail) → TailSound t → (n : ℕ) → kept_at t n ≡ None → (r : Request) (a : Answer) → Tellable a → TailSound (noted t n r a)
noted-sound t s zero e r a h = s
noted-sound t s (suc n) e r a h =
    let some-n : suc n ≡ 0 → ⊥ = λ z. omega (arith, z) in
    subst TailSound (noted-is t (suc n) some-n r a)
    (keep-sound t s (record { order = suc n; request = r; answer = a }) (record { answer = h; unless = λ z. absurd (some-n z) }) (none_kept t n e))

-- a fresh tail keeps nothing, it is sound, and its words are zeros
pub empty-at : (i : ℕ) → i < ring_places → entry_at empty_tail i ≡ empty_entry
unfolding empty_tail
empty-at i h = get_or-replicate ring_places i empty_entry empty_entry h

pub empty-tail : TailSound empty_tail
unfolding empty_tail
empty-tail =
    record {
      places = length-replicate ring_places empty_entry;
      entry = λ i h. rw (empty-at i h) (record { answer = done-tellable 0; unless = λ z. refl });
      differ = λ i j h l z q. z (ap (λ (e : Entry). e.order) (empty-at i h));
      next = omega arith;
    }

pub empty-tail-words : tail_words empty_tail ≡ replicate tail_length 0
unfolding tail_length tail_words empty_tail ring_words
empty-tail-words = refl

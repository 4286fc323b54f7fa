-- What the ring's functions need of the words of a tail: the words of an entry, and an entry stored word by word.
-- Assumes nothing.
use Prim.Native.Nat.{ℕ, zero, suc, ◌+◌, ◌-◌, ◌*◌, ◌≤◌, ◌<◌}
use mathlib.Core.Path.{◌≡◌, refl, sym, ◌∙◌, ap, ap₂}
use mathlib.Core.Bool.{Bool, true, false, not, ◌&&◌, ◌||◌, cond}
use Rattle.std.specs.Prelude.{Option, None, Some}
use mathlib.Core.List.{List, [], ◌∷◌}
use native.Mathlib.Omega.{arith}
use lib.Dec.{eqb}
use lib.ListN.{length, get_or, take, drop, set, length-take}
use lib.Seq.{get_or-take, get_or-drop, drop-drop, sets, length-sets}
use borrow.Author.Tests.{eq-eqb, ne_eqb, eqb-true}
use Rattle.std.specs.List.{list_all}
use Rattle.std.proofs.lemmas.List.{length-drop}
use Rattle.std.proofs.lemmas.List.Elements.{All-get_or, All-from_get_or}
use Rattle.std.proofs.lemmas.List.Sums.{AllPass-from_list_all, list_all-from_AllPass}
use Rattle.model.specs.declared.Request.{Request}
use Rattle.model.specs.Answers.{Answer}
use Rattle.model.specs.Answers.{done_with, refused_with}
use Rattle.model.specs.Bounded.{lowest, any, all, is_some}
use Rattle.model.specs.Messages.{told_by, request_of, same_request}
use Rattle.model.specs.Tail.{Entry, ring_places, ring_length, entry_at, entry_length, entry_kept, kept_at, noted, place_after}
use Rattle.model.specs.Tail.{answer_told, next_within, tail_kept, tail_length, tail_of, tail_words, word_of}
use Rattle.model.specs.Machine.{kept_answer}
use Rattle.model.proofs.Search.{lowest-same, all_true, true-all, both, never}
use Rattle.model.proofs.Tail.{entry-at, order-at, keep-words, noted-is, tail-read, tail-shown}
use Rattle.ring.specs.Stores.{stored_from, entry_put, entry_kept_at}

-- ---- the words of an entry

pub first_word : (w : List ℕ) (i : ℕ) → get_or w (i * entry_length) 0 ≡ word_of w i 0
first_word w i = ap (λ (k : ℕ). get_or w k 0) (omega arith)

-- the place of an order by the words
pub kept-at : (w : List ℕ) (n : ℕ) → (n ≡ 0 → ⊥) → lowest (λ i. eqb (word_of w i 0) n) 0 ring_places ≡ kept_at (tail_of w) n
kept-at w zero h = absurd (h refl)
kept-at w (suc n) h =
    lowest-same _ _ 0 ring_places (λ j l k. ap (λ (m : ℕ). eqb m (suc n)) (sym (order-at w j (omega (arith, k)))))

pub told-done : (n p v : ℕ) → n ≡ 0 → done_with v ≡ told_by n p v
told-done zero p v e = refl
told-done (suc n) p v e = absurd (omega (arith, e))

pub told-refused : (n p v : ℕ) → (n ≡ 0 → ⊥) → refused_with n p ≡ told_by n p v
told-refused zero p v h = absurd (h refl)
told-refused (suc n) p v h = refl

-- a request in the words from a place on
pub request-at : (w : List ℕ) (at : ℕ) (r : Request)
    → eqb (get_or w at 0) r.kind
    && eqb (get_or w (at + 1) 0) r.a
    && eqb (get_or w (at + 2) 0) r.b
    && eqb (get_or w (at + 3) 0) r.first
    && eqb (get_or w (at + 4) 0) r.last
    && eqb (get_or w (at + 5) 0) r.n
    && eqb (get_or w (at + 6) 0) r.info
    ≡ same_request (request_of (drop at w)) r
unfolding same_request
request-at w at r =
    let zero-th : get_or (drop at w) 0 0 ≡ get_or w at 0 = get_or-drop at w 0 0 ∙ ap (λ (k : ℕ). get_or w k 0) (omega arith) in
    rw (
      zero-th,
      get_or-drop at w 1 0,
      get_or-drop at w 2 0,
      get_or-drop at w 3 0,
      get_or-drop at w 4 0,
      get_or-drop at w 5 0,
      get_or-drop at w 6 0,
    )

-- the answer to an order kept at a place
module _ (w : List ℕ) (i : ℕ) (h : i < ring_places) (r : Request) (b : Bool) (e : b ≡ same_request (request_of (drop (i * entry_length + 1) w)) r) where
  same : same_request (entry_at (tail_of w) i).request r ≡ b
  unfolding tail_of
  same =
      ap (λ (e : Entry). same_request e.request r) (entry-at ring_places w i h)
      ∙ ap (λ (v : List ℕ). same_request (request_of v) r) (drop-drop 1 (i * entry_length) w) ∙ sym e

  pub other-words : b ≡ false → refused_with 28 0 ≡ kept_answer (entry_at (tail_of w) i) r
  other-words f = sym (ap (λ (t : Bool). cond t (entry_at (tail_of w) i).answer (refused_with 28 0)) (same ∙ f))

  pub same-words : b ≡ true → {a : Answer} → a ≡ told_by (get_or w (i * entry_length + 8) 0) (get_or w (i * entry_length + 9) 0) (get_or w (i * entry_length + 10) 0)
      → a ≡ kept_answer (entry_at (tail_of w) i) r
  unfolding tail_of
  same-words f {a} q =
      q
      ∙ sym
      (ap (λ (t : Bool). cond t (entry_at (tail_of w) i).answer (refused_with 28 0)) (same ∙ f)
      ∙ ap (λ (e : Entry). e.answer) (entry-at ring_places w i h)
      ∙ rw (get_or-drop (i * entry_length) w 8 0, get_or-drop (i * entry_length) w 9 0, get_or-drop (i * entry_length) w 10 0))

-- ---- an entry stored word by word

stored-sets : (w : List ℕ) (at j : ℕ) (vs : List ℕ) → stored_from w at j vs ≡ sets w (at + j) vs
stored-sets w at j [] = refl
stored-sets w at j (v ∷ vs) =
    let n : at + suc j ≡ suc (at + j) = omega arith in
    stored-sets (set w (at + j) v) at (suc j) vs ∙ ap (λ (k : ℕ). sets (set w (at + j) v) k vs) n

pub put-sets : (w : List ℕ) (at n : ℕ) (r : Request) (number place value : ℕ)
    → entry_put w at n r number place value
    ≡ sets w at (n ∷ r.kind ∷ r.a ∷ r.b ∷ r.first ∷ r.last ∷ r.n ∷ r.info ∷ number ∷ place ∷ value ∷ [])
unfolding entry_put
put-sets w at n r number place value =
    let vs : List ℕ = r.kind ∷ r.a ∷ r.b ∷ r.first ∷ r.last ∷ r.n ∷ r.info ∷ number ∷ place ∷ value ∷ [] in
    let m : at + 1 ≡ suc at = omega arith in
    stored-sets (set w at n) at 1 vs ∙ ap (λ (k : ℕ). sets (set w at n) k vs) m

pub put-long : (w : List ℕ) (at n : ℕ) (r : Request) (number place value : ℕ) → length (entry_put w at n r number place value) ≡ length w
put-long w at n r number place value =
    ap length (put-sets w at n r number place value)
    ∙ length-sets w at (n ∷ r.kind ∷ r.a ∷ r.b ∷ r.first ∷ r.last ∷ r.n ∷ r.info ∷ number ∷ place ∷ value ∷ [])

-- an order is kept with an answer that is done, and with one that is refused
module _ (w : List ℕ) (l : length w ≡ tail_length) (k : tail_kept w ≡ true) (n : ℕ) (h : n ≡ 0 → ⊥) (r : Request) where
  done-kept : (v : ℕ) → entry_kept_at w n r 0 0 v ≡ tail_words (noted (tail_of w) n r (done_with v))
  unfolding entry_kept_at
  done-kept v =
      ap (λ (u : List ℕ). set u ring_length (place_after (get_or w ring_length 0))) (put-sets w (get_or w ring_length 0 * entry_length) n r 0 0 v)
      ∙ keep-words w l k (record { order = n; request = r; answer = done_with v })
      ∙ ap tail_words (noted-is (tail_of w) n h r (done_with v))

  refused-kept : (m p : ℕ) → entry_kept_at w n r m p 0 ≡ tail_words (noted (tail_of w) n r (refused_with m p))
  unfolding entry_kept_at
  refused-kept m p =
      ap (λ (u : List ℕ). set u ring_length (place_after (get_or w ring_length 0))) (put-sets w (get_or w ring_length 0 * entry_length) n r m p 0)
      ∙ keep-words w l k (record { order = n; request = r; answer = refused_with m p })
      ∙ ap tail_words (noted-is (tail_of w) n h r (refused_with m p))

  -- with the answer that three words tell
  pub told-kept : (m p v : ℕ) → cond (eqb m 0) (eqb p 0) (eqb v 0) ≡ true → entry_kept_at w n r m p v ≡ tail_words (noted (tail_of w) n r (told_by m p v))
  told-kept zero p v e = ap (λ (p : ℕ). entry_kept_at w n r 0 p v) (eqb-true p 0 e) ∙ done-kept v
  told-kept (suc m) p v e =
      let f : eqb (suc m) 0 ≡ false = ne_eqb (suc m) 0 (λ q. omega (arith, q)) in
      ap (λ (v : ℕ). entry_kept_at w n r (suc m) p v) (eqb-true v 0 (sym (ap (λ (b : Bool). cond b (eqb p 0) (eqb v 0)) f) ∙ e)) ∙ refused-kept (suc m) p

-- the next place of words that keep the law, and words without an order to keep
module _ (w : List ℕ) (l : length w ≡ tail_length) (k : tail_kept w ≡ true) where
  pub next-below : get_or w ring_length 0 < ring_places
  unfolding tail_of
  next-below = (tail-read w l k).next

  pub none-noted : (n : ℕ) → n ≡ 0 → (r : Request) (a : Answer) → w ≡ tail_words (noted (tail_of w) n r a)
  none-noted zero e r a = sym (tail-shown w l k)
  none-noted (suc n) e r a = absurd (omega (arith, e))

-- ---- all of a number of tests

pub one-fails : (p : ℕ → Bool) (n i : ℕ) → i < n → p i ≡ false → false ≡ all p n
one-fails p n i h e = sym (never (all p n) (λ q. both (all_true p n q i h) e))

pub tail-fails : (w : List ℕ) (i : ℕ) → i < ring_places → entry_kept w i ≡ false → false ≡ tail_kept w
unfolding tail_kept
tail-fails w i h e = ap (λ (t : Bool). t && next_within w) (one-fails (entry_kept w) ring_places i h e)

pub tail-passes : (w : List ℕ) → ((i : ℕ) → i < ring_places → entry_kept w i ≡ true) → next_within w ≡ tail_kept w
unfolding tail_kept
tail-passes w f = sym (ap (λ (t : Bool). t && next_within w) (true-all (entry_kept w) ring_places f))

-- ---- the law of an entry, by its number

-- the three clauses of an entry, where its number is 0 or not
abbrev clauses : Bool → Bool → Bool → Bool → Bool
clauses unnumbered twice empty tells = (unnumbered || not twice) && ((not unnumbered || empty) && (tells && true))

and-told : (a b : Bool) → (a ≡ true → b ≡ true) → a ≡ a && (b && true)
and-told true b h = sym (ap (λ (t : Bool). t && true) (h refl))
and-told false b h = refl

and-true-is : (b : Bool) → b ≡ b && true
and-true-is true = refl
and-true-is false = refl

found_some : (o : Option ℕ) (j : ℕ) → o ≡ Some j → is_some o ≡ true
found_some None j e = absurd (let z : ◌≡◌ {A = ℕ} 0 1 = cc in omega arith)
found_some (Some i) j e = refl

found_nothing : (o : Option ℕ) → o ≡ None → is_some o ≡ false
found_nothing None e = refl
found_nothing (Some i) e = absurd (let z : ◌≡◌ {A = ℕ} 0 1 = cc in omega arith)

module _ (w : List ℕ) (i : ℕ) where
  zeros-told : all (λ j. eqb (word_of w i j) 0) entry_length ≡ true → answer_told w i ≡ true
  zeros-told e =
      let z : (j : ℕ) → j < entry_length → eqb (word_of w i j) 0 ≡ true = all_true (λ j. eqb (word_of w i j) 0) entry_length e in
      rw (z 8 (omega arith), z 9 (omega arith))

  -- without a number
  pub kept-empty : get_or w (i * entry_length) 0 ≡ 0 → all (λ j. eqb (word_of w i j) 0) entry_length ≡ entry_kept w i
  unfolding entry_kept
  kept-empty e =
      and-told (all (λ j. eqb (word_of w i j) 0) entry_length) (answer_told w i) zeros-told
      ∙ sym
      (ap
      (λ (z : Bool).
      clauses z (any (λ j. eqb (word_of w j 0) (word_of w i 0)) i) (all (λ j. eqb (word_of w i j) 0) entry_length) (answer_told w i))
      (eq-eqb (word_of w i 0) 0 (sym (first_word w i) ∙ e)))

  -- with one: a number that stands before, or none that does
  module _ (h : get_or w (i * entry_length) 0 ≡ 0 → ⊥) (f : Option ℕ) (e : f ≡ (lowest (λ j. eqb (word_of w j 0) (get_or w (i * entry_length) 0)) 0 i)) where
    before : f ≡ (lowest (λ j. eqb (word_of w j 0) (word_of w i 0)) 0 i)
    before = e ∙ ap (λ (n : ℕ). (lowest (λ j. eqb (word_of w j 0) n) 0 i)) (first_word w i)

    by-twice : (b : Bool) → any (λ j. eqb (word_of w j 0) (word_of w i 0)) i ≡ b → entry_kept w i ≡ not b && (answer_told w i && true)
    unfolding entry_kept
    by-twice b q =
        ap₂ (λ (z t : Bool). clauses z t (all (λ j. eqb (word_of w i j) 0) entry_length) (answer_told w i))
        (ne_eqb (word_of w i 0) 0 (λ e. h (first_word w i ∙ e))) q

    pub kept-twice : (j : ℕ) → f ≡ Some j → false ≡ entry_kept w i
    kept-twice j q = sym (by-twice true (found_some (lowest (λ j. eqb (word_of w j 0) (word_of w i 0)) 0 i) j (sym before ∙ q)))

    pub kept-once : f ≡ None → answer_told w i ≡ entry_kept w i
    kept-once q =
        and-true-is (answer_told w i)
        ∙ sym (by-twice false (found_nothing (lowest (λ j. eqb (word_of w j 0) (word_of w i 0)) 0 i) (sym before ∙ q)))

-- a test of each word of a list, by its place
by-places : (p : ℕ → Bool) (l : List ℕ) (q : ℕ → Bool) → ((j : ℕ) → j < length l → p (get_or l j 0) ≡ q j) → list_all p l ≡ all q (length l)
by-places p l q same = go (list_all p l) refl
  where
    go : (b : Bool) → list_all p l ≡ b → list_all p l ≡ all q (length l)
    go true e = e ∙ sym (true-all q (length l) (λ j h. sym (same j h) ∙ All-get_or (λ x. p x ≡ true) l j 0 h (AllPass-from_list_all p l e)))
    go false e =
        e ∙ sym (never (all q (length l))
        (λ t. both (list_all-from_AllPass p l (All-from_get_or (λ x. p x ≡ true) l 0 (λ j h. same j h ∙ all_true q (length l) t j h))) e))

-- the words of an entry are zeros
pub zeros-at : (w : List ℕ) (i : ℕ) → i * 11 + 11 ≤ length w
    → list_all (λ word. eqb word 0) (take (i * 11 + 11 - i * 11) (drop (i * 11) w)) ≡ all (λ j. eqb (word_of w i j) 0) entry_length
zeros-at w i h =
    let n : i * 11 + 11 - i * 11 ≡ 11 = omega arith in
    let long : length (take 11 (drop (i * 11) w)) ≡ 11 = omega (arith, h, length-take 11 (drop (i * 11) w), length-drop (i * 11) w) in
    rw n
    (by-places (λ word. eqb word 0) (take 11 (drop (i * 11) w)) (λ j. eqb (word_of w i j) 0)
    (λ j l. ap (λ (x : ℕ). eqb x 0) (get_or-take 11 (drop (i * 11) w) j 0 (omega (arith, long, l)) ∙ get_or-drop (i * 11) w j 0))
    ∙ ap (all (λ j. eqb (word_of w i j) 0)) long)

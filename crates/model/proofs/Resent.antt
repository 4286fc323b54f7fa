-- Orders sent again: a kept order gets the answer that it got when it was sent, and changes nothing; and lists in which orders are sent
-- again while they are kept, on ledgers, on books and as the words of a list.
-- Assumes nothing.
use Prim.Native.Nat.{ℕ, zero, suc, ◌+◌, ◌*◌, ◌≤◌, ◌<◌}
use mathlib.Core.Path.{◌≡◌, refl, sym, ◌∙◌, ap, ap₂, subst}
use mathlib.Core.Logic.{◌⊎◌, inl, inr}
use mathlib.Core.Bool.{Bool, true, false, not, cond, false≢true}
use Rattle.std.specs.Prelude.{Option, None, Some}
use mathlib.Core.List.{List, [], ◌∷◌, ◌++◌}
use native.Mathlib.Omega.{arith}
use lib.Dec.{ltb, eqb}
use lib.ListN.{length, take, drop, length-append}
use lib.Seq.{take_at}
use borrow.Author.Tests.{eq-eqb, eqb-true, ltb-true, ltb-false}
use Rattle.model.specs.declared.Settings.{Settings}
use Rattle.model.specs.declared.Request.{Request}
use Rattle.model.specs.Answers.{Answer}
use Rattle.std.specs.Prelude.{Ok, Err}
use Rattle.model.specs.Answers.{refused_with}
use Rattle.model.specs.Bounded.{is_some}
use Rattle.model.specs.Site.{valid_settings}
use Rattle.model.specs.Messages.{answer_words, order_length, same_request}
use Rattle.model.specs.Tail.{Entry, ring_places, entry_at, kept_at, place_after, keep, empty_tail}
use Rattle.model.specs.Reading.{settings_of}
use Rattle.model.specs.Ledger.{Ledger, empty_ledger, book_length, book_words, ledger_of}
use Rattle.model.specs.Machine.{counted_step, Call, ordered, party, ask, commit, Reply, told, asked, Performed, stepped, answer_order}
use Rattle.model.specs.Machine.{answer_commit, perform, Run, run}
use Rattle.model.specs.Calls.{Calls, calls, fresh_book, settings_good, calls_of, replies_words, answerable, Listed, listed, call_list, shown_by, serve_list}
use Rattle.model.specs.Resent.{IsKept, Kept, KeptThrough, is_new, new_orders, Sending, once, again, all_sent, once_sent, WhileKept, once_replied, once_answered}
use Rattle.model.proofs.Search.{and-true}
use Rattle.model.proofs.Tells.{answer-long}
use Rattle.model.proofs.Counting.{answer_to}
use Rattle.model.proofs.Tail.{empty-at, kept_there, kept-else, here-or-not, none_kept, kept-first, kept-place, kept-order, kept_by, not-kept}
use Rattle.model.proofs.Ledger.{LedgerSound}
use Rattle.model.proofs.Calls.{kept_leaves, perform-sound, empty-ledger}
use Rattle.model.proofs.Shows.{Shows, Passes, passes-shows, fresh-shows, shown-calls}

below_or_not : {P : Type 0} (i n : ℕ) → (i < n → P) → (n ≤ i → P) → P
below_or_not {P} i n below not-below = decide (ltb i n) refl
  where
    decide : (b : Bool) → ltb i n ≡ b → P
    decide true q = below (ltb-true i n q)
    decide false q = not-below (ltb-false i n q)

-- ---- one order

pub same-request : (r : Request) → same_request r r ≡ true
unfolding same_request
same-request r =
    and-true
    (and-true
    (and-true
    (and-true (and-true (and-true (eq-eqb r.kind _ refl) (eq-eqb r.a _ refl)) (eq-eqb r.b _ refl)) (eq-eqb r.first _ refl))
    (eq-eqb r.last _ refl))
    (eq-eqb r.n _ refl))
    (eq-eqb r.info _ refl)

-- whatever comes with the number of a kept order, the ledger stays
pub kept-stays : (l : Ledger) (n : ℕ) (r : Request) → IsKept l n → (perform l (ordered n r)).ledger ≡ l
kept-stays l n r e = go (kept_at l.tail n) e
  where
    go : (o : Option ℕ) → is_some o ≡ true → (answer_order l n r o).ledger ≡ l
    go None e = absurd (false≢true e)
    go (Some i) e = kept_leaves l n r i

-- sent again, it gets the answer that is kept with it
pub sent-again : (l : Ledger) (n : ℕ) (r : Request) (a : Answer) → Kept l n r a → perform l (ordered n r) ≡ record { reply = told a; ledger = l }
sent-again l n r a k =
    ap (answer_order l n r) k.at
    ∙ ap (λ (b : Answer). record { reply = told b; ledger = l })
    (ap (λ (q : Request). cond (same_request q r) (entry_at l.tail k.place).answer (refused_with 28 0)) k.request
    ∙ ap (λ (t : Bool). cond t (entry_at l.tail k.place).answer (refused_with 28 0)) (same-request r)
    ∙ k.answer)

-- with other words it is refused by 28
pub sent-otherwise : (l : Ledger) (n : ℕ) (r q : Request) (a : Answer) → Kept l n r a → same_request r q ≡ false
    → perform l (ordered n q) ≡ record { reply = told (refused_with 28 0); ledger = l }
sent-otherwise l n r q a k f =
    ap (answer_order l n q) k.at
    ∙ ap (λ (b : Answer). record { reply = told b; ledger = l })
    (ap (λ (p : Request). cond (same_request p q) (entry_at l.tail k.place).answer (refused_with 28 0)) k.request
    ∙ ap (λ (t : Bool). cond t (entry_at l.tail k.place).answer (refused_with 28 0)) f)

-- an order kept anew: its entry, and the places after it is kept
module _ (l : Ledger) (s : LedgerSound l) (m : ℕ) (q : Request) (new : kept_at l.tail (suc m) ≡ None) where
  abbrev entry : Entry
  entry = record { order = suc m; request = q; answer = answer_to l q }

  there : entry_at (keep l.tail entry) l.tail.next ≡ entry
  there = kept_there l.tail s.tail entry

  else : (i : ℕ) → (i ≡ l.tail.next → ⊥) → entry_at (keep l.tail entry) i ≡ entry_at l.tail i
  else i h = kept-else l.tail entry i h

  first-at : kept_at (keep l.tail entry) (suc m) ≡ Some l.tail.next
  first-at =
      kept_by (keep l.tail entry) (suc m) l.tail.next (λ z. omega (arith, z)) s.tail.next (ap (λ (e : Entry). e.order) there)
      (λ j h e. none_kept l.tail m new j (omega (arith, h, s.tail.next)) (sym (ap (λ (e : Entry). e.order) (else j (λ z. omega (arith, h, z)))) ∙ e))

  -- the new one
  pub is-first : Kept (stepped (keep l.tail entry) (counted_step l.diary l.changes q)).ledger (suc m) q (answer_to l q)
  is-first =
      record {
        place = l.tail.next;
        at = first-at;
        request = ap (λ (e : Entry). e.request) there;
        answer = ap (λ (e : Entry). e.answer) there;
      }

  -- another one, kept at place p: its number stands nowhere else. It stays there, or p was the next place.
  module _ (n p : ℕ) (at : kept_at l.tail n ≡ Some p) where
    some-n : n ≡ 0 → ⊥
    some-n = (kept-first l.tail n at).0

    place : p < ring_places
    place = kept-place l.tail n at

    order : (entry_at l.tail p).order ≡ n
    order = kept-order l.tail n at

    other : suc m ≡ n → ⊥
    other e = none_kept l.tail m new p place (order ∙ sym e)

    alone : (j : ℕ) → j < ring_places → (j ≡ p → ⊥) → (entry_at l.tail j).order ≡ n → ⊥
    alone j h d e =
        below_or_not j p
        (λ b. s.tail.differ p j place b (λ z. some-n (sym order ∙ z)) (e ∙ sym order))
        (λ b. s.tail.differ j p h (omega (arith, b, d)) (λ z. some-n (sym e ∙ z)) (order ∙ sym e))

    -- what has the number then has it at p, and p is not the next place
    elsewhere : (j : ℕ) → j < ring_places → (j ≡ p → j ≡ l.tail.next) → (entry_at (keep l.tail entry) j).order ≡ n → ⊥
    elsewhere j h d e =
        here-or-not j l.tail.next (λ z. other (sym (ap (λ (e : Entry). e.order) (ap (entry_at (keep l.tail entry)) z ∙ there)) ∙ e))
        (λ z. alone j h (λ y. z (d y)) (sym (ap (λ (e : Entry). e.order) (else j z)) ∙ e))

    pub gone : p ≡ l.tail.next → kept_at (keep l.tail entry) n ≡ None
    gone e = not-kept (keep l.tail entry) n (λ j h. elsewhere j h (λ y. y ∙ e))

    pub stays : (p ≡ l.tail.next → ⊥) → kept_at (keep l.tail entry) n ≡ Some p
    stays h =
        kept_by (keep l.tail entry) n p some-n place (ap (λ (e : Entry). e.order) (else p h) ∙ order)
        (λ j g. elsewhere j (omega (arith, g, place)) (λ y. absurd (omega (arith, g, y))))

  module _ (n : ℕ) (r : Request) (a : Answer) where
    pub others-stay : Kept l n r a
        → (kept_at (keep l.tail entry) n ≡ None) ⊎ Kept (stepped (keep l.tail entry) (counted_step l.diary l.changes q)).ledger n r a
    others-stay k =
        here-or-not k.place l.tail.next (λ e. inl (gone n k.place k.at e))
        (λ h.
        inr
        (record {
          place = k.place;
          at = stays n k.place k.at h;
          request = ap (λ (e : Entry). e.request) (else k.place h) ∙ k.request;
          answer = ap (λ (e : Entry). e.answer) (else k.place h) ∙ k.answer;
        }))

    -- and what is kept then was kept before, or is the new one
    pub kept-before : Kept (stepped (keep l.tail entry) (counted_step l.diary l.changes q)).ledger n r a
        → Kept l n r a ⊎ ((suc m ≡ n) × (q ≡ r) × (answer_to l q ≡ a))
    kept-before k = here-or-not k.place l.tail.next (λ e. inr (this e)) (λ h. inl (before h))
      where
        this : k.place ≡ l.tail.next → (suc m ≡ n) × (q ≡ r) × (answer_to l q ≡ a)
        this e =
            let w : entry ≡ entry_at (keep l.tail entry) k.place = sym there ∙ ap (entry_at (keep l.tail entry)) (sym e) in (
              ap (λ (e : Entry). e.order) w ∙ kept-order (keep l.tail entry) n k.at,
              ap (λ (e : Entry). e.request) w ∙ k.request,
              ap (λ (e : Entry). e.answer) w ∙ k.answer,
            )

        before : (k.place ≡ l.tail.next → ⊥) → Kept l n r a
        before h =
            let w : entry_at (keep l.tail entry) k.place ≡ entry_at l.tail k.place = else k.place h in
            let o : (entry_at l.tail k.place).order ≡ n = sym (ap (λ (e : Entry). e.order) w) ∙ kept-order (keep l.tail entry) n k.at in
            let place : k.place < ring_places = kept-place (keep l.tail entry) n k.at in
            let some-n : n ≡ 0 → ⊥ = (kept-first (keep l.tail entry) n k.at).0 in
            record {
              place = k.place;
              at = kept_by l.tail n k.place some-n place o (λ j g e. s.tail.differ k.place j place g (λ z. some-n (sym o ∙ z)) (e ∙ sym o));
              request = sym (ap (λ (e : Entry). e.request) w) ∙ k.request;
              answer = sym (ap (λ (e : Entry). e.answer) w) ∙ k.answer;
            }

-- an order that is not kept gets the answer of its request, and is then kept with it
pub first-kept : (l : Ledger) → LedgerSound l → (n : ℕ) (r : Request) → kept_at l.tail (suc n) ≡ None
    → ((perform l (ordered (suc n) r)).reply ≡ told (answer_to l r)) × Kept (perform l (ordered (suc n) r)).ledger (suc n) r (answer_to l r)
first-kept l s n r o =
    subst (λ (p : Performed). (p.reply ≡ told (answer_to l r)) × Kept p.ledger (suc n) r (answer_to l r))
    (sym (ap (answer_order l (suc n) r) o))
    (refl, is-first l s n r o)

-- ---- an order through a list of calls

-- an order that is kept after a call and was kept before it is kept as it was
module _ (l : Ledger) (s : LedgerSound l) (n : ℕ) (r : Request) (a : Answer) (k : Kept l n r a) where
  after-order : (m : ℕ) (q : Request) (o : Option ℕ) → kept_at l.tail m ≡ o → IsKept (answer_order l m q o).ledger n → Kept (answer_order l m q o).ledger n r a
  after-order m q (Some i) e h = k
  after-order zero q None e h = record { place = k.place; at = k.at; request = k.request; answer = k.answer }
  after-order (suc m) q None e h = go (others-stay l s m q e n r a k)
    where
      go : (kept_at (keep l.tail (record { order = suc m; request = q; answer = answer_to l q })) n ≡ None)
          ⊎ Kept (answer_order l (suc m) q None).ledger n r a
          → Kept (answer_order l (suc m) q None).ledger n r a
      go (inl z) = absurd (false≢true (sym (ap is_some z) ∙ h))
      go (inr k) = k

  pub kept-after : (c : Call) → IsKept (perform l c).ledger n → Kept (perform l c).ledger n r a
  kept-after (ordered m q) h = after-order m q (kept_at l.tail m) refl h
  kept-after (party m gs) h = record { place = k.place; at = k.at; request = k.request; answer = k.answer }
  kept-after (ask q) h = k
  kept-after (commit m q) h = go (eqb m l.changes) h
    where
      go : (t : Bool) → IsKept (answer_commit l t q).ledger n → Kept (answer_commit l t q).ledger n r a
      go true h = after-order 0 q None refl h
      go false h = k

-- so that an order kept through a list of calls gets at its end the answer that it got when it was sent
pub kept-through : (l : Ledger) → LedgerSound l → (n : ℕ) (r : Request) (a : Answer) → Kept l n r a → (cs : List Call) → KeptThrough l n cs
    → Kept (run l cs).ledger n r a
unfolding run
kept-through l s n r a k [] h = k
kept-through l s n r a k (c ∷ cs) h =
    kept-through (perform l c).ledger (perform-sound l s c) n r a (kept-after l s n r a k c h.0) cs h.1

-- an order that is kept after a list of calls was kept before it, or was sent in it as a new one and got there the answer that is kept
pub record Sent (l : Ledger) (cs : List Call) (n : ℕ) (r : Request) (a : Answer) : Type 0 where
  pub before : List Call
  pub after : List Call
  pub list : cs ≡ before ++ ordered n r ∷ after
  pub new : kept_at (run l before).ledger.tail n ≡ None
  pub reply : (perform (run l before).ledger (ordered n r)).reply ≡ told a

module _ (n : ℕ) (r : Request) (a : Answer) where
  before-order : (l : Ledger) → LedgerSound l → (m : ℕ) (q : Request) (o : Option ℕ) → kept_at l.tail m ≡ o → Kept (answer_order l m q o).ledger n r a
      → Kept l n r a ⊎ ((ordered m q ≡ ordered n r) × (kept_at l.tail n ≡ None) × ((answer_order l m q o).reply ≡ told a))
  before-order l s m q (Some i) e k = inl k
  before-order l s zero q None e k = inl (record { place = k.place; at = k.at; request = k.request; answer = k.answer })
  before-order l s (suc m) q None e k = go (kept-before l s m q e n r a k)
    where
      go : Kept l n r a ⊎ ((suc m ≡ n) × (q ≡ r) × (answer_to l q ≡ a))
          → Kept l n r a ⊎ ((ordered (suc m) q ≡ ordered n r) × (kept_at l.tail n ≡ None) × ((answer_order l (suc m) q None).reply ≡ told a))
      go (inl k) = inl k
      go (inr p) = inr (ap₂ ordered p.0 p.1, ap (kept_at l.tail) (sym p.0) ∙ e, ap told p.2)

  before-call : (l : Ledger) → LedgerSound l → (c : Call) → Kept (perform l c).ledger n r a
      → Kept l n r a ⊎ ((c ≡ ordered n r) × (kept_at l.tail n ≡ None) × ((perform l c).reply ≡ told a))
  before-call l s (ordered m q) k = before-order l s m q (kept_at l.tail m) refl k
  before-call l s (party m gs) k = inl (record { place = k.place; at = k.at; request = k.request; answer = k.answer })
  before-call l s (ask q) k = inl k
  before-call l s (commit m q) k = inl (go (eqb m l.changes) k)
    where
      go : (t : Bool) → Kept (answer_commit l t q).ledger n r a → Kept l n r a
      go true k = record { place = k.place; at = k.at; request = k.request; answer = k.answer }
      go false k = k

  pub kept-was-sent : (l : Ledger) → LedgerSound l → (cs : List Call) → Kept (run l cs).ledger n r a → Kept l n r a ⊎ Sent l cs n r a
  unfolding run
  kept-was-sent l s [] k = inl k
  kept-was-sent l s (c ∷ cs) k = go (kept-was-sent (perform l c).ledger (perform-sound l s c) cs k)
    where
      now : Kept l n r a ⊎ ((c ≡ ordered n r) × (kept_at l.tail n ≡ None) × ((perform l c).reply ≡ told a)) → Kept l n r a ⊎ Sent l (c ∷ cs) n r a
      now (inl k) = inl k
      now (inr p) =
          inr
          (record {
            before = [];
            after = cs;
            list = ap (λ (d : Call). d ∷ cs) p.0;
            new = p.1;
            reply = sym (ap (λ (d : Call). (perform l d).reply) p.0) ∙ p.2;
          })

      go : Kept (perform l c).ledger n r a ⊎ Sent (perform l c).ledger cs n r a → Kept l n r a ⊎ Sent l (c ∷ cs) n r a
      go (inl k) = now (before-call l s c k)
      go (inr h) =
          inr
          (record {
            before = c ∷ h.before;
            after = h.after;
            list = ap (λ (ds : List Call). c ∷ ds) h.list;
            new = h.new;
            reply = h.reply;
          })

  -- from a fresh book on it was sent
  none-fresh : (S : Settings) → Kept (empty_ledger S) n r a → ⊥
  unfolding empty_ledger
  none-fresh S k =
      let e : (entry_at empty_tail k.place).order ≡ 0
      = ap (λ (e : Entry). e.order) (empty-at k.place (kept-place empty_tail n k.at)) in
      (kept-first empty_tail n k.at).0 (sym (kept-order empty_tail n k.at) ∙ e)

  pub kept-was-sent-fresh : (S : Settings) → valid_settings S ≡ true → (cs : List Call) → Kept (run (empty_ledger S) cs).ledger n r a
      → Sent (empty_ledger S) cs n r a
  kept-was-sent-fresh S e cs k = go (kept-was-sent (empty_ledger S) (empty-ledger S e) cs k)
    where
      go : Kept (empty_ledger S) n r a ⊎ Sent (empty_ledger S) cs n r a → Sent (empty_ledger S) cs n r a
      go (inl k) = absurd (none-fresh S k)
      go (inr h) = h

-- ---- behind how many orders one is still kept

-- k more orders can be kept before place p is the next one
abbrev Before : ℕ → ℕ → ℕ → Type 0
Before next p k = (next + k ≡ p) ⊎ (next + k ≡ p + ring_places)

before-other : (i p k : ℕ) → suc k < ring_places → Before i p (suc k) → i ≡ p → ⊥
before-other i p k h (inl e) q = omega (arith, e, q)
before-other i p k h (inr e) q = omega (arith, h, e, q)

before-after : (i p k : ℕ) → i < ring_places → p < ring_places → Before i p (suc k) → Before (place_after i) p k
before-after i p k h g b = go (eqb (suc i) ring_places) refl b
  where
    go : (t : Bool) → eqb (suc i) ring_places ≡ t → Before i p (suc k) → Before (cond t 0 (suc i)) p k
    go true q (inl e) = absurd (omega (arith, g, e, eqb-true (suc i) ring_places q))
    go true q (inr e) = inl (omega (arith, e, eqb-true (suc i) ring_places q))
    go false q (inl e) = inl (omega (arith, e))
    go false q (inr e) = inr (omega (arith, e))

-- behind the entry that was kept last it is all the others
before-all : (i : ℕ) → i < ring_places → Before (place_after i) i 63
before-all i h = go (eqb (suc i) ring_places) refl
  where
    go : (t : Bool) → eqb (suc i) ring_places ≡ t → Before (cond t 0 (suc i)) i 63
    go true q = inl (omega (arith, eqb-true (suc i) ring_places q))
    go false q = inr (omega arith)

-- an order at place p, before which k others can be kept
record Stands (l : Ledger) (n p k : ℕ) : Type 0 where
  at : kept_at l.tail n ≡ Some p
  most : k < ring_places
  before : Before l.tail.next p k

-- it is kept after each call of a list with no more new orders
module _ (n p : ℕ) where
  after_call : (l : Ledger) → LedgerSound l → (k m : ℕ) → Stands l n p k → (c : Call) → cond (is_new l c) 1 0 + m ≤ k
      → (j : ℕ) × (m ≤ j) × Stands (perform l c).ledger n p j
  unfolding keep
  after_call l s k m h (party q gs) e = (k, omega (arith, e), record { at = h.at; most = h.most; before = h.before })
  after_call l s k m h (ask q) e = (k, omega (arith, e), h)
  after_call l s k m h (commit i q) e = (k, omega (arith, e), go (eqb i l.changes))
    where
      go : (t : Bool) → Stands (answer_commit l t q).ledger n p k
      go true = record { at = h.at; most = h.most; before = h.before }
      go false = h
  after_call l s k m h (ordered zero q) e = (k, omega (arith, e), record { at = h.at; most = h.most; before = h.before })
  after_call l s k m h (ordered (suc i) q) e = go (kept_at l.tail (suc i)) refl k e h
    where
      go : (o : Option ℕ) → kept_at l.tail (suc i) ≡ o → (k : ℕ) → cond (not (is_some o)) 1 0 + m ≤ k → Stands l n p k
          → (j : ℕ) × (m ≤ j) × Stands (answer_order l (suc i) q o).ledger n p j
      go (Some at) f k e h = (k, omega (arith, e), h)
      go None f zero e h = absurd (omega (arith, e))
      go None f (suc k) e h = (
        k,
        omega (arith, e),
        record {
          at = stays l s i q f n p h.at (λ z. before-other l.tail.next p k h.most h.before (sym z));
          most = omega (arith, h.most);
          before = before-after l.tail.next p k s.tail.next (kept-place l.tail n h.at) h.before;
        },
      )

  stands-through : (l : Ledger) → LedgerSound l → (k : ℕ) → Stands l n p k → (cs : List Call) → new_orders l cs ≤ k → KeptThrough l n cs
  stands-through l s k h [] e = tt
  stands-through l s k h (c ∷ cs) e =
      let a = after_call l s k (new_orders (perform l c).ledger cs) h c e in
      (ap is_some a.2.at, stands-through (perform l c).ledger (perform-sound l s c) a.0 a.2 cs a.1)

-- "An order is kept until 64 new ones have come behind it": on any sound ledger, through every list of calls with fewer
pub kept-behind : (l : Ledger) → LedgerSound l → (n : ℕ) (r : Request) → kept_at l.tail (suc n) ≡ None → (cs : List Call)
    → new_orders (perform l (ordered (suc n) r)).ledger cs < ring_places → KeptThrough (perform l (ordered (suc n) r)).ledger (suc n) cs
unfolding keep
kept-behind l s n r new cs e =
    stands-through (suc n) l.tail.next (perform l (ordered (suc n) r)).ledger (perform-sound l s (ordered (suc n) r)) 63
    (subst (λ (p : Performed). Stands p.ledger (suc n) l.tail.next 63) (sym (ap (answer_order l (suc n) r) new))
    (record { at = first-at l s n r new; most = omega arith; before = before-all l.tail.next s.tail.next }))
    cs (omega (arith, e))

-- so an order that is sent again behind fewer than 64 new ones gets the answer that it got first, and changes nothing
pub once-done : (l : Ledger) → LedgerSound l → (n : ℕ) (r : Request) → kept_at l.tail (suc n) ≡ None → (cs : List Call)
    → new_orders (perform l (ordered (suc n) r)).ledger cs < ring_places
    → perform (run l (ordered (suc n) r ∷ cs)).ledger (ordered (suc n) r)
    ≡ record { reply = (perform l (ordered (suc n) r)).reply; ledger = (run l (ordered (suc n) r ∷ cs)).ledger }
unfolding run
once-done l s n r new cs e =
    let l' : Ledger = (perform l (ordered (suc n) r)).ledger in
    let first = first-kept l s n r new in
    let a : Answer = answer_to l r in
    let k : Kept (run l' cs).ledger (suc n) r a
    = kept-through l' (perform-sound l s (ordered (suc n) r)) (suc n) r a first.1 cs (kept-behind l s n r new cs e) in
    sent-again (run l' cs).ledger (suc n) r a k ∙ ap (λ (o : Reply). record { reply = o; ledger = (run l' cs).ledger }) (sym first.0)

-- ---- orders sent again in a list

-- repeats anywhere, each of an order that is kept there, leave the ledger and all other replies as without them
pub resent : (l : Ledger) (ss : List Sending) → WhileKept l ss
    → ((run l (all_sent ss)).ledger ≡ (run l (once_sent ss)).ledger) × (once_replied ss (run l (all_sent ss)).replies ≡ (run l (once_sent ss)).replies)
unfolding run
resent l [] h = (refl, refl)
resent l (once c ∷ ss) h =
    let later = resent (perform l c).ledger ss h in
    (later.0, ap (λ (rs : List Reply). (perform l c).reply ∷ rs) later.1)
resent l (again n r ∷ ss) h =
    let later = resent l ss h.1 in
    let e : run (perform l (ordered n r)).ledger (all_sent ss) ≡ run l (all_sent ss) = ap (λ (m : Ledger). run m (all_sent ss)) (kept-stays l n r h.0) in
    (ap (λ (u : Run). u.ledger) e ∙ later.0, ap (λ (u : Run). once_replied ss u.replies) e ∙ later.1)

-- the same of calls on a book that shows the ledger, and on a fresh book
pub record Resent (ss : List Sending) (all-calls once-calls : Calls) : Type 0 where
  pub book : all-calls.book ≡ once-calls.book
  pub replies : once_replied ss all-calls.replies ≡ once-calls.replies

pub resent-book : (b : List ℕ) (l : Ledger) → Shows b l → (ss : List Sending) → WhileKept l ss → Resent ss (calls b (all_sent ss)) (calls b (once_sent ss))
resent-book b l h ss k =
    let r = resent l ss k in
    rw (shown-calls b l h (all_sent ss), shown-calls b l h (once_sent ss)) (record { book = ap book_words r.0; replies = r.1 })

pub resent-fresh : (S : Settings) → valid_settings S ≡ true → (ss : List Sending) → WhileKept (empty_ledger S) ss
    → Resent ss (calls (fresh_book S) (all_sent ss)) (calls (fresh_book S) (once_sent ss))
resent-fresh S e ss k = resent-book (fresh_book S) (empty_ledger S) (fresh-shows S e) ss k

-- The words of the replies. A list of words holds requests, with orders or without, and no other calls: each reply is an answer alone,
-- of three words.
abbrev AllTold : List Reply → Type 0
AllTold [] = Unit {0}
AllTold (told a ∷ rs) = AllTold rs
AllTold (asked a n ∷ rs) = ⊥

abbrev AllOrders : List Call → Type 0
AllOrders [] = Unit {0}
AllOrders (ordered n r ∷ cs) = AllOrders cs
AllOrders (party m gs ∷ cs) = ⊥
AllOrders (ask r ∷ cs) = ⊥
AllOrders (commit n r ∷ cs) = ⊥

all-orders : (k n : ℕ) (w : List ℕ) → AllOrders (calls_of k n w)
unfolding calls_of
all-orders k zero w = tt
all-orders k (suc n) w = all-orders k n (drop k w)

all_told : (l : Ledger) (cs : List Call) → AllOrders cs → AllTold (run l cs).replies
unfolding run
all_told l [] h = tt
all_told l (ordered n r ∷ cs) h = go (kept_at l.tail n) (λ (m : Ledger). all_told m cs h)
  where
    go : (o : Option ℕ) → ((m : Ledger) → AllTold (run m cs).replies)
        → AllTold ((answer_order l n r o).reply ∷ (run (answer_order l n r o).ledger cs).replies)
    go None later = later (answer_order l n r None).ledger
    go (Some i) later = later l
all_told l (party m gs ∷ cs) h = absurd h
all_told l (ask r ∷ cs) h = absurd h
all_told l (commit n r ∷ cs) h = absurd h

replies-long : (rs : List Reply) → AllTold rs → length (replies_words rs) ≡ 3 * length rs
unfolding replies_words
replies-long [] h = refl
replies-long (told a ∷ rs) h = length-append (answer_words a) (replies_words rs) ∙ omega (arith, answer-long a, replies-long rs h)
replies-long (asked a n ∷ rs) h = absurd h

words-once : (ss : List Sending) (rs : List Reply) → AllTold rs → length rs ≡ length ss → (w : List ℕ)
    → once_answered ss (replies_words rs ++ w) ≡ replies_words (once_replied ss rs)
unfolding once_answered replies_words
words-once [] rs h e w = refl
words-once (s ∷ ss) [] h e w = absurd (omega (arith, e))
words-once (s ∷ ss) (asked a n ∷ rs) h e w = absurd h
words-once (once c ∷ ss) (told (Ok v) ∷ rs) h e w = ap (λ (v' : List ℕ). 0 ∷ 0 ∷ v ∷ v') (words-once ss rs h (omega (arith, e)) w)
words-once (once c ∷ ss) (told (Err refused) ∷ rs) h e w = let n = refused.number in let p = refused.place in ap (λ (v : List ℕ). n ∷ p ∷ 0 ∷ v) (words-once ss rs h (omega (arith, e)) w)
words-once (again m r ∷ ss) (told (Ok v) ∷ rs) h e w = words-once ss rs h (omega (arith, e)) w
words-once (again m r ∷ ss) (told (Err refused) ∷ rs) h e w = let n = refused.number in let p = refused.place in words-once ss rs h (omega (arith, e)) w

pub run_long : (l : Ledger) (cs : List Call) → length (run l cs).replies ≡ length cs
unfolding run
run_long l [] = refl
run_long l (c ∷ cs) = ap suc (run_long (perform l c).ledger cs)

sent-long : (ss : List Sending) → length (all_sent ss) ≡ length ss
sent-long [] = refl
sent-long (once c ∷ ss) = ap suc (sent-long ss)
sent-long (again n r ∷ ss) = ap suc (sent-long ss)

pub list-long : (k n : ℕ) (w : List ℕ) → length (calls_of k n w) ≡ n
unfolding calls_of
list-long k zero w = refl
list-long k (suc n) w = ap suc (list-long k n (drop k w))

-- and of lists of words, eight an order: the one list has the repeats, the other, of n orders, has not. The words of the book are the
-- same after both, and the words of the answers are, but for those to the repeats.
pub record ResentWords (ss : List Sending) (n : ℕ) (all_listed once-listed : Listed) : Type 0 where
  pub book : all_listed.book ≡ once-listed.book
  pub answers : once_answered ss all_listed.answers ≡ take (3 * n) once-listed.answers

resent-listed : (l : Ledger) (ss : List Sending) → WhileKept l ss → AllOrders (all_sent ss) → AllOrders (once_sent ss) → (m n : ℕ)
    → length (once_sent ss) ≡ n → (a c : List ℕ)
    → ResentWords ss n (listed m a (shown_by (run l (all_sent ss)))) (listed n c (shown_by (run l (once_sent ss))))
resent-listed l ss k all-o once-o m n e a c =
    let r = resent l ss k in
    let rs : List Reply = (run l (once_sent ss)).replies in
    record {
      book = ap book_words r.0;
      answers =
          words-once ss (run l (all_sent ss)).replies (all_told l (all_sent ss) all-o) (run_long l (all_sent ss) ∙ sent-long ss) (drop (3 * m) a)
          ∙ ap replies_words r.1
          ∙ sym (take_at (replies_words rs) (drop (3 * n) c) (3 * n)
          (omega (arith, replies-long rs (all_told l (once_sent ss) once-o), run_long l (once_sent ss), e)));
    }

-- on a book that passes questions 1 and 2, and on a book laid anew
module _ (w v a c : List ℕ) (ss : List Sending) (all-words : calls_of order_length (answerable order_length w a) w ≡ all_sent ss)
    (once-words : calls_of order_length (answerable order_length v c) v ≡ once_sent ss) where
  count : length (once_sent ss) ≡ answerable order_length v c
  count = sym (ap length once-words) ∙ list-long order_length (answerable order_length v c) v

  sent-orders : AllOrders (all_sent ss)
  sent-orders = subst AllOrders all-words (all-orders order_length (answerable order_length w a) w)

  once-orders : AllOrders (once_sent ss)
  once-orders = subst AllOrders once-words (all-orders order_length (answerable order_length v c) v)

  pub orders-resent : (b : List ℕ) → Passes b → WhileKept (ledger_of b) ss
      → ResentWords ss (answerable order_length v c) (call_list order_length b w a) (call_list order_length b v c)
  unfolding call_list
  orders-resent b p k =
      let h : Shows b (ledger_of b) = passes-shows b p in
      rw (p.one, p.two, all-words, once-words, shown-calls b (ledger_of b) h (all_sent ss), shown-calls b (ledger_of b) h (once_sent ss))
      (resent-listed (ledger_of b) ss k sent-orders once-orders (answerable order_length w a) (answerable order_length v c) count a c)

  pub served-resent : (s b : List ℕ) → settings_good s ≡ true → length b ≡ book_length (settings_of s) → WhileKept (empty_ledger (settings_of s)) ss
      → ResentWords ss (answerable order_length v c) (serve_list order_length s b w a) (serve_list order_length s b v c)
  unfolding serve_list
  served-resent s b g f k =
      rw (g, eq-eqb (length b) (book_length (settings_of s)) f, all-words, once-words)
      (resent-listed (empty_ledger (settings_of s)) ss k sent-orders once-orders (answerable order_length w a) (answerable order_length v c) count a c)

-- What check and lay leave to say of a request and of a list.
-- Assumes nothing.
use Prim.Native.Nat.{ℕ}
use mathlib.Core.Path.{◌≡◌, refl, sym, ◌∙◌, ap, ap₂, subst}
use mathlib.Core.Bool.{Bool, true, false}
use mathlib.Core.List.{List}
use lib.Dec.{eqb}
use borrow.Author.Tests.{eq-eqb, ne_eqb}
use lib.ListN.{length}
use Rattle.model.specs.declared.Settings.{Settings}
use Rattle.model.specs.declared.Request.{Request}
use Rattle.model.specs.Answers.{Answer}
use Rattle.model.specs.Answers.{done_with, refused_with}
use Rattle.model.specs.Machine.{counted_step, ordered, ask, commit, told, asked, answer_commit, perform}
use Rattle.model.specs.Reading.{settings_of}
use Rattle.model.specs.Ledger.{book_length, ledger_of}
use Rattle.model.specs.Laws.{well_laid, lawful}
use Rattle.model.specs.Calls.{Called, called, call_on, call_order, call_commit, calls, check, lay, fresh_book, settings_good, calls_of, answerable, listed, call_list, serve_list}
use Rattle.model.proofs.Calls.{from-fresh}
use Rattle.model.proofs.Shows.{good-valid}
use Rattle.model.specs.Removal.{Removed, RemovalKept, OrderedRemovalKept}
use Rattle.model.proofs.Removal.{removal, commit-removal}
use Rattle.model.proofs.Ledger.{words-ledger_of}
use Rattle.book.specs.Good.{GoodBook, answered}
use Rattle.engine.specs.Lists.{All, as_listed}
use Rattle.checking.proofs.Verdicts.{done_refused, done-good}
use Rattle.step.proofs.Kept.{fresh-good, good-call}

-- calls that are the same were told the same answer
answer-is : {a f : Answer} {b c : List ℕ} → answered a b ≡ answered f c → a ≡ f
answer-is {a} {f} e = let q : told a ≡ told f = ap (λ (x : Called). x.reply) e in cc

told-listed : {a f : Answer} {b c : List ℕ} (w : List ℕ) → answered a b ≡ answered f c → as_listed a b w ≡ as_listed f c w
told-listed w e = ap₂ (λ (x : Answer) (y : List ℕ). as_listed x y w) (answer-is e) (ap (λ (x : Called). x.book) e)

-- what is asked leaves a good book, and tells what is foreseen and the count
pub asked-good : {S : Settings} {b : List ℕ} → GoodBook S b → (r : Request) {a : Answer} {n : ℕ}
    → a ≡ (counted_step (ledger_of b).diary (ledger_of b).changes r).answer → n ≡ (ledger_of b).changes
    → record { reply = asked a n; book = b } ≡ call_on b (ask r)
asked-good {S} {b} good r e f =
    ap₂ (λ (a : Answer) (n : ℕ). record { reply = asked a n; book = b }) e f
    ∙ ap (λ (w : List ℕ). record { reply = (perform (ledger_of b) (ask r)).reply; book = w }) (sym (words-ledger_of b good.laid good.lawful))
    ∙ sym (good-call good (ask r))

-- a commit at another count, and at the book's
module _ {S : Settings} {b : List ℕ} (good : GoodBook S b) (m : ℕ) (r : Request) {n : ℕ} (count : n ≡ (ledger_of b).changes) where
  pub other-count : (n ≡ m → ⊥) → answered (refused_with 29 0) b ≡ call_on b (commit m r)
  other-count f =
      let q : eqb m (ledger_of b).changes ≡ false = ne_eqb m _ (λ e. f (count ∙ sym e)) in
      ap (answered (refused_with 29 0)) (sym (words-ledger_of b good.laid good.lawful))
      ∙ ap (λ (t : Bool). called (answer_commit (ledger_of b) t r)) (sym q)
      ∙ sym (good-call good (commit m r))

  pub same_count : n ≡ m → {a : Answer} {c : List ℕ} → answered a c ≡ called (perform (ledger_of b) (ordered 0 r)) → answered a c ≡ call_on b (commit m r)
  same_count t e =
      let q : eqb m (ledger_of b).changes ≡ true = eq-eqb m _ (sym t ∙ count) in
      e ∙ ap (λ (t : Bool). called (answer_commit (ledger_of b) t r)) (sym q) ∙ sym (good-call good (commit m r))

-- an order that is not kept takes out what a removal promises
order-removes : (b : List ℕ) (n : ℕ) (r : Request) (a : Answer) (c : List ℕ) → answered a c ≡ call_order b n r → OrderedRemovalKept b n r a c
order-removes b n r a c e new one two k v q =
    subst (λ (d : List ℕ). Removed (ledger_of b).diary (ledger_of d).diary r.b r.first r.last v) (sym (ap (λ (x : Called). x.book) e))
    (removal b (record { one = one; two = two }) n new r k v (sym (ap (λ (x : Called). x.reply) e) ∙ ap told q))

pub with-commit : (b : List ℕ) (n : ℕ) (r : Request) (a : Answer) (c : List ℕ) → answered a c ≡ call_commit b n r
    → (answered a c ≡ call_commit b n r) × RemovalKept b r a c
with-commit b n r a c e = (
  e,
  λ one two k v q. subst (λ (d : List ℕ). Removed (ledger_of b).diary (ledger_of d).diary r.b r.first r.last v) (sym (ap (λ (x : Called). x.book) e))
      (commit-removal b (record { one = one; two = two }) n r k v (sym (ap (λ (x : Called). x.reply) e) ∙ ap told q)),
)

pub with-removal : (b : List ℕ) (n : ℕ) (r : Request) (a : Answer) (c : List ℕ) → answered a c ≡ call_order b n r
    → (answered a c ≡ call_order b n r) × OrderedRemovalKept b n r a c
with-removal b n r a c e = (e, order-removes b n r a c e)

-- the list on a book that is refused, and on one that passes
pub list-refused : (k : ℕ) (b w a : List ℕ) {n p : ℕ} → check b ≡ refused_with n p → as_listed (refused_with n p) b a ≡ call_list k b w a
unfolding check call_list
list-refused k b w a {n} {p} e = go (well_laid b) refl (lawful b) refl e
  where
    go : (o : Bool) → well_laid b ≡ o → (t : Bool) → lawful b ≡ t → check b ≡ refused_with n p → as_listed (refused_with n p) b a ≡ call_list k b w a
    go true q true s e = done_refused (rw (q, s) at e)
    go true q false s e = rw (q, s) (ap (λ (x : Answer). as_listed x b a) (sym (rw (q, s) at e)))
    go false q t s e = rw q (ap (λ (x : Answer). as_listed x b a) (sym (rw q at e)))

module _ (k : ℕ) (w a : List ℕ) {n : ℕ} (e : n ≡ answerable k w a) {b b' a' : List ℕ} (all : All k w n b a b' a') where
  all_listed : as_listed (done_with n) b' a' ≡ listed (answerable k w a) a (calls b (calls_of k (answerable k w a) w))
  all_listed =
      ap₂ (as_listed (done_with n)) all.book all.answers
      ∙ ap (λ (m : ℕ). listed m a (calls b (calls_of k m w))) e

pub list_done : (k : ℕ) (b w a : List ℕ) {v n : ℕ} {b' a' : List ℕ} → check b ≡ done_with v → n ≡ answerable k w a → All k w n b a b' a'
    → as_listed (done_with n) b' a' ≡ call_list k b w a
unfolding call_list
list_done k b w a {v} e q all = let g = done-good b v e in rw (g.laid, g.lawful) (all_listed k w a q all)

-- laying: refused it keeps the book, and done it leaves a fresh one
module _ (s b : List ℕ) where
  pub serve-refused : (k : ℕ) (w a : List ℕ) {n p : ℕ} {b' : List ℕ} → answered (refused_with n p) b' ≡ lay s b → as_listed (refused_with n p) b' a ≡ serve_list k s b w a
  unfolding lay serve_list
  serve-refused k w a {n} {p} {b'} e = go (settings_good s) refl (eqb (length b) (book_length (settings_of s))) refl e
    where
      go : (o : Bool) → settings_good s ≡ o → (t : Bool) → eqb (length b) (book_length (settings_of s)) ≡ t → answered (refused_with n p) b' ≡ lay s b
          → as_listed (refused_with n p) b' a ≡ serve_list k s b w a
      go true q true r e = done_refused (sym (answer-is (rw (q, r) at e)))
      go true q false r e = rw (q, r) (told-listed a (rw (q, r) at e))
      go false q t r e = rw q (told-listed a (rw q at e))

  -- a done laying
  pub record Laying (b' : List ℕ) : Type 0 where
    pub good : settings_good s ≡ true
    pub fits : eqb (length b) (book_length (settings_of s)) ≡ true
    pub fresh : b' ≡ fresh_book (settings_of s)

  laying : {v : ℕ} {b' : List ℕ} → answered (done_with v) b' ≡ lay s b → Laying b'
  unfolding lay
  laying {v} {b'} e = go (settings_good s) refl (eqb (length b) (book_length (settings_of s))) refl e
    where
      go : (o : Bool) → settings_good s ≡ o → (t : Bool) → eqb (length b) (book_length (settings_of s)) ≡ t → answered (done_with v) b' ≡ lay s b → Laying b'
      go true q true r e = record { good = q; fits = r; fresh = ap (λ (c : Called). c.book) (rw (q, r) at e) }
      go true q false r e = done_refused (answer-is (rw (q, r) at e))
      go false q t r e = done_refused (answer-is (rw q at e))

  pub serve-laid : (v : ℕ) (b' : List ℕ) → answered (done_with v) b' ≡ lay s b → GoodBook (settings_of s) b'
  serve-laid v b' e = let l = laying e in rw l.fresh (fresh-good (settings_of s) (good-valid s l.good))

  -- demand 3: from a fresh book the answers are the machine's, and the book shows its state
  pub serve-done : (k : ℕ) (w a : List ℕ) {v n : ℕ} {b' b'' a' : List ℕ} → answered (done_with v) b' ≡ lay s b → n ≡ answerable k w a
      → All k w n b' a b'' a' → as_listed (done_with n) b'' a' ≡ serve_list k s b w a
  unfolding serve_list
  serve-done k w a {v} {n} {b'} {b''} {a'} e q all =
      let l = laying e in
      rw (l.good, l.fits)
      (all_listed k w a q all
      ∙ ap (λ (c : List ℕ). listed (answerable k w a) a (calls c (calls_of k (answerable k w a) w))) l.fresh
      ∙ ap (listed (answerable k w a) a) (from-fresh (settings_of s) (good-valid s l.good) (calls_of k (answerable k w a) w)))

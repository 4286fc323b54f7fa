-- See first, then book (section 19): a request that is committed at the count that asking gave with its answer gets that answer, or 29,
-- whatever the calls between. Over whole lists of calls, on ledgers and on every list of words.
-- Assumes nothing.
use Prim.Native.Nat.{ℕ, zero, suc, ◌+◌, ◌≤◌, ◌<◌}
use mathlib.Core.Path.{◌≡◌, refl, sym, ◌∙◌, ap, ap₂}
use mathlib.Core.Logic.{◌↔◌, ◌⊎◌, inl, inr}
use mathlib.Core.Bool.{Bool, true, false, not, ◌&&◌, false≢true}
use Rattle.std.specs.Prelude.{Option, None, Some}
use mathlib.Core.List.{List, [], ◌∷◌}
use native.Mathlib.Nat.{le_refl, le_trans}
use native.Mathlib.Omega.{arith}
use lib.Dec.{leb, eqb}
use borrow.Author.Tests.{eqb-true, eq-eqb, ne_eqb, leb-true, leb-false}
use Rattle.model.proofs.Answers.{same-number}
use Rattle.model.specs.declared.Settings.{Settings}
use Rattle.model.specs.declared.Request.{Request}
use Rattle.model.specs.declared.Guest.{Guest}
use Rattle.model.specs.Answers.{Answer}
use Rattle.std.specs.Prelude.{Ok, Err}
use Rattle.model.specs.Answers.{done_with, refused_with}
use Rattle.model.specs.Bounded.{is_some, one}
use Rattle.model.specs.Site.{valid_settings}
use Rattle.model.specs.State.{State}
use Rattle.model.specs.Tail.{kept_at}
use Rattle.model.specs.Ledger.{Ledger, empty_ledger, ledger_of}
use Rattle.model.specs.Laws.{well_laid, lawful}
use Rattle.model.specs.Machine.{Outcome, step, joining, party_fits, admit, Counted, most_changes, raise, is_change, counted_step, counted_party}
use Rattle.model.specs.Machine.{Call, ordered, request, party, ask, commit, told, asked, Performed, answer_order, answer_commit, perform, run}
use Rattle.model.specs.Calls.{Called, called, refusing, call_on, call, call_ask, call_commit, Calls, calls, fresh_book}
use Rattle.model.specs.Page.{page}
use Rattle.model.specs.Seen.{last_word, nth, ledger_at, is_done, says_done, counts, changes_in}
use Rattle.model.proofs.Tells.{same-told, refused-most}
use Rattle.model.proofs.Counting.{answer_to, counted-refused}
use Rattle.model.proofs.Effect.{Effect, only_asks, is_refused, is_full, raises, effect, only-asked, full, raised_by, counted-by-one, risen}
use Rattle.model.proofs.Effect.{refused-raised}
use Rattle.model.proofs.Locality.{on_date}
use Rattle.model.proofs.Page.{other-date-book}
use Rattle.model.proofs.Party.{admit-unfit, party-refused}
use Rattle.model.proofs.Raised.{last-changes, count-last}
use Rattle.model.proofs.Shows.{Shows, Passes, passes-shows, shown-call, shown-calls, fresh-shows}

-- ---- one call

-- m is l or comes after it: its count is no smaller, and where it is the same so is the diary
pub record Later (l m : Ledger) : Type 0 where
  pub grown : l.changes ≤ m.changes
  pub same : l.changes ≡ m.changes → l.diary ≡ m.diary

later_refl : (l : Ledger) → Later l l
later_refl l = record { grown = le_refl l.changes; same = λ e. refl }

later_trans : (l m k : Ledger) → Later l m → Later m k → Later l k
later_trans l m k h g =
    record {
      grown = le_trans h.grown g.grown;
      same =
          λ e. h.same (omega (arith, e, h.grown, g.grown)) ∙ g.same (omega (arith, e, h.grown, g.grown));
    }

-- the parts of a ledger after a request or a party
later-by : (l : Ledger) (o : Counted) → ((o.state ≡ l.diary) × (o.changes ≡ l.changes)) ⊎ (o.changes ≡ suc l.changes)
    → (m : Ledger) → m.diary ≡ o.state → m.changes ≡ o.changes → Later l m
later-by l o (inl p) m d n =
    record { grown = omega (arith, n, p.1); same = λ e. sym (d ∙ p.0) }
later-by l o (inr p) m d n =
    record { grown = omega (arith, n, p); same = λ e. absurd (omega (arith, e, n, p)) }

-- a request leaves diary and count, or raises the count by one; so does a party
pub request-later : (x : State) (n : ℕ) (r : Request)
    → (((counted_step x n r).state ≡ x) × ((counted_step x n r).changes ≡ n)) ⊎ ((counted_step x n r).changes ≡ suc n)
request-later x n r = go (effect x n r)
  where
    stays : (a : Answer) → counted_step x n r ≡ record { answer = a; state = x; changes = n }
        → (((counted_step x n r).state ≡ x) × ((counted_step x n r).changes ≡ n)) ⊎ ((counted_step x n r).changes ≡ suc n)
    stays a e = inl (ap (λ (o : Counted). o.state) e, ap (λ (o : Counted). o.changes) e)

    go : Effect x n r → (((counted_step x n r).state ≡ x) × ((counted_step x n r).changes ≡ n)) ⊎ ((counted_step x n r).changes ≡ suc n)
    go (only_asks c) = stays _ (only-asked x n r c)
    go (is_refused k p c e) = stays _ (counted-refused x n r k p c e)
    go (is_full v c e q) = stays _ (full x n r v c e q)
    go (raises v c e h) = inr (ap (λ (o : Counted). o.changes) (raised_by x n r v c e h))

pub party-later : (x : State) (n m : ℕ) (gs : List Guest)
    → (((counted_party x n m gs).state ≡ x) × ((counted_party x n m gs).changes ≡ n)) ⊎ ((counted_party x n m gs).changes ≡ suc n)
unfolding counted_party
party-later x n m gs = go (counted_party x n m gs).answer refl
  where
    o : Outcome
    o = admit x m gs

    go : (a : Answer) → (raise x n o o.answer).answer ≡ a
        → (((raise x n o o.answer).state ≡ x) × ((raise x n o o.answer).changes ≡ n)) ⊎ ((raise x n o o.answer).changes ≡ suc n)
    go (Ok v) e = inr (risen x n o o.answer v e).changes
    go (Err refused) e = let k = refused.number in let p = refused.place in
        let h = refused-raised x n o o.answer k p e in
        inl (ap (λ (c : Counted). c.state) h, ap (λ (c : Counted). c.changes) h)

-- so every call leads from a ledger to a later one
order-later : (l : Ledger) (n : ℕ) (r : Request) (o : Option ℕ) → Later l (answer_order l n r o).ledger
order-later l n r None =
    later-by l (counted_step l.diary l.changes r) (request-later l.diary l.changes r) (answer_order l n r None).ledger refl refl
order-later l n r (Some i) = later_refl l

pub call-later : (l : Ledger) (c : Call) → Later l (perform l c).ledger
call-later l (ordered n r) = order-later l n r (kept_at l.tail n)
call-later l (party m gs) =
    later-by l (counted_party l.diary l.changes m gs) (party-later l.diary l.changes m gs) (perform l (party m gs)).ledger refl refl
call-later l (ask r) = later_refl l
call-later l (commit n r) = go (eqb n l.changes)
  where
    go : (t : Bool) → Later l (answer_commit l t r).ledger
    go true = order-later l 0 r None
    go false = later_refl l

-- ---- a list of calls

pub run-later : (l : Ledger) (cs : List Call) → Later l (run l cs).ledger
unfolding run
run-later l [] = later_refl l
run-later l (c ∷ cs) = later_trans l (perform l c).ledger _ (call-later l c) (run-later (perform l c).ledger cs)

-- where call j is made is later than where call i is, if i is not behind j
pub at-later : (l : Ledger) (cs : List Call) (i j : ℕ) → i ≤ j → Later (ledger_at l cs i) (ledger_at l cs j)
at-later l [] i j h = later_refl l
at-later l (c ∷ cs) zero zero h = later_refl l
at-later l (c ∷ cs) zero (suc j) h =
    later_trans l (perform l c).ledger _ (call-later l c) (from (perform l c).ledger cs j)
  where
    from : (l : Ledger) (cs : List Call) (j : ℕ) → Later l (ledger_at l cs j)
    from l [] j = later_refl l
    from l (c ∷ cs) zero = later_refl l
    from l (c ∷ cs) (suc j) = later_trans l (perform l c).ledger _ (call-later l c) (from (perform l c).ledger cs j)
at-later l (c ∷ cs) (suc i) zero h = absurd (omega (arith, h))
at-later l (c ∷ cs) (suc i) (suc j) h = at-later (perform l c).ledger cs i j (omega (arith, h))

-- "Between two points of equal counts the diary is the same."
pub same_count : (l : Ledger) (cs : List Call) (i j : ℕ) → (ledger_at l cs i).changes ≡ (ledger_at l cs j).changes
    → (ledger_at l cs i).diary ≡ (ledger_at l cs j).diary
same_count l cs i j e = go (leb i j) refl
  where
    go : (t : Bool) → leb i j ≡ t → (ledger_at l cs i).diary ≡ (ledger_at l cs j).diary
    go true q = (at-later l cs i j (leb-true i j q)).same e
    go false q = sym ((at-later l cs j i (omega (arith, leb-false i j q))).same (sym e))

-- the reply to call i of a list is that of the ledger that it is made on
pub reply-at : (l : Ledger) (cs : List Call) (i : ℕ) (c : Call) → nth cs i ≡ Some c → nth (run l cs).replies i ≡ Some (perform (ledger_at l cs i) c).reply
unfolding run
reply-at l [] i c e = absurd (let z : ◌≡◌ {A = ℕ} 0 1 = cc in omega arith)
reply-at l (d ∷ cs) zero c e =
    let q : d ≡ c = cc in
    ap (λ (d : Call). Some (perform l d).reply) q
reply-at l (d ∷ cs) (suc i) c e = reply-at (perform l d).ledger cs i c e

-- a commit that 29 does not refuse names the count of the ledger, and gets the answer of the request
pub not-refused : (l : Ledger) (n : ℕ) (r : Request) (a : Answer) → (perform l (commit n r)).reply ≡ told a → (a ≡ refused_with 29 0 → ⊥)
    → (n ≡ l.changes) × (a ≡ answer_to l r)
not-refused l n r a e h = go (eqb n l.changes) refl e
  where
    go : (t : Bool) → eqb n l.changes ≡ t → (answer_commit l t r).reply ≡ told a → (n ≡ l.changes) × (a ≡ answer_to l r)
    go true q e = let z : answer_to l r ≡ a = cc in (eqb-true n l.changes q, sym z)
    go false q e = absurd (let z : refused_with 29 0 ≡ a = cc in h (sym z))

-- "What you were shown is what you get, or you are told that something has changed": call i asks about a request and is told the answer a
-- and the count n, call j commits the request at n and is told b; then b is a, or the refusal by 29. Wherever i and j stand, and whatever
-- the other calls are.
pub seen : (l : Ledger) (cs : List Call) (i j : ℕ) (r : Request) (a b : Answer) (n : ℕ) → nth cs i ≡ Some (ask r)
    → nth (run l cs).replies i ≡ Some (asked a n) → nth cs j ≡ Some (commit n r) → nth (run l cs).replies j ≡ Some (told b)
    → (b ≡ refused_with 29 0 → ⊥) → b ≡ a
seen l cs i j r a b n ci ri cj rj h =
    let li : Ledger = ledger_at l cs i in
    let lj : Ledger = ledger_at l cs j in
    let p : Some (asked (answer_to li r) li.changes) ≡ Some (asked a n) = sym (reply-at l cs i (ask r) ci) ∙ ri in
    let shown : answer_to li r ≡ a = cc in
    let at : li.changes ≡ n = cc in
    let w : Some (perform lj (commit n r)).reply ≡ Some (told b) = sym (reply-at l cs j (commit n r) cj) ∙ rj in
    let t : (perform lj (commit n r)).reply ≡ told b = cc in
    let g = not-refused lj n r b t h in
    let same : li.changes ≡ lj.changes = at ∙ g.0 in
    g.1 ∙ sym (ap₂ (λ (x : State) (k : ℕ). (counted_step x k r).answer) (same_count l cs i j same) same) ∙ shown

-- ---- on every list of words

-- a book passes questions 1 and 2, or one of them refuses every call and the book stays
pub record Unfit (b : List ℕ) : Type 0 where
  pub number : ℕ
  pub refused : (c : Call) → call_on b c ≡ record { reply = refusing c (refused_with number 0); book = b }

pub fit-or-not : (b : List ℕ) → Passes b ⊎ Unfit b
unfolding call_on
fit-or-not b = go (well_laid b) refl (lawful b) refl
  where
    go : (o : Bool) → well_laid b ≡ o → (t : Bool) → lawful b ≡ t → Passes b ⊎ Unfit b
    go true e true f = inl (record { one = e; two = f })
    go true e false f = inr (record { number = 2; refused = λ c. rw (e, f) })
    go false e t f = inr (record { number = 1; refused = λ c. rw e })

-- the replies of a list on a book that does not pass
reply-unfit : (b : List ℕ) (u : Unfit b) (cs : List Call) (i : ℕ) (c : Call) → nth cs i ≡ Some c
    → nth (calls b cs).replies i ≡ Some (refusing c (refused_with u.number 0))
unfolding calls
reply-unfit b u [] i c e = absurd (let z : ◌≡◌ {A = ℕ} 0 1 = cc in omega arith)
reply-unfit b u (d ∷ cs) zero c e =
    let q : d ≡ c = cc in
    ap (λ (k : Called). Some k.reply) (u.refused d) ∙ ap (λ (d : Call). Some (refusing d (refused_with u.number 0))) q
reply-unfit b u (d ∷ cs) (suc i) c e =
    ap (λ (k : Called). nth (calls k.book cs).replies i) (u.refused d) ∙ reply-unfit b u cs i c e

-- the claim on every list of words, one that questions 1 and 2 refuse included: there all answers are that refusal
pub seen-words : (w : List ℕ) (cs : List Call) (i j : ℕ) (r : Request) (a b : Answer) (n : ℕ) → nth cs i ≡ Some (ask r)
    → nth (calls w cs).replies i ≡ Some (asked a n) → nth cs j ≡ Some (commit n r) → nth (calls w cs).replies j ≡ Some (told b)
    → (b ≡ refused_with 29 0 → ⊥) → b ≡ a
seen-words w cs i j r a b n ci ri cj rj h = go (fit-or-not w)
  where
    go : Passes w ⊎ Unfit w → b ≡ a
    go (inl q) =
        let e : (calls w cs).replies ≡ (run (ledger_of w) cs).replies = ap (λ (k : Calls). k.replies) (shown-calls w (ledger_of w) (passes-shows w q) cs) in
        seen (ledger_of w) cs i j r a b n ci (rw e at ri) cj (rw e at rj) h
    go (inr u) =
        let p : Some (asked (refused_with u.number 0) 0) ≡ Some (asked a n) = sym (reply-unfit w u cs i (ask r) ci) ∙ ri in
        let t : Some (told (refused_with u.number 0)) ≡ Some (told b) = sym (reply-unfit w u cs j (commit n r) cj) ∙ rj in
        let x : refused_with u.number 0 ≡ a = cc in
        let y : refused_with u.number 0 ≡ b = cc in
        sym y ∙ x

-- and so from a fresh book on
pub seen-fresh : (S : Settings) → valid_settings S ≡ true → (cs : List Call) (i j : ℕ) (r : Request) (a b : Answer) (n : ℕ) → nth cs i ≡ Some (ask r)
    → nth (calls (fresh_book S) cs).replies i ≡ Some (asked a n) → nth cs j ≡ Some (commit n r)
    → nth (calls (fresh_book S) cs).replies j ≡ Some (told b) → (b ≡ refused_with 29 0 → ⊥) → b ≡ a
seen-fresh S e cs i j r a b n = seen-words (fresh_book S) cs i j r a b n

-- ---- asking

-- asking changes nothing, whatever the words are
pub ask-keeps : (b : List ℕ) (r : Request) → (call_ask b r).book ≡ b
ask-keeps b r = go (fit-or-not b)
  where
    go : Passes b ⊎ Unfit b → (call_ask b r).book ≡ b
    go (inl q) = ap (λ (k : Called). k.book) (shown-call b (ledger_of b) (passes-shows b q) (ask r)) ∙ sym (passes-shows b q).is
    go (inr u) = ap (λ (k : Called). k.book) (u.refused (ask r))

-- it says what the request without an order would be told, and beside it the last word; beside a refusal by 1 or 2 it says 0
pub ask-tells : (b : List ℕ) → Passes b → (r : Request) (a : Answer) → (call b r).reply ≡ told a → (call_ask b r).reply ≡ asked a (last_word b)
ask-tells b q r a e =
    let h : Shows b (ledger_of b) = passes-shows b q in
    let t : told (answer_to (ledger_of b) r) ≡ told a = sym (ap (λ (k : Called). k.reply) (shown-call b (ledger_of b) h (request r))) ∙ e in
    let z : answer_to (ledger_of b) r ≡ a = cc in
    ap (λ (k : Called). k.reply) (shown-call b (ledger_of b) h (ask r)) ∙ ap₂ asked z (count-last b q)

pub ask-fails : (b : List ℕ) → (Passes b → ⊥) → (r : Request) (a : Answer) → (call b r).reply ≡ told a → (call_ask b r).reply ≡ asked a 0
ask-fails b f r a e = go (fit-or-not b)
  where
    go : Passes b ⊎ Unfit b → (call_ask b r).reply ≡ asked a 0
    go (inl q) = absurd (f q)
    go (inr u) =
        let t : told (refused_with u.number 0) ≡ told a = sym (ap (λ (k : Called). k.reply) (u.refused (request r))) ∙ e in
        let z : refused_with u.number 0 ≡ a = cc in
        ap (λ (k : Called). k.reply) (u.refused (ask r)) ∙ ap (λ (a : Answer). asked a 0) z

-- it never looks into the ring: two ledgers of one diary and one count say the same
pub ask-ringless : (l m : Ledger) (r : Request) → l.diary ≡ m.diary → l.changes ≡ m.changes → (perform l (ask r)).reply ≡ (perform m (ask r)).reply
ask-ringless l m r d n = ap₂ (λ (x : State) (k : ℕ). asked (counted_step x k r).answer k) d n

-- ---- committing

commit-at : (l : Ledger) (n : ℕ) (r : Request) → n ≡ l.changes → perform l (commit n r) ≡ perform l (request r)
commit-at l n r e = ap (λ (t : Bool). answer_commit l t r) (eq-eqb n l.changes e)

commit-off : (l : Ledger) (n : ℕ) (r : Request) → (n ≡ l.changes → ⊥) → perform l (commit n r) ≡ record { reply = told (refused_with 29 0); ledger = l }
commit-off l n r h = ap (λ (t : Bool). answer_commit l t r) (ne_eqb n l.changes h)

-- committed at its last word, a request is the request without an order, whatever the words are
pub commit-is-request : (b : List ℕ) (r : Request) → call_commit b (last_word b) r ≡ call b r
commit-is-request b r = go (fit-or-not b)
  where
    go : Passes b ⊎ Unfit b → call_commit b (last_word b) r ≡ call b r
    go (inl q) =
        let h : Shows b (ledger_of b) = passes-shows b q in
        shown-call b (ledger_of b) h (commit (last_word b) r)
        ∙ ap called (commit-at (ledger_of b) (last_word b) r (sym (count-last b q)))
        ∙ sym (shown-call b (ledger_of b) h (request r))
    go (inr u) = u.refused (commit (last_word b) r) ∙ sym (u.refused (request r))

-- at any other count it is refused by 29, before all questions of the request, and the book stays
pub commit-refused : (b : List ℕ) → Passes b → (n : ℕ) (r : Request) → (n ≡ last_word b → ⊥)
    → call_commit b n r ≡ record { reply = told (refused_with 29 0); book = b }
commit-refused b q n r h =
    let s : Shows b (ledger_of b) = passes-shows b q in
    shown-call b (ledger_of b) s (commit n r)
    ∙ ap called (commit-off (ledger_of b) n r (λ e. h (e ∙ count-last b q)))
    ∙ ap (λ (w : List ℕ). record { reply = told (refused_with 29 0); book = w }) (sym s.is)

-- asked and committed at once at the count that it was told, a request gets the answer that it was told, whatever the words are
pub ask-commit : (b : List ℕ) (r : Request) (a : Answer) (n : ℕ) → (call_ask b r).reply ≡ asked a n → (call_commit (call_ask b r).book n r).reply ≡ told a
ask-commit b r a n e = ap (λ (w : List ℕ). (call_commit w n r).reply) (ask-keeps b r) ∙ go (fit-or-not b)
  where
    go : Passes b ⊎ Unfit b → (call_commit b n r).reply ≡ told a
    go (inl q) =
        let h : Shows b (ledger_of b) = passes-shows b q in
        let t : asked (answer_to (ledger_of b) r) (ledger_of b).changes ≡ asked a n
        = sym (ap (λ (k : Called). k.reply) (shown-call b (ledger_of b) h (ask r))) ∙ e in
        let y : answer_to (ledger_of b) r ≡ a = cc in
        let z : (ledger_of b).changes ≡ n = cc in
        ap (λ (k : Called). k.reply) (shown-call b (ledger_of b) h (commit n r))
        ∙ ap (λ (p : Performed). p.reply) (commit-at (ledger_of b) n r (sym z))
        ∙ ap told y
    go (inr u) =
        let t : asked (refused_with u.number 0) 0 ≡ asked a n = sym (ap (λ (k : Called). k.reply) (u.refused (ask r))) ∙ e in
        let z : refused_with u.number 0 ≡ a = cc in
        ap (λ (k : Called). k.reply) (u.refused (commit n r)) ∙ ap told z

-- committing leaves the ring
pub commit-ringless : (l : Ledger) (n : ℕ) (r : Request) → (perform l (commit n r)).ledger.tail ≡ l.tail
commit-ringless l n r = go (eqb n l.changes)
  where
    go : (t : Bool) → (answer_commit l t r).ledger.tail ≡ l.tail
    go true = refl
    go false = refl

-- a commit leaves the book that the request leaves, or the book as it was; so on other dates it leaves the page as it is
pub commit-book : (b : List ℕ) (n : ℕ) (r : Request) → ((call_commit b n r).book ≡ (call b r).book) ⊎ ((call_commit b n r).book ≡ b)
commit-book b n r = go (fit-or-not b)
  where
    at : Passes b → (t : Bool) → eqb n (ledger_of b).changes ≡ t → ((call_commit b n r).book ≡ (call b r).book) ⊎ ((call_commit b n r).book ≡ b)
    at q true e =
        let m : n ≡ last_word b = eqb-true n (ledger_of b).changes e ∙ count-last b q in
        inl (ap (λ (k : ℕ). (call_commit b k r).book) m ∙ ap (λ (k : Called). k.book) (commit-is-request b r))
    at q false e =
        inr (ap (λ (k : Called). k.book)
        (commit-refused b q n r (λ m. false≢true (sym e ∙ eq-eqb n (ledger_of b).changes (m ∙ sym (count-last b q))))))

    go : Passes b ⊎ Unfit b → ((call_commit b n r).book ≡ (call b r).book) ⊎ ((call_commit b n r).book ≡ b)
    go (inl q) = at q (eqb n (ledger_of b).changes) refl
    go (inr u) = inr (ap (λ (k : Called). k.book) (u.refused (commit n r)))

pub other-date-commit : (b : List ℕ) (n : ℕ) (r : Request) (d : ℕ) → on_date (ledger_of b).diary.settings r d ≡ false → (p : List ℕ)
    → page (call_commit b n r).book d p ≡ page b d p
other-date-commit b n r d h p = go (commit-book b n r)
  where
    go : ((call_commit b n r).book ≡ (call b r).book) ⊎ ((call_commit b n r).book ≡ b) → page (call_commit b n r).book d p ≡ page b d p
    go (inl e) = ap (λ (w : List ℕ). page w d p) e ∙ other-date-book b r d h p
    go (inr e) = ap (λ (w : List ℕ). page w d p) e

-- ---- which refusals are 29 and 30

module _ (x : State) (n : ℕ) (r : Request) where
  -- 30 is asked last: it refuses exactly the change that every other question passes, where the count is the greatest
  pub thirty-last : ((counted_step x n r).answer ≡ refused_with 30 0) ↔ ((is_change r ≡ true) × ((n ≡ most_changes) × ((v : ℕ) × ((step x r).answer ≡ done_with v))))
  thirty-last = (to (effect x n r), λ h. ap (λ (o : Counted). o.answer) (full x n r h.1.1.0 h.0 h.1.1.1 h.1.0))
    where
      -- the step gives no 30
      other : (p : ℕ) → (step x r).answer ≡ refused_with 30 p → ⊥
      other p e = let h : 30 < 23 = refused-most x r 30 p e in omega (arith, h)

      to : Effect x n r → (counted_step x n r).answer ≡ refused_with 30 0 → (is_change r ≡ true) × ((n ≡ most_changes) × ((v : ℕ) × ((step x r).answer ≡ done_with v)))
      to (only_asks c) e = absurd (other 0 (sym (ap (λ (o : Counted). o.answer) (only-asked x n r c)) ∙ e))
      to (is_refused k p c f) e =
          let z : refused_with k p ≡ refused_with 30 0 = sym (ap (λ (o : Counted). o.answer) (counted-refused x n r k p c f)) ∙ e in
          absurd (other 0 (f ∙ z))
      to (is_full v c f q) e = (c, (q, (v, f)))
      to (raises v c f h) e =
          absurd (let z : done_with v ≡ refused_with 30 0 = sym (ap (λ (o : Counted). o.answer) (raised_by x n r v c f h)) ∙ e in
          let w : ◌≡◌ {A = ℕ} 0 1 = cc in omega arith)

  -- nothing but a commit is refused by 29
  pub never-29 : (p : ℕ) → (counted_step x n r).answer ≡ refused_with 29 p → ⊥
  never-29 p e = go (effect x n r)
    where
      other : (step x r).answer ≡ refused_with 29 p → ⊥
      other e = let h : 29 < 23 = refused-most x r 29 p e in omega (arith, h)

      go : Effect x n r → ⊥
      go (only_asks c) = other (sym (ap (λ (o : Counted). o.answer) (only-asked x n r c)) ∙ e)
      go (is_refused k i c f) =
          let z : refused_with k i ≡ refused_with 29 p = sym (ap (λ (o : Counted). o.answer) (counted-refused x n r k i c f)) ∙ e in
          other (f ∙ z)
      go (is_full v c f q) =
          let z : refused_with 30 0 ≡ refused_with 29 p = sym (ap (λ (o : Counted). o.answer) (full x n r v c f q)) ∙ e in
          let w : ◌≡◌ {A = ℕ} 30 29 = same-number 30 0 29 p z in omega (arith, w)
      go (raises v c f h) =
          let z : done_with v ≡ refused_with 29 p = sym (ap (λ (o : Counted). o.answer) (raised_by x n r v c f h)) ∙ e in
          let w : ◌≡◌ {A = ℕ} 0 1 = cc in omega arith

-- of a party 30 is asked once, behind all its guests
pub party-thirty : (x : State) (n m : ℕ) (gs : List Guest)
    → ((counted_party x n m gs).answer ≡ refused_with 30 0) ↔ ((n ≡ most_changes) × ((v : ℕ) × ((admit x m gs).answer ≡ done_with v)))
unfolding counted_party raise
party-thirty x n m gs = (to (admit x m gs).answer refl, λ h. rw (h.1.1, eq-eqb n most_changes h.0))
  where
    o : Outcome
    o = admit x m gs

    -- no guest is refused by 30, and no party for its size
    other : (p : ℕ) → (admit x m gs).answer ≡ refused_with 30 p → ⊥
    other p e = go (party_fits gs) refl
      where
        go : (f : Bool) → party_fits gs ≡ f → ⊥
        go true f =
            let out = party-refused x m gs f 30 p e in
            let h : 30 < 23 = refused-most out.reached (joining m out.guest) 30 p out.refused in
            omega (arith, h)
        go false f =
            let z : refused_with 27 0 ≡ refused_with 30 p = sym (ap (λ (o : Outcome). o.answer) (admit-unfit x m gs f)) ∙ e in
            let w : ◌≡◌ {A = ℕ} 27 30 = same-number 27 0 30 p z in omega (arith, w)

    to : (a : Answer) → (admit x m gs).answer ≡ a → (raise x n o o.answer).answer ≡ refused_with 30 0
        → (n ≡ most_changes) × ((v : ℕ) × ((admit x m gs).answer ≡ done_with v))
    to (Err refused) e h = let k = refused.number in let p = refused.place in
        absurd (let z : refused_with k p ≡ refused_with 30 0 = sym (ap (λ (a : Answer). (raise x n o a).answer) e) ∙ h in
        other 0 (e ∙ z))
    to (Ok v) e h = (full_by (eqb n most_changes) refl, (v, e))
      where
        full_by : (t : Bool) → eqb n most_changes ≡ t → n ≡ most_changes
        full_by true q = eqb-true n most_changes q
        full_by false q =
            absurd (let z : done_with v ≡ refused_with 30 0 = sym (ap (λ (o : Counted). o.answer) (raise-free v q)) ∙ h' in
            let w : ◌≡◌ {A = ℕ} 0 1 = cc in omega arith)
          where
            h' : (raise x n o (done_with v)).answer ≡ refused_with 30 0
            h' = sym (ap (λ (a : Answer). (raise x n o a).answer) e) ∙ h

            raise-free : (v : ℕ) → eqb n most_changes ≡ false → raise x n o (done_with v) ≡ record { answer = done_with v; state = o.state; changes = suc n }
            raise-free v q = rw q

-- on a book that passes: 29 exactly where the count that is named is not the last word
pub twenty-nine : (b : List ℕ) → Passes b → (n : ℕ) (r : Request) → ((call_commit b n r).reply ≡ told (refused_with 29 0)) ↔ (n ≡ last_word b → ⊥)
twenty-nine b q n r = (λ e at. no_more e at, λ h. ap (λ (k : Called). k.reply) (commit-refused b q n r h))
  where
    no_more : (call_commit b n r).reply ≡ told (refused_with 29 0) → n ≡ last_word b → ⊥
    no_more e at =
        let t : told (answer_to (ledger_of b) r) ≡ told (refused_with 29 0)
        = sym (ap (λ (k : Called). k.reply) (shown-call b (ledger_of b) (passes-shows b q) (request r)))
        ∙ sym (ap (λ (k : Called). k.reply) (commit-is-request b r))
        ∙ ap (λ (m : ℕ). (call_commit b m r).reply) (sym at) ∙ e in
        let z : answer_to (ledger_of b) r ≡ refused_with 29 0 = cc in
        never-29 (ledger_of b).diary (ledger_of b).changes r 0 z

-- and 30 exactly where the last word is the greatest and the request a change that every other question passes
pub thirty : (b : List ℕ) → Passes b → (r : Request) → ((call b r).reply ≡ told (refused_with 30 0))
    ↔ ((is_change r ≡ true) × ((last_word b ≡ most_changes) × ((v : ℕ) × ((step (ledger_of b).diary r).answer ≡ done_with v))))
thirty b q r =
    let l : Ledger = ledger_of b in
    let s : (call b r).reply ≡ told (answer_to l r) = ap (λ (k : Called). k.reply) (shown-call b l (passes-shows b q) (request r)) in
    let t = thirty-last l.diary l.changes r in (
      λ e. (let h = t.0 (same-told (sym s ∙ e)) in (h.0, (sym (count-last b q) ∙ h.1.0, h.1.1))),
      λ h. s ∙ ap told (t.1 (h.0, (count-last b q ∙ h.1.0, h.1.1))),
    )

-- ---- how far the count rises

-- a call raises the count by one or not at all, and by one exactly where it counts as a change
order-counts : (l : Ledger) (n : ℕ) (r : Request) (o : Option ℕ)
    → (answer_order l n r o).ledger.changes ≡ l.changes + one (not (is_some o) && is_change r && says_done (answer_order l n r o).reply)
order-counts l n r None = counted-by-one l.diary l.changes r
order-counts l n r (Some i) = omega arith

pub call-counts : (l : Ledger) (c : Call) → (perform l c).ledger.changes ≡ l.changes + one (counts l c)
unfolding counted_party
call-counts l (ordered n r) = order-counts l n r (kept_at l.tail n)
call-counts l (party m gs) = go (counted_party l.diary l.changes m gs).answer refl
  where
    o : Outcome
    o = admit l.diary m gs

    p : Counted
    p = raise l.diary l.changes o o.answer

    go : (a : Answer) → p.answer ≡ a → p.changes ≡ l.changes + one (is_done p.answer)
    go (Ok v) e =
        let n : suc l.changes ≡ l.changes + 1 = omega arith in
        (risen l.diary l.changes o o.answer v e).changes ∙ n ∙ ap (λ (a : Answer). l.changes + one (is_done a)) (sym e)
    go (Err refused) e = let k = refused.number in let i = refused.place in
        let n : l.changes ≡ l.changes + 0 = omega arith in
        ap (λ (c : Counted). c.changes) (refused-raised l.diary l.changes o o.answer k i e) ∙ n
        ∙ ap (λ (a : Answer). l.changes + one (is_done a)) (sym e)
call-counts l (ask r) = omega arith
call-counts l (commit n r) = go (eqb n l.changes)
  where
    off : (c : Bool) → l.changes ≡ l.changes + one (c && false)
    off true = omega arith
    off false = omega arith

    go : (t : Bool) → (answer_commit l t r).ledger.changes ≡ l.changes + one (is_change r && says_done (answer_commit l t r).reply)
    go true = counted-by-one l.diary l.changes r
    go false = off (is_change r)

-- "The count after a list of calls is the count before it and one for each call that counts as a change."
pub run-counts : (l : Ledger) (cs : List Call) → (run l cs).ledger.changes ≡ l.changes + changes_in l cs
unfolding run
run-counts l [] = omega arith
run-counts l (c ∷ cs) = omega (arith, run-counts (perform l c).ledger cs, call-counts l c)

-- on books that pass, and from a fresh one on: the last word is how many changes there have been
pub calls_count : (b : List ℕ) → Passes b → (cs : List Call) → last_word (calls b cs).book ≡ last_word b + changes_in (ledger_of b) cs
calls_count b q cs =
    ap (λ (k : Calls). last_word k.book) (shown-calls b (ledger_of b) (passes-shows b q) cs)
    ∙ last-changes (run (ledger_of b) cs).ledger ∙ run-counts (ledger_of b) cs
    ∙ ap (λ (n : ℕ). n + changes_in (ledger_of b) cs) (count-last b q)

pub fresh-count : (S : Settings) → valid_settings S ≡ true → (cs : List Call) → last_word (calls (fresh_book S) cs).book ≡ changes_in (empty_ledger S) cs
unfolding empty_ledger
fresh-count S e cs =
    let l : Ledger = empty_ledger S in
    let n : 0 + changes_in l cs ≡ changes_in l cs = omega arith in
    ap (λ (k : Calls). last_word k.book) (shown-calls (fresh_book S) l (fresh-shows S e) cs)
    ∙ last-changes (run l cs).ledger ∙ run-counts l cs ∙ n

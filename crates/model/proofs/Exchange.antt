-- Two offices, two dates (section 21): two neighbouring requests that share no date, exchanged anywhere in a list of calls of every sort,
-- on ledgers, on books, on every list of words, and in lists of requests that come as words.
-- Assumes nothing.
use Prim.Native.Nat.{ℕ, zero, suc, ◌+◌, ◌*◌, ◌-◌, ◌/◌, ◌≤◌, ◌<◌}
use mathlib.Core.Path.{◌≡◌, refl, sym, ◌∙◌, ap, ap₂, subst}
use mathlib.Core.Logic.{◌⊎◌, inl, inr}
use mathlib.Core.Bool.{Bool, true, false, not, ◌&&◌, ◌||◌, cond, false≢true}
use Rattle.std.specs.Prelude.{Option, None, Some}
use mathlib.Core.List.{List, [], ◌∷◌, ◌++◌, append_assoc, map, map-append}
use native.Mathlib.Nat.{add-div_right, div-zero, eq-zero-or-pos}
use native.Mathlib.Omega.{arith}
use lib.Dec.{leb, ltb, eqb}
use lib.ListN.{length, get_or, drop, length-append}
use borrow.Author.Tests.{eq-eqb, leb-true, leb-false}
use Rattle.model.specs.declared.Settings.{Settings}
use Rattle.model.specs.declared.Request.{Request}
use Rattle.model.specs.Answers.{Answer}
use Rattle.model.specs.Answers.{done_with, refused_with}
use Rattle.model.specs.Site.{valid_settings}
use Rattle.model.specs.State.{State, empty_state}
use Rattle.model.specs.Kinds.{Kind, Unit, dates, sessions, times, kind_of, row, limit, slots_of, date_of}
use Rattle.model.specs.Questions.{Refusal, below, ask, judge, always, further, test}
use Rattle.model.specs.Machine.{finish, step_kind, step, Counted, most_changes, is_change, counted_step, Call, request, Reply, told, reply_words}
use Rattle.model.specs.Machine.{perform, Run, run}
use Rattle.model.specs.Messages.{answer_words}
use Rattle.model.specs.Reading.{settings_of}
use Rattle.model.specs.Ledger.{Ledger, empty_ledger, book_length, book_words, ledger_of}
use Rattle.model.specs.Calls.{Called, refusing, call_on, call, Calls, calls, fresh_book, settings_good, calls_of, replies_words, answerable, Listed}
use Rattle.model.specs.Calls.{listed, call_list, shown_by, serve_list}
use Rattle.model.specs.Seen.{last_word}
use Rattle.model.specs.Exchange.{NoDateShared, PastSeven}
use Rattle.model.proofs.Search.{within-true, true-within}
use Rattle.model.proofs.Keeps.{said_in, judged, slots-fit}
use Rattle.model.proofs.Done.{judge-some, judge-same}
use Rattle.model.proofs.Counting.{answer_to, counted-refused}
use Rattle.model.proofs.Local.{div_mono, slot-reach}
use Rattle.model.proofs.Locality.{dates_of, on_date, Apart, apart-before, Exchanged}
use Rattle.model.proofs.Effect.{OneLeft, Swaps, swaps, only-asked, below-most, counted-settings}
use Rattle.model.proofs.Calls.{run_sound}
use Rattle.model.proofs.Shows.{Shows, Passes, passes-shows, shown-call, shown-calls, fresh-shows}
use Rattle.model.proofs.Raised.{last-changes}
use Rattle.model.proofs.OnBooks.{LastChange}
use Rattle.model.proofs.Before.{run-settings}
use Rattle.model.proofs.Seen.{Unfit, fit-or-not}
use Rattle.model.proofs.Resent.{list-long}

-- ---- the dates of the slots

-- the next slot is at most one date later
div-next : (i c : ℕ) → suc i / c ≤ suc (i / c)
div-next i c = go (eq-zero-or-pos c)
  where
    go : (c ≡ 0) ⊎ (0 < c) → suc i / c ≤ suc (i / c)
    go (inl e) = rw (e, div-zero i, div-zero (suc i)) (omega arith)
    go (inr p) = omega (arith, div_mono (suc i) (i + c) c (omega (arith, p)), add-div_right i p)

date-next : (S : Settings) (u : Unit) (i : ℕ) → date_of S u (suc i) ≤ suc (date_of S u i)
date-next S dates i = omega arith
date-next S sessions i = div-next i S.sessions
date-next S times i =
    let m : (suc i - S.early) / S.times ≤ suc (i - S.early) / S.times = div_mono (suc i - S.early) (suc (i - S.early)) S.times (omega arith) in
    omega (arith, m, div-next (i - S.early) S.times)

-- so a date from the first slot's to the last slot's is the date of a slot
record SlotOn (S : Settings) (u : Unit) (from to d : ℕ) : Type 0 where
  at : ℕ
  low : from ≤ at
  high : at ≤ to
  on : date_of S u at ≡ d

slot-on : (S : Settings) (u : Unit) (from n d : ℕ) → date_of S u from ≤ d → d ≤ date_of S u (from + n) → SlotOn S u from (from + n) d
slot-on S u from zero d a b =
    let z : from + 0 ≡ from = omega arith in
    record {
      at = from;
      low = omega arith;
      high = omega arith;
      on = omega (arith, a, b, ap (date_of S u) z);
    }
slot-on S u from (suc n) d a b = go (leb d (date_of S u (from + n))) refl (slot-on S u from n d a)
  where
    z : from + suc n ≡ suc (from + n)
    z = omega arith

    go : (t : Bool) → leb d (date_of S u (from + n)) ≡ t → (d ≤ date_of S u (from + n) → SlotOn S u from (from + n) d)
        → SlotOn S u from (from + suc n) d
    go true q before =
        let h = before (leb-true d _ q) in
        record { at = h.at; low = h.low; high = omega (arith, h.high); on = h.on }
    go false q before =
        record {
          at = from + suc n;
          low = omega arith;
          high = omega arith;
          on = omega (arith, b, leb-false d _ q, date-next S u (from + n), ap (date_of S u) z);
        }

-- requests with slots that share no date have no date in common
pub slots_apart : (S : Settings) (r r' : Request) → NoDateShared S r r' → r.first ≤ r.last → r'.first ≤ r'.last → Apart S r r'
unfolding on_date
slots_apart S r r' h f f' d e e' = kind (kind_of r.kind) refl (kind_of r'.kind) refl e e'
  where
    on : (q : Request) (k : Kind) → q.first ≤ q.last → dates_of S q (Some k) d ≡ true → SlotOn S (row k).unit q.first q.last d
    on q k f e =
        let w = within-true _ _ d e in
        let n : q.first + (q.last - q.first) ≡ q.last = omega (arith, f) in
        subst (λ (t : ℕ). SlotOn S (row k).unit q.first t d) n
        (slot-on S (row k).unit q.first (q.last - q.first) d w.0 (rw n w.1))

    kind : (o : Option Kind) → kind_of r.kind ≡ o → (o' : Option Kind) → kind_of r'.kind ≡ o' → dates_of S r o d ≡ true → dates_of S r' o' d ≡ true → ⊥
    kind None q o' q' e e' = false≢true e
    kind (Some k) q None q' e e' = false≢true e'
    kind (Some k) q (Some k') q' e e' =
        let a = on r k f e in
        let b = on r' k' f' e' in
        h k k' q q' a.at b.at (true-within _ _ _ a.low a.high) (true-within _ _ _ b.low b.high) (a.on ∙ sym b.on)

-- and the other way round; so do two requests of which one ends on a date before the other begins
pub apart-slots : (S : Settings) (r r' : Request) → Apart S r r' → NoDateShared S r r'
unfolding on_date
apart-slots S r r' h k k' q q' i i' s s' e =
    h (date_of S (row k).unit i) (ap (λ (o : Option Kind). dates_of S r o (date_of S (row k).unit i)) q ∙ slot-reach S r k i s)
    (ap₂ (λ (o : Option Kind) (d : ℕ). dates_of S r' o d) q' e ∙ slot-reach S r' k' i' s')

pub before-slots : (S : Settings) (r r' : Request) (k k' : Kind) → kind_of r.kind ≡ Some k → kind_of r'.kind ≡ Some k'
    → date_of S (row k).unit r.last < date_of S (row k').unit r'.first → NoDateShared S r r'
before-slots S r r' k k' q q' h = apart-slots S r r' (apart-before S r r' k k' q q' h)

-- ---- requests without slots

-- questions 4 to 7 ask the settings alone, as question 3 asks the request alone
pub always-alike : (x y : State) (r : Request) (k : Kind) → y.settings ≡ x.settings → judge x r k always ≡ judge y r k always
unfolding ask test
always-alike x y r k e =
    judge-same x y r k always (
      refl,
      (
        ap (λ (S : Settings). whole (below (limit S (row k).a) r.a)) (sym e),
        (
          ap (λ (S : Settings). whole (below (limit S (row k).b) r.b)) (sym e),
          (
            ap (λ (S : Settings). whole (leb r.first r.last && ltb r.last (slots_of S (row k).unit) &&
                (not (row k).one || eqb r.first r.last))) (sym e),
            tt,
          ),
        ),
      ),
    )
  where
    whole : Bool → Option ℕ
    whole t = cond t None (Some 0)

-- a request whose first slot is after its last is refused on every diary of the site by the same question
record TurnedAway (x : State) (r : Request) : Type 0 where
  number : ℕ
  place : ℕ
  refused : (y : State) → y.settings ≡ x.settings → (step y r).answer ≡ refused_with number place

turned-away : (x : State) (r : Request) → r.last < r.first → TurnedAway x r
unfolding step
turned-away x r h = kind (kind_of r.kind) refl
  where
    known : (k : Kind) (o : Option Refusal) → judge x r k always ≡ o → kind_of r.kind ≡ Some k → TurnedAway x r
    known k None e q = absurd (omega (arith, h, (slots-fit x r k (said_in x r k 7 always (judged x r k always e))).0))
    known k (Some f) e q =
        record {
          number = f.number;
          place = f.place;
          refused =
              λ y s. ap (λ (o : Option Kind). (step_kind y r o).answer) q
              ∙ ap (λ (o : Option Refusal). (finish y r k o).answer)
              (judge-some y r k always (further k) f (sym (always-alike x y r k s) ∙ e));
        }

    kind : (o : Option Kind) → kind_of r.kind ≡ o → TurnedAway x r
    kind None q = record { number = 3; place = 0; refused = λ y s. ap (λ (o : Option Kind). (step_kind y r o).answer) q }
    kind (Some k) q = known k (judge x r k always) refl q

refused-leaves : (x : State) (n : ℕ) (r : Request) (k p : ℕ) → (step x r).answer ≡ refused_with k p
    → counted_step x n r ≡ record { answer = refused_with k p; state = x; changes = n }
refused-leaves x n r k p e = go (is_change r) refl
  where
    go : (t : Bool) → is_change r ≡ t → counted_step x n r ≡ record { answer = refused_with k p; state = x; changes = n }
    go true c = counted-refused x n r k p c e
    go false c = only-asked x n r c ∙ ap (λ (a : Answer). record { answer = a; state = x; changes = n }) e

-- it can be exchanged with any other
turned-swaps : (x : State) (n : ℕ) (r r' : Request) → r.last < r.first → Swaps x n r r'
turned-swaps x n r r' h =
    let t = turned-away x r h in
    let o : Counted = counted_step x n r' in
    let a : counted_step x n r ≡ record { answer = refused_with t.number t.place; state = x; changes = n }
    = refused-leaves x n r t.number t.place (t.refused x refl) in
    let b : counted_step o.state o.changes r ≡ record { answer = refused_with t.number t.place; state = o.state; changes = o.changes }
    = refused-leaves o.state o.changes r t.number t.place (t.refused o.state (counted-settings x n r')) in
    let c : counted_step (counted_step x n r).state (counted_step x n r).changes r' ≡ o = ap (λ (u : Counted). counted_step u.state u.changes r') a in
    record {
      second = ap (λ (u : Counted). u.answer) c;
      first = ap (λ (u : Counted). u.answer) b ∙ sym (ap (λ (u : Counted). u.answer) a);
      state = ap (λ (u : Counted). u.state) c ∙ sym (ap (λ (u : Counted). u.state) b);
      changes = ap (λ (u : Counted). u.changes) c ∙ sym (ap (λ (u : Counted). u.changes) b);
    }

-- ---- two neighbours

pub no-date-sym : (S : Settings) (r r' : Request) → NoDateShared S r r' → NoDateShared S r' r
no-date-sym S r r' h k k' q q' i i' s s' e = h k' k q' q i' i s' s (sym e)

-- Two requests whose slots share no date, of whatever kinds and whatever their answers; but not where both are done as changes and the
-- count can rise by one only.
pub slots-swap : (x : State) (n : ℕ) (r r' : Request) → NoDateShared x.settings r r' → (OneLeft x n r r' → ⊥) → Swaps x n r r'
slots-swap x n r r' h spare = go (leb r.first r.last) refl (leb r'.first r'.last) refl
  where
    go : (t : Bool) → leb r.first r.last ≡ t → (t' : Bool) → leb r'.first r'.last ≡ t' → Swaps x n r r'
    go false e t' e' = turned-swaps x n r r' (leb-false _ _ e)
    go true e false e' =
        let s = turned-swaps x n r' r (leb-false _ _ e') in
        record { second = s.first; first = s.second; state = sym s.state; changes = sym s.changes }
    go true e true e' = swaps x n r r' (slots_apart x.settings r r' h (leb-true _ _ e) (leb-true _ _ e')) spare

-- ---- lists of calls

pub run-append : (l : Ledger) (cs ds : List Call)
    → run l (cs ++ ds) ≡ record { replies = (run l cs).replies ++ (run (run l cs).ledger ds).replies; ledger = (run (run l cs).ledger ds).ledger }
unfolding run
run-append l [] ds = refl
run-append l (c ∷ cs) ds =
    ap (λ (u : Run). record { replies = (perform l c).reply ∷ u.replies; ledger = u.ledger }) (run-append (perform l c).ledger cs ds)

-- Each call has one reply: the replies to cs are as many as cs (of ledgers `run_long`, proofs/Resent), so that in `Exchanged` below the two
-- answers stand where the two requests do.
pub as-many-told : (b : List ℕ) (cs : List Call) → length (calls b cs).replies ≡ length cs
unfolding calls
as-many-told b [] = refl
as-many-told b (c ∷ cs) = ap suc (as-many-told (call_on b c).book cs)

-- the ledger with the diary and the count that a request leaves; without an order it leaves the tail
abbrev left : Ledger → Counted → Ledger
left l o = record { diary = o.state; tail = l.tail; changes = o.changes }

-- the two right at the beginning
exchange-first : (l : Ledger) (ds : List Call) (r r' : Request) → Swaps l.diary l.changes r r'
    → Exchanged [] (perform l (request r)).reply (perform l (request r')).reply (run l (request r ∷ request r' ∷ ds)).replies
    (run l (request r' ∷ request r ∷ ds)).replies
    × ((run l (request r ∷ request r' ∷ ds)).ledger ≡ (run l (request r' ∷ request r ∷ ds)).ledger)
unfolding run
exchange-first l ds r r' s =
    let x : State = l.diary in
    let n : ℕ = l.changes in
    let o : Counted = counted_step x n r in
    let o' : Counted = counted_step x n r' in
    let one : Counted = counted_step o.state o.changes r' in
    let other : Counted = counted_step o'.state o'.changes r in
    let same : left l one ≡ left l other
    = ap₂ (λ (z : State) (k : ℕ). record { diary = z; tail = l.tail; changes = k }) s.state s.changes in (
      record {
        later = (run (left l one) ds).replies;
        first = ap (λ (a : Answer). told o.answer ∷ told a ∷ (run (left l one) ds).replies) s.second;
        second =
            ap (λ (a : Answer). told o'.answer ∷ told a ∷ (run (left l other) ds).replies) s.first
            ∙ ap (λ (m : Ledger). told o'.answer ∷ told o.answer ∷ (run m ds).replies) (sym same);
      },
      ap (λ (m : Ledger). (run m ds).ledger) same,
    )

-- "We work on other dates than they do, so it does not matter who comes first": anywhere in a list of calls of every sort, from any ledger,
-- two neighbouring requests without orders whose slots share no date can be exchanged. In the one list stand the replies to cs, the answer
-- to r, the answer to r', and the replies to ds; in the other the same replies to cs, the same answer to r', the same answer to r, and the
-- same replies to ds. Each of the two answers is the one that its request has right after cs. The ledger is the same. Of all kinds, unknown
-- ones too, and whatever questions 3 to 7 say; but not where the ledger after cs can count one change more and both would be done.
pub exchange-run : (l : Ledger) (cs ds : List Call) (r r' : Request) → NoDateShared l.diary.settings r r'
    → (OneLeft (run l cs).ledger.diary (run l cs).ledger.changes r r' → ⊥)
    → Exchanged (run l cs).replies (perform (run l cs).ledger (request r)).reply (perform (run l cs).ledger (request r')).reply
    (run l (cs ++ request r ∷ request r' ∷ ds)).replies (run l (cs ++ request r' ∷ request r ∷ ds)).replies
    × ((run l (cs ++ request r ∷ request r' ∷ ds)).ledger ≡ (run l (cs ++ request r' ∷ request r ∷ ds)).ledger)
exchange-run l cs ds r r' h spare =
    let m : Ledger = (run l cs).ledger in
    let e = exchange-first m ds r r'
    (slots-swap m.diary m.changes r r' (subst (λ (S : Settings). NoDateShared S r r') (sym (run-settings l cs)) h) spare) in
    let one = run-append l cs (request r ∷ request r' ∷ ds) in
    let other = run-append l cs (request r' ∷ request r ∷ ds) in (
      record {
        later = e.0.later;
        first = ap (λ (u : Run). u.replies) one ∙ ap (λ (k : List Reply). (run l cs).replies ++ k) e.0.first;
        second = ap (λ (u : Run). u.replies) other ∙ ap (λ (k : List Reply). (run l cs).replies ++ k) e.0.second;
      },
      ap (λ (u : Run). u.ledger) one ∙ e.1 ∙ sym (ap (λ (u : Run). u.ledger) other),
    )

-- so wherever the count can rise by two
pub exchange-room : (l : Ledger) (cs ds : List Call) (r r' : Request) → NoDateShared l.diary.settings r r' → (run l cs).ledger.changes ≤ 4294967293
    → Exchanged (run l cs).replies (perform (run l cs).ledger (request r)).reply (perform (run l cs).ledger (request r')).reply
    (run l (cs ++ request r ∷ request r' ∷ ds)).replies (run l (cs ++ request r' ∷ request r ∷ ds)).replies
    × ((run l (cs ++ request r ∷ request r' ∷ ds)).ledger ≡ (run l (cs ++ request r' ∷ request r ∷ ds)).ledger)
exchange-room l cs ds r r' h room = exchange-run l cs ds r r' h (λ o. omega (arith, room, o.left))

-- ---- books

-- of two lists of calls on a book, which differ in the order of two requests behind cs: the replies, as `Exchanged` says, and the book
pub record ExchangedOn (b : List ℕ) (cs : List Call) (r r' : Request) (one other : Calls) : Type 0 where
  pub replies : Exchanged (calls b cs).replies (call (calls b cs).book r).reply (call (calls b cs).book r').reply one.replies other.replies
  pub book : one.book ≡ other.book

exchange-shown : (b : List ℕ) (l : Ledger) → Shows b l → (cs ds : List Call) (r r' : Request) → NoDateShared l.diary.settings r r'
    → (LastChange (calls b cs).book r r' → ⊥)
    → ExchangedOn b cs r r' (calls b (cs ++ request r ∷ request r' ∷ ds)) (calls b (cs ++ request r' ∷ request r ∷ ds))
exchange-shown b l h cs ds r r' apart spare =
    let m : Ledger = (run l cs).ledger in
    let after : Shows (calls b cs).book m
    = record { sound = run_sound l h.sound cs; is = ap (λ (c : Calls). c.book) (shown-calls b l h cs) } in
    let told_of : (q : Request) → (call (calls b cs).book q).reply ≡ told (answer_to m q)
    = λ q. ap (λ (c : Called). c.reply) (shown-call (calls b cs).book m after (request q)) in
    let count : last_word (calls b cs).book ≡ m.changes = ap last_word after.is ∙ last-changes m in
    let last : OneLeft m.diary m.changes r r' → LastChange (calls b cs).book r r'
    = λ o. let room : m.changes ≡ most_changes → ⊥ = λ z. omega (arith, z, o.left) in
    record {
      count = count ∙ omega (arith, o.left);
      one = o.one;
      other = o.other;
      first = (o.first.0, told_of r ∙ ap told (below-most m.diary m.changes r room ∙ o.first.1));
      second = (o.second.0, told_of r' ∙ ap told (below-most m.diary m.changes r' room ∙ o.second.1));
    } in
    let e = exchange-run l cs ds r r' apart (λ o. spare (last o)) in
    let shown : (k : List Call) → calls b k ≡ shown_by (run l k) = shown-calls b l h in
    record {
      replies =
          rw (
            ap (λ (c : Calls). c.replies) (shown cs),
            told_of r,
            told_of r',
            ap (λ (c : Calls). c.replies) (shown (cs ++ request r ∷ request r' ∷ ds)),
            ap (λ (c : Calls). c.replies) (shown (cs ++ request r' ∷ request r ∷ ds)),
          ) e.0;
      book =
          ap (λ (c : Calls). c.book) (shown (cs ++ request r ∷ request r' ∷ ds)) ∙ ap book_words e.1
          ∙ sym (ap (λ (c : Calls). c.book) (shown (cs ++ request r' ∷ request r ∷ ds)));
    }

-- a list of calls on a book that questions 1 and 2 refuse: each is refused, and the book stays
pub unfit-calls : (b : List ℕ) (u : Unfit b) (cs : List Call)
    → calls b cs ≡ record { replies = map (λ c. refusing c (refused_with u.number 0)) cs; book = b }
unfolding calls
unfit-calls b u [] = refl
unfit-calls b u (c ∷ cs) =
    ap (λ (k : Called). record { replies = k.reply ∷ (calls k.book cs).replies; book = (calls k.book cs).book }) (u.refused c)
    ∙ ap (λ (k : Calls). record { replies = refusing c (refused_with u.number 0) ∷ k.replies; book = k.book }) (unfit-calls b u cs)

exchange-unfit : (b : List ℕ) → Unfit b → (cs ds : List Call) (r r' : Request)
    → ExchangedOn b cs r r' (calls b (cs ++ request r ∷ request r' ∷ ds)) (calls b (cs ++ request r' ∷ request r ∷ ds))
exchange-unfit b u cs ds r r' =
    let f : Call → Reply = λ c. refusing c (refused_with u.number 0) in
    let all : (k : List Call) → calls b k ≡ record { replies = map f k; book = b } = unfit-calls b u in
    let stays : (calls b cs).book ≡ b = ap (λ (c : Calls). c.book) (all cs) in
    let told_of : (q : Request) → (call (calls b cs).book q).reply ≡ told (refused_with u.number 0)
    = λ q. ap (λ (w : List ℕ). (call w q).reply) stays ∙ ap (λ (c : Called). c.reply) (u.refused (request q)) in
    let a = all (cs ++ request r ∷ request r' ∷ ds) in
    let b' = all (cs ++ request r' ∷ request r ∷ ds) in
    record {
      replies =
          rw (ap (λ (c : Calls). c.replies) (all cs), told_of r, told_of r') (record {
            later = map f ds;
            first = ap (λ (c : Calls). c.replies) a ∙ map-append f cs (request r ∷ request r' ∷ ds);
            second = ap (λ (c : Calls). c.replies) b' ∙ map-append f cs (request r' ∷ request r ∷ ds);
          });
      book = ap (λ (c : Calls). c.book) a ∙ sym (ap (λ (c : Calls). c.book) b');
    }

-- the theorem on every list of words: those that questions 1 and 2 refuse answer every call with that refusal
pub exchange-words : (b : List ℕ) (cs ds : List Call) (r r' : Request) → NoDateShared (ledger_of b).diary.settings r r'
    → (LastChange (calls b cs).book r r' → ⊥)
    → ExchangedOn b cs r r' (calls b (cs ++ request r ∷ request r' ∷ ds)) (calls b (cs ++ request r' ∷ request r ∷ ds))
exchange-words b cs ds r r' apart spare = go (fit-or-not b)
  where
    go : Passes b ⊎ Unfit b → ExchangedOn b cs r r' (calls b (cs ++ request r ∷ request r' ∷ ds)) (calls b (cs ++ request r' ∷ request r ∷ ds))
    go (inl q) = exchange-shown b (ledger_of b) (passes-shows b q) cs ds r r' apart spare
    go (inr u) = exchange-unfit b u cs ds r r'

-- and from a fresh book on
pub exchange-fresh : (S : Settings) → valid_settings S ≡ true → (cs ds : List Call) (r r' : Request) → NoDateShared S r r'
    → (LastChange (calls (fresh_book S) cs).book r r' → ⊥)
    → ExchangedOn (fresh_book S) cs r r' (calls (fresh_book S) (cs ++ request r ∷ request r' ∷ ds)) (calls (fresh_book S) (cs ++ request r' ∷ request r ∷ ds))
unfolding empty_ledger empty_state
exchange-fresh S e cs ds r r' apart spare = exchange-shown (fresh_book S) (empty_ledger S) (fresh-shows S e) cs ds r r' apart spare

-- Rule 21.2 with all its conditions: both are of kinds 1 to 16, questions 3 to 7 let both pass, which ask the settings alone
-- (`always-alike`), and the count can rise by two. `exchange-fresh` needs neither the kinds nor the questions, and of the count only that it
-- is not one before the greatest where both are done.
pub two-dates : (S : Settings) → valid_settings S ≡ true → (cs ds : List Call) (r r' : Request) → is_change r ≡ true → is_change r' ≡ true
    → PastSeven (empty_state S) r → PastSeven (empty_state S) r' → NoDateShared S r r' → last_word (calls (fresh_book S) cs).book ≤ 4294967293
    → ExchangedOn (fresh_book S) cs r r' (calls (fresh_book S) (cs ++ request r ∷ request r' ∷ ds)) (calls (fresh_book S) (cs ++ request r' ∷ request r ∷ ds))
two-dates S e cs ds r r' c c' p p' apart room = exchange-fresh S e cs ds r r' apart (λ o. omega (arith, room, o.count))

-- ---- two calls

-- what two calls on a list of words tell and leave, made in either order
pub record EitherOrder (b : List ℕ) (r r' : Request) : Type 0 where
  pub first : (call (call b r').book r).reply ≡ (call b r).reply
  pub second : (call (call b r).book r').reply ≡ (call b r').reply
  pub book : (call (call b r).book r').book ≡ (call (call b r').book r).book

-- two books of the same words, and the two requests called on them in either order: each is told the same, and the words are the same
pub exchange-call : (b : List ℕ) (r r' : Request) → NoDateShared (ledger_of b).diary.settings r r' → (LastChange b r r' → ⊥) → EitherOrder b r r'
unfolding calls
exchange-call b r r' apart spare =
    let e = exchange-words b [] [] r r' apart spare in
    record {
      first = ap (λ (l : List Reply). get_or l 1 (call b r).reply) e.replies.second;
      second = ap (λ (l : List Reply). get_or l 1 (call b r).reply) e.replies.first;
      book = e.book;
    }

pub two-calls : (b : List ℕ) (r r' : Request) → NoDateShared (ledger_of b).diary.settings r r' → last_word b ≤ 4294967293 → EitherOrder b r r'
two-calls b r r' apart room = exchange-call b r r' apart (λ o. omega (arith, room, o.count))

-- ---- lists as words

replies-append : (k l : List Reply) → replies_words (k ++ l) ≡ replies_words k ++ replies_words l
unfolding replies_words
replies-append [] l = refl
replies-append (a ∷ k) l =
    ap (λ (w : List ℕ). reply_words a ++ w) (replies-append k l) ∙ sym (append_assoc (reply_words a) (replies_words k) (replies_words l))

-- two lists of requests as words, which differ in the order of two: the book and the answer of the list are the same; of the words of the
-- answers those before the two, three for each request, and those behind them are the same, and the three words of the one answer and the
-- three of the other have changed places
pub record ExchangedWords (before : List ℕ) (one two : Answer) (l m : Listed) : Type 0 where
  pub later : List ℕ
  pub first : l.answers ≡ before ++ (answer_words one ++ (answer_words two ++ later))
  pub second : m.answers ≡ before ++ (answer_words two ++ (answer_words one ++ later))
  pub book : l.book ≡ m.book
  pub answer : l.answer ≡ m.answer

module _ (k : ℕ) (w v a : List ℕ) (cs ds : List Call) (r r' : Request)
    (one-words : calls_of k (answerable k w a) w ≡ cs ++ request r ∷ request r' ∷ ds)
    (other-words : calls_of k (answerable k v a) v ≡ cs ++ request r' ∷ request r ∷ ds) where
  as_many : answerable k v a ≡ answerable k w a
  as_many =
      sym (list-long k (answerable k v a) v) ∙ ap length other-words ∙ length-append cs (request r' ∷ request r ∷ ds)
      ∙ sym (sym (list-long k (answerable k w a) w) ∙ ap length one-words ∙ length-append cs (request r ∷ request r' ∷ ds))

  words_of : (before : List Reply) (x y : Answer) (later : List Reply) (end : List ℕ)
      → replies_words (before ++ told x ∷ told y ∷ later) ++ end
      ≡ replies_words before ++ (answer_words x ++ (answer_words y ++ (replies_words later ++ end)))
  unfolding replies_words
  words_of before x y later end =
      ap (λ (z : List ℕ). z ++ end) (replies-append before (told x ∷ told y ∷ later))
      ∙ append_assoc (replies_words before) (answer_words x ++ (answer_words y ++ replies_words later)) end
      ∙ ap (λ (z : List ℕ). replies_words before ++ z)
      (append_assoc (answer_words x) (answer_words y ++ replies_words later) end
      ∙ ap (λ (z : List ℕ). answer_words x ++ z) (append_assoc (answer_words y) (replies_words later) end))

  exchange-listed : (l : Ledger) → NoDateShared l.diary.settings r r' → (run l cs).ledger.changes ≤ 4294967293
      → ExchangedWords (replies_words (run l cs).replies) (answer_to (run l cs).ledger r) (answer_to (run l cs).ledger r')
      (listed (answerable k w a) a (shown_by (run l (cs ++ request r ∷ request r' ∷ ds))))
      (listed (answerable k v a) a (shown_by (run l (cs ++ request r' ∷ request r ∷ ds))))
  exchange-listed l apart room =
      let e = exchange-room l cs ds r r' apart room in
      let m : Ledger = (run l cs).ledger in
      let end : List ℕ = drop (3 * answerable k w a) a in
      record {
        later = replies_words e.0.later ++ end;
        first =
            ap (λ (u : List Reply). replies_words u ++ end) e.0.first
            ∙ words_of (run l cs).replies (answer_to m r) (answer_to m r') e.0.later end;
        second =
            ap₂ (λ (u : List Reply) (n : ℕ). replies_words u ++ drop (3 * n) a) e.0.second as_many
            ∙ words_of (run l cs).replies (answer_to m r') (answer_to m r) e.0.later end;
        book = ap book_words e.1;
        answer = ap done_with (sym as_many);
      }

  -- on a book that passes questions 1 and 2, and on a book laid anew
  pub list-exchanged : (b : List ℕ) → Passes b → NoDateShared (ledger_of b).diary.settings r r' → (run (ledger_of b) cs).ledger.changes ≤ 4294967293
      → ExchangedWords (replies_words (run (ledger_of b) cs).replies) (answer_to (run (ledger_of b) cs).ledger r)
      (answer_to (run (ledger_of b) cs).ledger r') (call_list k b w a) (call_list k b v a)
  unfolding call_list
  list-exchanged b p apart room =
      let h : Shows b (ledger_of b) = passes-shows b p in
      rw (
        p.one,
        p.two,
        one-words,
        other-words,
        shown-calls b (ledger_of b) h (cs ++ request r ∷ request r' ∷ ds),
        shown-calls b (ledger_of b) h (cs ++ request r' ∷ request r ∷ ds),
      ) (exchange-listed (ledger_of b) apart room)

  pub served-exchanged : (s b : List ℕ) → settings_good s ≡ true → length b ≡ book_length (settings_of s) → NoDateShared (settings_of s) r r'
      → (run (empty_ledger (settings_of s)) cs).ledger.changes ≤ 4294967293
      → ExchangedWords (replies_words (run (empty_ledger (settings_of s)) cs).replies) (answer_to (run (empty_ledger (settings_of s)) cs).ledger r)
      (answer_to (run (empty_ledger (settings_of s)) cs).ledger r') (serve_list k s b w a) (serve_list k s b v a)
  unfolding serve_list empty_ledger empty_state
  served-exchanged s b g f apart room =
      rw (g, eq-eqb (length b) (book_length (settings_of s)) f, one-words, other-words) (exchange-listed (empty_ledger (settings_of s)) apart room)

-- Two offices, two dates, over whole runs (section 21): two lists of requests that share no date, merged in any way. Each office is told what
-- it would be told alone, and the book is the same whatever the merge.
-- Assumes nothing.
use Prim.Native.Nat.{ℕ, suc, ◌+◌, ◌≤◌}
use mathlib.Core.Path.{◌≡◌, refl, sym, ◌∙◌, ap, ap₂, subst}
use mathlib.Core.Logic.{◌⊎◌, inl, inr}
use mathlib.Core.Bool.{Bool, true, false}
use Rattle.std.specs.Prelude.{Some}
use mathlib.Core.List.{List, [], ◌∷◌, ◌++◌, append-nil, map, map-append}
use native.Mathlib.Omega.{arith}
use lib.ListN.{length, replicate, length-map}
use Rattle.model.specs.declared.Settings.{Settings}
use Rattle.model.specs.declared.Request.{Request}
use Rattle.model.specs.Answers.{Answer}
use Rattle.model.specs.Answers.{refused_with}
use Rattle.model.specs.Site.{valid_settings}
use Rattle.model.specs.State.{State, empty_state}
use Rattle.model.specs.Machine.{Counted, most_changes, counted_step, Call, request, Reply, told, Run, run}
use Rattle.model.specs.Ledger.{Ledger, empty_ledger, book_words, ledger_of}
use Rattle.model.specs.Calls.{refusing, Calls, calls, fresh_book, shown_by}
use Rattle.model.specs.Seen.{last_word, nth}
use Rattle.model.specs.Exchange.{NoDateShared, NoDatesShared, merge, Interleaved, neither, first, second, sides, picked}
use Rattle.model.proofs.Effect.{counted-settings}
use Rattle.model.proofs.Calls.{run_sound}
use Rattle.model.proofs.Shows.{Shows, Passes, passes-shows, shown-calls, fresh-shows}
use Rattle.model.proofs.Raised.{last-changes}
use Rattle.model.proofs.Before.{run-settings}
use Rattle.model.proofs.Runs.{CountedSteps, counted_steps, sent, steps_run, run-sent}
use Rattle.model.proofs.Seen.{request-later, Unfit, fit-or-not}
use Rattle.model.proofs.Exchange.{slots-swap, no-date-sym, run-append, as-many-told, unfit-calls}

-- ---- merges

-- the merges of two lists are the lists that go through both, each in its order
pub merge-interleaved : {A : Type 0} (w : List Bool) (l m : List A) → Interleaved l m (merge w l m)
merge-interleaved [] [] [] = neither
merge-interleaved [] [] (b ∷ m) = second b [] m m (merge-interleaved [] [] m)
merge-interleaved [] (a ∷ l) m = first a l m (l ++ m) (merge-interleaved [] l m)
merge-interleaved (true ∷ w) [] [] = neither
merge-interleaved (true ∷ w) [] (b ∷ m) = second b [] m m (merge-interleaved (true ∷ w) [] m)
merge-interleaved (true ∷ w) (a ∷ l) m = first a l m (merge w l m) (merge-interleaved w l m)
merge-interleaved (false ∷ w) [] [] = neither
merge-interleaved (false ∷ w) (a ∷ l) [] = first a l [] l (merge-interleaved (false ∷ w) l [])
merge-interleaved (false ∷ w) l (b ∷ m) = second b l m (merge w l m) (merge-interleaved w l m)

pub interleaved-merge : {A : Type 0} {l m k : List A} → Interleaved l m k → (w : List Bool) × (k ≡ merge w l m)
interleaved-merge neither = ([], refl)
interleaved-merge {A = A} (first a l m k h) =
    let e = interleaved-merge h in
    (true ∷ e.0, ap (λ (z : List A). a ∷ z) e.1)
interleaved-merge {A = A} (second a l m k h) =
    let e = interleaved-merge h in
    (false ∷ e.0, ap (λ (z : List A). a ∷ z) e.1)

-- each list, picked out of the merge
only-first : {A : Type 0} (l : List A) → picked true (replicate (length l) true) l ≡ l
only-first [] = refl
only-first {A = A} (a ∷ l) = ap (λ (z : List A). a ∷ z) (only-first l)

not_first : {A : Type 0} (l : List A) → picked true (replicate (length l) false) l ≡ []
not_first [] = refl
not_first (a ∷ l) = not_first l

only-second : {A : Type 0} (l : List A) → picked false (replicate (length l) false) l ≡ l
only-second [] = refl
only-second {A = A} (a ∷ l) = ap (λ (z : List A). a ∷ z) (only-second l)

not-second : {A : Type 0} (l : List A) → picked false (replicate (length l) true) l ≡ []
not-second [] = refl
not-second (a ∷ l) = not-second l

pub pick_first : {A : Type 0} (w : List Bool) (l m : List A) → picked true (sides w (length l) (length m)) (merge w l m) ≡ l
pick_first [] [] m = not_first m
pick_first {A = A} [] (a ∷ l) m = ap (λ (z : List A). a ∷ z) (pick_first [] l m)
pick_first (true ∷ w) [] m = not_first m
pick_first {A = A} (true ∷ w) (a ∷ l) m = ap (λ (z : List A). a ∷ z) (pick_first w l m)
pick_first (false ∷ w) l [] = only-first l
pick_first (false ∷ w) l (b ∷ m) = pick_first w l m

pub pick_second : {A : Type 0} (w : List Bool) (l m : List A) → picked false (sides w (length l) (length m)) (merge w l m) ≡ m
pick_second [] [] m = only-second m
pick_second [] (a ∷ l) m = pick_second [] l m
pick_second (true ∷ w) [] m = only-second m
pick_second (true ∷ w) (a ∷ l) m = pick_second w l m
pick_second (false ∷ w) l [] = not-second l
pick_second {A = A} (false ∷ w) l (b ∷ m) = ap (λ (z : List A). b ∷ z) (pick_second w l m)

-- ---- one request and a list

-- a list of requests behind what a request, or a list, has left
abbrev then : Counted → List Request → CountedSteps
then o rs = counted_steps o.state o.changes rs

abbrev onward : CountedSteps → List Request → CountedSteps
onward u rs = counted_steps u.state u.changes rs

counted-most : (x : State) (n : ℕ) (r : Request) → (counted_step x n r).changes ≤ suc n
counted-most x n r = go (request-later x n r)
  where
    go : (((counted_step x n r).state ≡ x) × ((counted_step x n r).changes ≡ n)) ⊎ ((counted_step x n r).changes ≡ suc n) → (counted_step x n r).changes ≤ suc n
    go (inl p) = omega (arith, p.1)
    go (inr p) = omega (arith, p)

-- a request before a list or behind it
record Passing (x : State) (n : ℕ) (r : Request) (rs : List Request) : Type 0 where
  answers : (then (counted_step x n r) rs).answers ≡ (counted_steps x n rs).answers
  answer : (counted_step (counted_steps x n rs).state (counted_steps x n rs).changes r).answer ≡ (counted_step x n r).answer
  state : (counted_step (counted_steps x n rs).state (counted_steps x n rs).changes r).state ≡ (then (counted_step x n r) rs).state
  changes : (counted_step (counted_steps x n rs).state (counted_steps x n rs).changes r).changes ≡ (then (counted_step x n r) rs).changes

passing : (x : State) (n : ℕ) (r : Request) (rs : List Request)
    → ((i : ℕ) (q : Request) → nth rs i ≡ Some q → NoDateShared x.settings r q) → n + suc (length rs) ≤ most_changes → Passing x n r rs
unfolding counted_steps
passing x n r [] h room = record { answers = refl; answer = refl; state = refl; changes = refl }
passing x n r (q ∷ rs) h room =
    let o : Counted = counted_step x n r in
    let p : Counted = counted_step x n q in
    let s = slots-swap x n r q (h 0 q refl) (λ u. omega (arith, room, u.left)) in
    let same : counted_steps (counted_step o.state o.changes q).state (counted_step o.state o.changes q).changes rs
    ≡ counted_steps (counted_step p.state p.changes r).state (counted_step p.state p.changes r).changes rs
    = ap₂ (λ (z : State) (k : ℕ). counted_steps z k rs) s.state s.changes in
    let rest = passing p.state p.changes r rs
    (λ i t e. subst (λ (S : Settings). NoDateShared S r t) (sym (counted-settings x n q)) (h (suc i) t e))
    (omega (arith, room, counted-most x n q)) in
    record {
      answers = ap₂ (λ (a : Answer) (l : List Answer). a ∷ l) s.second (ap (λ (u : CountedSteps). u.answers) same ∙ rest.answers);
      answer = rest.answer ∙ s.first;
      state = rest.state ∙ sym (ap (λ (u : CountedSteps). u.state) same);
      changes = rest.changes ∙ sym (ap (λ (u : CountedSteps). u.changes) same);
    }

-- ---- two lists

-- a merge of two lists of requests: the answers are the answers that each list has alone, merged by the same choices; diary and count are
-- those after the one list and then the other
record MergedSteps (x : State) (n : ℕ) (w : List Bool) (rs rs' : List Request) : Type 0 where
  answers : (counted_steps x n (merge w rs rs')).answers ≡ merge w (counted_steps x n rs).answers (counted_steps x n rs').answers
  state : (counted_steps x n (merge w rs rs')).state ≡ (onward (counted_steps x n rs) rs').state
  changes : (counted_steps x n (merge w rs rs')).changes ≡ (onward (counted_steps x n rs) rs').changes

merged : (x : State) (n : ℕ) (w : List Bool) (rs rs' : List Request) → NoDatesShared x.settings rs rs'
    → n + length rs + length rs' ≤ most_changes → MergedSteps x n w rs rs'
unfolding counted_steps
merged x n [] [] rs' h room = record { answers = refl; state = refl; changes = refl }
merged x n [] (r ∷ rs) rs' h room =
    let o : Counted = counted_step x n r in
    let p = passing x n r rs' (λ i q e. h 0 i r q refl e) (omega (arith, room)) in
    let rest = merged o.state o.changes [] rs rs'
    (λ i j q t e f. subst (λ (S : Settings). NoDateShared S q t) (sym (counted-settings x n r)) (h (suc i) j q t e f))
    (omega (arith, room, counted-most x n r)) in
    record {
      answers = ap (λ (l : List Answer). o.answer ∷ l) (rest.answers ∙ ap (λ (l : List Answer). (then o rs).answers ++ l) p.answers);
      state = rest.state;
      changes = rest.changes;
    }
merged x n (true ∷ w) [] rs' h room = record { answers = refl; state = refl; changes = refl }
merged x n (true ∷ w) (r ∷ rs) rs' h room =
    let o : Counted = counted_step x n r in
    let p = passing x n r rs' (λ i q e. h 0 i r q refl e) (omega (arith, room)) in
    let rest = merged o.state o.changes w rs rs'
    (λ i j q t e f. subst (λ (S : Settings). NoDateShared S q t) (sym (counted-settings x n r)) (h (suc i) j q t e f))
    (omega (arith, room, counted-most x n r)) in
    record {
      answers = ap (λ (l : List Answer). o.answer ∷ l) (rest.answers ∙ ap (λ (l : List Answer). merge w (then o rs).answers l) p.answers);
      state = rest.state;
      changes = rest.changes;
    }
merged x n (false ∷ w) rs [] h room = record { answers = refl; state = refl; changes = refl }
merged x n (false ∷ w) rs (r ∷ rs') h room =
    let o : Counted = counted_step x n r in
    let p = passing x n r rs (λ i q e. no-date-sym x.settings q r (h i 0 q r e refl)) (omega (arith, room)) in
    let rest = merged o.state o.changes w rs rs'
    (λ i j q t e f. subst (λ (S : Settings). NoDateShared S q t) (sym (counted-settings x n r)) (h i (suc j) q t e f))
    (omega (arith, room, counted-most x n r)) in
    let same : onward (then o rs) rs' ≡ then (counted_step (counted_steps x n rs).state (counted_steps x n rs).changes r) rs'
    = sym (ap₂ (λ (z : State) (k : ℕ). counted_steps z k rs') p.state p.changes) in
    record {
      answers = ap (λ (l : List Answer). o.answer ∷ l) (rest.answers ∙ ap (λ (l : List Answer). merge w l (then o rs').answers) p.answers);
      state = rest.state ∙ ap (λ (u : CountedSteps). u.state) same;
      changes = rest.changes ∙ ap (λ (u : CountedSteps). u.changes) same;
    }

-- ---- lists of calls

merge-map : {A B : Type 0} (f : A → B) (w : List Bool) (l m : List A) → map f (merge w l m) ≡ merge w (map f l) (map f m)
merge-map f [] l m = map-append f l m
merge-map f (true ∷ w) [] m = refl
merge-map {B = B} f (true ∷ w) (a ∷ l) m = ap (λ (k : List B). f a ∷ k) (merge-map f w l m)
merge-map f (false ∷ w) l [] = refl
merge-map {B = B} f (false ∷ w) l (a ∷ m) = ap (λ (k : List B). f a ∷ k) (merge-map f w l m)

merge-here : (l : Ledger) (w : List Bool) (rs rs' : List Request) → NoDatesShared l.diary.settings rs rs'
    → l.changes + length rs + length rs' ≤ most_changes
    → ((run l (sent (merge w rs rs'))).replies ≡ merge w (run l (sent rs)).replies (run l (sent rs')).replies)
    × ((run l (sent (merge w rs rs'))).ledger ≡ (run (run l (sent rs)).ledger (sent rs')).ledger)
merge-here l w rs rs' h room =
    let x : State = l.diary in
    let n : ℕ = l.changes in
    let m = merged x n w rs rs' h room in
    let all : (ks : List Request) → run l (sent ks) ≡ steps_run l.tail (counted_steps x n ks) = run-sent l in
    let replied : (ks : List Request) → map told (counted_steps x n ks).answers ≡ (run l (sent ks)).replies
    = λ ks. sym (ap (λ (u : Run). u.replies) (all ks)) in
    let after : (run l (sent rs)).ledger ≡ (steps_run l.tail (counted_steps x n rs)).ledger = ap (λ (u : Run). u.ledger) (all rs) in (
      ap (λ (u : Run). u.replies) (all (merge w rs rs')) ∙ ap (map told) m.answers
          ∙ merge-map told w (counted_steps x n rs).answers (counted_steps x n rs').answers
          ∙ ap₂ (λ (a b : List Reply). merge w a b) (replied rs) (replied rs'),
      ap (λ (u : Run). u.ledger) (all (merge w rs rs'))
          ∙ ap₂ (λ (z : State) (k : ℕ). record { diary = z; tail = l.tail; changes = k }) m.state m.changes
          ∙ sym (ap (λ (k : Ledger). (run k (sent rs')).ledger) after
          ∙ ap (λ (u : Run). u.ledger) (run-sent (steps_run l.tail (counted_steps x n rs)).ledger rs')),
    )

-- Two lists of requests without orders, of which no request of the one shares a date with one of the other, merged by whatever choices,
-- between calls of every sort: the replies are those to cs; those that the one list has alone right after cs and those that the other has
-- alone there, merged by the same choices; and those to ds. The ledger, and what is replied to ds, is as if the one list had come before
-- the other, whatever the choices. At a count that can rise by as many as there are requests.
pub record MergedIn (l : Ledger) (cs ds : List Call) (w : List Bool) (rs rs' : List Request) : Type 0 where
  pub replies : (run l (cs ++ (sent (merge w rs rs') ++ ds))).replies
      ≡ (run l cs).replies
      ++ (merge w (run (run l cs).ledger (sent rs)).replies (run (run l cs).ledger (sent rs')).replies
      ++ (run (run l (cs ++ (sent rs ++ sent rs'))).ledger ds).replies)
  pub ledger : (run l (cs ++ (sent (merge w rs rs') ++ ds))).ledger ≡ (run l (cs ++ (sent rs ++ (sent rs' ++ ds)))).ledger

pub merge-run : (l : Ledger) (cs ds : List Call) (w : List Bool) (rs rs' : List Request) → NoDatesShared l.diary.settings rs rs'
    → (run l cs).ledger.changes + length rs + length rs' ≤ most_changes → MergedIn l cs ds w rs rs'
merge-run l cs ds w rs rs' h room =
    let m : Ledger = (run l cs).ledger in
    let e = merge-here m w rs rs'
    (λ i j r r' p q. subst (λ (S : Settings). NoDateShared S r r') (sym (run-settings l cs)) (h i j r r' p q)) room in
    let k : Ledger = (run (run m (sent rs)).ledger (sent rs')).ledger in
    let both : (run l (cs ++ (sent rs ++ sent rs'))).ledger ≡ k
    = ap (λ (u : Run). u.ledger) (run-append l cs (sent rs ++ sent rs')) ∙ ap (λ (u : Run). u.ledger) (run-append m (sent rs) (sent rs')) in
    let middle : run m (sent (merge w rs rs') ++ ds)
    ≡ record {
      replies = merge w (run m (sent rs)).replies (run m (sent rs')).replies ++ (run k ds).replies;
      ledger = (run k ds).ledger;
    }
    = run-append m (sent (merge w rs rs')) ds
    ∙ ap₂ (λ (a : List Reply) (z : Ledger). record { replies = a ++ (run z ds).replies; ledger = (run z ds).ledger }) e.0 e.1 in
    let all = run-append l cs (sent (merge w rs rs') ++ ds) in
    record {
      replies =
          ap (λ (u : Run). u.replies) all ∙ ap (λ (u : Run). (run l cs).replies ++ u.replies) middle
          ∙ ap (λ (z : Ledger). (run l cs).replies
          ++ (merge w (run m (sent rs)).replies (run m (sent rs')).replies ++ (run z ds).replies)) (sym both);
      ledger =
          ap (λ (u : Run). u.ledger) all ∙ ap (λ (u : Run). u.ledger) middle
          ∙ sym (ap (λ (u : Run). u.ledger) (run-append l cs (sent rs ++ (sent rs' ++ ds)))
          ∙ ap (λ (u : Run). u.ledger) (run-append m (sent rs) (sent rs' ++ ds))
          ∙ ap (λ (u : Run). u.ledger) (run-append (run m (sent rs)).ledger (sent rs') ds));
    }

-- ---- books

-- the same of calls on a list of words
pub record MergedOn (b : List ℕ) (cs ds : List Call) (w : List Bool) (rs rs' : List Request) : Type 0 where
  pub replies : (calls b (cs ++ (sent (merge w rs rs') ++ ds))).replies
      ≡ (calls b cs).replies
      ++ (merge w (calls (calls b cs).book (sent rs)).replies (calls (calls b cs).book (sent rs')).replies
      ++ (calls (calls b (cs ++ (sent rs ++ sent rs'))).book ds).replies)
  pub book : (calls b (cs ++ (sent (merge w rs rs') ++ ds))).book ≡ (calls b (cs ++ (sent rs ++ (sent rs' ++ ds)))).book

merge-shown : (b : List ℕ) (l : Ledger) → Shows b l → (cs ds : List Call) (w : List Bool) (rs rs' : List Request)
    → NoDatesShared l.diary.settings rs rs' → last_word (calls b cs).book + length rs + length rs' ≤ most_changes → MergedOn b cs ds w rs rs'
merge-shown b l h cs ds w rs rs' apart room =
    let shown : (k : List Call) → calls b k ≡ shown_by (run l k) = shown-calls b l h in
    let after : (k : List Call) → Shows (calls b k).book (run l k).ledger
    = λ k. record { sound = run_sound l h.sound k; is = ap (λ (c : Calls). c.book) (shown k) } in
    let count : last_word (calls b cs).book ≡ (run l cs).ledger.changes = ap last_word (after cs).is ∙ last-changes (run l cs).ledger in
    let e = merge-run l cs ds w rs rs' apart (omega (arith, room, count)) in
    let behind : (k ks : List Call) → (calls (calls b k).book ks).replies ≡ (run (run l k).ledger ks).replies
    = λ k ks. ap (λ (c : Calls). c.replies) (shown-calls (calls b k).book (run l k).ledger (after k) ks) in
    record {
      replies =
          rw (
            ap (λ (c : Calls). c.replies) (shown cs),
            ap (λ (c : Calls). c.replies) (shown (cs ++ (sent (merge w rs rs') ++ ds))),
            behind cs (sent rs),
            behind cs (sent rs'),
            behind (cs ++ (sent rs ++ sent rs')) ds,
          ) e.replies;
      book =
          ap (λ (c : Calls). c.book) (shown (cs ++ (sent (merge w rs rs') ++ ds))) ∙ ap book_words e.ledger
          ∙ sym (ap (λ (c : Calls). c.book) (shown (cs ++ (sent rs ++ (sent rs' ++ ds)))));
    }

merge-unfit : (b : List ℕ) → Unfit b → (cs ds : List Call) (w : List Bool) (rs rs' : List Request) → MergedOn b cs ds w rs rs'
merge-unfit b u cs ds w rs rs' =
    let f : Call → Reply = λ c. refusing c (refused_with u.number 0) in
    let all : (k : List Call) → calls b k ≡ record { replies = map f k; book = b } = unfit-calls b u in
    let stays : (k : List Call) → (calls b k).book ≡ b = λ k. ap (λ (c : Calls). c.book) (all k) in
    let behind : (k ks : List Call) → (calls (calls b k).book ks).replies ≡ map f ks
    = λ k ks. ap (λ (v : List ℕ). (calls v ks).replies) (stays k) ∙ ap (λ (c : Calls). c.replies) (all ks) in
    record {
      replies =
          rw (ap (λ (c : Calls). c.replies) (all cs), behind cs (sent rs), behind cs (sent rs'), behind (cs ++ (sent rs ++ sent rs')) ds)
          (ap (λ (c : Calls). c.replies) (all (cs ++ (sent (merge w rs rs') ++ ds)))
          ∙ map-append f cs (sent (merge w rs rs') ++ ds)
          ∙ ap (λ (k : List Reply). map f cs ++ k) (map-append f (sent (merge w rs rs')) ds)
          ∙ ap (λ (k : List Call). map f cs ++ (map f k ++ map f ds)) (merge-map request w rs rs')
          ∙ ap (λ (k : List Reply). map f cs ++ (k ++ map f ds)) (merge-map f w (sent rs) (sent rs')));
      book = stays (cs ++ (sent (merge w rs rs') ++ ds)) ∙ sym (stays (cs ++ (sent rs ++ (sent rs' ++ ds))));
    }

-- on every list of words
pub merge-words : (b : List ℕ) (cs ds : List Call) (w : List Bool) (rs rs' : List Request) → NoDatesShared (ledger_of b).diary.settings rs rs'
    → last_word (calls b cs).book + length rs + length rs' ≤ most_changes → MergedOn b cs ds w rs rs'
merge-words b cs ds w rs rs' apart room = go (fit-or-not b)
  where
    go : Passes b ⊎ Unfit b → MergedOn b cs ds w rs rs'
    go (inl q) = merge-shown b (ledger_of b) (passes-shows b q) cs ds w rs rs' apart room
    go (inr u) = merge-unfit b u cs ds w rs rs'

-- and from a fresh book on
pub merge-fresh : (S : Settings) → valid_settings S ≡ true → (cs ds : List Call) (w : List Bool) (rs rs' : List Request) → NoDatesShared S rs rs'
    → last_word (calls (fresh_book S) cs).book + length rs + length rs' ≤ most_changes → MergedOn (fresh_book S) cs ds w rs rs'
unfolding empty_ledger empty_state
merge-fresh S e cs ds w rs rs' apart room = merge-shown (fresh_book S) (empty_ledger S) (fresh-shows S e) cs ds w rs rs' apart room

-- so the book is the same whatever the merge
pub any-merge : (b : List ℕ) (cs ds : List Call) (w w' : List Bool) (rs rs' : List Request) → NoDatesShared (ledger_of b).diary.settings rs rs'
    → last_word (calls b cs).book + length rs + length rs' ≤ most_changes
    → (calls b (cs ++ (sent (merge w rs rs') ++ ds))).book ≡ (calls b (cs ++ (sent (merge w' rs rs') ++ ds))).book
any-merge b cs ds w w' rs rs' apart room = (merge-words b cs ds w rs rs' apart room).book ∙ sym (merge-words b cs ds w' rs rs' apart room).book

-- "Each office is told what it would be told alone": of the replies to a merge of the two lists, those to the requests of the one list are
-- the replies that this list has alone on the same words, and those to the requests of the other likewise
pub alone : (b : List ℕ) (w : List Bool) (rs rs' : List Request) → NoDatesShared (ledger_of b).diary.settings rs rs'
    → last_word b + length rs + length rs' ≤ most_changes
    → (picked true (sides w (length rs) (length rs')) (calls b (sent (merge w rs rs'))).replies ≡ (calls b (sent rs)).replies)
    × (picked false (sides w (length rs) (length rs')) (calls b (sent (merge w rs rs'))).replies ≡ (calls b (sent rs')).replies)
unfolding calls
alone b w rs rs' apart room =
    let a : List Reply = (calls b (sent rs)).replies in
    let a' : List Reply = (calls b (sent rs')).replies in
    let whole : (calls b (sent (merge w rs rs'))).replies ≡ merge w a a'
    = ap (λ (k : List Call). (calls b k).replies) (sym (append-nil (sent (merge w rs rs'))))
    ∙ (merge-words b [] [] w rs rs' apart room).replies ∙ append-nil (merge w a a') in
    let long : (ks : List Request) → length (calls b (sent ks)).replies ≡ length ks = λ ks. as-many-told b (sent ks) ∙ length-map ks request in
    let shape : sides w (length rs) (length rs') ≡ sides w (length a) (length a') = ap₂ (λ (n k : ℕ). sides w n k) (sym (long rs)) (sym (long rs')) in (
      ap₂ (λ (s : List Bool) (l : List Reply). picked true s l) shape whole ∙ pick_first w a a',
      ap₂ (λ (s : List Bool) (l : List Reply). picked false s l) shape whole ∙ pick_second w a a',
    )

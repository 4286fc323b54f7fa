-- The porter's page: pages of worked examples, and what leaves a page as it is.
-- Assumes nothing.
use Prim.Native.Nat.{ℕ, zero, suc, ◌+◌, ◌≤◌, ◌<◌, ◌*◌}
use mathlib.Core.Path.{◌≡◌, refl, sym, ◌∙◌, ap, ap₂}
use mathlib.Core.Bool.{Bool, true, false, cond}
use Rattle.std.specs.Prelude.{Option, None, Some}
use mathlib.Core.List.{List, [], ◌∷◌, ◌++◌}
use native.Mathlib.Omega.{arith}
use lib.Dec.{leb, ltb, eqb}
use lib.ListN.{length}
use borrow.Author.Tests.{eqb-true}
use Rattle.model.specs.declared.Settings.{Settings}
use Rattle.model.specs.declared.Request.{Request}
use Rattle.model.specs.Answers.{refused_with}
use Rattle.model.specs.Bounded.{is_some, one}
use Rattle.model.specs.Site.{all_sessions, date_of_session}
use Rattle.model.specs.State.{State, empty_state, reserved}
use Rattle.model.specs.Words.{info_of}
use Rattle.model.specs.Text.{decimal_field}
use Rattle.model.specs.Kinds.{kind_of}
use Rattle.model.specs.Questions.{bookings, stands_on, conf_held, lunch_held, meeting_of, lowest_free, ask, test}
use Rattle.model.specs.Machine.{step, change, value, raise, counted_step, Call, request, perform, run}
use Rattle.model.specs.Ledger.{Ledger, empty_ledger, ledger_of}
use Rattle.model.specs.Laws.{well_laid, lawful}
use Rattle.model.specs.Calls.{call_on, call}
use Rattle.model.specs.Page.{PageLine, join_from, attending, holder, line_of, room_line, session_lines, page_lines, page_bytes}
use Rattle.model.specs.Page.{page_by, page_of, page, line_width}
use Rattle.model.proofs.Search.{lowest-same}
use Rattle.model.proofs.Sums.{sum-agree}
use Rattle.model.proofs.Frame.{step-settings}
use Rattle.model.proofs.Counting.{counted-state}
use Rattle.model.proofs.Shows.{Shows, Passes, shows-passes, shown-is, passes-shows, passes-next}
use Rattle.model.proofs.Locality.{on_date, local-change}
use Rattle.model.proofs.Rehearsal.{site, send}

-- the requests of the example (rule 16.7)
abbrev pub orders : List Call
orders =
    send 1 0 1 0 1 0 0
    ∷ send 4 0 1 0 1 0 0
    ∷ send 8 0 0 1 2 0 0
    ∷ send 10 0 1 1 2 0 0
    ∷ send 20 0 0 1 2 0 0
    ∷ send 12 0 0 1 2 0 0
    ∷ send 14 0 0 0 0 3 7
    ∷ send 19 0 0 0 0 0 0
    ∷ send 1 0 2 1 1 0 0
    ∷ send 4 0 2 1 1 0 0
    ∷ send 4 1 2 1 1 0 0
    ∷ send 10 0 2 2 2 0 0
    ∷ send 12 1 0 2 2 0 12
    ∷ send 3 0 1 0 1 0 0
    ∷ send 4 0 1 0 0 0 0
    ∷ []

-- date 1: meeting 0 has two rooms in session 2, and one visitor attends it
pub example-page : page_bytes (page_lines (run (empty_ledger site) orders).ledger.diary 1)
    ≡ 32 ∷ 32 ∷ 32 ∷ 32 ∷ 50 ∷ 32 ∷ 32 ∷ 32 ∷ 48 ∷ 32 ∷ 32 ∷ 32 ∷ 48 ∷ 32 ∷ 32 ∷ 32 ∷ 32 ∷ 32 ∷ 49
    ∷ 32 ∷ 32 ∷ 32 ∷ 32 ∷ 32 ∷ 32 ∷ 32 ∷ 32 ∷ 32 ∷ 32 ∷ 48 ∷ 10
    ∷ 32 ∷ 32 ∷ 32 ∷ 32 ∷ 50 ∷ 32 ∷ 32 ∷ 32 ∷ 49 ∷ 32 ∷ 32 ∷ 32 ∷ 48 ∷ 32 ∷ 32 ∷ 32 ∷ 32 ∷ 32 ∷ 49
    ∷ 32 ∷ 32 ∷ 32 ∷ 32 ∷ 32 ∷ 32 ∷ 32 ∷ 32 ∷ 32 ∷ 49 ∷ 50 ∷ 10
    ∷ []
unfolding run counted_step raise step change value kind_of ask test empty_ledger empty_state reserved bookings stands_on conf_held lunch_held meeting_of lowest_free
    page_lines session_lines attending holder page_bytes decimal_field
example-page = refl

-- date 0: nobody attends meeting 0 in session 1 any more, and its room has a line all the same
pub unattended-page : page_bytes (page_lines (run (empty_ledger site) orders).ledger.diary 0)
    ≡ 32 ∷ 32 ∷ 32 ∷ 32 ∷ 49 ∷ 32 ∷ 32 ∷ 32 ∷ 48 ∷ 32 ∷ 32 ∷ 32 ∷ 48 ∷ 32 ∷ 32 ∷ 32 ∷ 32 ∷ 32 ∷ 48
    ∷ 32 ∷ 32 ∷ 32 ∷ 32 ∷ 32 ∷ 32 ∷ 32 ∷ 32 ∷ 32 ∷ 32 ∷ 48 ∷ 10
    ∷ []
unfolding run counted_step raise step change value kind_of ask test empty_ledger empty_state reserved bookings stands_on conf_held lunch_held meeting_of lowest_free
    page_lines session_lines attending holder page_bytes decimal_field
unattended-page = refl

-- rooms 1 and 0 in the two sessions of date 0, session first; visitors 0 and 1 attend meeting 1 in session 0, and visitor 2 in session 1
abbrev pub others : List Call
others =
    send 1 0 0 0 0 0 0
    ∷ send 1 0 1 0 0 0 0
    ∷ send 1 0 2 0 0 0 0
    ∷ send 8 0 0 1 1 0 0
    ∷ send 8 1 0 0 1 0 0
    ∷ send 10 1 0 0 0 0 0
    ∷ send 10 1 1 0 0 0 0
    ∷ send 10 1 2 1 1 0 0
    ∷ send 12 1 1 0 0 0 4294967295
    ∷ send 12 0 0 1 1 0 0
    ∷ []

pub session-first : page_bytes (page_lines (run (empty_ledger site) others).ledger.diary 0)
    ≡ 32 ∷ 32 ∷ 32 ∷ 32 ∷ 48 ∷ 32 ∷ 32 ∷ 32 ∷ 49 ∷ 32 ∷ 32 ∷ 32 ∷ 49 ∷ 32 ∷ 32 ∷ 32 ∷ 32 ∷ 32 ∷ 50
    ∷ 32 ∷ 52 ∷ 50 ∷ 57 ∷ 52 ∷ 57 ∷ 54 ∷ 55 ∷ 50 ∷ 57 ∷ 53 ∷ 10
    ∷ 32 ∷ 32 ∷ 32 ∷ 32 ∷ 49 ∷ 32 ∷ 32 ∷ 32 ∷ 48 ∷ 32 ∷ 32 ∷ 32 ∷ 48 ∷ 32 ∷ 32 ∷ 32 ∷ 32 ∷ 32 ∷ 48
    ∷ 32 ∷ 32 ∷ 32 ∷ 32 ∷ 32 ∷ 32 ∷ 32 ∷ 32 ∷ 32 ∷ 32 ∷ 48 ∷ 10
    ∷ []
unfolding run counted_step raise step change value kind_of ask test empty_ledger empty_state reserved bookings stands_on conf_held lunch_held meeting_of lowest_free
    page_lines session_lines attending holder page_bytes decimal_field
session-first = refl

-- "Refused, every byte of the page is as before."
pub page-kept : (b : List ℕ) (d : ℕ) (p : List ℕ) {n i : ℕ} → (page b d p).answer ≡ refused_with n i → (page b d p).page ≡ p
unfolding page
page-kept b d p {n} {i} e =
    go (well_laid b) (lawful b) (ltb d (ledger_of b).diary.settings.dates) (leb (line_width * length ls) (length p)) e
  where
    ls : List PageLine
    ls = page_lines (ledger_of b).diary d

    go : (o t s r : Bool) → (page_by o t s r ls p).answer ≡ refused_with n i → (page_by o t s r ls p).page ≡ p
    go true true true true e = absurd (let z : ◌≡◌ {A = ℕ} 0 1 = cc in omega arith)
    go true true true false e = refl
    go true true false r e = refl
    go true false s r e = refl
    go false t s r e = refl

-- lists that agree, one behind another
pub join-same : {A : Type 0} (f g : ℕ → List A) (i n : ℕ) → ((j : ℕ) → i ≤ j → j < i + n → f j ≡ g j) → join_from f i n ≡ join_from g i n
join-same f g i zero h = refl
join-same {A} f g i (suc n) h =
    ap₂ (λ (x y : List A). x ++ y) (h i (omega arith) (omega arith)) (join-same f g (suc i) n (λ j l k. h j (omega arith) (omega arith)))

-- two states of one site have the same conf and attend entries in the sessions of date d
pub record SameOn (x y : State) (d : ℕ) : Type 0 where
  pub settings : x.settings ≡ y.settings
  pub conf : (s c m : ℕ) → date_of_session x.settings s ≡ d → x.conf s c m ≡ y.conf s c m
  pub attend : (s m v : ℕ) → date_of_session x.settings s ≡ d → x.attend s m v ≡ y.attend s m v

-- what a line is made of, by the entries of its session
module _ (x y : State) (s : ℕ) (S : x.settings ≡ y.settings) (conf : (c m : ℕ) → x.conf s c m ≡ y.conf s c m)
    (attend : (m v : ℕ) → x.attend s m v ≡ y.attend s m v) where
  attending-same : (m : ℕ) → attending x s m ≡ attending y s m
  unfolding attending
  attending-same m =
      rw (← S) (sum-agree (λ v. one (x.attend s m v)) (λ v. one (y.attend s m v)) 0 x.settings.visitors (λ v l k. ap one (attend m v)))

  holder-same : (c : ℕ) → holder x s c ≡ holder y s c
  unfolding holder
  holder-same c =
      rw (← S) (lowest-same (λ m. is_some (x.conf s c m)) (λ m. is_some (y.conf s c m)) 0 x.settings.meetings (λ m l k. ap is_some (conf c m)))

  line_same : (c : ℕ) (o : Option ℕ) → line_of x s c o ≡ line_of y s c o
  line_same c None = refl
  line_same c (Some m) =
      ap₂ (λ (n i : ℕ). record { session = s; room = c; meeting = m; attending = n; info = i } ∷ []) (attending-same m) (ap info_of (conf c m))

  session-same : session_lines x s ≡ session_lines y s
  unfolding session_lines
  session-same =
      join-same (room_line x s) (room_line y s) 0 x.settings.rooms (λ c l k. line_same c (holder x s c) ∙ ap (line_of y s c) (holder-same c))
      ∙ ap (λ (T : Settings). join_from (room_line y s) 0 T.rooms) S

-- "The page of a date says nothing but which meetings have its rooms, and who attends them."
pub same_lines : (x y : State) (d : ℕ) → SameOn x y d → page_lines x d ≡ page_lines y d
unfolding page_lines
same_lines x y d h =
    join-same (on x.settings x) (on x.settings y) 0 (all_sessions x.settings) (λ s l k. go s (eqb (date_of_session x.settings s) d) refl)
    ∙ ap (λ (T : Settings). join_from (on T y) 0 (all_sessions T)) h.settings
  where
    on : Settings → State → ℕ → List PageLine
    on T z s = cond (eqb (date_of_session T s) d) (session_lines z s) []

    go : (s : ℕ) (t : Bool) → eqb (date_of_session x.settings s) d ≡ t → cond t (session_lines x s) [] ≡ cond t (session_lines y s) []
    go s true e =
        let q : date_of_session x.settings s ≡ d = eqb-true _ d e in
        session-same x y s h.settings (λ c m. h.conf s c m q) (λ m v. h.attend s m v q)
    go s false e = refl

-- the page of the book, by the lines of what it shows
by_lines : (one two : Bool) (x y : State) (d : ℕ) (p : List ℕ) → x.settings ≡ y.settings → page_lines x d ≡ page_lines y d
    → page_of one two x d p ≡ page_of one two y d p
by_lines one two x y d p S e =
    ap₂ (λ (k : ℕ) (ls : List PageLine). page_by one two (ltb d k) (leb (line_width * length ls) (length p)) ls p)
    (ap (λ (T : Settings). T.dates) S) e

shown-page : (b : List ℕ) (l : Ledger) → Shows b l → (d : ℕ) (p : List ℕ) → page b d p ≡ page_of true true l.diary d p
unfolding page
shown-page b l h d p = let q = shows-passes b l h in rw (q.one, q.two, shown-is b l h)

-- the same of two books that pass: the same answer, and the same bytes on the same lent page
pub same-page : (b c : List ℕ) → Passes b → Passes c → (d : ℕ) → SameOn (ledger_of b).diary (ledger_of c).diary d → (p : List ℕ)
    → page b d p ≡ page c d p
unfolding page
same-page b c q r d h p =
    rw (q.one, q.two, r.one, r.two)
    (by_lines true true (ledger_of b).diary (ledger_of c).diary d p h.settings (same_lines (ledger_of b).diary (ledger_of c).diary d h))

-- "A request on other dates leaves the page of this date as it is." Of every kind, known or not, done or refused
pub other-date : (x : State) (r : Request) (d : ℕ) → on_date x.settings r d ≡ false → page_lines (step x r).state d ≡ page_lines x d
other-date x r d h =
    let S = step-settings x r in
    let a = local-change x r d h in
    same_lines (step x r).state x d
    (record {
      settings = S;
      conf = λ s c m e. a.conf s c m (ap (λ (T : Settings). date_of_session T s) (sym S) ∙ e);
      attend = λ s m v e. a.attend s m v (ap (λ (T : Settings). date_of_session T s) (sym S) ∙ e);
    })

-- and on every list of words, one that questions 1 and 2 refuse included
pub other-date-book : (b : List ℕ) (r : Request) (d : ℕ) → on_date (ledger_of b).diary.settings r d ≡ false → (p : List ℕ)
    → page (call b r).book d p ≡ page b d p
unfolding call_on
other-date-book b r d h p = go (well_laid b) refl (lawful b) refl
  where
    go : (o : Bool) → well_laid b ≡ o → (t : Bool) → lawful b ≡ t → page (call b r).book d p ≡ page b d p
    go true e true f =
        let q : Passes b = record { one = e; two = f } in
        let x = (ledger_of b).diary in
        let n = (ledger_of b).changes in
        let same : ((counted_step x n r).state.settings ≡ x.settings) × (page_lines (counted_step x n r).state d ≡ page_lines x d)
        = counted-state (λ (z : State). (z.settings ≡ x.settings) × (page_lines z d ≡ page_lines x d)) x n r (refl, refl)
        (step-settings x r, other-date x r d h) in
        shown-page (call b r).book (perform (ledger_of b) (request r)).ledger (passes-next b q (request r)) d p
        ∙ by_lines true true (counted_step x n r).state x d p same.0 same.1
        ∙ sym (shown-page b (ledger_of b) (passes-shows b q) d p)
    go true e false f = ap (λ (c : List ℕ). page c d p) (rw (e, f))
    go false e t f = ap (λ (c : List ℕ). page c d p) (rw e)

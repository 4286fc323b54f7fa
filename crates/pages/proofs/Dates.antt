-- The lines of a date are those of the sessions between its cuts, and the page by the answers to its questions.
-- Assumes nothing.
use Prim.Native.Nat.{ℕ, ◌*◌, ◌≤◌, ◌<◌}
use native.Mathlib.Omega.{arith}
use mathlib.Core.Path.{◌≡◌, refl, sym, ◌∙◌, ap, ap₂, subst}
use mathlib.Core.Bool.{Bool, true, false, ◌&&◌, cond}
use mathlib.Core.List.{List, []}
use lib.Dec.{leb, ltb, eqb}
use lib.ListN.{length, take}
use borrow.Author.Tests.{eqb-true, eq-eqb, le-leb, lt-ltb, lt-leb, le-ltb}
use Rattle.model.specs.declared.Settings.{Settings}
use Rattle.model.specs.Answers.{Answer}
use Rattle.model.specs.Answers.{done_with, refused_with}
use Rattle.model.specs.Bounded.{within}
use Rattle.model.specs.Kinds.{sessions}
use Rattle.model.specs.Site.{all_sessions, date_of_session}
use Rattle.model.specs.State.{State}
use Rattle.model.specs.Reading.{state_of, read_state}
use Rattle.model.specs.Ledger.{ledger_of, diary_of}
use Rattle.model.specs.Words.{diary_length}
use Rattle.model.specs.Laws.{well_laid, lawful}
use Rattle.model.specs.Calls.{check}
use Rattle.model.specs.Page.{PageLine, page_lines, session_lines, page_bytes, page}
use Rattle.model.proofs.Search.{bool_eq, within-true, true-within}
use Rattle.model.proofs.Ledger.{first_part}
use Rattle.text.specs.Put.{Put}
use Rattle.book.specs.Good.{Good, GoodBook}
use Rattle.units.specs.Units.{OnDates}
use Rattle.book.proofs.Goods.{good-state, good-part}
use Rattle.queries.proofs.Runs.{run-order}
use Rattle.pages.specs.Pages.{paged, fitted, between}
use Rattle.pages.proofs.Joins.{join-part, bytes-length, put_front}

-- one date
one-date : (k d : ℕ) → eqb k d ≡ within d d k
one-date k d =
    bool_eq _ _ (λ e. let q = eqb-true k d e in true-within d d k (omega (arith, q)) (omega (arith, q)))
    (λ e. let w : (d ≤ k) × (k ≤ d) = within-true d d k e in eq-eqb k d (omega (arith, w)))

lines-on : (x : State) (d lo hi : ℕ) → lo ≤ hi → OnDates x.settings sessions d d lo hi → between x lo hi ≡ page_lines x d
unfolding between page_lines
lines-on x d lo hi l on =
    sym
    (join-part f (session_lines x) lo hi n l on.ends.most
    (λ s k. rw (pick s (omega (arith, k, on.begins.most, l)), lt-leb lo s k))
    (λ s k i. rw (pick s i, le-leb lo s (omega arith), le-ltb s hi k))
    (λ s k i. rw (pick s (omega (arith, i, on.ends.most)), le-leb lo s k, lt-ltb s hi i)))
  where
    n : ℕ
    n = all_sessions x.settings

    f : ℕ → List PageLine
    f s = cond (eqb (date_of_session x.settings s) d) (session_lines x s) []

    pick : (s : ℕ) → s < n → f s ≡ cond (leb lo s && ltb s hi) (session_lines x s) []
    pick s i = rw (one-date (date_of_session x.settings s) d, on.exactly s i)

-- the sessions of one date, by its cuts
pub ordered : {S : Settings} (d : ℕ) {lo hi : ℕ} → OnDates S sessions d d lo hi → (lo ≤ hi) × (hi ≤ all_sessions S)
ordered d on = (run-order _ sessions d d _ _ on (omega arith), on.ends.most)

module _ {S : Settings} {b : List ℕ} (good : Good S b) (d : ℕ) {lo hi : ℕ} (on : OnDates S sessions d d lo hi) where
  pub date-lines : between (state_of b) lo hi ≡ page_lines (state_of b) d
  unfolding read_state
  date-lines =
      lines-on (state_of b) d lo hi (ordered d on).0
      (subst (λ (S : Settings). OnDates S sessions d d lo hi) (sym (ap (λ (x : State). x.settings) (good-state good))) on)

  -- question 26 says no, and yes
  pub too_short : {n : ℕ} {p : List ℕ} → n ≡ length (between (state_of b) lo hi) → length p < n * 31 → paged (refused_with 26 0) p ≡ fitted (state_of b) d p
  too_short {n} {p} e h =
      let k : length p < 31 * length (page_lines (state_of b) d) = omega (arith, h, e ∙ ap length date-lines) in
      rw (lt-leb (31 * length (page_lines (state_of b) d)) (length p) k)

  pub long-enough : {n : ℕ} {p q : List ℕ} → n ≡ length (between (state_of b) lo hi) → n * 31 ≤ length p
      → Put p q 0 (page_bytes (between (state_of b) lo hi)) → paged (done_with n) q ≡ fitted (state_of b) d p
  long-enough {n} {p} {q} e h w =
      let v : Put p q 0 (page_bytes (page_lines (state_of b) d)) = rw date-lines at w in
      let m : n ≡ length (page_lines (state_of b) d) = e ∙ ap length date-lines in
      let k : 31 * length (page_lines (state_of b) d) ≤ length p = omega (arith, h, m) in
      rw (le-leb (31 * length (page_lines (state_of b) d)) (length p) k)
      (ap₂ paged (ap done_with m) (put_front (bytes-length (page_lines (state_of b) d)) v))

-- any words as a book: questions 1 and 2
pub page-refused : (b : List ℕ) (d : ℕ) (p : List ℕ) {n i : ℕ} → check b ≡ refused_with n i → paged (refused_with n i) p ≡ page b d p
unfolding check page
page-refused b d p {n} {i} e = go (well_laid b) refl (lawful b) refl e
  where
    go : (o : Bool) → well_laid b ≡ o → (t : Bool) → lawful b ≡ t → check b ≡ refused_with n i → paged (refused_with n i) p ≡ page b d p
    go true q true s e = absurd (let f : done_with 0 ≡ refused_with n i = rw (q, s) at e in cc)
    go true q false s e = rw (q, s) (ap (λ (a : Answer). paged a p) (sym (rw (q, s) at e)))
    go false q t s e = rw q (ap (λ (a : Answer). paged a p) (sym (rw q at e)))

-- and question 7, of a book that passes them
module _ {S : Settings} {b : List ℕ} (good : GoodBook S b) (d : ℕ) (p : List ℕ) where
  dates-are : (ledger_of b).diary.settings.dates ≡ S.dates
  unfolding ledger_of read_state
  dates-are = ap (λ (x : State). x.settings.dates) (good-state (good-part good))

  pub page-late : S.dates ≤ d → paged (refused_with 7 0) p ≡ page b d p
  unfolding page
  page-late h = rw (good.laid, good.lawful, dates-are, le-ltb d S.dates h)

  pub page-diary : (n : ℕ) → n ≡ diary_length S → d < S.dates → fitted (state_of (take n b)) d p ≡ page b d p
  unfolding page ledger_of
  page-diary n e h =
      let k : ltb d (state_of (diary_of b)).settings.dates ≡ true = ap (ltb d) dates-are ∙ lt-ltb d S.dates h in
      rw (good.laid, good.lawful, k, first_part b good.read e)

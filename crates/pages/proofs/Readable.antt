-- What a caller may rely on of a lent page: which of its bytes are the lines, which stay, and that each number of a line is read back.
-- Assumes nothing.
use Prim.Native.Nat.{ℕ, zero, suc, ◌+◌, ◌*◌, ◌^◌, ◌≤◌, ◌<◌}
use native.Mathlib.Omega.{arith}
use mathlib.Core.Path.{◌≡◌, refl, sym, ◌∙◌, ap}
use mathlib.Core.Bool.{Bool, true, false, cond}
use Rattle.std.specs.Prelude.{Option, None, Some}
use mathlib.Core.List.{List, [], ◌∷◌, ◌++◌}
use Rattle.std.specs.List.{AllByRecursion}
use lib.Dec.{leb, ltb, eqb}
use lib.ListN.{length, take, drop, length-append, length-drop}
use lib.Seq.{take_at, drop_at, drop-drop}
use borrow.Author.Tests.{leb-true}
use Rattle.model.specs.Answers.{done_with}
use Rattle.model.specs.Bounded.{is_some}
use Rattle.model.specs.Site.{valid_settings, all_sessions, date_of_session}
use Rattle.model.specs.State.{State}
use Rattle.model.specs.Words.{info_of}
use Rattle.model.specs.Text.{decimal_field, decimal_shown}
use Rattle.model.specs.Ledger.{ledger_of}
use Rattle.model.specs.Laws.{well_laid, lawful}
use Rattle.model.specs.Page.{PageLine, join_from, attending, holder, line_of, room_line, session_lines, page_lines, line_bytes, page_bytes, page, page_by}
use Rattle.model.proofs.Search.{Lowest, lowest-is}
use Rattle.book.proofs.Counts.{count-le}
use Rattle.book.proofs.Goods.{ranges-by}
use Rattle.units.proofs.Slots.{all-sessions}
use Rattle.text.proofs.Decimals.{decimal-trip, field-length}
use Rattle.pages.proofs.Joins.{bytes-length}

-- a page p that is done with n becomes q: the lines' bytes, 31 each, then what stood there; the length stays
pub record Filled (ls : List PageLine) (p : List ℕ) (n : ℕ) (q : List ℕ) : Type 0 where
  pub lines : n ≡ length ls
  pub front : take (31 * n) q ≡ page_bytes ls
  pub rest : drop (31 * n) q ≡ drop (31 * n) p
  pub long : length q ≡ length p

filled-by : (ls : List PageLine) (p : List ℕ) → 31 * length ls ≤ length p → Filled ls p (length ls) (page_bytes ls ++ drop (31 * length ls) p)
filled-by ls p h =
    let k = 31 * length ls in
    record {
      lines = refl;
      front = take_at (page_bytes ls) (drop k p) k (bytes-length ls);
      rest = drop_at (page_bytes ls) (drop k p) k (bytes-length ls);
      long = omega (arith, length-append (page_bytes ls) (drop k p), bytes-length ls, length-drop k p);
    }

-- "Done, the page begins with 31 bytes a line, and nothing behind them has changed."
pub page-filled : (b : List ℕ) (d : ℕ) (p : List ℕ) {n : ℕ} → (page b d p).answer ≡ done_with n → Filled (page_lines (ledger_of b).diary d) p n
    (page b d p).page
unfolding page
page-filled b d p {n} e = go (well_laid b) (lawful b) (ltb d (ledger_of b).diary.settings.dates) (leb (31 * length ls) (length p)) refl e
  where
    ls : List PageLine
    ls = page_lines (ledger_of b).diary d

    go : (o t s r : Bool) → leb (31 * length ls) (length p) ≡ r → (page_by o t s r ls p).answer ≡ done_with n → Filled ls p n (page_by o t s r ls p).page
    go true true true true f e =
        let m : length ls ≡ n = cc in
        rw (← m) (filled-by ls p (leb-true _ _ f))
    go true true true false f e = absurd cc
    go true true false r f e = absurd cc
    go true false s r f e = absurd cc
    go false t s r f e = absurd cc

-- n columns of a line, from one on
abbrev pub columns : ℕ → ℕ → List ℕ → List ℕ
columns from n bytes = take n (drop from bytes)

-- each number of a line is what its columns show
pub record Reads (l : PageLine) : Type 0 where
  pub session : decimal_shown (columns 0 5 (line_bytes l)) ≡ Some l.session
  pub room : decimal_shown (columns 5 4 (line_bytes l)) ≡ Some l.room
  pub meeting : decimal_shown (columns 9 4 (line_bytes l)) ≡ Some l.meeting
  pub attending : decimal_shown (columns 13 6 (line_bytes l)) ≡ Some l.attending
  pub info : decimal_shown (columns 19 11 (line_bytes l)) ≡ Some l.info

-- a line whose numbers fit its columns
pub record Fitting (l : PageLine) : Type 0 where
  pub session : l.session < 100000
  pub room : l.room < 10000
  pub meeting : l.meeting < 10000
  pub attending : l.attending < 1000000
  pub info : l.info < 100000000000

-- a field behind m bytes
field_at : (front rest : List ℕ) (w n m : ℕ) → length front ≡ m → 0 < w → n < 10 ^ w → decimal_shown
    (columns m w (front ++ (decimal_field w n ++ rest))) ≡ Some n
field_at front rest w n m e h k =
    ap (λ (l : List ℕ). decimal_shown (take w l)) (drop_at front (decimal_field w n ++ rest) m e)
    ∙ ap decimal_shown (take_at (decimal_field w n) rest w (field-length w n))
    ∙ decimal-trip w n h k

behind : (front rest : List ℕ) (m k w : ℕ) → length front ≡ m → columns (m + k) w (front ++ rest) ≡ columns k w rest
behind front rest m k w e = ap (take w) (sym (drop-drop k m (front ++ rest)) ∙ ap (drop k) (drop_at front rest m e))

line_reads : (l : PageLine) → Fitting l → Reads l
line_reads l h =
    record {
      session = field_at [] four 5 l.session 0 refl (omega arith) h.session;
      room = field_at five three 4 l.room 5 (field-length 5 l.session) (omega arith) h.room;
      meeting =
          ap decimal_shown (behind five four 5 4 4 (field-length 5 l.session))
          ∙ field_at (decimal_field 4 l.room) two 4 l.meeting 4 (field-length 4 l.room) (omega arith) h.meeting;
      attending =
          ap decimal_shown (behind five four 5 8 6 (field-length 5 l.session))
          ∙ ap decimal_shown (behind (decimal_field 4 l.room) three 4 4 6 (field-length 4 l.room))
          ∙ field_at (decimal_field 4 l.meeting) one 6 l.attending 4 (field-length 4 l.meeting) (omega arith) h.attending;
      info =
          ap decimal_shown (behind five four 5 14 11 (field-length 5 l.session))
          ∙ ap decimal_shown (behind (decimal_field 4 l.room) three 4 10 11 (field-length 4 l.room))
          ∙ ap decimal_shown (behind (decimal_field 4 l.meeting) two 4 6 11 (field-length 4 l.meeting))
          ∙ field_at (decimal_field 6 l.attending) (10 ∷ []) 11 l.info 6 (field-length 6 l.attending) (omega arith) h.info;
    }
  where
    five : List ℕ
    five = decimal_field 5 l.session

    one : List ℕ
    one = decimal_field 11 l.info ++ (10 ∷ [])

    two : List ℕ
    two = decimal_field 6 l.attending ++ one

    three : List ℕ
    three = decimal_field 4 l.meeting ++ two

    four : List ℕ
    four = decimal_field 4 l.room ++ three

-- what holds of each line of two lists, and of lists of a run, holds of each line of all of them
each_append : (P : PageLine → Type 0) (ls ms : List PageLine) → AllByRecursion P ls → AllByRecursion P ms → AllByRecursion P (ls ++ ms)
each_append P [] ms h k = k
each_append P (l ∷ ls) ms h k = (h.0, each_append P ls ms h.1 k)

each-join : (P : PageLine → Type 0) (f : ℕ → List PageLine) (i n : ℕ) → ((j : ℕ) → j < i + n → AllByRecursion P (f j)) → AllByRecursion P (join_from f i n)
each-join P f i zero h = tt
each-join P f i (suc n) h = each_append P (f i) (join_from f (suc i) n) (h i (omega arith)) (each-join P f (suc i) n (λ j k. h j (omega arith)))

-- "I can read each number of a page back": a state of a valid site, whose information is that of words
pub lines-read : (x : State) (d : ℕ) → valid_settings x.settings ≡ true → ((s c m : ℕ) → info_of (x.conf s c m) < 100000000000)
    → AllByRecursion Reads (page_lines x d)
unfolding page_lines session_lines attending holder
lines-read x d v w =
    each-join Reads (λ s. cond (eqb (date_of_session x.settings s) d) (session_lines x s) []) 0 (all_sessions x.settings)
    (λ s i. on s (omega (arith, i)) (eqb (date_of_session x.settings s) d))
  where
    few : (s m : ℕ) → attending x s m ≤ x.settings.visitors
    few s m = count-le (λ u. x.attend s m u) 0 x.settings.visitors

    held : (s c : ℕ) → s < all_sessions x.settings → c < x.settings.rooms → (o : Option ℕ)
        → Lowest (λ m. is_some (x.conf s c m)) 0 x.settings.meetings o → AllByRecursion Reads (line_of x s c o)
    held s c i j None h = tt
    held s c i j (Some m) h =
        let g = ranges-by x.settings v in (
          line_reads _
              (record {
                session = omega (arith, i, all-sessions x.settings g);
                room = omega (arith, j, g.rooms);
                meeting = omega (arith, h.high, g.meetings);
                attending = omega (arith, few s m, g.visitors);
                info = w s c m;
              }),
          tt,
        )

    room : (s c : ℕ) → s < all_sessions x.settings → c < x.settings.rooms → AllByRecursion Reads (room_line x s c)
    room s c i j = held s c i j (holder x s c) (lowest-is (λ m. is_some (x.conf s c m)) 0 x.settings.meetings)

    on : (s : ℕ) → s < all_sessions x.settings → (t : Bool) → AllByRecursion Reads (cond t (session_lines x s) [])
    on s i true = each-join Reads (room_line x s) 0 x.settings.rooms (λ c j. room s c i (omega (arith, j)))
    on s i false = tt

-- The porter's page (section 16): for one date a line for each session and conference room in use, and a lent page with these lines at
-- its front.
-- Assumes nothing.
use Rattle.std.specs.Prelude.{ℕ, zero, suc, ◌*◌, Bool, true, false, cond, List, [], ◌∷◌, ◌++◌, leb, ltb, eqb, length, drop}
use Rattle.std.specs.Prelude.{Option, None, Some}
use Rattle.model.specs.Answers.{Answer}
use Rattle.model.specs.Answers.{done_with, refused_with}
use Rattle.model.specs.Bounded.{lowest, is_some, count}
use Rattle.model.specs.Site.{all_sessions, date_of_session}
use Rattle.model.specs.State.{State}
use Rattle.model.specs.Words.{info_of}
use Rattle.model.specs.Text.{decimal_field}
use Rattle.model.specs.Ledger.{ledger_of}
use Rattle.model.specs.Laws.{well_laid, lawful}

-- what a line tells (rule 16.2)
pub record PageLine : Type 0 where
  pub session : ℕ
  pub room : ℕ
  pub meeting : ℕ
  pub attending : ℕ
  pub info : ℕ

-- the lists of f at the n numbers from i, one behind another
abbrev pub join_from : {A : Type 0} → (ℕ → List A) → ℕ → ℕ → List A
join_from f i zero = []
join_from f i (suc n) = f i ++ join_from f (suc i) n

-- how many visitors attend meeting m in session s
unfoldable pub attending : State → ℕ → ℕ → ℕ
attending x s m = count (λ v. x.attend s m v) x.settings.visitors

-- the meeting that holds conference room c in session s
unfoldable pub holder : State → ℕ → ℕ → Option ℕ
holder x s c = lowest (λ m. is_some (x.conf s c m)) 0 x.settings.meetings

-- the line of a room in a session, if a meeting holds it, attended or not (rule 16.1)
abbrev pub line_of : State → ℕ → ℕ → Option ℕ → List PageLine
line_of x s c None = []
line_of x s c (Some m) =
    record {
      session = s;
      room = c;
      meeting = m;
      attending = attending x s m;
      info = info_of (x.conf s c m);
    }
    ∷ []

abbrev pub room_line : State → ℕ → ℕ → List PageLine
room_line x s c = line_of x s c (holder x s c)

-- the lines of a session, by room; and of a date, by session (rule 16.1)
unfoldable pub session_lines : State → ℕ → List PageLine
session_lines x s = join_from (room_line x s) 0 x.settings.rooms

unfoldable pub page_lines : State → ℕ → List PageLine
page_lines x d = join_from (λ s. cond (eqb (date_of_session x.settings s) d) (session_lines x s) []) 0 (all_sessions x.settings)

-- a line as bytes: five right-aligned fields of base ten, thirty characters together, and byte 10 (rule 16.3)
abbrev pub line_bytes : PageLine → List ℕ
line_bytes l =
    decimal_field 5 l.session
    ++ (decimal_field 4 l.room
    ++ (decimal_field 4 l.meeting ++ (decimal_field 6 l.attending ++ (decimal_field 11 l.info ++ (10 ∷ [])))))

-- how many they are
abbrev pub line_width : ℕ
line_width = 31

unfoldable pub page_bytes : List PageLine → List ℕ
page_bytes [] = []
page_bytes (l ∷ ls) = line_bytes l ++ page_bytes ls

-- an answer, and the lent page afterwards
pub record Paged : Type 0 where
  pub answer : Answer
  pub page : List ℕ

-- refused, every byte stays; done, the lines stand first, and the bytes behind them stay (rules 16.4, 16.5)
abbrev pub refused_page : ℕ → List ℕ → Paged
refused_page n p = record { answer = refused_with n 0; page = p }

abbrev pub written : List PageLine → List ℕ → Paged
written ls p = record { answer = done_with (length ls); page = page_bytes ls ++ drop (line_width * length ls) p }

-- by what questions 1, 2, 7 and 26 say, in this order (rule 16.4)
abbrev pub page_by : Bool → Bool → Bool → Bool → List PageLine → List ℕ → Paged
page_by false two seven room ls p = refused_page 1 p
page_by true false seven room ls p = refused_page 2 p
page_by true true false room ls p = refused_page 7 p
page_by true true true false ls p = refused_page 26 p
page_by true true true true ls p = written ls p

abbrev pub page_of : Bool → Bool → State → ℕ → List ℕ → Paged
page_of one two x d p =
    let ls = page_lines x d in
    page_by one two (ltb d x.settings.dates) (leb (line_width * length ls) (length p)) ls p

-- the page of a date from any words as a book (rules 5.26, 16.4)
unfoldable pub page : List ℕ → ℕ → List ℕ → Paged
page b d p = page_of (well_laid b) (lawful b) (ledger_of b).diary d p

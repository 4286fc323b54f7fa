-- The program as a stream: where it is in its input, and what each byte writes.
-- Assumes nothing.
use Rattle.std.specs.Prelude.{ℕ, ◌+◌, ◌*◌, ◌&&◌, cond, List, [], ◌∷◌, ◌++◌, leb, eqb, take}
use Rattle.model.specs.Answers.{refused_with}
use Rattle.model.specs.Site.{settings_most}
use Rattle.model.specs.Machine.{Performed}
use Rattle.model.specs.Ledger.{Ledger, empty_ledger, book_length}
use Rattle.model.specs.Reading.{settings_of}
use Rattle.model.specs.Calls.{settings_good}
use Rattle.model.specs.Lines.{whole_words, line_words, answer_line, reply_line, line_outcome, program_words}

-- A line of more bytes than settings can have is neither a frame nor settings, and no more is one that is cut behind its first byte too
-- many: of a line that is not over, that many bytes say all.
abbrev pub held_most : ℕ
held_most = 8 * settings_most + 1

abbrev pub kept : List ℕ → List ℕ
kept l = take held_most l

-- in the settings line, of which these bytes were read; in a later line, with the machine's ledger; after a refused settings line
pub data Point : Type 0 where
  opening : List ℕ → Point
  later : Ledger → List ℕ → Point
  over : Point

-- what was written, and where the program is then
pub record Turn : Type 0 where
  pub out : List ℕ
  pub point : Point

abbrev pub silent : Point → Turn
silent p = record { out = []; point = p }

-- a turn behind bytes written before
abbrev pub behind : List ℕ → Turn → Turn
behind o t = record { out = o ++ t.out; point = t.point }

-- the settings line is over
unfoldable pub opened : List ℕ → Turn
opened l =
    cond (whole_words l && settings_good (line_words l))
    (cond (leb (book_length (settings_of (line_words l))) program_words)
    (silent (later (empty_ledger (settings_of (line_words l))) []))
    (record { out = answer_line (refused_with 25 0); point = over }))
    (record { out = answer_line (refused_with 24 0); point = over })

-- a later line is over
abbrev pub told : Performed → Turn
told o = record { out = reply_line o.reply; point = later o.ledger [] }

-- any line is over
unfoldable pub ended : Point → Turn
ended (opening l) = opened l
ended (later x l) = told (line_outcome x l)
ended over = silent over

-- a byte of a line
unfoldable pub longer : Point → ℕ → Point
longer (opening l) b = opening (kept (l ++ (b ∷ [])))
longer (later x l) b = later x (kept (l ++ (b ∷ [])))
longer over b = over

unfoldable pub byte : Point → ℕ → Turn
byte p b = cond (eqb b 10) (ended p) (silent (longer p b))

-- a run of bytes
unfoldable pub run : Point → List ℕ → Turn
run p [] = silent p
run p (b ∷ bs) = behind (byte p b).out (run (byte p b).point bs)

-- the end of the input: the settings line ends in any case, a later one if it has begun
unfoldable pub closed : Point → Turn
closed (opening l) = opened l
closed (later x []) = silent (later x [])
closed (later x (b ∷ l)) = told (line_outcome x (b ∷ l))
closed over = silent over

-- What the functions of the stream promise, by name.
-- Assumes nothing.
use Rattle.std.specs.Prelude.{ℕ, suc, ◌+◌, ◌-◌, ◌*◌, ◌≤◌, ◌<◌, Bool, true, false, cond, ◌≡◌, List, [], ◌∷◌, Option, Some, None, eqb, length, take, drop}
use Rattle.model.specs.declared.Settings.{Settings}
use Rattle.model.specs.Bounded.{found}
use Rattle.model.specs.Reading.{settings_of}
use Rattle.model.specs.Ledger.{Ledger, ledger_of}
use Rattle.model.specs.Calls.{called}
use Rattle.model.specs.Lines.{answer_bytes, line_outcome}
use Rattle.book.specs.Good.{GoodBook, answered}
use Rattle.framing.specs.Front.{Free, Leads}
use Rattle.lines.specs.Stream.{held_most, Point, opening, later, over, Turn, behind, run}
use Rattle.lines.specs.declared.stream.Ended.{Ended}
use Rattle.lines.specs.declared.stream.Held.{Held}
use Rattle.lines.specs.declared.stream.Taken.{Taken}
use Rattle.lines.specs.declared.stream.Phase.{Phase}
use Rattle.lines.specs.declared.stream.Phase.TheVariants.{Opening, Later, Over}
use Rattle.lines.specs.declared.stream.Stream.{Stream}

-- how many bytes 10 there are
unfoldable pub ends : List ℕ → ℕ
ends [] = 0
ends (b ∷ bs) = cond (eqb b 10) (suc (ends bs)) (ends bs)

-- the bytes that are held
abbrev pub held_of : Held → List ℕ
held_of h = take h.len h.bytes

-- h holds the bytes l, and byte 10 has room behind them
pub record Holds (h : Held) (l : List ℕ) : Type 0 where
  pub long : length h.bytes ≡ held_most + 1
  pub few : h.len ≤ held_most
  pub free : Free l
  pub same : held_of h ≡ l

abbrev pub is_later : Phase → Bool
is_later Opening = false
is_later Later = true
is_later Over = false

-- where the stream is, by its fields and the book's words
abbrev pub point_at : Phase → Ledger → List ℕ → Point
point_at Opening x l = opening l
point_at Later x l = later x l
point_at Over x l = over

abbrev pub point_of : Stream → List ℕ → Point
point_of s b = point_at s.phase (ledger_of (take s.size b)) (held_of s.held)

-- behind a good settings line the book is a good one; before it and behind a bad one there is none
pub record Sized (p : Phase) (size : ℕ) (b : List ℕ) : Type 0 where
  pub fits : size ≤ length b
  pub none : is_later p ≡ false → size ≡ 0
  pub good : p ≡ Later → GoodBook (settings_of (take size b)) (take size b)

-- what a stream keeps
pub record Going (s : Stream) (b : List ℕ) : Type 0 where
  pub holds : Holds s.held (held_of s.held)
  pub sized : Sized s.phase s.size b

-- The turn t was taken, from the book's words b₀ and the answers out₀, of which `from` bytes stood there before: `wrote` bytes stand there
-- now, at most `room`. What stands behind the book's size and behind the answers is as it was.
pub record Moved (t : Turn) (s : Stream) (b₀ b out₀ out : List ℕ) (from wrote room : ℕ) : Type 0 where
  pub more : from ≤ wrote
  pub short : wrote ≤ room
  pub going : Going s b
  pub same : record { out = take wrote out; point = point_of s b } ≡ t
  pub book-past : drop s.size b ≡ drop s.size b₀
  pub out-past : drop wrote out ≡ drop wrote out₀

-- the stream before the first byte
pub record Begun (s : Stream) : Type 0 where
  pub holds : Holds s.held []
  pub phase : s.phase ≡ Opening
  pub size : s.size ≡ 0

-- where the end of a line leads, and the words of the book behind it
abbrev pub point_behind : Option ℕ → List ℕ → Point
point_behind (Some n) b = later (ledger_of (take n b)) []
point_behind None b = over

abbrev pub end_point : Ended → List ℕ → Point
end_point e b = point_behind e.size b

abbrev pub size_of : Ended → ℕ
size_of e = found e.size (λ n. n)

pub record EndSized (e : Ended) (b : List ℕ) : Type 0 where
  pub fits : size_of e ≤ length b
  pub good : (n : ℕ) → e.size ≡ Some n → GoodBook (settings_of (take n b)) (take n b)

-- the same of the end of a line, which writes one answer line at most
pub record EndedOf (t : Turn) (e : Ended) (b₀ b out₀ out : List ℕ) : Type 0 where
  pub short : e.wrote ≤ answer_bytes
  pub sized : EndSized e b
  pub same : record { out = take e.wrote out; point = end_point e b } ≡ t
  pub book-past : drop (size_of e) b ≡ drop (size_of e) b₀
  pub out-past : drop e.wrote out ≡ drop e.wrote out₀

-- the first line of l was answered, the book with it; or there is no whole line
pub record TakenBy (l b₀ : List ℕ) (t : Taken) (b : List ℕ) : Type 0 where
  pub some : 0 < t.used
  pub leads : Leads l (t.used - 1)
  pub gives : answered t.answer b ≡ called (line_outcome (ledger_of b₀) (take (t.used - 1) l))

abbrev pub TakenOf : List ℕ → List ℕ → Option Taken → List ℕ → Type 0
TakenOf l b₀ (Some t) b = TakenBy l b₀ t b
TakenOf l b₀ None b = Free l × (b ≡ b₀)

-- of the chunk c, `used` bytes were lines that are answered now, and no line ends in the rest
pub record Told (s : Settings) (b₀ c out₀ : List ℕ) (at : ℕ) (b out : List ℕ) (used wrote : ℕ) : Type 0 where
  pub within : used ≤ length c
  pub more : at ≤ wrote
  pub short : wrote ≤ at + answer_bytes * ends c
  pub good : GoodBook s b
  pub past : drop wrote out ≡ drop wrote out₀
  pub free : Free (drop used c)
  pub same : behind (take wrote out) (run (later (ledger_of b) []) (drop used c)) ≡ behind (take at out₀) (run (later (ledger_of b₀) []) c)

-- What the program's functions promise, by name.
-- Assumes nothing.
use Rattle.std.specs.Prelude.{ℕ, zero, suc, ◌*◌, ◌≤◌, ◌<◌, ◌≡◌, Bool, true, false, List, [], ◌++◌, length, take, ⊤, Option, Result, Ok, Err, OnOk}
use Rattle.std.specs.Io.KnownBytes.{Appends, Consumes, IsAtEnd}
use Rattle.std.specs.declared.io.Error.{Error}
use Rattle.model.specs.Lines.{answer_bytes, frames}
use Rattle.lines.specs.Stream.{opening, run, closed}
use Rattle.lines.specs.Post.{point_of, Moved}
use Rattle.lines.specs.declared.stream.Stream.{Stream}
use Rattle.lines.specs.declared.stream.Phase.{Phase}
use Rattle.lines.specs.declared.stream.Phase.TheVariants.{Opening, Later, Over}
use Rattle.frames.specs.declared.Turn.{Turn}
use Rattle.frames.specs.declared.End.{End}
use Rattle.frames.specs.declared.Sign.{Sign}
use Rattle.frames.specs.declared.Sign.TheVariants.{More, Ended, Unread, Unwritten}

-- room for an answer to each byte of a turn
abbrev pub answers_room : ℕ
answers_room = answer_bytes * 65536

-- what an answer of `read` says: bytes, the end of the input, or a failure
abbrev pub heard : Result ℕ Error → Sign
heard (Ok zero) = Ended
heard (Ok (suc n)) = More
heard (Err e) = Unread e

-- how many bytes `read` gave, by its answer
abbrev pub count_of : Result ℕ Error → ℕ
count_of (Ok n) = n
count_of (Err e) = 0

-- the sign of a turn, by what `read` says, where the stream is behind it, and whether `write` took all
abbrev pub signed : Sign → Phase → Result ⊤ Error → Sign
signed More p (Err e) = Unwritten e
signed More Opening (Ok t) = More
signed More Later (Ok t) = More
signed More Over (Ok t) = Ended
signed Ended p t = Ended
signed (Unread e) p t = Unread e
signed (Unwritten e) p t = Unwritten e

abbrev pub is_end : Sign → Bool
is_end More = false
is_end Ended = true
is_end (Unread e) = false
is_end (Unwritten e) = false

abbrev pub goes_on : Sign → Bool
goes_on More = true
goes_on Ended = false
goes_on (Unread e) = false
goes_on (Unwritten e) = false

-- every byte that was handed to `write` was taken
abbrev pub is_put : Sign → Bool
is_put More = true
is_put Ended = true
is_put (Unread e) = true
is_put (Unwritten e) = false

-- the program's exit status: 0 where the end of the input was answered, or a refused settings line, and all answers are written
abbrev pub status_of : Sign → Result ⊤ Error → ℕ
status_of More q = 1
status_of Ended (Ok t) = 0
status_of Ended (Err e) = 1
status_of (Unread e) q = 1
status_of (Unwritten e) q = 1

-- A turn from the stream s and the book b₀: `read` left the first bytes of chunk, as many as it answered, and the first bytes of out, which
-- were handed to `write`, are what the model writes for them.
pub record Turned (s : Stream) (b₀ out₀ chunk : List ℕ) (t : Turn) (b out : List ℕ) : Type 0 where
  pub within : count_of t.got ≤ length chunk
  pub moved : Moved (run (point_of s b₀) (take (count_of t.got) chunk)) t.stream b₀ b out₀ out 0 t.wrote (answer_bytes * count_of t.got)
  pub sign : t.sign ≡ signed (heard t.got) t.stream.phase t.put

-- What the reader had left, r before the turn and r' behind it, and what the writer held, w and w', where they say it: the reader lost the
-- bytes that were read, and had no more where none were; the writer gained what was handed to `write`, or a part of it where that failed.
pub record Carried (r r' w w' : Option (List ℕ)) (t : Turn) (chunk out : List ℕ) : Type 0 where
  pub taken : Consumes r r' (take (count_of t.got) chunk)
  pub last : 0 < length chunk → heard t.got ≡ Ended → IsAtEnd r'
  pub whole : is_put t.sign ≡ true → Appends w w' (take t.wrote out)
  pub part : (n : ℕ) × Appends w w' (take n (take t.wrote out))

-- behind the last turn: a line that has begun is over at the end of the input, and not where something failed
pub record Finished (g : Sign) (s : Stream) (b₀ : List ℕ) (wrote : ℕ) (b out : List ℕ) : Type 0 where
  pub short : wrote ≤ answer_bytes
  pub last : is_end g ≡ true → take wrote out ≡ (closed (point_of s b₀)).out
  pub none : is_end g ≡ false → (wrote ≡ 0) × (b ≡ b₀)

-- A whole run: `input` was read, turn by turn, and `output` handed to `write`, and then the first bytes of out. No contract can name what
-- `chunk` and `out` held in earlier turns; that they are joined in order is what `drive` has for its loop. Of a reader that says what it
-- has left, r at first and r' at the end, `input` is what it lost; a writer that says what it holds, w at first and w' at the end, gained
-- what was handed to `write`, or a part of it where that failed.
pub record Driven (r r' w w' : Option (List ℕ)) (e : End) (out : List ℕ) : Type 0 where
  pub input : List ℕ
  pub output : List ℕ
  pub whole : is_end e.sign ≡ true → output ++ take e.wrote out ≡ frames input
  pub lines : is_end e.sign ≡ false → (e.wrote ≡ 0) × (output ≡ (run (opening []) input).out)
  pub taken : Consumes r r' input
  pub given : is_put e.sign ≡ true → OnOk e.put (Appends w w' (output ++ take e.wrote out))
  pub part : (n : ℕ) × Appends w w' (take n (output ++ take e.wrote out))

-- The program over its whole input: what its turns hand to write, one after the other, is `frames` of what they read.
-- Assumes nothing.
use Prim.Native.Nat.{ℕ}
use mathlib.Core.Path.{◌≡◌, refl, sym, ◌∙◌, ap}
use mathlib.Core.List.{List, [], ◌++◌, append-nil}
use lib.ListN.{take}
use Rattle.model.specs.Ledger.{book_words, ledger_of}
use Rattle.model.specs.Lines.{frames}
use Rattle.lines.specs.Stream.{Point, opening, Turn, silent, behind, run, closed}
use Rattle.lines.specs.Post.{point_at, point_of, held_of, Going, Moved, Begun}
use Rattle.lines.specs.declared.stream.Phase.{Phase}
use Rattle.lines.specs.declared.stream.Phase.TheVariants.{Later, Over}
use Rattle.lines.specs.declared.stream.Stream.{Stream}
use Rattle.model.proofs.Ledger.{words-ledger_of}
use Rattle.lines.proofs.Turns.{run_none}
use Rattle.lines.proofs.Streams.{begun}
use Rattle.lines.proofs.Whole.{whole, run-append, whole_append, whole-over, whole-frames}

-- since the stream began, the bytes i were read and the bytes w handed to write
pub record Ran (i w : List ℕ) (s : Stream) (b : List ℕ) : Type 0 where
  pub going : Going s b
  pub same : run (opening []) i ≡ record { out = w; point = point_of s b }

whole_is : (p : Point) (i : List ℕ) → behind (run p i).out (closed (run p i).point) ≡ whole p i
unfolding whole
whole_is p i = refl

pub ran-none : {s : Stream} (b : List ℕ) → Begun s → Ran [] [] s b
ran-none b g = let k = begun b g in record { going = k.0; same = run_none (opening []) ∙ ap silent (sym k.1) }

-- one turn more, by what `feed` says of it: however the input is cut, it is joined again
pub ran-more : {i w b b₀ b' out₀ out : List ℕ} {s s' : Stream} {from wrote room : ℕ} (c : List ℕ) → Ran i w s b
    → Moved (run (point_of s b) c) s' b₀ b' out₀ out from wrote room → Ran (i ++ c) (w ++ take wrote out) s' b'
ran-more {i} {w} c r m =
    record {
      going = m.going;
      same =
          run-append (opening []) i c
          ∙ ap (λ (t : Turn). behind t.out (run t.point c)) r.same
          ∙ ap (behind w) (sym m.same);
    }

-- the end of the input, by what `close` says of it
pub ran_ends : {i w b o : List ℕ} {s : Stream} → Ran i w s b → o ≡ (closed (point_of s b)).out → w ++ o ≡ frames i
ran_ends {i} {w} r e =
    ap (λ (k : List ℕ). w ++ k) e
    ∙ ap (λ (t : Turn). t.out ++ (closed t.point).out) (sym r.same)
    ∙ ap (λ (t : Turn). t.out) (whole_is (opening []) i)
    ∙ whole-frames i

-- behind a refused settings line all is written, whatever is left of the input
pub ran_over : {i w b : List ℕ} {s : Stream} → Ran i w s b → s.phase ≡ Over → (rest : List ℕ) → w ≡ frames (i ++ rest)
ran_over {i} {w} {b} {s} r h rest =
    let x = ledger_of (take s.size b) in
    sym (append-nil w)
    ∙ ap (λ (k : List ℕ). w ++ k) (sym (ap (λ (p : Phase). (whole (point_at p x (held_of s.held)) rest).out) h ∙ whole-over rest))
    ∙ ap (λ (t : Turn). t.out ++ (whole t.point rest).out) (sym r.same)
    ∙ ap (λ (t : Turn). t.out) (sym (whole_append (opening []) i rest))
    ∙ whole-frames (i ++ rest)

-- behind a good settings line the book's words are those of the machine's ledger
pub book-shown : {s : Stream} {b : List ℕ} → Going s b → s.phase ≡ Later → book_words (ledger_of (take s.size b)) ≡ take s.size b
book-shown {s} {b} g h = let k = g.sized.good h in words-ledger_of (take s.size b) k.laid k.lawful

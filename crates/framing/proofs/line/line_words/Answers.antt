-- `line::line_words`: the words before k are read.
-- Assumes nothing.
use Prim.Native.Nat.{ℕ, ◌+◌, ◌/◌}
use native.Mathlib.Omega.{arith}
use mathlib.Core.Path.{◌≡◌, sym, ◌∙◌, ap}
use lib.ListN.{length, take, drop, set, get_or}
use lib.Seq.{length-take-le}
use Rattle.std.specs.Option.{is_some}
use Rattle.std.proofs.lemmas.List.{take_all, take_at}
use Rattle.model.specs.Lines.{line_words}
use Rattle.framing.proofs.Framing.{word_by, words_next, words-length}
use Rattle.framing.proofs.line.line_words.Goals as goal

-- as many words are written as the line has
pub unwrap-requires : goal.unwrap-requires
unwrap-requires c =
    let n = length c.args.line.now / 8 in
    let long = length-take-le n c.args.words.now c.requires.line_in_bounds in
    ap is_some (c.word_at.ensures ∙ word_by c.args.line.now c.loop-k.k c.requires.line_value (omega arith))

pub loop-k-preserved : goal.loop-k-preserved
loop-k-preserved c =
    let l = c.loop-k in
    let line = c.args.line.now in
    let long = length-take-le (length line / 8) c.args.words.now c.requires.line_in_bounds in
    let e = c.word_at.ensures ∙ word_by line l.k c.requires.line_value (omega arith) in
    let w : c.unwrap.result ≡ get_or (line_words line) l.k 0 = cc in
    ap (λ (x : ℕ). take (l.k + 1) (set l.word-items l.k x)) w
    ∙ words_next line l.word-items l.k (omega arith) (omega (arith, l.auto.word-items)) l.invariant

pub returns : goal.returns
returns c =
    let l = c.loop-k in
    let n = length c.args.line.now / 8 in
    let long = length-take-le n c.args.words.now c.requires.line_in_bounds in
    take_at l.word-items (drop n c.args.words.now) n (l.auto.word-items ∙ long)
    ∙ sym (take_all l.k l.word-items (omega (arith, l.auto.word-items)))
    ∙ l.invariant
    ∙ take_all l.k (line_words c.args.line.now) (omega (arith, words-length c.args.line.now))

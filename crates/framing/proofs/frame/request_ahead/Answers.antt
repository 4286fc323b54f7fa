-- `frame::request_ahead`: word by word.
-- Assumes nothing.
use mathlib.Core.Path.{sym, ◌∙◌, ap}
use Rattle.std.specs.Option.{is_some}
use Rattle.framing.proofs.Framing.{none-of, request_some}
use Rattle.framing.proofs.frame.request_ahead.Goals as goal

pub returns-then-not-all : goal.returns-then-not-all
returns-then-not-all c =
    none-of c.args.s.now
    (c.is_some.ensures ∙ ap is_some c.word_at-kind.ensures)
    (c.is_some-2.ensures ∙ ap is_some c.word_at-a.ensures)
    (c.is_some-3.ensures ∙ ap is_some c.word_at-b.ensures)
    (c.is_some-4.ensures ∙ ap is_some c.word_at-first.ensures)
    (c.is_some-5.ensures ∙ ap is_some c.word_at-last.ensures)
    (c.is_some-6.ensures ∙ ap is_some c.word_at-n.ensures)
    (c.is_some-7.ensures ∙ ap is_some c.word_at-info.ensures)
    c.if-not-all.true

pub returns : goal.returns
returns c =
    request_some c.args.s.now
    (sym c.unwrap.ensures ∙ c.word_at-kind.ensures)
    (sym c.unwrap-2.ensures ∙ c.word_at-a.ensures)
    (sym c.unwrap-3.ensures ∙ c.word_at-b.ensures)
    (sym c.unwrap-4.ensures ∙ c.word_at-first.ensures)
    (sym c.unwrap-5.ensures ∙ c.word_at-last.ensures)
    (sym c.unwrap-6.ensures ∙ c.word_at-n.ensures)
    (sym c.unwrap-7.ensures ∙ c.word_at-info.ensures)

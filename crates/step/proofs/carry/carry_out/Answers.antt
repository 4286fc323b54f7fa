-- Judged by the kind's own function: a refusal leaves the book.
-- Assumes nothing.
use mathlib.Core.Path.{refl, sym, ◌∙◌, ap}
use Rattle.model.proofs.Answers.{err-is}
use Rattle.book.specs.declared.site.Site.{Site}
use Rattle.book.proofs.Goods.{good-laid}
use Rattle.step.proofs.Outcomes.{refused-book}
use Rattle.step.proofs.carry.carry_out.Goals as goal

pub site_of-site-requires : goal.site_of-site-requires
site_of-site-requires g c = (good-laid c.requires.good).ranges

pub returns-in_err-value : goal.returns-in_err-value
returns-in_err-value g c =
    let told = c.requires.judges.says _ _ refl (ap (λ (x : Site). x.settings) c.site_of-site.ensures) c.judge.ensures in
    rw (err-is _ c.from_residual.ensures.1) (refused-book c.requires.good c.args.r (sym told ∙ c.in_err-value.was))

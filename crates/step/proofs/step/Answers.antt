-- `step`: the kind's own function in each arm and the words of its answer, and question 3 where no kind has the number.
-- Assumes nothing.
use mathlib.Core.Path.{refl, sym}
use Rattle.model.specs.Answers.{refused_with}
use Rattle.book.specs.Lent.{reading}
use Rattle.kinds.proofs.Numbers.{no_kind}
use Rattle.judge.proofs.Whole.{step-none}
use Rattle.step.proofs.Outcomes.{refused-book}
use Rattle.step.proofs.step.Goals as goal

pub returns-in_default : goal.returns-in_default
returns-in_default c =
    record {
      answer = refused_with 3 0;
      told = refl;
      is = refused-book c.requires c.args.r
          (sym (step-none (reading c.args.book.now) c.args.r (no_kind c.args.r.kind c.in_default.in_default-own.rest)));
    }

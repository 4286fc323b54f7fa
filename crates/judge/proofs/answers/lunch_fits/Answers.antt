-- Question 8, then the others of kind 14.
-- Assumes nothing.
use borrow.Author.Tests.{le-leb, lt-leb}
use Rattle.judge.specs.Chains.{lunch_fits}
use Rattle.questions.proofs.Seats.{capacity-le}
use native.Mathlib.Omega.{arith}
use Rattle.judge.proofs.answers.lunch_fits.Goals as goal

pub returns-then-n-lt1 : goal.returns-then-n-lt1
unfolding lunch_fits
returns-then-n-lt1 c = rw (lt-leb _ _ c.if-n-lt1.true) c.refused.ensures

pub returns-then-capacity-n : goal.returns-then-capacity-n
unfolding lunch_fits
returns-then-capacity-n c =
    rw (
      ← c.capacity.ensures,
      le-leb _ _ c.if-n-lt1.false,
      lt-leb _ _ c.if-capacity-n.true,
    ) c.refused-then-capacity-n.ensures

pub add_lunch-requires : goal.add_lunch-requires
add_lunch-requires c =
    let most = capacity-le c.args.diary.good c.args.a c.requires.a_lt_dining in
    record {
      last_lt_dates = c.requires.last_lt_dates;
      a_lt_dining = c.requires.a_lt_dining;
      b_lt_meetings = c.requires.b_lt_meetings;
      n_bound = omega (arith, c.if-capacity-n.false, c.capacity.ensures, most);
      first_le_last = c.requires.first_le_last;
    }

pub returns : goal.returns
unfolding lunch_fits
returns c =
    rw (
      ← c.capacity.ensures,
      le-leb _ _ c.if-n-lt1.false,
      le-leb _ _ c.if-capacity-n.false,
    ) c.add_lunch.ensures

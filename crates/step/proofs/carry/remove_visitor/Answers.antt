-- Kind 3: refused by the first no of questions 4 to 7, and else the removal's words and its count.
-- Assumes nothing.
use mathlib.Core.Path.{refl, sym, ap}
use Rattle.book.specs.Lent.{reading}
use Rattle.book.proofs.Goods.{good-laid}
use Rattle.model.specs.Kinds.{kind_of, Kind.remove_visitor}
use Rattle.model.proofs.Answers.{err-is}
use Rattle.judge.proofs.Whole.{none-no, refused-fields, ready, past-seven}
use Rattle.step.proofs.Outcomes.{refused-book, removal-done}
use Rattle.step.proofs.carry.remove_visitor.Goals as goal

pub returns-in_err-fields : goal.returns-in_err-fields
unfolding kind_of
returns-in_err-fields c =
    let no = refused-fields c.requires.good c.args.r remove_visitor (ap kind_of c.requires.kind_value) c.visitor_row.ensures refl c.fields.ensures c.in_err-fields.was in
    rw (err-is _ c.from_residual.ensures.1) (refused-book c.requires.good c.args.r (sym no))

pub site_of-site-requires : goal.site_of-site-requires
site_of-site-requires c = (good-laid c.requires.good).ranges

pub remove_visitor-gone-requires : goal.remove_visitor-gone-requires
unfolding kind_of
remove_visitor-gone-requires c =
    let h = ready c.requires.good c.args.r remove_visitor (ap kind_of c.requires.kind_value) c.visitor_row.ensures
    refl (none-no c.fields.ensures c.in_ok-fields.was) in
    rw c.site_of-site.ensures (record {
      good = c.requires.good;
      v_lt_visitors = h.b;
      last_lt_dates = h.slot;
    })

pub returns : goal.returns
unfolding kind_of
returns c =
    removal-done (reading c.args.book.now) c.args.r (ap kind_of c.requires.kind_value)
    (past-seven c.requires.good c.args.r remove_visitor (ap kind_of c.requires.kind_value) c.visitor_row.ensures refl (none-no c.fields.ensures c.in_ok-fields.was)) c.remove_visitor-gone.ensures.book_after c.remove_visitor-gone.ensures.value

-- The sessions passed are good.
-- Assumes nothing.
use Prim.Native.Nat.{◌/◌, ◌≤◌}
use mathlib.Core.Path.{◌≡◌, ◌∙◌}
use native.Mathlib.Omega.{arith}
use lib.ListN.{length}
use borrow.Author.Count.{below_none, below_more}
use Rattle.std.proofs.Math.Logic.{⊎_elim}
use Rattle.std.proofs.lemmas.List.{length_push}
use Rattle.rules.proofs.Answers.{said-true, said-false}
use Rattle.checking.proofs.Cuts.{cut-first, cut-row, cut-next, cut-inside, cut-all}
use Rattle.checking.proofs.dates.Parts.sessions.Goals as goal

pub loop-stand-init : goal.loop-stand-init
loop-stand-init c =
    let z = c.zip-stand-items.ensures in
    let y = c.zip.ensures in
    let first = cut-first _ _ c.chunks_exact-stands_of.ensures.size c.chunks_exact-stands_of.ensures.rest in
    let second = cut-first _ _ c.chunks_exact-attends.ensures.size c.chunks_exact-attends.ensures.rest in
    let third = cut-first _ _ c.chunks_exact-confs.ensures.size c.chunks_exact-confs.ensures.rest in
    rw (c.into_iter-stand-iterator.ensures.into_iter_gives, z.first, z.second, y.first, y.second)
    (record { stand = first; attend = second; conf = third; passed = below_none _ })

pub session-requires : goal.session-requires
session-requires c =
    let r = c.args.self.now.ranges in
    let i = c.loop-stand.invariant in
    let s = c.in-Some.ensures.steps in
    let stand = s.0.0.1.1 ∙ i.stand.wide in
    let attend = s.0.1.1.1 ∙ i.attend.wide in
    record {
      le_meetings = (r.meetings.0, r.meetings.1);
      stand_len = (stand, omega (arith, attend, r.visitors.1));
      stands_len = omega arith;
      by_index = λ j h. c.requires.by_index j (omega (arith, attend, h));
    }

pub returns-then-not-session : goal.returns-then-not-session
returns-then-not-session c =
    let p = c.args.self.now in
    let i = c.loop-stand.invariant in
    let s = c.in-Some.ensures.steps in
    let rooms : length c.in-Some.conf.now / 2 ≡ p.settings.rooms = omega (arith, s.1.1.1 ∙ i.conf.wide) in
    λ all. said-false c.session.result (c.if-not-session.true)
    (rw (rooms, cut-row i.stand _ _ s.0.0.1.0 s.0.0.1.1, cut-row i.attend _ _ s.0.1.1.0 s.0.1.1.1, cut-row i.conf _ _ s.1.1.0 s.1.1.1)
    at c.session.ensures)
    (all _ (cut-inside i.stand _ _ s.0.0.1.0 s.0.0.1.1 p.n p.long.stands (omega (arith, p.ranges.meetings))))

pub loop-stand-preserved : goal.loop-stand-preserved
loop-stand-preserved c =
    let i = c.loop-stand.invariant in
    let s = c.in-Some.ensures.steps in
    let rooms : length c.in-Some.conf.now / 2 ≡ c.args.self.now.settings.rooms = omega (arith, s.1.1.1 ∙ i.conf.wide) in
    rw (length_push c.loop-stand.yielded ((c.in-Some.stand, c.in-Some.attend), c.in-Some.conf)) (record {
      stand = cut-next i.stand _ _ s.0.0.1.0 s.0.0.1.1 s.0.0.0;
      attend = cut-next i.attend _ _ s.0.1.1.0 s.0.1.1.1 s.0.1.0;
      conf = cut-next i.conf _ _ s.1.1.0 s.1.1.1 s.1.0;
      passed = below_more _ _ i.passed (said-true c.session.result (c.if-not-session.false)
          (rw (rooms, cut-row i.stand _ _ s.0.0.1.0 s.0.0.1.1, cut-row i.attend _ _ s.0.1.1.0 s.0.1.1.1, cut-row i.conf _ _ s.1.1.0 s.1.1.1)
          at c.session.ensures));
    })

pub returns : goal.returns
returns c =
    let i = c.loop-stand.invariant in
    let p = c.args.self.now in
    let all : p.n ≤ length c.loop-stand.yielded = ⊎_elim
    (λ x. ⊎_elim (λ y. cut-all i.stand p.n p.long.stands y.1.1.0) (λ y. cut-all i.attend p.n p.long.attends y.1.1.0) x.1)
    (λ y. cut-all i.conf p.n p.long.confs y.1.1.0) c.in-None.ensures.steps in
    λ k h. i.passed k (omega (arith, h, all))

-- The sessions before i have their lines.
-- Assumes nothing.
use Prim.Native.Nat.{ℕ, ◌-◌}
use mathlib.Core.Path.{◌≡◌, subst}
use native.Mathlib.Omega.{arith}
use Rattle.model.specs.Reading.{state_of}
use Rattle.model.specs.Page.{join_from, session_lines, page_bytes}
use Rattle.book.specs.Lent.{reading}
use Rattle.text.specs.Put.{Put}
use Rattle.pages.specs.Pages.{between}
use Rattle.pages.proofs.Joins.{join-next, join-start, still-room, written_none, written-more}
use Rattle.pages.proofs.lines.put_sessions.Goals as goal

pub loop-i-init : goal.loop-i-init
loop-i-init c =
    let a = c.args in (
      omega arith,
      omega (arith, c.requires.from_le_to),
      written_none a.page.now 0
          (join-start (session_lines (state_of (reading a.diary.words.now))) a.from.0),
    )

pub put_session-at-requires : goal.put_session-at-requires
unfolding between
put_session-at-requires c =
    let a = c.args in
    let room = still-room (session_lines (state_of (reading a.diary.words.now))) a.from.0 c.loop-i.i a.to.0 c.loop-i.invariant.0 (omega arith)
    (omega (arith, c.requires.to_in_bounds)) c.loop-i.invariant.2 in
    record {
      session_bound = omega (arith, c.requires.from_le_to);
      session_in_bounds = room;
    }

pub loop-i-preserved : goal.loop-i-preserved
loop-i-preserved c =
    let a = c.args in (
      omega (arith, c.loop-i.invariant.0),
      omega (arith, c.loop-i-test.true),
      written-more (join-next (session_lines (state_of (reading a.diary.words.now))) a.from.0 c.loop-i.i c.loop-i.invariant.0) c.loop-i.invariant.2
          c.put_session-at.ensures,
    )

pub returns : goal.returns
unfolding between
returns c =
    let a = c.args in
    let e : c.loop-i.i ≡ a.to.0 = omega arith in
    subst (λ (k : ℕ). Put a.page.now c.loop-i.page 0
    (page_bytes (join_from (session_lines (state_of (reading a.diary.words.now))) a.from.0 (k - a.from.0)))) e c.loop-i.invariant.2.put

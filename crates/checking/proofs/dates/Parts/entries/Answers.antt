-- The tables say what the words say.
-- Assumes nothing.
use Prim.Native.Nat.{◌/◌}
use mathlib.Core.Path.{◌≡◌, refl, ◌∙◌}
use native.Mathlib.Omega.{arith}
use lib.ListN.{length}
use Rattle.model.specs.Words.{groups}
use Rattle.rules.proofs.Answers.{said-true, said-false, relay}
use Rattle.rules.proofs.Barring.{most-low}
use Rattle.checking.proofs.ByTables.{guested, guests, met, session, eaten, triple}
use Rattle.rules.proofs.Parts.{row-long}
use Rattle.checking.proofs.dates.Parts.entries.Goals as goal

pub returns-then-not-guest_row : goal.returns-then-not-guest_row
returns-then-not-guest_row c =
    λ d. said-false c.guest_row.result (c.if-not-guest_row.true) c.guest_row.ensures.decides
    (guests _ _ _ c.bar_past.ensures.0 _ d.slept)

pub bound-requires : goal.bound-requires
bound-requires c =
    let r = c.args.self.now.ranges in
    let k : length c.bar_past.new.table ≡ 1024 = c.bar_past.auto.table in
    (r.visitors.1, omega (arith, r.visitors.1, k))

pub sessions-requires : goal.sessions-requires
sessions-requires c =
    record {
      stands_len = refl;
      by_index = most-low c.bar_past.new.table _ _ c.bound.new.bounds c.bound.ensures;
    }

pub returns-then-not-sessions : goal.returns-then-not-sessions
returns-then-not-sessions c =
    λ d. said-false c.sessions.result (c.if-not-sessions.true) c.sessions.ensures
    (λ p h. session _ _ _ c.bar_past.ensures.0 _ c.bound.new.bounds c.bound.ensures _ _ _ _ (row-long _ _ _) (d.met p h))

pub bar_date-requires : goal.bar_date-requires
bar_date-requires c =
    let k : length c.sessions.new.stands ≡ 129 = c.sessions.auto.stands in
    (omega (arith, c.args.self.now.ranges.meetings.1), omega (arith, c.args.self.now.long.stands), omega (arith, k))

pub triples-requires : goal.triples-requires
triples-requires c =
    let k : length c.sessions.new.stands ≡ 129 = c.sessions.auto.stands in
    let m = c.args.self.now.ranges.meetings.1 in
    record {
      few = (omega (arith, m, c.args.self.now.long.lunches), omega (arith, m, k, c.bar_date.auto.table, c.args.self.now.long.lunches), c.args.self.now.ranges.dining.1);
      by_index = c.args.self.now.caps_of.low;
    }

pub returns-then-not-triples : goal.returns-then-not-triples
returns-then-not-triples c =
    let few : length c.args.self.now.lunch.now / 3 ≡ c.args.self.now.settings.meetings = omega (arith, c.args.self.now.long.lunches) in
    let one = triple c.args.self.now.stand.now c.args.self.now.n (groups c.args.self.now.settings.meetings) c.args.self.now.settings.meetings c.bar_date.new.table c.bar_date.ensures (omega arith)
    c.args.self.now.lunch.now _ _ in
    λ d. said-false c.triples.result (c.if-not-triples.true) (rw few at c.triples.ensures) (record { each = λ j h. one j h (d.eaten j h); sums = d.sums })

pub rides-requires : goal.rides-requires
rides-requires c = record {
  few = c.args.self.now.ranges.visitors.1;
  size = c.bar_past.auto.table;
  same = c.guest_row.auto.seen ∙ c.bar_past.auto.table;
  none = c.bar_past.ensures.0.none;
  past = c.bar_past.ensures.1;
  kept = c.guest_row.ensures.past;
}

pub returns : goal.returns
returns c =
    let few : length c.args.self.now.lunch.now / 3 ≡ c.args.self.now.settings.meetings = omega (arith, c.args.self.now.long.lunches) in
    let b = c.bar_past.ensures.0 in
    let slept = said-true c.guest_row.result (c.if-not-guest_row.false) c.guest_row.ensures.decides in
    let sat = said-true c.sessions.result (c.if-not-sessions.false) c.sessions.ensures in
    let lunched = said-true c.triples.result (c.if-not-triples.false) (rw few at c.triples.ensures) in
    relay c.rides.result
    (λ rides. record {
      pad = c.requires;
      slept = guested _ _ _ b _ slept;
      met = λ p h. met _ _ _ b _ c.bound.new.bounds c.bound.ensures _ _ _ _ (row-long _ _ _) (sat p h);
      eaten = eaten c.args.self.now.stand.now c.args.self.now.n (groups c.args.self.now.settings.meetings) _ c.bar_date.new.table c.bar_date.ensures (omega arith) _ _ _ lunched;
      sums = lunched.sums;
      ridden = λ i h. guested _ _ _ b _ (rides i h);
    })
    (λ d i h. guests _ _ _ b _ (d.ridden i h))
    c.rides.ensures

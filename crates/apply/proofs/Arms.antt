-- What the writes of a kind need: the grids of its regions, the bounds that the questions give, and that they leave the
-- words of the machine's state.
-- Assumes nothing.
use Prim.Native.Nat.{ℕ, ◌+◌, ◌/◌, ◌≤◌, ◌<◌}
use mathlib.Core.Path.{◌≡◌, refl, sym, ◌∙◌, ap, subst}
use mathlib.Core.Bool.{true, false≢true}
use Rattle.std.specs.Prelude.{Option, Some}
use mathlib.Core.List.{List, ◌++◌}
use native.Mathlib.Omega.{arith}
use borrow.Author.Tests.{ltb-true}
use Rattle.model.specs.declared.Settings.{Settings}
use Rattle.model.specs.declared.Request.{Request}
use Rattle.model.specs.Answers.{Answer}
use Rattle.std.specs.Prelude.{Ok, Err}
use Rattle.model.specs.State.{State}
use Rattle.model.specs.Kinds.{Kind, kind_of, Field, row, limit, slots_of}
use Rattle.model.specs.Kinds.Field.{unused, visitor, meeting, room, dining_room, hotel_room, transport}
use Rattle.model.specs.Questions.{test, below, always, further, Question.a_below, Question.b_below}
use Rattle.model.specs.Machine.{Outcome, change, step}
use Rattle.model.specs.Words.{Region, leaves, hotel_cells, standings, attend_cells, conf_pairs, lunch_triples, ride_cells, slots, items, groups, width, words}
use Rattle.model.specs.Reading.{settings_of, read_state, state_of}
use Rattle.model.proofs.Laws.{Sound}
use Rattle.model.proofs.Sound.{book-sound}
use Rattle.model.proofs.Keeps.{Yes, said, judged, yes, slots-fit}
use Rattle.model.proofs.Frame.{settings-change}
use Rattle.model.proofs.Done.{Accepted, accepted-step, done-of}
use Rattle.book.specs.declared.grid.Grid.{Grid}
use Rattle.book.specs.declared.grid.Grids.{Grids}
use Rattle.book.specs.Grids.{grid_of, grids_of, Laid}
use Rattle.book.specs.Lent.{Lies}
use Rattle.book.specs.Good.{Good}
use Rattle.book.proofs.Regions.{lies, small, group-lt}
use Rattle.units.specs.Ranges.{Ranges}
use Rattle.book.proofs.Goods.{good-laid}
use Rattle.apply.specs.Accepted.{accepted}
use Rattle.apply.specs.Stores.{Span, Single}
use Rattle.apply.proofs.Stages.{Carries, carries-all, carries-shown}

-- the grid of a region among a site's
abbrev pub grid : Region → Grids → Grid
grid leaves G = G.leave
grid hotel_cells G = G.hotel
grid standings G = G.standing
grid attend_cells G = G.attend
grid conf_pairs G = G.conf
grid lunch_triples G = G.lunch
grid ride_cells G = G.ride

grid-is : (g : Region) (S : Settings) → grid g (grids_of S) ≡ grid_of S g
grid-is leaves S = refl
grid-is hotel_cells S = refl
grid-is standings S = refl
grid-is attend_cells S = refl
grid-is conf_pairs S = refl
grid-is lunch_triples S = refl
grid-is ride_cells S = refl

-- the grids G of a site, in words c that keep those of a laid book b
module _ (S : Settings) {G : Grids} (sited : G ≡ grids_of S) (g : Region) where
  is : grid g G ≡ grid_of S g
  is = ap (grid g) sited ∙ grid-is g S

  pub slot_of : {i : ℕ} → i < (grid g G).slots → i < slots S g
  slot_of {i} q = subst (λ (h : Grid). i < h.slots) is q

  pub item_of : {j : ℕ} → j < items S g → j < (grid g G).items
  item_of {j} q = subst (λ (h : Grid). j < h.items) (sym is) q

  module _ {b c : List ℕ} (l : Laid S b) (keep : (f : Grid) → Lies f b → Lies f c) where
    pub span_of : (last : ℕ) → last < slots S g → Span (grid g G) c last
    span_of last q =
        subst (λ (h : Grid). Span h c last) (sym is)
        (record { lies = keep (grid_of S g) (lies S b l g); narrow = (small S l.ranges g).width; slot = q })

    pub single_of : width g ≡ 1 → (to : ℕ) → to ≤ slots S g → Single (grid g G) c to
    single_of one to q =
        subst (λ (h : Grid). Single h c to) (sym is)
        (record { lies = keep (grid_of S g) (lies S b l g); narrow = one; most = q })

-- no limit of a field is above 512
few : {S : Settings} → Ranges S → (f : Field) (n : ℕ) → limit S f ≡ Some n → n ≤ 512
few p unused n e = cc
few {S} p visitor n e = let q : S.visitors ≡ n = cc in omega (arith, p.visitors)
few {S} p meeting n e = let q : S.meetings ≡ n = cc in omega (arith, p.meetings)
few {S} p room n e = let q : S.rooms ≡ n = cc in omega (arith, p.rooms)
few {S} p dining_room n e = let q : S.dining ≡ n = cc in omega (arith, p.dining)
few {S} p hotel_room n e = let q : S.hotels ≡ n = cc in omega (arith, p.hotels)
few {S} p transport n e = let q : S.transports ≡ n = cc in omega (arith, p.transports)

-- the words after the machine's step
abbrev pub done : List ℕ → Request → List ℕ
done b r = words (step (state_of b) r).state

-- what is known of an accepted request of kind k: a good book, its grids, that it is accepted, and its kind
pub record Known (S : Settings) (b : List ℕ) (G : Grids) (r : Request) (k : Kind) : Type 0 where
  pub good : Good S b
  pub grids : G ≡ grids_of S
  pub done : accepted (step (state_of b) r).answer ≡ true
  pub kind : kind_of r.kind ≡ Some k

pub known : {S : Settings} {b : List ℕ} {G : Grids} {r : Request} (k : Kind) → Good S b → G ≡ grids_of S
    → accepted (step (state_of b) r).answer ≡ true → kind_of r.kind ≡ Some k → Known S b G r k
known k good grids done kind = record { good = good; grids = grids; done = done; kind = kind }

module _ {S : Settings} {b : List ℕ} {G : Grids} {r : Request} {k : Kind} (w : Known S b G r k) where
  whole : Accepted (state_of b) r k
  whole = go (step (state_of b) r).answer refl w.done
    where
      go : (o : Answer) → (step (state_of b) r).answer ≡ o → accepted o ≡ true → Accepted (state_of b) r k
      go (Ok v) q t = done-of (state_of b) r k v w.kind q
      go (Err refused) q t = let n = refused.number in let p = refused.place in absurd (false≢true t)

  answers : Yes (state_of b) r k (always ++ further k)
  answers = judged (state_of b) r k (always ++ further k) whole.judged

  pub laid : Laid S b
  laid = good-laid w.good

  -- the bounds of its fields and slots
  slots-ok : r.last < slots_of S (row k).unit
  unfolding state_of read_state
  slots-ok =
      subst (λ (S : Settings). r.last < slots_of S (row k).unit) (sym w.good.read)
      (slots-fit (state_of b) r k (said (state_of b) r k 7 answers)).1

  pub a-ok : (n : ℕ) → limit S (row k).a ≡ Some n → r.a < n
  unfolding test state_of read_state
  a-ok n q =
      let t : below (limit S (row k).a) r.a ≡ true
      = subst (λ (S : Settings). below (limit S (row k).a) r.a ≡ true) (sym w.good.read)
      (yes (state_of b) r k a_below refl (said (state_of b) r k 5 answers)) in
      ltb-true r.a n (subst (λ (o : Option ℕ). below o r.a ≡ true) q t)

  pub b-ok : (n : ℕ) → limit S (row k).b ≡ Some n → r.b < n
  unfolding test state_of read_state
  b-ok n q =
      let t : below (limit S (row k).b) r.b ≡ true
      = subst (λ (S : Settings). below (limit S (row k).b) r.b ≡ true) (sym w.good.read)
      (yes (state_of b) r k b_below refl (said (state_of b) r k 6 answers)) in
      ltb-true r.b n (subst (λ (o : Option ℕ). below o r.b ≡ true) q t)

  pub a_few : {n : ℕ} → limit S (row k).a ≡ Some n → r.a < 1000
  a_few {n} e = omega (arith, a-ok n e, few laid.ranges (row k).a n e)

  pub b_few : {n : ℕ} → limit S (row k).b ≡ Some n → r.b < 1000
  b_few {n} e = omega (arith, b-ok n e, few laid.ranges (row k).b n e)

  -- one of the grids, and the item of it that a field names, or the pool word
  module _ (g : Region) where
    pub span : slots S g ≡ slots_of S (row k).unit → Span (grid g G) b r.last
    span u = span_of S w.grids g laid (λ f l. l) r.last (rw u slots-ok)

    pub single : width g ≡ 1 → slots S g ≡ slots_of S (row k).unit → Single (grid g G) b (r.last + 1)
    single one u = single_of S w.grids g laid (λ f l. l) one (r.last + 1) (rw u (omega (arith, slots-ok)))

    pub item_a : limit S (row k).a ≡ Some (items S g) → r.a < (grid g G).items
    item_a e = item_of S w.grids g (a-ok (items S g) e)

    pub item_b : limit S (row k).b ≡ Some (items S g) → r.b < (grid g G).items
    item_b e = item_of S w.grids g (b-ok (items S g) e)

    pub pool_a : {n : ℕ} → limit S (row k).a ≡ Some n → items S g ≡ groups n → r.a / 32 < (grid g G).items
    pool_a {n} e i = item_of S w.grids g (rw i (group-lt n r.a (a-ok n e)))

    pub pool_b : {n : ℕ} → limit S (row k).b ≡ Some n → items S g ≡ groups n → r.b / 32 < (grid g G).items
    pool_b {n} e i = item_of S w.grids g (rw i (group-lt n r.b (b-ok n e)))

  -- the words of the changed state are those of the machine's
  done-words : words (change (state_of b) r k) ≡ done b r
  done-words = ap words (sym (ap (λ (o : Outcome). o.state) (accepted-step (state_of b) r k whole)))

  -- writes that leave the words of the changed state
  pub arm : (W : Settings → Grids → List ℕ)
      → ((x : State) → x.settings ≡ S → Sound x → Carries x.settings x b → Yes x r k (always ++ further k)
      → Carries x.settings (change x r k) (W x.settings (grids_of x.settings)))
      → W S G ≡ done b r
  unfolding state_of read_state
  arm W write =
      ap (W S) w.grids
      ∙ ap (λ (S : Settings). W S (grids_of S)) w.good.read
      ∙ carries-all (change (state_of b) r k) _
      (subst (λ (T : Settings). Carries T (change (state_of b) r k) (W (settings_of b) (grids_of (settings_of b))))
      (sym (settings-change (state_of b) r k))
      (write (state_of b) (sym w.good.read) (book-sound b w.good.laid w.good.lawful)
      (carries-shown b w.good.laid w.good.lawful) answers))
      ∙ done-words

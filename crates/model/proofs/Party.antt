-- Parties (section 17): a party that is done is its guests' requests one by one, one that is refused names the first guest whom kind 10
-- would refuse after those before; a party of one is that request; and guests who are different visitors can change places.
-- Assumes nothing.
use Prim.Native.Nat.{ℕ}
use mathlib.Core.Path.{◌≡◌, refl, sym, ◌∙◌, ap, ap₂}
use mathlib.Core.Bool.{Bool, true, false, not, ◌&&◌, cond}
use mathlib.Core.List.{List, [], ◌∷◌, ◌++◌, map}
use native.Mathlib.Omega.{arith}
use lib.Dec.{eqb}
use lib.ListN.{length, length-append, replicate}
use borrow.Author.Tests.{eqb-true}
use Rattle.model.proofs.Answers.{same-number, same-place}
use Rattle.model.specs.declared.Settings.{Settings}
use Rattle.model.specs.declared.Request.{Request}
use Rattle.model.specs.declared.Guest.{Guest}
use Rattle.model.specs.Answers.{Answer}
use Rattle.std.specs.Prelude.{Ok, Err}
use Rattle.model.specs.Answers.{done_with, refused_with}
use Rattle.model.specs.State.{State, attends}
use Rattle.model.specs.Bounded.{within, any, failing}
use Rattle.model.specs.Kinds.{kind_of, Kind.add_attend}
use Rattle.model.specs.Questions.{always, further, ask, test, judge, Question.absent, Question.elsewhere}
use Rattle.model.specs.Machine.{Outcome, slot, plus, with_attend, change, value, step, Steps, steps}
use Rattle.model.specs.Machine.{joining, if_done, joined, all_or_none, party_fits, admit}
use Rattle.model.proofs.Search.{never}
use Rattle.model.proofs.Frame.{step-settings}
use Rattle.model.proofs.Done.{Accepted, accepted-step, done-of, refused-keeps, judge-same}
use Rattle.model.proofs.Runs.{AllZero}

abbrev done_at : State → Outcome
done_at y = record { answer = done_with 0; state = y }

-- a guest who is added: done with 0, and the state with their entries
module _ (x : State) (m : ℕ) (g : Guest) where
  pub accepted-guest : (v : ℕ) → (step x (joining m g)).answer ≡ done_with v → Accepted x (joining m g) add_attend
  unfolding kind_of
  accepted-guest v e = done-of x (joining m g) add_attend v refl e

  pub added : Accepted x (joining m g) add_attend → step x (joining m g) ≡ done_at (change x (joining m g) add_attend)
  unfolding value
  added h = accepted-step x (joining m g) add_attend h

-- no guest is left, or one is added or refused
module _ (x : State) (m : ℕ) (g : Guest) (gs : List Guest) where
  pub joined-on : (y : State) → step x (joining m g) ≡ done_at y → joined x m (g ∷ gs) ≡ joined y m gs
  unfolding joined
  joined-on y e = rw e

  pub joined-off : {n p : ℕ} → (step x (joining m g)).answer ≡ refused_with n p → joined x m (g ∷ gs) ≡ step x (joining m g)
  unfolding joined
  joined-off e = rw e

-- all guests are added, and lead to y
pub record AllIn (x : State) (m : ℕ) (gs : List Guest) (y : State) : Type 0 where
  pub joined : joined x m gs ≡ done_at y
  pub requests : AllZero (steps x (map (joining m) gs)) (length gs) y

-- the first guest who is refused: those before are all added, and then kind 10 refuses this one
pub record FirstOut (x : State) (m : ℕ) (gs : List Guest) (n p : ℕ) : Type 0 where
  pub before : List Guest
  pub guest : Guest
  pub after : List Guest
  pub reached : State
  pub are : gs ≡ before ++ guest ∷ after
  pub added : AllIn x m before reached
  pub refused : (step reached (joining m guest)).answer ≡ refused_with n p

-- one of the two is so
pub data Fate (x : State) (m : ℕ) (gs : List Guest) : Type 0 where
  all_in : (y : State) → AllIn x m gs y → Fate x m gs
  first_out : (n p : ℕ) → FirstOut x m gs n p → (joined x m gs).answer ≡ refused_with n p → Fate x m gs

-- one guest more in front
first_step : (x y : State) (r : Request) (rs : List Request) → step x r ≡ done_at y
    → steps x (r ∷ rs) ≡ record { answers = done_with 0 ∷ (steps y rs).answers; state = (steps y rs).state }
unfolding steps
first_step x y r rs e =
    ap (λ (o : Outcome). record { answers = o.answer ∷ (steps o.state rs).answers; state = (steps o.state rs).state }) e

all-in : (x y z : State) (m : ℕ) (g : Guest) (gs : List Guest) → step x (joining m g) ≡ done_at y → AllIn y m gs z → AllIn x m (g ∷ gs) z
all-in x y z m g gs e a =
    let q = first_step x y (joining m g) (map (joining m) gs) e in
    record {
      joined = joined-on x m g gs y e ∙ a.joined;
      requests = record {
        answers = ap (λ (l : Steps). l.answers) q ∙ ap (λ (l : List Answer). done_with 0 ∷ l) a.requests.answers;
        state = ap (λ (l : Steps). l.state) q ∙ a.requests.state;
      };
    }

pub fate : (x : State) (m : ℕ) (gs : List Guest) → Fate x m gs
unfolding joined steps
fate x m [] = all_in x (record { joined = refl; requests = record { answers = refl; state = refl } })
fate x m (g ∷ gs) = go (step x (joining m g)).answer refl (fate (change x (joining m g) add_attend) m gs)
  where
    later : (y : State) → step x (joining m g) ≡ done_at y → Fate y m gs → Fate x m (g ∷ gs)
    later y e (all_in z a) = all_in z (all-in x y z m g gs e a)
    later y e (first_out n p f h) =
        first_out n p (
        record {
          before = g ∷ f.before;
          guest = f.guest;
          after = f.after;
          reached = f.reached;
          are = ap (λ (l : List Guest). g ∷ l) f.are;
          added = all-in x y f.reached m g f.before e f.added;
          refused = f.refused;
        }
        )
        (ap (λ (o : Outcome). o.answer) (joined-on x m g gs y e) ∙ h)

    go : (a : Answer) → (step x (joining m g)).answer ≡ a → Fate (change x (joining m g) add_attend) m gs → Fate x m (g ∷ gs)
    go (Ok v) e f = later (change x (joining m g) add_attend) (added x m g (accepted-guest x m g v e)) f
    go (Err refused) e f = let n = refused.number in let p = refused.place in
        first_out n p (
        record {
          before = [];
          guest = g;
          after = gs;
          reached = x;
          are = refl;
          added = record { joined = refl; requests = record { answers = refl; state = refl } };
          refused = e;
        }
        )
        (ap (λ (o : Outcome). o.answer) (joined-off x m g gs e) ∙ e)

-- how an answer of joined is carried over to the party
module _ (x : State) (m : ℕ) (gs : List Guest) where
  pub admit-unfit : party_fits gs ≡ false → admit x m gs ≡ record { answer = refused_with 27 0; state = x }
  unfolding admit
  admit-unfit f = rw f

  pub admit-in : party_fits gs ≡ true → (y : State) → joined x m gs ≡ done_at y → admit x m gs ≡ done_at y
  unfolding admit
  admit-in f y e = rw (f, e)

  pub admit-out : party_fits gs ≡ true → {n p : ℕ} → (joined x m gs).answer ≡ refused_with n p → admit x m gs ≡ record { answer = refused_with n p; state = x }
  unfolding admit
  admit-out f e = rw (f, e)

-- guests whose requests are all done are all added
all-joined : (x : State) (m : ℕ) (gs : List Guest) → (steps x (map (joining m) gs)).answers ≡ replicate (length gs) (done_with 0)
    → joined x m gs ≡ done_at (steps x (map (joining m) gs)).state
unfolding joined steps
all-joined x m [] e = refl
all-joined x m (g ∷ gs) e =
    let o : Outcome = step x (joining m g) in
    let later : List Answer = (steps o.state (map (joining m) gs)).answers in
    let q : o.answer ∷ later ≡ done_with 0 ∷ replicate (length gs) (done_with 0) = e in
    let h : o.answer ≡ done_with 0 = cc in
    let t : later ≡ replicate (length gs) (done_with 0) = cc in
    joined-on x m g gs o.state (λ j. record { answer = h j; state = o.state }) ∙ all-joined o.state m gs t

module _ (x : State) (m : ℕ) (gs : List Guest) where
  -- "A party that is done is its guests' requests of kind 10 sent one by one: all are done, and they lead to the same state."
  pub party-done : (v : ℕ) → (admit x m gs).answer ≡ done_with v → AllIn x m gs (admit x m gs).state
  party-done v e = go (party_fits gs) refl (fate x m gs)
    where
      go : (f : Bool) → party_fits gs ≡ f → Fate x m gs → AllIn x m gs (admit x m gs).state
      go true f (all_in y a) = rw (admit-in x m gs f y a.joined) a
      go true f (first_out n p out h) =
          absurd (let q : refused_with n p ≡ done_with v = sym (ap (λ (o : Outcome). o.answer) (admit-out x m gs f h)) ∙ e in
          let z : ◌≡◌ {A = ℕ} 0 1 = cc in omega arith)
      go false f _ =
          absurd (let q : refused_with 27 0 ≡ done_with v = sym (ap (λ (o : Outcome). o.answer) (admit-unfit x m gs f)) ∙ e in
          let z : ◌≡◌ {A = ℕ} 0 1 = cc in omega arith)

  -- "Where all of them are done, so is the party."
  pub party-all : party_fits gs ≡ true → (y : State) → AllZero (steps x (map (joining m) gs)) (length gs) y → admit x m gs ≡ done_at y
  party-all f y a = admit-in x m gs f y (all-joined x m gs a.answers ∙ ap done_at a.state)

  -- "A party that is refused, and not for its size, names the first guest whom kind 10 would refuse after those before."
  pub party-refused : party_fits gs ≡ true → (n p : ℕ) → (admit x m gs).answer ≡ refused_with n p → FirstOut x m gs n p
  party-refused f n p e = go (fate x m gs)
    where
      go : Fate x m gs → FirstOut x m gs n p
      go (all_in y a) =
          absurd (let q : done_with 0 ≡ refused_with n p = sym (ap (λ (o : Outcome). o.answer) (admit-in x m gs f y a.joined)) ∙ e in
          let z : ◌≡◌ {A = ℕ} 0 1 = cc in omega arith)
      go (first_out k i out h) =
          let q : refused_with k i ≡ refused_with n p = sym (ap (λ (o : Outcome). o.answer) (admit-out x m gs f h)) ∙ e in
          let u : k ≡ n = same-number k i n p q in
          let w : i ≡ p = same-place k i n p q in
          rw (u, w) at out

  -- "A party that is refused changes no set."
  pub party-keeps : (n p : ℕ) → (admit x m gs).answer ≡ refused_with n p → (admit x m gs).state ≡ x
  party-keeps n p e = go (party_fits gs) refl (fate x m gs)
    where
      go : (f : Bool) → party_fits gs ≡ f → Fate x m gs → (admit x m gs).state ≡ x
      go true f (all_in y a) =
          absurd (let q : done_with 0 ≡ refused_with n p = sym (ap (λ (o : Outcome). o.answer) (admit-in x m gs f y a.joined)) ∙ e in
          let z : ◌≡◌ {A = ℕ} 0 1 = cc in omega arith)
      go true f (first_out k i out h) = ap (λ (o : Outcome). o.state) (admit-out x m gs f h)
      go false f _ = ap (λ (o : Outcome). o.state) (admit-unfit x m gs f)

-- "A party of one guest is that guest's request."
pub party-of-one : (x : State) (m : ℕ) (g : Guest) → admit x m (g ∷ []) ≡ step x (joining m g)
unfolding joined
party-of-one x m g = go (step x (joining m g)).answer refl
  where
    go : (a : Answer) → (step x (joining m g)).answer ≡ a → admit x m (g ∷ []) ≡ step x (joining m g)
    go (Ok v) e =
        let h = added x m g (accepted-guest x m g v e) in
        let y : State = change x (joining m g) add_attend in
        admit-in x m (g ∷ []) refl y (joined-on x m g [] y h) ∙ sym h
    go (Err refused) e = let n = refused.number in let p = refused.place in
        admit-out x m (g ∷ []) refl (ap (λ (o : Outcome). o.answer) (joined-off x m g [] e) ∙ e)
        ∙ (λ j. record { answer = sym e j; state = sym (refused-keeps x (joining m g) n p e) j })

-- "A party leaves the settings."
if-settings : (S : Settings) (a : Answer) (later refused : Outcome) → later.state.settings ≡ S → refused.state.settings ≡ S
    → (if_done a later refused).state.settings ≡ S
if-settings S (Ok v) later refused e f = e
if-settings S (Err f) later refused e h = h

joined-settings : (x : State) (m : ℕ) (gs : List Guest) → (joined x m gs).state.settings ≡ x.settings
unfolding joined
joined-settings x m [] = refl
joined-settings x m (g ∷ gs) =
    let o : Outcome = step x (joining m g) in
    let e : o.state.settings ≡ x.settings = step-settings x (joining m g) in
    if-settings x.settings o.answer (joined o.state m gs) o (joined-settings o.state m gs ∙ e) e

pub admit-settings : (x : State) (m : ℕ) (gs : List Guest) → (admit x m gs).state.settings ≡ x.settings
unfolding admit
admit-settings x m gs = go (party_fits gs)
  where
    o : Outcome
    o = joined x m gs

    go : (f : Bool) → (cond f (all_or_none x o) (record { answer = refused_with 27 0; state = x })).state.settings ≡ x.settings
    go true = if-settings x.settings o.answer o _ (joined-settings x m gs) refl
    go false = refl

-- Guests who are different visitors change places.
module _ (x : State) (m : ℕ) (g h : Guest) (apart : g.visitor ≡ h.visitor → ⊥) where
  abbrev after_g : State
  after_g = change x (joining m g) add_attend

  or_swap : (a s t : Bool) → plus (plus a s) t ≡ plus (plus a t) s
  or_swap true s t = refl
  or_swap false true true = refl
  or_swap false true false = refl
  or_swap false false true = refl
  or_swap false false false = refl

  no-entry : (a s t e : Bool) → e ≡ false → plus a (s && t && e) ≡ a
  no-entry true s t e q = refl
  no-entry false true true e q = q
  no-entry false true false e q = refl
  no-entry false false t e q = refl

  differ : eqb h.visitor g.visitor ≡ false
  differ = never (eqb h.visitor g.visitor) (λ t. apart (sym (eqb-true h.visitor g.visitor t)))

  -- h's entries are as they were before g came
  unmoved : (i a : ℕ) → after_g.attend i a h.visitor ≡ x.attend i a h.visitor
  unfolding change
  unmoved i a = no-entry (x.attend i a h.visitor) (slot (joining m g) i) (eqb a m) (eqb h.visitor g.visitor) differ

  -- so h is judged the same
  same-absent : ask after_g (joining m h) add_attend (absent attends) ≡ ask x (joining m h) add_attend (absent attends)
  unfolding ask test change
  same-absent = λ j. failing (λ i. not (unmoved i m j)) h.first h.last

  same-elsewhere : ask after_g (joining m h) add_attend (elsewhere attends) ≡ ask x (joining m h) add_attend (elsewhere attends)
  unfolding ask test change
  same-elsewhere = λ j. failing (λ i. not (any (λ a. not (eqb a m) && unmoved i a j) x.settings.meetings)) h.first h.last

  pub same-judged : judge after_g (joining m h) add_attend (always ++ further add_attend) ≡ judge x (joining m h) add_attend (always ++ further add_attend)
  unfolding ask test change
  same-judged =
      judge-same after_g x (joining m h) add_attend (always ++ further add_attend)
      (refl, (refl, (refl, (refl, (refl, (refl, (same-absent, (same-elsewhere, tt))))))))

  -- and both orders lead to one state
  pub same-changed : change (change x (joining m h) add_attend) (joining m g) add_attend ≡ change after_g (joining m h) add_attend
  unfolding change
  same-changed = λ j. with_attend x (λ i a v. or_swap (x.attend i a v) (entry h i a v) (entry g i a v) j)
    where
      entry : Guest → ℕ → ℕ → ℕ → Bool
      entry k i a v = slot (joining m k) i && eqb a m && eqb v k.visitor

-- the first guest of a list that is all added
front-in : (x : State) (m : ℕ) (g : Guest) (gs : List Guest) (v : ℕ) → (joined x m (g ∷ gs)).answer ≡ done_with v → Accepted x (joining m g) add_attend
front-in x m g gs v e = go (step x (joining m g)).answer refl
  where
    go : (a : Answer) → (step x (joining m g)).answer ≡ a → Accepted x (joining m g) add_attend
    go (Ok w) q = accepted-guest x m g w q
    go (Err refused) q = let n = refused.number in let p = refused.place in
        absurd (let r : refused_with n p ≡ done_with v = sym (ap (λ (o : Outcome). o.answer) (joined-off x m g gs q) ∙ q) ∙ e in
        let z : ◌≡◌ {A = ℕ} 0 1 = cc in omega arith)

-- two guests at the front of a list, both added
two-added : (x : State) (m : ℕ) (g h : Guest) (gs : List Guest) → (g.visitor ≡ h.visitor → ⊥) → (v : ℕ) → (joined x m (g ∷ h ∷ gs)).answer ≡ done_with v
    → joined x m (h ∷ g ∷ gs) ≡ joined x m (g ∷ h ∷ gs)
two-added x m g h gs apart v e =
    joined-on x m h (g ∷ gs) y' (added x m h b') ∙ joined-on y' m g gs (change y' (joining m g) add_attend) (added y' m g a')
    ∙ ap (λ (z : State). joined z m gs) (same-changed x m g h apart)
    ∙ sym (on-g ∙ joined-on y m h gs (change y (joining m h) add_attend) (added y m h b))
  where
    y : State
    y = change x (joining m g) add_attend

    y' : State
    y' = change x (joining m h) add_attend

    a : Accepted x (joining m g) add_attend
    a = front-in x m g (h ∷ gs) v e

    on-g : joined x m (g ∷ h ∷ gs) ≡ joined y m (h ∷ gs)
    on-g = joined-on x m g (h ∷ gs) y (added x m g a)

    b : Accepted y (joining m h) add_attend
    b = front-in y m h gs v (sym (ap (λ (o : Outcome). o.answer) on-g) ∙ e)

    b' : Accepted x (joining m h) add_attend
    b' = record { kind = b.kind; judged = sym (same-judged x m g h apart) ∙ b.judged }

    a' : Accepted y' (joining m g) add_attend
    a' = record { kind = a.kind; judged = same-judged x m h g (λ q. apart (sym q)) ∙ a.judged }

-- behind those that are added
abbrev go_on : ℕ → List Guest → Outcome → Outcome
go_on m ds o = if_done o.answer (joined o.state m ds) o

joined-append : (x : State) (m : ℕ) (cs ds : List Guest) → joined x m (cs ++ ds) ≡ go_on m ds (joined x m cs)
unfolding joined
joined-append x m [] ds = refl
joined-append x m (c ∷ cs) ds = go (step x (joining m c)).answer refl (joined-append (change x (joining m c) add_attend) m cs ds)
  where
    y : State
    y = change x (joining m c) add_attend

    go : (a : Answer) → (step x (joining m c)).answer ≡ a → joined y m (cs ++ ds) ≡ go_on m ds (joined y m cs)
        → joined x m (c ∷ cs ++ ds) ≡ go_on m ds (joined x m (c ∷ cs))
    go (Ok v) e later =
        let h : step x (joining m c) ≡ done_at y = added x m c (accepted-guest x m c v e) in
        joined-on x m c (cs ++ ds) y h ∙ later ∙ ap (go_on m ds) (sym (joined-on x m c cs y h))
    go (Err refused) e later = let n = refused.number in let p = refused.place in
        let o : Outcome = step x (joining m c) in
        let q : go_on m ds o ≡ o = ap (λ (a : Answer). if_done a (joined o.state m ds) o) e in
        joined-off x m c (cs ++ ds) e ∙ sym q ∙ ap (go_on m ds) (sym (joined-off x m c cs e))

-- "In a party that is done guests who are different visitors can change places, neighbour by neighbour: the party is done, and leads to
-- the same state."
module _ (x : State) (m : ℕ) (cs ds : List Guest) (g h : Guest) (apart : g.visitor ≡ h.visitor → ⊥) where
  same-joined : (v : ℕ) → (joined x m (cs ++ g ∷ h ∷ ds)).answer ≡ done_with v → joined x m (cs ++ h ∷ g ∷ ds) ≡ joined x m (cs ++ g ∷ h ∷ ds)
  same-joined v e = joined-append x m cs (h ∷ g ∷ ds) ∙ go (joined x m cs).answer refl ∙ sym (joined-append x m cs (g ∷ h ∷ ds))
    where
      o : Outcome
      o = joined x m cs

      go : (a : Answer) → o.answer ≡ a → go_on m (h ∷ g ∷ ds) o ≡ go_on m (g ∷ h ∷ ds) o
      go (Ok w) q =
          let f : go_on m (g ∷ h ∷ ds) o ≡ joined o.state m (g ∷ h ∷ ds)
          = ap (λ (a : Answer). if_done a (joined o.state m (g ∷ h ∷ ds)) o) q in
          let d : (joined o.state m (g ∷ h ∷ ds)).answer ≡ done_with v
          = sym (ap (λ (o : Outcome). o.answer) (joined-append x m cs (g ∷ h ∷ ds) ∙ f)) ∙ e in
          ap (λ (a : Answer). if_done a (joined o.state m (h ∷ g ∷ ds)) o) q ∙ two-added o.state m g h ds apart v d ∙ sym f
      go (Err refused) q = let n = refused.number in let p = refused.place in
          ap (λ (a : Answer). if_done a (joined o.state m (h ∷ g ∷ ds)) o) q
          ∙ sym (ap (λ (a : Answer). if_done a (joined o.state m (g ∷ h ∷ ds)) o) q)

  same-fits : party_fits (cs ++ h ∷ g ∷ ds) ≡ party_fits (cs ++ g ∷ h ∷ ds)
  same-fits = ap (within 1 64) (length-append cs (h ∷ g ∷ ds) ∙ sym (length-append cs (g ∷ h ∷ ds)))

  pub party-order : (v : ℕ) → (admit x m (cs ++ g ∷ h ∷ ds)).answer ≡ done_with v → admit x m (cs ++ h ∷ g ∷ ds) ≡ admit x m (cs ++ g ∷ h ∷ ds)
  unfolding admit
  party-order v e =
      let d : (joined x m (cs ++ g ∷ h ∷ ds)).answer ≡ done_with 0
      = ap (λ (o : Outcome). o.answer) (party-done x m (cs ++ g ∷ h ∷ ds) v e).joined in
      ap₂ (λ (f : Bool) (o : Outcome). cond f (all_or_none x o) (record { answer = refused_with 27 0; state = x })) same-fits (same-joined 0 d)

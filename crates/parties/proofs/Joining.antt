-- Guests are added to a diary and taken back: what one request leaves, what the loops keep, and what a party gives, with the change count.
-- Assumes nothing.
use Prim.Native.Nat.{ℕ, suc, ◌+◌, ◌-◌, ◌≤◌}
use mathlib.Core.Path.{◌≡◌, refl, sym, ◌∙◌, ap, ap₂, subst}
use mathlib.Core.Bool.{true, false}
use mathlib.Core.List.{List, [], ◌∷◌, ◌++◌}
use native.Mathlib.Omega.{arith}
use lib.Dec.{eqb}
use lib.ListN.{length, get_or, set, take, drop, take-append-drop}
use lib.Seq.{take_at, drop_at}
use borrow.Author.Tests.{eq-eqb}
use Rattle.std.specs.Prelude.{Ok, Err}
use Rattle.model.specs.declared.Settings.{Settings}
use Rattle.model.specs.declared.Request.{Request}
use Rattle.model.specs.declared.Guest.{Guest}
use Rattle.model.specs.declared.Refusal.{Refusal}
use Rattle.model.specs.Answers.{Answer, done_with, refused_with}
use Rattle.model.specs.State.{State}
use Rattle.model.specs.Kinds.{Kind.add_attend}
use Rattle.model.specs.Machine.{Outcome, step, change, joining, if_done, joined, party_fits, admit, party, told, most_changes, raise, counted_party, stepped}
use Rattle.model.specs.Words.{diary_length, words}
use Rattle.model.specs.Reading.{state_of, read_state}
use Rattle.model.specs.Ledger.{Ledger, ledger_of, book_words}
use Rattle.model.specs.Calls.{Called, called, call_party}
use Rattle.model.proofs.Laws.{Sound}
use Rattle.model.proofs.Sound.{book-sound}
use Rattle.model.proofs.ReadBack.{state_of-words}
use Rattle.model.proofs.Search.{never, within-true, true-within}
use Rattle.model.proofs.Ledger.{LedgerSound, words-ledger_of, ledger-sound, first_part, part-behind, behind-shown, recounted}
use Rattle.model.proofs.Calls.{step-sound}
use Rattle.model.proofs.Frame.{step-settings}
use Rattle.model.proofs.Done.{Accepted, refused-keeps}
use Rattle.model.proofs.Undo.{attend, undo-added}
use Rattle.model.proofs.Party.{accepted-guest, added, joined-on, joined-off, admit-unfit, admit-in, party-of-one}
use Rattle.book.specs.Good.{Good, GoodBook, answered, in_words}
use Rattle.book.proofs.Goods.{good-laid, good-state, good-words, part-good}
use Rattle.checking.proofs.Verdicts.{done_refused}
use Rattle.step.proofs.Kept.{good-diary, good-call, count-is}
use Rattle.parties.specs.Guests.{guest_request, all_added, Within, Adds, TakenBack, of_party}

-- one request on a good diary: the step of what it shows, and a good diary that shows the next state
pub record After (S : Settings) (b : List ℕ) (r : Request) (a : Answer) (b' : List ℕ) : Type 0 where
  pub answer : a ≡ (step (state_of b) r).answer
  pub state : state_of b' ≡ (step (state_of b) r).state
  pub good : Good S b'

pub after : {S : Settings} {b b' : List ℕ} → Good S b → (r : Request) {a : Answer} → answered a b' ≡ in_words (step (state_of b) r) → After S b r a b'
unfolding read_state
after {S} {b} {b'} good r {a} e =
    let w : b' ≡ words (step (state_of b) r).state = ap (λ (c : Called). c.book) e in
    let q : told a ≡ told (step (state_of b) r).answer = ap (λ (c : Called). c.reply) e in
    let s : Sound (step (state_of b) r).state = step-sound (state_of b) (book-sound b good.laid good.lawful) r in
    let same : (step (state_of b) r).state.settings ≡ S = step-settings (state_of b) r ∙ ap (λ (x : State). x.settings) (good-state good) in
    record {
      answer = cc;
      state = ap state_of w ∙ state_of-words (step (state_of b) r).state s;
      good =
          subst (Good S) (sym w)
          (subst (λ (T : Settings). Good T (words (step (state_of b) r).state)) same (good-words (step (state_of b) r).state s));
    }

-- guests behind those who are all added are added to what these lead to
pub joined-then : (x : State) (m : ℕ) (cs ds : List Guest) {y : State} → joined x m cs ≡ all_added y → joined x m (cs ++ ds) ≡ joined y m ds
unfolding joined
joined-then x m [] ds e = ap (λ (o : Outcome). joined o.state m ds) e
joined-then x m (c ∷ cs) ds {y} e = go (step x (joining m c)).answer (joined-then (step x (joining m c)).state m cs ds) e
  where
    z : State
    z = (step x (joining m c)).state

    go : (a : Answer) → (joined z m cs ≡ all_added y → joined z m (cs ++ ds) ≡ joined y m ds)
        → if_done a (joined z m cs) (record { answer = a; state = z }) ≡ all_added y
        → if_done a (joined z m (cs ++ ds)) (record { answer = a; state = z }) ≡ joined y m ds
    go (Ok v) later e = later e
    go (Err f) later e = done_refused (sym (ap (λ (o : Outcome). o.answer) e))

-- where all are added, so are the first of them, and the others to what these lead to
pub joined-first : (x : State) (m : ℕ) (cs ds : List Guest) {z : State} → joined x m (cs ++ ds) ≡ all_added z
    → (y : State) × ((joined x m cs ≡ all_added y) × (joined y m ds ≡ all_added z))
unfolding joined
joined-first x m [] ds e = (x, (refl, e))
joined-first x m (c ∷ cs) ds {z} e = go (step x (joining m c)).answer (joined-first (step x (joining m c)).state m cs ds) e
  where
    w : State
    w = (step x (joining m c)).state

    go : (a : Answer) → (joined w m (cs ++ ds) ≡ all_added z → (y : State) × ((joined w m cs ≡ all_added y) × (joined y m ds ≡ all_added z)))
        → if_done a (joined w m (cs ++ ds)) (record { answer = a; state = w }) ≡ all_added z
        → (y : State) × ((if_done a (joined w m cs) (record { answer = a; state = w }) ≡ all_added y) × (joined y m ds ≡ all_added z))
    go (Ok v) later e = later e
    go (Err f) later e = done_refused (sym (ap (λ (o : Outcome). o.answer) e))

-- behind those who are all added: one guest more, or one who is refused
module _ {S : Settings} {a : List ℕ} {m : ℕ} {cs : List Guest} {b : List ℕ} (so : Within S a m cs b) (g : Guest) {r : Answer} {b' : List ℕ}
    (e : answered r b' ≡ in_words (step (state_of b) (joining m g))) where
  left : After S b (joining m g) r b'
  left = after so.good (joining m g) e

  pub one-more : {v : ℕ} → r ≡ done_with v → {gs : List Guest} → gs ≡ cs ++ g ∷ [] → Within S a m gs b'
  unfolding joined
  one-more {v} d are =
      let h : Accepted (state_of b) (joining m g) add_attend = accepted-guest (state_of b) m g v (sym left.answer ∙ d) in
      let q : step (state_of b) (joining m g) ≡ all_added (change (state_of b) (joining m g) add_attend) = added (state_of b) m g h in
      let z : change (state_of b) (joining m g) add_attend ≡ state_of b' = sym (left.state ∙ ap (λ (o : Outcome). o.state) q) in
      record {
        good = left.good;
        outcome =
            ap (joined (state_of a) m) are
            ∙ joined-then (state_of a) m cs (g ∷ []) so.outcome ∙ joined-on (state_of b) m g [] (state_of b') (q ∙ ap all_added z);
      }

  module _ {f : Refusal} (d : r ≡ Err f) where
    no : (step (state_of b) (joining m g)).answer ≡ Err f
    no = sym left.answer ∙ d

    pub none-more : Within S a m cs b'
    none-more =
        let x : state_of b ≡ state_of b' = sym (left.state ∙ refused-keeps (state_of b) (joining m g) f.number f.place no) in
        record { good = left.good; outcome = so.outcome ∙ ap all_added x }

    pub all-refused : (ds : List Guest) {gs : List Guest} → gs ≡ cs ++ g ∷ ds → (joined (state_of a) m gs).answer ≡ Err f
    all-refused ds are =
        ap (λ (o : Outcome). o.answer)
        (ap (joined (state_of a) m) are ∙ joined-then (state_of a) m cs (g ∷ ds) so.outcome ∙ joined-off (state_of b) m g ds no) ∙ no

-- the last of the guests is taken back
pub one-less : {S : Settings} {a b : List ℕ} (m : ℕ) (cs : List Guest) (g : Guest) → Within S a m (cs ++ g ∷ []) b → {r : Answer} {b' : List ℕ}
    → answered r b' ≡ in_words (step (state_of b) (guest_request 11 m g)) → Within S a m cs b'
one-less {S} {a} {b} m cs g so {r} {b'} e =
    let asks : Request = guest_request 11 m g in
    let left : After S b asks r b' = after so.good asks e in
    let p = joined-first (state_of a) m cs (g ∷ []) so.outcome in
    let y : State = p.0 in
    let q : step y (joining m g) ≡ all_added (state_of b) = sym (party-of-one y m g) ∙ admit-in y m (g ∷ []) refl (state_of b) p.1.1 in
    let h : Accepted y (joining m g) add_attend = accepted-guest y m g 0 (ap (λ (o : Outcome). o.answer) q) in
    let c : state_of b ≡ change y (joining m g) add_attend = ap (λ (o : Outcome). o.state) (sym q ∙ added y m g h) in
    let back : step (state_of b) asks ≡ all_added y = ap (λ (x : State). step x asks) c ∙ undo-added y (joining m g) attend h in
    record { good = left.good; outcome = p.1.0 ∙ ap all_added (sym (left.state ∙ ap (λ (o : Outcome). o.state) back)) }

-- none is left: the diary is as it was
pub none-left : {S : Settings} {a b : List ℕ} {m : ℕ} (gs : List Guest) → length gs ≡ 0 → Good S a → Within S a m gs b → b ≡ a
unfolding joined
none-left [] e good so = sym (good-diary so.good) ∙ ap (λ (o : Outcome). words o.state) (sym so.outcome) ∙ good-diary good
none-left (g ∷ gs) e good so = absurd (omega (arith, e))

-- the guests on the first part of a good book, with its count
module _ {S : Settings} {b : List ℕ} (good : GoodBook S b) {k : ℕ} (e : k ≡ diary_length S) where
  -- what is written over the first part is found there again, and the rest behind it
  module _ {d : List ℕ} (there : Good S d) where
    diary-there : length d ≡ k
    diary-there = (good-laid there).long ∙ sym e

    lent_back : take k (d ++ drop k b) ≡ d
    lent_back = take_at d (drop k b) k diary-there

    whole : take k b ++ drop k (d ++ drop k b) ≡ b
    whole = ap (λ (v : List ℕ). take k b ++ v) (drop_at d (drop k b) k diary-there) ∙ take-append-drop k b

  module _ (m : ℕ) (gs : List Guest) where
    of_part : joined (ledger_of b).diary m gs ≡ joined (state_of (take k b)) m gs
    unfolding ledger_of
    of_part = ap (λ (v : List ℕ). joined (state_of v) m gs) (first_part b good.read e)

    -- a guest is refused, and the first part is as it was
    pub party-refused : {f : Refusal} {d : List ℕ} → Adds S (take k b) m gs (Err f) d → answered (Err f) (d ++ drop k b) ≡ of_party b m gs
    unfolding raise
    party-refused {f} {d} (h, w) =
        rw (ap (λ (o : Outcome). o.answer) of_part ∙ h)
        (ap (answered (Err f)) (ap (λ (v : List ℕ). v ++ drop k b) w ∙ take-append-drop k b ∙ sym (words-ledger_of b good.laid good.lawful)))

    module _ {d : List ℕ} (so : Within S (take k b) m gs d) {c : ℕ} (counts : c ≡ get_or b (length b - 1) 0) where
      count : c ≡ (ledger_of b).changes
      count = counts ∙ count-is good

      -- all are added at the greatest count, and taken back
      pub party-full : c ≡ most_changes → {d' : List ℕ} → TakenBack S m gs (take k (d ++ drop k b)) d'
          → answered (refused_with 30 0) (d' ++ drop k (d ++ drop k b)) ≡ of_party b m gs
      unfolding raise
      party-full f {d'} back =
          let was : d' ≡ take k b
          = back (take k b) (part-good good k e) (subst (λ (v : List ℕ). Within S (take k b) m gs v) (sym (lent_back so.good)) so) in
          rw (of_part ∙ so.outcome, eq-eqb (ledger_of b).changes most_changes (sym count ∙ f))
          (ap (answered (refused_with 30 0))
          (ap (λ (v : List ℕ). v ++ drop k (d ++ drop k b)) was ∙ whole so.good ∙ sym (words-ledger_of b good.laid good.lawful)))

      -- all are added, and there is one change more
      pub party-done : eqb c most_changes ≡ false
          → answered (done_with 0) (set (d ++ drop k b) (length (d ++ drop k b) - 1) (c + 1)) ≡ of_party b m gs
      unfolding raise book_words
      party-done f =
          let s = ledger-sound b good.laid good.lawful in
          let l : Ledger = record { diary = state_of d; tail = (ledger_of b).tail; changes = (ledger_of b).changes } in
          let sound : LedgerSound l = record { diary = book-sound d so.good.laid so.good.lawful; tail = s.tail } in
          let is : d ++ drop k b ≡ book_words l
          = ap₂ (λ (u v : List ℕ). u ++ v) (sym (good-diary so.good)) (sym (part-behind b good.read e) ∙ sym (behind-shown b good.laid good.lawful)) in
          let one : c + 1 ≡ suc (ledger_of b).changes = omega (arith, count) in
          let below : eqb (ledger_of b).changes most_changes ≡ false = ap (λ (n : ℕ). eqb n most_changes) (sym count) ∙ f in
          rw (of_part ∙ so.outcome, below)
          (ap (answered (done_with 0))
          (ap₂ (λ (u : List ℕ) (n : ℕ). set u (length u - 1) n) is one ∙ recounted l sound (suc (ledger_of b).changes)))

-- question 27, and the party behind it
module _ {S : Settings} {b : List ℕ} (good : GoodBook S b) (m : ℕ) (gs : List Guest) where
  pub unfit : (1 ≤ length gs → length gs ≤ 64 → ⊥) → answered (refused_with 27 0) b ≡ call_party b m gs
  unfolding counted_party raise
  unfit h =
      let f : party_fits gs ≡ false = never (party_fits gs) (λ t. let l = within-true 1 64 (length gs) t in h l.0 l.1) in
      ap (answered (refused_with 27 0)) (sym (words-ledger_of b good.laid good.lawful))
      ∙ sym (good-call good (party m gs)
      ∙ ap (λ (o : Outcome). called (stepped (ledger_of b).tail (raise (ledger_of b).diary (ledger_of b).changes o o.answer)))
      (admit-unfit (ledger_of b).diary m gs f))

  pub fit : 1 ≤ length gs → length gs ≤ 64 → of_party b m gs ≡ call_party b m gs
  unfolding admit counted_party
  fit k l =
      let f : party_fits gs ≡ true = true-within 1 64 (length gs) k l in
      sym (good-call good (party m gs) ∙ rw f refl)

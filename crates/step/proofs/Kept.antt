-- A good book stays good: what a laying leaves, what a step keeps, and the two parts of a book in which it goes.
-- Assumes nothing.
use Prim.Native.Nat.{ℕ, suc, ◌+◌, ◌-◌, ◌≤◌}
use mathlib.Core.Path.{◌≡◌, refl, sym, ◌∙◌, ap, ap₂, subst}
use mathlib.Core.Bool.{Bool, true, false, cond, ◌&&◌}
use Rattle.std.specs.Prelude.{Option, None, Some}
use mathlib.Core.List.{List, [], ◌∷◌, ◌++◌}
use native.Mathlib.Omega.{arith}
use lib.Dec.{eqb}
use lib.ListN.{length, get_or, set, take, drop, length-drop}
use lib.Seq.{length-take-le, length_front, drop_at, take_at}
use borrow.Rule.Slice.PartMut.{put_mid}
use Rattle.model.specs.declared.Settings.{Settings}
use Rattle.model.specs.declared.Request.{Request}
use Rattle.model.specs.Answers.{Answer}
use Rattle.model.specs.Answers.{done_with, refused_with}
use Rattle.model.specs.State.{State, empty_state}
use Rattle.model.specs.Machine.{step, Counted, most_changes, raise, is_change, counted_step, stepped, Call, ordered, Reply, told, asked, kept_answer}
use Rattle.model.specs.Machine.{answer_order, perform}
use Rattle.model.specs.Words.{words, diary_length}
use Rattle.model.specs.Reading.{settings_of, state_of, read_state}
use Rattle.model.specs.Tail.{Tail, entry_at, kept_at, noted, tail_length, tail_words, tail_of, tail_kept}
use Rattle.model.specs.Ledger.{Ledger, empty_ledger, behind_words, book_words, behind_of, ledger_of}
use Rattle.model.specs.Calls.{Called, called, call_on, calls, fresh_book}
use Rattle.model.specs.Site.{valid_settings}
use Rattle.model.specs.Messages.{same_request}
use Rattle.model.proofs.Shown.{words-state_of}
use Rattle.model.proofs.Tells.{Tellable, refused-tellable, step-tellable}
use Rattle.model.proofs.Tail.{tail-long as tail-words-long, tail-kept, tail-back, kept-place}
use Rattle.model.proofs.Ledger.{LedgerSound, first_part, part-behind, behind-long, behind-shown, tail-in-long, lent-tail, lawful-tail, words-ledger_of}
use Rattle.model.proofs.Ledger.{ledger-sound, count-lent, diary-words, recounted}
use Rattle.model.proofs.Counting.{counted-state, counted-tellable, counted-refused, counted-full, uncounted, full-stays}
use Rattle.model.proofs.Effect.{only-asked}
use Rattle.model.proofs.Search.{and_left, and_right}
use Rattle.model.proofs.Done.{refused-keeps}
use borrow.Author.Tests.{eqb-true}
use Rattle.model.proofs.Frame.{step-settings}
use Rattle.model.proofs.Calls.{step-sound, perform-sound, empty-ledger, fresh-words}
use Rattle.book.specs.Good.{Good, GoodBook, answered, in_words}
use Rattle.book.proofs.Goods.{good-state, good-part, book-words}
use Rattle.model.specs.declared.Told.{Told}
use Rattle.model.specs.Told.{answer_by}
use Rattle.ring.specs.Telling.{Telling}
use Rattle.ring.proofs.Telling.{told-answer}

-- a good diary is the words of the state that it shows
pub good-diary : {S : Settings} {b : List ℕ} → Good S b → words (state_of b) ≡ b
good-diary {S} {b} good = words-state_of b good.laid good.lawful

-- an order leaves the settings
pub order-settings : (l : Ledger) (n : ℕ) (r : Request) (o : Option ℕ) → (answer_order l n r o).ledger.diary.settings ≡ l.diary.settings
order-settings l n r None =
    counted-state (λ (x : State). x.settings ≡ l.diary.settings) l.diary l.changes r refl (step-settings l.diary r)
order-settings l n r (Some i) = refl

at-is : (o : Option ℕ) (i : ℕ) → o ≡ Some i → o ≡ Some i
at-is None i e = absurd (let z : ◌≡◌ {A = ℕ} 0 1 = cc in omega arith)
at-is (Some j) i e = let z : j ≡ i = cc in ap Some z

nothing_is : (o : Option ℕ) → o ≡ None → o ≡ None
nothing_is None e = refl
nothing_is (Some j) e = absurd (let z : ◌≡◌ {A = ℕ} 0 1 = cc in omega arith)

abbrev pub told_answer : Reply → Answer
told_answer (told a) = a
told_answer (asked a n) = a

-- the answer to an order can be told: the one of its request, the one that is kept, or 28
pub order-tellable : (l : Ledger) → LedgerSound l → (n : ℕ) (r : Request) (o : Option ℕ) → kept_at l.tail n ≡ o
    → Tellable (told_answer (answer_order l n r o).reply)
order-tellable l s n r None e = counted-tellable l.diary l.changes r
order-tellable l s n r (Some i) e = go (same_request (entry_at l.tail i).request r)
  where
    go : (t : Bool) → Tellable (cond t (entry_at l.tail i).answer (refused_with 28 0))
    go true = (s.tail.entry i (kept-place l.tail n e)).answer
    go false = refused-tellable 28 0 (omega arith)

-- a change that is done raises a count that is not the greatest
counted-open : (x : State) (n : ℕ) (r : Request) (v : ℕ) → is_change r ≡ true → eqb n most_changes ≡ false → (step x r).answer ≡ done_with v
    → counted_step x n r ≡ record { answer = done_with v; state = (step x r).state; changes = suc n }
unfolding counted_step raise
counted-open x n r v c f e = rw c (ap (raise x n (step x r)) e ∙ rw f)

-- a book whose first n words are written is as long as before
pub whole_long : (b c : List ℕ) (n : ℕ) → n ≤ length b → length c ≡ length (take n b) → length (c ++ drop n b) ≡ length b
whole_long b c n h l = length_front b c n l

module _ {S : Settings} {b : List ℕ} (good : GoodBook S b) where
  settings-are : (ledger_of b).diary.settings ≡ S
  unfolding ledger_of read_state
  settings-are = ap (λ (x : State). x.settings) (good-state (good-part good))

  -- what is lent of the book between them and the last word is the tail's words
  module _ {n : ℕ} (e : n ≡ diary_length S) where
    pub tail-long : length (take (length b - 1 - n) (drop n b)) ≡ tail_length
    tail-long = ap length (lent-tail b good.laid good.read e) ∙ tail-in-long (behind_of b) (behind-long b good.laid)

    pub tail-lawful : tail_kept (take (length b - 1 - n) (drop n b)) ≡ true
    tail-lawful = ap tail_kept (lent-tail b good.laid good.read e) ∙ lawful-tail b good.laid good.lawful

    pub tail-is : tail_of (take (length b - 1 - n) (drop n b)) ≡ (ledger_of b).tail
    unfolding ledger_of
    tail-is = ap tail_of (lent-tail b good.laid good.read e)

    -- what is found there is what the ledger keeps
    pub found-kept : (m : ℕ) {f : Option ℕ} {i : ℕ} → f ≡ (kept_at (tail_of (take (length b - 1 - n) (drop n b))) m) → f ≡ Some i
        → kept_at (ledger_of b).tail m ≡ Some i
    found-kept m {f} {i} q p = at-is _ i (ap (λ (t : Tail). (kept_at t m)) (sym tail-is) ∙ sym q ∙ p)

    pub found_none : (m : ℕ) {f : Option ℕ} → f ≡ (kept_at (tail_of (take (length b - 1 - n) (drop n b))) m) → f ≡ None
        → kept_at (ledger_of b).tail m ≡ None
    found_none m {f} q p = nothing_is _ (ap (λ (t : Tail). (kept_at t m)) (sym tail-is) ∙ sym q ∙ p)

  -- an order that is kept: its answer, and the book stays
  pub kept-answered : (n : ℕ) (r : Request) {i : ℕ} {a : Answer} → kept_at (ledger_of b).tail n ≡ Some i
      → a ≡ kept_answer (entry_at (ledger_of b).tail i) r → answered a b ≡ called (perform (ledger_of b) (ordered n r))
  kept-answered n r {i} {a} k q =
      ap₂ answered q (sym (words-ledger_of b good.laid good.lawful))
      ∙ ap (λ (o : Option ℕ). called (answer_order (ledger_of b) n r o)) (sym k)

  -- the last word is the count
  pub count-is : get_or b (length b - 1) 0 ≡ (ledger_of b).changes
  count-is = count-lent b good.laid {S = settings_of b} refl refl

  -- what is foreseen: a refusal, 30 behind all other questions, or done
  module _ {k : ℕ} (e : k ≡ diary_length S) (r : Request) {a : Answer} (h : a ≡ (step (state_of (take k b)) r).answer) where
    seen : a ≡ (step (ledger_of b).diary r).answer
    unfolding ledger_of
    seen = h ∙ ap (λ (d : List ℕ). (step (state_of d) r).answer) (sym (first_part b good.read e))

    pub seen-refused : {m p : ℕ} → a ≡ refused_with m p → refused_with m p ≡ (counted_step (ledger_of b).diary (ledger_of b).changes r).answer
    seen-refused {m} {p} q = go (is_change r) refl
      where
        go : (t : Bool) → is_change r ≡ t → refused_with m p ≡ (counted_step (ledger_of b).diary (ledger_of b).changes r).answer
        go true f = sym (ap (λ (o : Counted). o.answer) (counted-refused (ledger_of b).diary (ledger_of b).changes r m p f (sym seen ∙ q)))
        go false f = sym q ∙ seen ∙ sym (ap (λ (o : Counted). o.answer) (uncounted (ledger_of b).diary (ledger_of b).changes r f))

    pub seen-full : {v n : ℕ} → a ≡ done_with v → n ≡ (ledger_of b).changes → (is_change r && eqb n most_changes) ≡ true
        → refused_with 30 0 ≡ (counted_step (ledger_of b).diary (ledger_of b).changes r).answer
    seen-full {v} {n} q count f =
        let change : is_change r ≡ true = and_left (is_change r) _ f in
        let full : (ledger_of b).changes ≡ most_changes = sym count ∙ eqb-true n most_changes (and_right (is_change r) _ f) in
        sym (ap (λ (n : ℕ). (counted_step (ledger_of b).diary n r).answer) full
        ∙ ap (λ (o : Counted). o.answer) (counted-full (ledger_of b).diary r v change (sym seen ∙ q)))

    pub seen_done : {v n : ℕ} → a ≡ done_with v → n ≡ (ledger_of b).changes → (is_change r && eqb n most_changes) ≡ false
        → a ≡ (counted_step (ledger_of b).diary (ledger_of b).changes r).answer
    seen_done {v} {n} q count f = go (is_change r) refl
      where
        go : (t : Bool) → is_change r ≡ t → a ≡ (counted_step (ledger_of b).diary (ledger_of b).changes r).answer
        go true c =
            let below : eqb (ledger_of b).changes most_changes ≡ false
            = ap (λ (m : ℕ). eqb m most_changes) (sym count) ∙ sym (ap (λ (t : Bool). t && eqb n most_changes) c) ∙ f in
            q ∙ sym (ap (λ (o : Counted). o.answer) (counted-open (ledger_of b).diary (ledger_of b).changes r v c below (sym seen ∙ q)))
        go false c = seen ∙ sym (ap (λ (o : Counted). o.answer) (uncounted (ledger_of b).diary (ledger_of b).changes r c))

  -- a step on the first part of the book, where the count stays
  module _ {k : ℕ} (e : k ≡ diary_length S) (r : Request) {a : Answer} {c : List ℕ} (h : answered a c ≡ in_words (step (state_of (take k b)) r)) where
    part_step : answered a c ≡ in_words (step (ledger_of b).diary r)
    unfolding ledger_of
    part_step = h ∙ ap (λ (d : List ℕ). in_words (step (state_of d) r)) (sym (first_part b good.read e))

    pub part-answer : a ≡ (step (ledger_of b).diary r).answer
    part-answer = ap (λ (v : Called). told_answer v.reply) part_step

    pub part-tellable : Tellable a
    part-tellable = subst Tellable (sym part-answer) (step-tellable (ledger_of b).diary r)

    -- the book with that diary, the tail and the count as before
    stepped-words : c ++ drop k b ≡ book_words (record { diary = (step (ledger_of b).diary r).state; tail = (ledger_of b).tail; changes = (ledger_of b).changes })
    unfolding book_words
    stepped-words =
        ap₂ (λ (v w : List ℕ). v ++ w) (ap (λ (v : Called). v.book) part_step)
        (sym (part-behind b good.read e) ∙ sym (behind-shown b good.laid good.lawful))

    stepped-sound : LedgerSound (record { diary = (step (ledger_of b).diary r).state; tail = (ledger_of b).tail; changes = (ledger_of b).changes })
    stepped-sound =
        let s = ledger-sound b good.laid good.lawful in
        record { diary = step-sound (ledger_of b).diary s.diary r; tail = s.tail }

    kept-count : counted_step (ledger_of b).diary (ledger_of b).changes r
        ≡ record { answer = (step (ledger_of b).diary r).answer; state = (step (ledger_of b).diary r).state; changes = (ledger_of b).changes }
        → answered a (c ++ drop k b) ≡ called (perform (ledger_of b) (ordered 0 r))
    kept-count same = ap₂ answered part-answer stepped-words ∙ ap (λ (o : Counted). called (stepped (ledger_of b).tail o)) (sym same)

    -- a request that is no change, or is refused, leaves the count
    pub part_same : is_change r ≡ false → answered a (c ++ drop k b) ≡ called (perform (ledger_of b) (ordered 0 r))
    part_same f = kept-count (uncounted (ledger_of b).diary (ledger_of b).changes r f)

    pub part-refused : {m p : ℕ} → a ≡ refused_with m p → answered a (c ++ drop k b) ≡ called (perform (ledger_of b) (ordered 0 r))
    part-refused {m} {p} q = go (is_change r) refl
      where
        no : (step (ledger_of b).diary r).answer ≡ refused_with m p
        no = sym part-answer ∙ q

        go : (t : Bool) → is_change r ≡ t → answered a (c ++ drop k b) ≡ called (perform (ledger_of b) (ordered 0 r))
        go false f = part_same f
        go true f =
            kept-count
            (counted-refused (ledger_of b).diary (ledger_of b).changes r m p f no
            ∙ (λ j. record { answer = sym no j; state = sym (refused-keeps (ledger_of b).diary r m p no) j; changes = (ledger_of b).changes }))

    -- a change that is done, and the count raised
    pub part-raised : {n v : ℕ} → n ≡ (ledger_of b).changes → a ≡ done_with v → is_change r ≡ true → eqb n most_changes ≡ false
        → answered a (set (c ++ drop k b) (length (c ++ drop k b) - 1) (n + 1)) ≡ called (perform (ledger_of b) (ordered 0 r))
    part-raised {n} {v} count q change less =
        let below : eqb (ledger_of b).changes most_changes ≡ false = ap (λ (m : ℕ). eqb m most_changes) (sym count) ∙ less in
        let one : n + 1 ≡ suc (ledger_of b).changes = omega (arith, count) in
        ap₂ answered q
        (ap₂ (λ (w : List ℕ) (m : ℕ). set w (length w - 1) m) stepped-words one ∙ recounted _ stepped-sound (suc (ledger_of b).changes))
        ∙ ap (λ (o : Counted). called (stepped (ledger_of b).tail o))
        (sym (counted-open (ledger_of b).diary (ledger_of b).changes r v change below (sym part-answer ∙ q)))

  -- at the greatest count nothing is written: the answer is the one that is foreseen
  pub foreseen-full : (r : Request) {a : Answer} → (ledger_of b).changes ≡ most_changes
      → a ≡ (counted_step (ledger_of b).diary (ledger_of b).changes r).answer → answered a b ≡ called (perform (ledger_of b) (ordered 0 r))
  foreseen-full r {a} full q =
      ap₂ answered q (sym (words-ledger_of b good.laid good.lawful))
      ∙ ap (λ (o : Counted). called (stepped (ledger_of b).tail o)) (sym (stays (is_change r) refl))
    where
      stays : (t : Bool) → is_change r ≡ t → counted_step (ledger_of b).diary (ledger_of b).changes r
          ≡ record {
            answer = (counted_step (ledger_of b).diary (ledger_of b).changes r).answer;
            state = (ledger_of b).diary;
            changes = (ledger_of b).changes;
          }
      stays true f = full-stays (ledger_of b).diary (ledger_of b).changes r f full
      stays false f =
          let e = only-asked (ledger_of b).diary (ledger_of b).changes r f in
          e ∙ (λ i. record { answer = sym (ap (λ (o : Counted). o.answer) e) i; state = (ledger_of b).diary; changes = (ledger_of b).changes })

  -- an order that is not kept: the request without an order, which leaves the book c, and behind its diary the tail in which the answer is
  -- kept
  module _ {k : ℕ} (e : k ≡ diary_length S) (r : Request) {a : Answer} {c : List ℕ} (h : answered a c ≡ called (perform (ledger_of b) (ordered 0 r))) where
    after : Ledger
    after = (perform (ledger_of b) (ordered 0 r)).ledger

    after-sound : LedgerSound after
    unfolding after
    after-sound = perform-sound (ledger_of b) (ledger-sound b good.laid good.lawful) (ordered 0 r)

    after-words : c ≡ book_words after
    unfolding after
    after-words = ap (λ (v : Called). v.book) h

    diary-there : length (words after.diary) ≡ k
    unfolding after
    diary-there = diary-words after after-sound ∙ ap diary_length (order-settings (ledger_of b) 0 r None ∙ settings-are) ∙ sym e

    tail-there : length (tail_words (ledger_of b).tail) ≡ length b - 1 - k
    tail-there =
        tail-words-long (ledger_of b).tail (ledger-sound b good.laid good.lawful).tail ∙ sym (ap length (lent-tail b good.laid good.read e) ∙ tail-in-long (behind_of b) (behind-long b good.laid))
        ∙ length-take-le (length b - 1 - k) (drop k b) (omega (arith, length-drop k b))

    behind-there : drop k c ≡ tail_words (ledger_of b).tail ++ (after.changes ∷ [])
    unfolding book_words behind_words after
    behind-there = ap (drop k) after-words ∙ drop_at (words after.diary) (behind_words after.tail after.changes) k diary-there

    -- what is lent of it is the tail as it was
    lent_again : take (length b - 1 - k) (drop k c) ≡ tail_words (ledger_of b).tail
    lent_again =
        ap (take (length b - 1 - k)) behind-there ∙ take_at (tail_words (ledger_of b).tail) (after.changes ∷ []) (length b - 1 - k) tail-there

    pub again-long : length (take (length b - 1 - k) (drop k c)) ≡ tail_length
    again-long = ap length lent_again ∙ tail-words-long (ledger_of b).tail (ledger-sound b good.laid good.lawful).tail

    pub again_kept : tail_kept (take (length b - 1 - k) (drop k c)) ≡ true
    again_kept = ap tail_kept lent_again ∙ tail-kept (ledger_of b).tail (ledger-sound b good.laid good.lawful).tail

    pub again-is : tail_of (take (length b - 1 - k) (drop k c)) ≡ (ledger_of b).tail
    again-is = ap tail_of lent_again ∙ tail-back (ledger_of b).tail (ledger-sound b good.laid good.lawful).tail

    -- its answer
    answer-is : a ≡ (counted_step (ledger_of b).diary (ledger_of b).changes r).answer
    answer-is = ap (λ (v : Called). told_answer v.reply) h

    pub again-tellable : Tellable a
    again-tellable = subst Tellable (sym answer-is) (counted-tellable (ledger_of b).diary (ledger_of b).changes r)

    pub order-noted : (n : ℕ) {w : List ℕ} → kept_at (ledger_of b).tail n ≡ None → w ≡ tail_words (noted (ledger_of b).tail n r a)
        → answered a (put_mid k (length b - 1 - k) c w) ≡ called (perform (ledger_of b) (ordered n r))
    unfolding book_words behind_words after
    order-noted n {w} o t =
        let front : take k c ≡ words after.diary
        = ap (take k) after-words ∙ take_at (words after.diary) (behind_words after.tail after.changes) k diary-there in
        let rest : drop (length b - 1 - k) (drop k c) ≡ after.changes ∷ []
        = ap (drop (length b - 1 - k)) behind-there ∙ drop_at (tail_words (ledger_of b).tail) (after.changes ∷ []) (length b - 1 - k) tail-there in
        let put : take k c ++ (w ++ drop (length b - 1 - k) (drop k c))
        ≡ words after.diary ++ (tail_words (noted (ledger_of b).tail n r (counted_step (ledger_of b).diary (ledger_of b).changes r).answer) ++ (after.changes ∷ []))
        = ap₂ (λ (u v : List ℕ). u ++ v) front
        (ap₂ (λ (u v : List ℕ). u ++ v) (t ∙ ap (λ (a : Answer). tail_words (noted (ledger_of b).tail n r a)) answer-is) rest) in
        ap₂ answered answer-is put ∙ ap (λ (o : Option ℕ). called (answer_order (ledger_of b) n r o)) (sym o)

  -- the answer that three words tell
  pub answer-told : (n : ℕ) (r : Request) {t : Told} {c : List ℕ} → Telling t c (called (perform (ledger_of b) (ordered n r)))
      → answered (answer_by t) c ≡ called (perform (ledger_of b) (ordered n r))
  answer-told n r {t} {c} e =
      let is : e.answer ≡ told_answer (perform (ledger_of b) (ordered n r)).reply = ap (λ (v : Called). told_answer v.reply) e.is in
      let h : Tellable e.answer
      = subst Tellable (sym is) (order-tellable (ledger_of b) (ledger-sound b good.laid good.lawful) n r (kept_at (ledger_of b).tail n) refl) in
      ap (λ (a : Answer). answered a c) (told-answer e.answer e.told h) ∙ e.is

  pub good-step : (n : ℕ) (r : Request) → GoodBook S (book_words (perform (ledger_of b) (ordered n r)).ledger)
  good-step n r =
      subst (λ (T : Settings). GoodBook T (book_words (perform (ledger_of b) (ordered n r)).ledger))
      (order-settings (ledger_of b) n r (kept_at (ledger_of b).tail n) ∙ settings-are)
      (book-words (perform (ledger_of b) (ordered n r)).ledger
      (perform-sound (ledger_of b) (ledger-sound b good.laid good.lawful) (ordered n r)))

  pub good-call : (c : Call) → call_on b c ≡ called (perform (ledger_of b) c)
  unfolding call_on
  good-call c = rw (good.laid, good.lawful)

  -- the first of a list of calls
  pub good-calls : (d : Call) (cs : List Call) → calls b (d ∷ cs)
      ≡ record {
        replies = (perform (ledger_of b) d).reply ∷ (calls (book_words (perform (ledger_of b) d).ledger) cs).replies;
        book = (calls (book_words (perform (ledger_of b) d).ledger) cs).book;
      }
  unfolding calls
  good-calls d cs = ap (λ (c : Called). record { replies = c.reply ∷ (calls c.book cs).replies; book = (calls c.book cs).book }) (good-call d)

-- a freshly laid book
pub fresh-good : (S : Settings) → valid_settings S ≡ true → GoodBook S (fresh_book S)
unfolding empty_ledger empty_state
fresh-good S e = rw (fresh-words S e) (book-words (empty_ledger S) (empty-ledger S e))

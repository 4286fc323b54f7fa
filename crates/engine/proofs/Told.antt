-- A list of one request is one step, and its three words tell the answer: no refusal, kept or not, has the number 0.
-- Assumes nothing.
use Prim.Native.Nat.{ℕ}
use mathlib.Core.Path.{◌≡◌, refl, sym, ◌∙◌, ap, ap₂}
use Rattle.std.specs.Prelude.{Option, None, Some}
use mathlib.Core.List.{List, [], ◌∷◌, ◌++◌, append-nil}
use lib.ListN.{drop}
use Rattle.model.specs.declared.Settings.{Settings}
use Rattle.model.specs.declared.Request.{Request}
use Rattle.model.specs.Messages.{order_length, answer_words}
use Rattle.model.specs.Tail.{kept_at}
use Rattle.model.specs.Machine.{ordered, Reply, told, reply_words, answer_order, perform}
use Rattle.model.specs.Ledger.{Ledger, ledger_of}
use Rattle.model.specs.Calls.{Calls, called, calls, calls_of, replies_words}
use Rattle.model.proofs.Tells.{Tellable, read, told_back}
use Rattle.model.proofs.Ledger.{ledger-sound}
use Rattle.book.specs.Good.{GoodBook, answered}
use Rattle.engine.specs.Lists.{All}
use Rattle.step.proofs.Kept.{told_answer, order-tellable, good-calls}

-- it is all that the order gives back
order-told : (l : Ledger) (n : ℕ) (r : Request) (o : Option ℕ) → (answer_order l n r o).reply ≡ told (told_answer (answer_order l n r o).reply)
order-told l n r None = refl
order-told l n r (Some i) = refl

reply-back : (p : Reply) → p ≡ told (told_answer p) → Tellable (told_answer p) → (l : List ℕ) → read ((reply_words p ++ []) ++ l) ≡ told_answer p
reply-back p e h l =
    ap (λ (q : Reply). read ((reply_words q ++ []) ++ l)) e
    ∙ ap (λ (w : List ℕ). read (w ++ l)) (append-nil (answer_words (told_answer p)))
    ∙ told_back (told_answer p) h l

-- a list of one request on a good book is one step
pub one_told : {S : Settings} {b : List ℕ} → GoodBook S b → (n : ℕ) (r : Request) {a b' a' : List ℕ}
    → All order_length (r.kind ∷ r.a ∷ r.b ∷ r.first ∷ r.last ∷ r.n ∷ r.info ∷ n ∷ []) 1 b a b' a'
    → answered (read a') b' ≡ called (perform (ledger_of b) (ordered n r))
unfolding calls calls_of replies_words
one_told {S} {b} good n r {a} {b'} {a'} all =
    let e = good-calls good (ordered n r) [] in
    let p : Reply = (perform (ledger_of b) (ordered n r)).reply in
    let t : Tellable (told_answer p) = order-tellable (ledger_of b) (ledger-sound b good.laid good.lawful) n r (kept_at (ledger_of b).tail n) refl in
    let only : p ≡ told (told_answer p) = order-told (ledger_of b) n r (kept_at (ledger_of b).tail n) in
    ap₂ answered (ap read (all.answers ∙ ap (λ (c : Calls). replies_words c.replies ++ drop 3 a) e) ∙ reply-back p only t (drop 3 a))
    (all.book ∙ ap (λ (c : Calls). c.book) e)
    ∙ ap (λ (q : Reply). record { reply = q; book = (called (perform (ledger_of b) (ordered n r))).book }) (sym only)

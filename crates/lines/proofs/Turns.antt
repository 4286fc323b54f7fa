-- Runs over the lines of a chunk.
-- Assumes nothing.
use Prim.Native.Nat.{ℕ, suc, ◌+◌, ◌-◌, ◌*◌, ◌≤◌}
use native.Mathlib.Decide.{dec_le}
use mathlib.Core.Bool.{Bool, true, false, cond}
use lib.Dec.{eqb}
use borrow.Author.Tests.{ne_eqb}
use native.Mathlib.Numerals.{add-one}
use native.Mathlib.Omega.{arith}
use mathlib.Core.Path.{◌≡◌, refl, sym, ◌∙◌, ap}
use mathlib.Core.List.{List, [], ◌∷◌, ◌++◌, append_assoc, append-nil}
use lib.ListN.{length, take, drop, length-append, length-drop, drop_of_length-le}
use lib.Seq.{split_at, drop-drop, drop-append-le}
use Rattle.std.proofs.lemmas.List.{take_rest}
use Rattle.model.specs.declared.Settings.{Settings}
use Rattle.model.specs.Answers.{Answer}
use Rattle.std.specs.Prelude.{Ok, Err}
use Rattle.model.specs.Ledger.{Ledger, ledger_of}
use Rattle.model.specs.Calls.{Called, called}
use Rattle.model.specs.Text.{hexadecimal}
use Rattle.model.specs.Lines.{answer_line, reply_line, answer_bytes, line_outcome}
use Rattle.book.specs.Good.{GoodBook, answered}
use Rattle.lines.specs.Stream.{kept, Point, opening, later, over, Turn, silent, behind, told, ended, longer, byte, run}
use Rattle.text.specs.Put.{Put}
use Rattle.framing.specs.Front.{Free, Leads}
use Rattle.lines.specs.Post.{ends, TakenBy, Told}
use Rattle.lines.specs.declared.stream.Taken.{Taken}
use Rattle.text.proofs.Puts.{drop-further}
use Rattle.lines.proofs.Keeping.{kept_append}
use Rattle.lines.proofs.Whole.{byte-end, byte-in, run-append, ended-later}
use Rattle.lines.proofs.Books.{after_line}

-- where a piece of a line leads
unfoldable pub grown : Point → List ℕ → Point
grown (opening h) l = opening (kept (h ++ l))
grown (later x h) l = later x (kept (h ++ l))
grown over l = over

-- what is held of the line is no more than is kept
unfoldable pub Kept : Point → Type 0
Kept (opening h) = kept h ≡ h
Kept (later x h) = kept h ≡ h
Kept over = Unit {0}

grown-none : (p : Point) → Kept p → p ≡ grown p []
unfolding grown Kept
grown-none (opening h) k = ap opening (sym (ap kept (append-nil h) ∙ k))
grown-none (later x h) k = ap (later x) (sym (ap kept (append-nil h) ∙ k))
grown-none over k = refl

grown-kept : (p : Point) (l : List ℕ) → Kept (grown p l)
unfolding grown Kept
grown-kept (opening h) l = ap kept (sym (append-nil (kept (h ++ l)))) ∙ kept_append (h ++ l) [] ∙ ap kept (append-nil (h ++ l))
grown-kept (later x h) l = ap kept (sym (append-nil (kept (h ++ l)))) ∙ kept_append (h ++ l) [] ∙ ap kept (append-nil (h ++ l))
grown-kept over l = tt

grown-more : (p : Point) (b : ℕ) (l : List ℕ) → grown (longer p b) l ≡ grown p (b ∷ l)
unfolding grown longer
grown-more (opening h) b l = ap opening (kept_append (h ++ (b ∷ [])) l ∙ ap kept (append_assoc h (b ∷ []) l))
grown-more (later x h) b l = ap (later x) (kept_append (h ++ (b ∷ [])) l ∙ ap kept (append_assoc h (b ∷ []) l))
grown-more over b l = refl

longer-kept : (p : Point) (b : ℕ) → Kept (longer p b)
unfolding longer grown Kept
longer-kept (opening h) b = grown-kept (opening h) (b ∷ [])
longer-kept (later x h) b = grown-kept (later x h) (b ∷ [])
longer-kept over b = tt

-- a piece without byte 10 only makes the line longer
pub run-free : (l : List ℕ) (p : Point) → Kept p → Free l → run p l ≡ silent (grown p l)
unfolding run Free
run-free [] p k f = ap silent (grown-none p k)
run-free (b ∷ l) p k f =
    ap (λ (t : Turn). behind t.out (run t.point l)) (byte-in p f.0)
    ∙ run-free l (longer p b) (longer-kept p b) f.1
    ∙ ap silent (grown-more p b l)

run-cons : (p : Point) (b : ℕ) (l : List ℕ) → run p (b ∷ l) ≡ behind (byte p b).out (run (byte p b).point l)
unfolding run
run-cons p b l = refl

-- and byte 10 ends it
pub run-line : (p : Point) (l rest : List ℕ) → Kept p → Free l
    → run p (l ++ (10 ∷ rest)) ≡ behind (ended (grown p l)).out (run (ended (grown p l)).point rest)
run-line p l rest k f =
    run-append p l (10 ∷ rest)
    ∙ ap (λ (t : Turn). behind t.out (run t.point (10 ∷ rest))) (run-free l p k f)
    ∙ run-cons (grown p l) 10 rest
    ∙ ap (λ (t : Turn). behind t.out (run t.point rest)) (byte-end (grown p l) refl)

-- the line that leads an input
pub leads-split : (l : List ℕ) (n : ℕ) → Leads l n → l ≡ take n l ++ (10 ∷ drop (n + 1) l)
leads-split l n e =
    split_at l n 0 e.inside
    ∙ ap (λ (b : ℕ). take n l ++ (b ∷ drop (suc n) l)) e.ends
    ∙ ap (λ (k : ℕ). take n l ++ (10 ∷ drop k l)) (sym (add-one n))

-- the bytes 10 of an input: at most one for each byte, and one less behind each line
pub ends-le : (l : List ℕ) → ends l ≤ length l
unfolding ends
ends-le [] = omega arith
ends-le (b ∷ l) = by (eqb b 10) (ends-le l)
  where
    by : (t : Bool) → ends l ≤ length l → cond t (suc (ends l)) (ends l) ≤ suc (length l)
    by true h = omega arith
    by false h = omega arith

ends_more : (a b : List ℕ) → ends b ≤ ends (a ++ b)
unfolding ends
ends_more [] b = omega arith
ends_more (x ∷ a) b = by (eqb x 10) (ends_more a b)
  where
    by : (t : Bool) → ends b ≤ ends (a ++ b) → ends b ≤ cond t (suc (ends (a ++ b))) (ends (a ++ b))
    by true h = omega arith
    by false h = omega arith

ends-cons : (l : List ℕ) → ends (10 ∷ l) ≡ suc (ends l)
unfolding ends
ends-cons l = refl

pub leads-ends : (l : List ℕ) (n : ℕ) → Leads l n → suc (ends (drop (n + 1) l)) ≤ ends l
leads-ends l n e =
    let r = drop (n + 1) l in
    omega (arith, ap ends (leads-split l n e), ends_more (take n l) (10 ∷ r), ends-cons r)

pub ends-one : (l : List ℕ) → Free l → ends (l ++ (10 ∷ [])) ≡ 1
unfolding ends Free
ends-one [] f = refl
ends-one (b ∷ l) f = rw (ne_eqb b 10 f.0) (ends-one l f.1)

pub run-leads : (p : Point) (l : List ℕ) (n : ℕ) → Kept p → Leads l n
    → run p l ≡ behind (ended (grown p (take n l))).out (run (ended (grown p (take n l))).point (drop (n + 1) l))
run-leads p l n k e = ap (run p) (leads-split l n e) ∙ run-line p (take n l) (drop (n + 1) l) k e.free

pub later-kept : (x : Ledger) → Kept (later x [])
unfolding Kept
later-kept x = refl

-- behind the settings line
pub run-later : (x : Ledger) (l : List ℕ) (n : ℕ) → Leads l n
    → run (later x []) l ≡ behind (reply_line (line_outcome x (take n l)).reply) (run (later (line_outcome x (take n l)).ledger []) (drop (n + 1) l))
unfolding grown
run-later x l n e =
    run-leads (later x []) l n (later-kept x) e
    ∙ ap (λ (t : Turn). behind t.out (run t.point (drop (n + 1) l))) (ended-later x (take n l))

-- a line by itself, with its byte 10
pub run_none : (p : Point) → run p [] ≡ silent p
unfolding run
run_none p = refl

pub run_alone : (x : Ledger) (l : List ℕ) → Free l → run (later x []) (l ++ (10 ∷ [])) ≡ told (line_outcome x l)
unfolding grown
run_alone x l f =
    let o = line_outcome x l in
    run-line (later x []) l [] (later-kept x) f
    ∙ ap (λ (t : Turn). behind t.out (run t.point [])) (ended-later x l)
    ∙ ap (behind (reply_line o.reply)) (run_none (later o.ledger []))
    ∙ ap (λ (w : List ℕ). record { out = w; point = later o.ledger [] }) (append-nil (reply_line o.reply))

free_ended : (a : List ℕ) → Free (a ++ (10 ∷ [])) → ⊥
unfolding Free
free_ended [] f = f.0 refl
free_ended (b ∷ a) f = free_ended a f.1

pub rest-none : (l : List ℕ) (used : ℕ) → Free (drop used (l ++ (10 ∷ []))) → drop used (l ++ (10 ∷ [])) ≡ []
rest-none l used f = go (dec_le used (length l))
  where
    go : Dec (used ≤ length l) → drop used (l ++ (10 ∷ [])) ≡ []
    go (yes h) = absurd (free_ended (drop used l) (rw (drop-append-le used l (10 ∷ []) h) at f))
    go (no h) = drop_of_length-le (l ++ (10 ∷ [])) {i = used} (omega (arith, length-append l (10 ∷ [])))

pub run_out : (x : Ledger) (r : List ℕ) → r ≡ [] → run (later x []) r ≡ silent (later x [])
run_out x r e = ap (run (later x [])) e ∙ run_none (later x [])

pub answer-length : (a : Answer) → length (answer_line a) ≡ answer_bytes
unfolding hexadecimal
answer-length (Ok v) = refl
answer-length (Err refused) = let n = refused.number in let p = refused.place in refl

-- an answer line was written
pub put-wrote : {out out' : List ℕ} {at : ℕ} (a : Answer) → Put out out' at (answer_line a) → take (at + answer_bytes) out' ≡ take at out ++ answer_line a
put-wrote {out} {out'} {at} a p = ap (λ (m : ℕ). take (at + m) out') (sym (answer-length a)) ∙ p.wrote

-- and no more than it
pub put-past : {out out' : List ℕ} {at : ℕ} (a : Answer) → Put out out' at (answer_line a) → drop (at + answer_bytes) out' ≡ drop (at + answer_bytes) out
put-past {out} {out'} {at} a p =
    let e = answer-length a in
    ap (λ (m : ℕ). drop (at + m) out') (sym e) ∙ p.past ∙ ap (λ (m : ℕ). drop (at + m) out) e

-- one line more of the chunk c is answered
module _ {S : Settings} {b b' : List ℕ} (c : List ℕ) (i : ℕ) (t : Taken) (h : i ≤ length c) (g : GoodBook S b)
    (k : TakenBy (take (length c - i) (drop i c)) b t b') where
  leads : Leads (drop i c) (t.used - 1)
  leads = rw (take_rest c i) at k.leads

  gives : answered t.answer b' ≡ called (line_outcome (ledger_of b) (take (t.used - 1) (drop i c)))
  gives = rw (take_rest c i) at k.gives

  rest-is : drop (i + t.used) c ≡ drop (t.used - 1 + 1) (drop i c)
  rest-is =
      let n : t.used - 1 + 1 ≡ t.used = omega (arith, k.some) in
      ap (λ (m : ℕ). drop (i + m) c) (sym n) ∙ sym (drop-drop (t.used - 1 + 1) i c)

  pub more-ends : suc (ends (drop (i + t.used) c)) ≤ ends (drop i c)
  more-ends = rw rest-is (leads-ends (drop i c) (t.used - 1) leads)

  pub in_reach : i + t.used ≤ length c
  in_reach = omega (arith, k.some, leads.inside, length-drop i c)

  pub more-good : GoodBook S b'
  more-good = (after_line (take (t.used - 1) (drop i c)) g gives).good

  pub more-told : {out out' : List ℕ} {at : ℕ} → Put out out' at (answer_line t.answer)
      → behind (take (at + answer_bytes) out') (run (later (ledger_of b') []) (drop (i + t.used) c))
      ≡ behind (take at out) (run (later (ledger_of b) []) (drop i c))
  more-told {out} {out'} {at} p =
      let l = take (t.used - 1) (drop i c) in
      let o = line_outcome (ledger_of b) l in
      let w : take (at + answer_bytes) out' ≡ take at out ++ answer_line t.answer = put-wrote t.answer p in
      let a : reply_line o.reply ≡ answer_line t.answer = ap (λ (q : Called). reply_line q.reply) (sym gives) in
      let x : ledger_of b' ≡ o.ledger = (after_line l g gives).shows in
      rw (w, ← a, x, rest-is)
      (ap (λ (q : List ℕ). record { out = q; point = (run (later o.ledger []) (drop (t.used - 1 + 1) (drop i c))).point })
      (append_assoc (take at out) (reply_line o.reply) _)
      ∙ ap (behind (take at out)) (sym (run-later (ledger_of b) (drop i c) (t.used - 1) leads)))

-- of the chunk c, the first i bytes are lines that are answered
pub record So (S : Settings) (b₀ c out₀ : List ℕ) (from : ℕ) (b out : List ℕ) (at i : ℕ) : Type 0 where
  pub within : i ≤ length c
  pub more : from ≤ at
  pub room : at + answer_bytes * ends (drop i c) ≤ from + answer_bytes * ends c
  pub good : GoodBook S b
  pub past : drop at out ≡ drop at out₀
  pub book-kept : length b ≡ length b₀
  pub out-kept : length out ≡ length out₀
  pub same : behind (take at out) (run (later (ledger_of b) []) (drop i c)) ≡ behind (take from out₀) (run (later (ledger_of b₀) []) c)

pub start : {S : Settings} (b c out : List ℕ) (from : ℕ) → GoodBook S b → So S b c out from b out from 0
start b c out from g =
    record { within = omega arith; more = omega arith; room = omega arith; good = g; past = refl; book-kept = refl; out-kept = refl; same = refl }

module _ {S : Settings} {b₀ c out₀ b out : List ℕ} {from at i : ℕ} where
  pub more-so : {b' out' : List ℕ} (t : Taken) (v : So S b₀ c out₀ from b out at i) → TakenBy (take (length c - i) (drop i c)) b t b'
      → length b' ≡ length b → Put out out' at (answer_line t.answer) → So S b₀ c out₀ from b' out' (at + answer_bytes) (i + t.used)
  more-so t v k e p =
      record {
        within = in_reach c i t v.within v.good k;
        more = let h = v.more in omega arith;
        room = let h = v.room in omega (arith, more-ends c i t v.within v.good k);
        past = put-past t.answer p ∙ drop-further out out₀ at answer_bytes v.past;
        good = more-good c i t v.within v.good k;
        book-kept = e ∙ v.book-kept;
        out-kept = p.kept ∙ v.out-kept;
        same = more-told c i t v.within v.good k p ∙ v.same;
      }

  -- no line ends in the rest
  pub all_told : {b' : List ℕ} → So S b₀ c out₀ from b out at i → Free (take (length c - i) (drop i c)) × (b' ≡ b) → Told S b₀ c out₀ from b' out i at
  all_told v f =
      rw f.1
      (record {
        within = v.within;
        more = v.more;
        short = let h = v.room in omega arith;
        good = v.good;
        past = v.past;
        free = rw (take_rest c i) at f.0;
        same = v.same;
      })

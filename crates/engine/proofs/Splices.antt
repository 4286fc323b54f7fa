-- Three words written into a list, and the requests of a list of words one after the other, k words each.
-- Assumes nothing.
use Prim.Native.Nat.{ℕ, suc, ◌+◌, ◌*◌, ◌/◌, ◌-◌, ◌≤◌, ◌<◌, min}
use mathlib.Core.Path.{◌≡◌, refl, sym, ◌∙◌, ap, ap₂, subst}
use mathlib.Core.Bool.{Bool, true, false}
use mathlib.Core.List.{List, ◌∷◌, ◌++◌, append_assoc, append-nil}
use native.Mathlib.Omega.{arith}
use lib.Dec.{ltb}
use lib.ListN.{length, get_or, take, drop, length-append, length-take, length-drop, take-append-drop, get_or-eq_default}
use lib.Seq.{take_at, drop_at, drop-drop, get_or-take}
use borrow.Author.Tests.{ltb-true, ltb-false}
use Rattle.model.specs.declared.Settings.{Settings}
use Rattle.model.specs.Messages.{request_length, request_of}
use Rattle.model.specs.Machine.{Call, call_of, reply_words, perform}
use Rattle.model.specs.Ledger.{ledger_of}
use Rattle.model.specs.Calls.{Calls, calls, calls_of, replies_words}
use Rattle.model.proofs.Tells.{reply-long}
use Rattle.book.specs.Good.{GoodBook}
use Rattle.engine.specs.Lists.{spliced, One, All}
use Rattle.step.proofs.Kept.{good-calls}

module _ (l : List ℕ) (i : ℕ) (h : i + 3 ≤ length l) (ws : List ℕ) (long : length ws ≡ 3) where
  split : length (take i l ++ ws) ≡ i + 3
  split = length-append (take i l) ws ∙ omega (arith, length-take i l, long)

  pub spliced-take : take (i + 3) (spliced l i ws) ≡ take i l ++ ws
  unfolding spliced
  spliced-take = ap (take (i + 3)) (sym (append_assoc (take i l) ws (drop (i + 3) l))) ∙ take_at (take i l ++ ws) (drop (i + 3) l) (i + 3) split

  pub spliced-drop : drop (i + 3) (spliced l i ws) ≡ drop (i + 3) l
  unfolding spliced
  spliced-drop = ap (drop (i + 3)) (sym (append_assoc (take i l) ws (drop (i + 3) l))) ∙ drop_at (take i l ++ ws) (drop (i + 3) l) (i + 3) split

  pub spliced-length : length (spliced l i ws) ≡ length l
  unfolding spliced
  spliced-length = simp (length-append, length-take, length-drop) (omega (arith, long))

-- ---- the words of a request: seven, or eight with its order

abbrev pub Width : ℕ → Type 0
Width k = (7 ≤ k) × (k ≤ 8)

of-widths : (P : ℕ → Type 0) → P 7 → P 8 → (k : ℕ) → Width k → P k
of-widths P seven eight k h = go (ltb k 8) refl
  where
    go : (t : Bool) → ltb k 8 ≡ t → P k
    go true q = let e : 7 ≡ k = omega (arith, h, ltb-true k 8 q) in subst P e seven
    go false q = let e : 8 ≡ k = omega (arith, h, ltb-false k 8 q) in subst P e eight

-- where the next request begins, and where the last one ends
pub place-next : {k : ℕ} → Width k → (i : ℕ) → i * k + k ≡ (i + 1) * k
place-next {k} h i = of-widths (λ k. i * k + k ≡ (i + 1) * k) (omega arith) (omega arith) k h

pub place-within : {k : ℕ} → Width k → {i n m : ℕ} → i < n → n * k ≤ m → i * k + k ≤ m
place-within {k} h {i} {n} {m} l =
    of-widths (λ k. n * k ≤ m → i * k + k ≤ m) (λ f. omega (arith, l, f)) (λ f. omega (arith, l, f)) k h

pub list-fits : {k : ℕ} → Width k → {n m : ℕ} (o : ℕ) → n ≡ min (min (m / k) (o / 3)) 4294967295 → n * k ≤ m
list-fits {k} h {n} {m} o =
    of-widths (λ k. n ≡ min (min (m / k) (o / 3)) 4294967295 → n * k ≤ m) (λ e. omega (arith, e)) (λ e. omega (arith, e)) k h

-- the words of the request, and the number of its order
pub order-of : {k : ℕ} → Width k → (w : List ℕ) → (k ≡ 7 → ⊥) → get_or w 7 0 ≡ get_or (take k w) 7 0
order-of {k} h w d = sym (get_or-take k w 7 0 (omega (arith, h, d)))

pub no-order : (w : List ℕ) {k : ℕ} → k ≡ 7 → 0 ≡ get_or (take k w) 7 0
no-order w {k} e = sym (get_or-eq_default (take k w) 0 (omega (arith, length-take k w, e)))

pub request-of : {k : ℕ} → Width k → (w : List ℕ) → request_of w ≡ request_of (take k w)
request-of {k} h w =
    λ i. record {
      kind = sym (get_or-take k w 0 0 (omega (arith, h))) i;
      a = sym (get_or-take k w 1 0 (omega (arith, h))) i;
      b = sym (get_or-take k w 2 0 (omega (arith, h))) i;
      first = sym (get_or-take k w 3 0 (omega (arith, h))) i;
      last = sym (get_or-take k w 4 0 (omega (arith, h))) i;
      n = sym (get_or-take k w 5 0 (omega (arith, h))) i;
      info = sym (get_or-take k w 6 0 (omega (arith, h))) i;
    }

-- after i of n requests: what is left of the list gives the rest of the answers, and the book
pub record Left (k : ℕ) (w : List ℕ) (n : ℕ) (b₀ a₀ : List ℕ) (i : ℕ) (b a : List ℕ) : Type 0 where
  pub most : i ≤ n
  pub long : length a ≡ length a₀
  pub book : (calls b (calls_of k (n - i) (drop (i * k) w))).book ≡ (calls b₀ (calls_of k n w)).book
  pub answers : take (i * 3) a ++ replies_words (calls b (calls_of k (n - i) (drop (i * k) w))).replies
      ≡ replies_words (calls b₀ (calls_of k n w)).replies
  pub behind : drop (i * 3) a ≡ drop (i * 3) a₀

pub left-start : (k : ℕ) (w : List ℕ) (n : ℕ) (b a : List ℕ) → Left k w n b a 0 b a
left-start k w n b a =
    let e : n - 0 ≡ n = omega arith in
    let z : 0 * k ≡ 0 = omega arith in
    let first : calls_of k (n - 0) (drop (0 * k) w) ≡ calls_of k n w = ap₂ (λ (m j : ℕ). calls_of k m (drop j w)) e z in
    record {
      most = omega arith;
      long = refl;
      book = ap (λ (cs : List Call). (calls b cs).book) first;
      answers = ap (λ (cs : List Call). replies_words (calls b cs).replies) first;
      behind = refl;
    }

module _ (S : Settings) (k : ℕ) (wide : Width k) (w : List ℕ) (n : ℕ) (b₀ a₀ : List ℕ) (i : ℕ) (b a b' a' : List ℕ) (good : GoodBook S b)
    (h : i < n) (room : n * 3 ≤ length a₀) (l : Left k w n b₀ a₀ i b a) (one : One k w i b a b' a') where
  c : Call
  c = call_of (take k (drop (i * k) w))

  rest : List Call
  rest = calls_of k (n - (i + 1)) (drop ((i + 1) * k) w)

  first : calls_of k (n - i) (drop (i * k) w) ≡ c ∷ rest
  unfolding calls_of c rest
  first =
      let e : n - i ≡ suc (n - (i + 1)) = omega arith in
      ap (λ (m : ℕ). calls_of k m (drop (i * k) w)) e
      ∙ ap (λ (v : List ℕ). call_of (take k (drop (i * k) w)) ∷ calls_of k (n - (i + 1)) v)
      (drop-drop k (i * k) w ∙ ap (λ (m : ℕ). drop m w) (place-next wide i))

  taken : calls b (calls_of k (n - i) (drop (i * k) w))
      ≡ record { replies = (perform (ledger_of b) c).reply ∷ (calls b' rest).replies; book = (calls b' rest).book }
  unfolding c
  taken =
      ap (calls b) first ∙ good-calls good c rest
      ∙ ap (λ (v : List ℕ). record { replies = (perform (ledger_of b) c).reply ∷ (calls v rest).replies; book = (calls v rest).book })
      (sym one.book)

  fits : i * 3 + 3 ≤ length a
  fits = omega (arith, l.long)

  next : i * 3 + 3 ≡ (i + 1) * 3
  next = omega arith

  aw : List ℕ
  aw = reply_words (perform (ledger_of b) c).reply

  three : length (reply_words (perform (ledger_of b) c).reply) ≡ 3
  unfolding c
  three = reply-long (ledger_of b) (get_or (take k (drop (i * k) w)) request_length 0) (request_of (take k (drop (i * k) w)))

  written : take ((i + 1) * 3) a' ≡ take (i * 3) a ++ aw
  unfolding c aw
  written =
      ap (λ (k : ℕ). take k a') (sym next) ∙ ap (take (i * 3 + 3)) one.answers
      ∙ spliced-take a (i * 3) fits (reply_words (perform (ledger_of b) c).reply) three

  kept : drop ((i + 1) * 3) a' ≡ drop ((i + 1) * 3) a₀
  unfolding c
  kept =
      ap (λ (k : ℕ). drop k a') (sym next) ∙ ap (drop (i * 3 + 3)) one.answers
      ∙ spliced-drop a (i * 3) fits (reply_words (perform (ledger_of b) c).reply) three
      ∙ sym (drop-drop 3 (i * 3) a) ∙ ap (drop 3) l.behind ∙ drop-drop 3 (i * 3) a₀ ∙ ap (λ (k : ℕ). drop k a₀) next

  pub left-turn : Left k w n b₀ a₀ (i + 1) b' a'
  unfolding replies_words c rest aw
  left-turn =
      record {
        most = omega arith;
        long = ap length one.answers
            ∙ spliced-length a (i * 3) fits (reply_words (perform (ledger_of b) c).reply) three
            ∙ l.long;
        book = sym (ap (λ (u : Calls). u.book) taken) ∙ l.book;
        answers =
            ap (λ (v : List ℕ). v ++ replies_words (calls b' rest).replies) written
            ∙ append_assoc (take (i * 3) a) aw (replies_words (calls b' rest).replies)
            ∙ sym (ap (λ (u : Calls). take (i * 3) a ++ replies_words u.replies) taken)
            ∙ l.answers;
        behind = kept;
      }

pub left_end : (k : ℕ) (w : List ℕ) (n : ℕ) (b₀ a₀ : List ℕ) (i : ℕ) (b a : List ℕ) → n ≤ i → Left k w n b₀ a₀ i b a → All k w n b₀ a₀ b a
unfolding calls calls_of replies_words
left_end k w n b₀ a₀ i b a h l =
    let e : n - i ≡ 0 = omega arith in
    let q : i * 3 ≡ 3 * n = omega (arith, l.most) in
    record {
      book = sym (ap (λ (m : ℕ). (calls b (calls_of k m (drop (i * k) w))).book) e) ∙ l.book;
      answers =
          sym (take-append-drop (i * 3) a)
          ∙ ap₂ ◌++◌ (sym (append-nil (take (i * 3) a))
          ∙ sym (ap (λ (m : ℕ). take (i * 3) a ++ replies_words (calls b (calls_of k m (drop (i * k) w))).replies) e) ∙ l.answers)
          (l.behind ∙ ap (λ (k : ℕ). drop k a₀) q);
    }

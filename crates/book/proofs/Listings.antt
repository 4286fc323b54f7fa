-- Blocks of words that are listed first and cleared then: a list grows by a block, and its end is told.
-- Assumes nothing.
use Prim.Native.Nat.{ℕ, zero, suc, ◌+◌, ◌-◌, ◌≤◌, ◌<◌}
use mathlib.Core.Path.{◌≡◌, refl, sym, ◌∙◌, ap, subst}
use mathlib.Core.Bool.{Bool, true, false, not}
use mathlib.Core.Logic.{◌⊎◌, inl, inr}
use mathlib.Core.List.{List}
use native.Mathlib.Nat.{eq-or-lt_of_le}
use native.Mathlib.Omega.{arith}
use borrow.Author.Tests.{eqb-true}
use lib.Dec.{eqb}
use lib.ListN.{length, set, get_or, take, drop}
use lib.Seq.{get_or-set_same, get_or-set_other, get_or-take, length-take-le}
use Rattle.std.specs.Int.{from_bool}
use Rattle.book.specs.Rows.{part_count, words_count}
use Rattle.book.specs.Stores.{Cleared, Holds, Listed, times, over, zeroed, block_zeroed}
use Rattle.book.proofs.RowRuns.{part-from}
use Rattle.book.proofs.Turns.{over-turn, over-end, over-split}
use Rattle.book.proofs.Sweeps.{run-kept, run-later, length-zeroed, count-agree, cleared-none, cleared-block, cleared-then, cleared-few}

-- lists with the same first places clear the same
places-agree : (w : ℕ) (p q : List ℕ) (i n : ℕ) (b : List ℕ) → ((j : ℕ) → j < i + n → get_or q j 0 ≡ get_or p j 0)
    → times (block_zeroed w q) i n b ≡ times (block_zeroed w p) i n b
unfolding block_zeroed
places-agree w p q i zero b h = refl
places-agree w p q i (suc n) b h =
    places-agree w p q (suc i) n (block_zeroed w q i b) (λ j l. h j (omega arith))
    ∙ ap (λ (m : ℕ). times (block_zeroed w p) (suc i) n (over (zeroed w) m (m + 64) b)) (h i (omega arith))

-- one place more is cleared after those before it
place-more : (w : ℕ) (p : List ℕ) (blocks n : ℕ) (b : List ℕ) → get_or p blocks 0 ≡ n
    → over (block_zeroed w p) 0 (blocks + 1) b ≡ over (zeroed w) n (n + 64) (over (block_zeroed w p) 0 blocks b)
unfolding block_zeroed
place-more w p blocks n b e =
    let c = over (block_zeroed w p) 0 blocks b in
    over-split (block_zeroed w p) 0 blocks (blocks + 1) b (omega arith) (omega arith)
    ∙ over-turn (block_zeroed w p) blocks (blocks + 1) c (omega arith)
    ∙ over-end (block_zeroed w p) (blocks + 1) (blocks + 1) (block_zeroed w p blocks c) (omega arith)
    ∙ ap (λ (m : ℕ). over (zeroed w) m (m + 64) c) e

-- no block; and what stands behind the listed places is free
pub holds-none : (w start : ℕ) (b p : List ℕ) → Holds w start start b p 0 0
holds-none w start b p = record { few = omega arith; inside = record { at = λ j h. absurd (omega (arith, h)) }; cleared = cleared-none w start b }

holds-set : {w start n : ℕ} {b p : List ℕ} {blocks words : ℕ} (x : ℕ) → Holds w start n b p blocks words
    → Holds w start n b (set p blocks x) blocks words
holds-set {w} {b = b} {p = p} {blocks = blocks} x h =
    record {
      few = h.few;
      inside = record { at = λ j l. omega (arith, h.inside.at j l, other j l) };
      cleared = record { is = places-agree w p (set p blocks x) 0 (blocks - 0) b (λ j l. other j (omega (arith, l))) ∙ h.cleared.is; count = h.cleared.count };
    }
  where
    other : (j : ℕ) → j < blocks → get_or (set p blocks x) j 0 ≡ get_or p j 0
    other j l = get_or-set_other p blocks j x 0 (λ e. omega (arith, e, l))

-- the next block, of which `here` words are w: it stays where there are none, and is listed otherwise
module _ {w start n : ℕ} {b p : List ℕ} {blocks words here : ℕ} (l : start ≤ n) (room : n + 64 ≤ length b)
    (e : here ≡ part_count (take (n + 64 - n) (drop n b)) w) (h : Holds w start n b p blocks words) where
  abbrev done : List ℕ
  done = over (block_zeroed w p) 0 blocks b

  long : length done ≡ length b
  long = ap length h.cleared.is ∙ length-zeroed w start (n - start) b

  counted : here ≡ words_count done w n (n + 64)
  counted =
      (cleared-block w n (n + 64) b (over (zeroed w) n (n + 64) b) here (omega arith) room refl e).count
      ∙ sym (count-agree b done w n (n + 64)
      (λ j a _. ap (λ (c : List ℕ). get_or c j 0) h.cleared.is ∙ run-later w start (n - start) j b (omega (arith, a, l))))

  behind : (d : List ℕ) → d ≡ over (zeroed w) n (n + 64) done → Cleared w start (n + 64) b d (words + here)
  behind d i = cleared-then l (omega arith) h.cleared (record { is = i; count = counted })

  holds-empty : here ≡ 0 → Holds w start (n + 64) b p blocks (words + here)
  unfolding words_count
  holds-empty z =
      let none : part_count (take (n + 64 - n) (drop n done)) w ≡ 0 = part-from done w n (n + 64 - n) (omega (arith, room, long)) ∙ sym counted ∙ z in
      record {
        few = omega (arith, h.few);
        inside = record { at = λ j a. omega (arith, h.inside.at j a) };
        cleared = behind done (sym (run-kept w n (n + 64) done (omega arith) (omega (arith, room, long)) none));
      }

  holds-full : get_or p blocks 0 ≡ n → Holds w start (n + 64) b p (blocks + 1) (words + here)
  holds-full s =
      record {
        few = omega (arith, h.few);
        inside = record { at = λ j a. go j (eq-or-lt_of_le (let q : j ≤ blocks = omega (arith, a) in q)) };
        cleared = behind (over (block_zeroed w p) 0 (blocks + 1) b) (place-more w p blocks n b s);
      }
    where
      go : (j : ℕ) → (j ≡ blocks) ⊎ (j < blocks) → get_or p j 0 + 64 ≤ n + 64
      go j (inl q) = omega (arith, ap (λ (j : ℕ). get_or p j 0) q ∙ s)
      go j (inr q) = omega (arith, h.inside.at j q)

pub holds-next : {w start n : ℕ} {b p : List ℕ} {blocks words here more : ℕ} → start ≤ n → n + 64 ≤ length b → blocks < length p
    → here ≡ part_count (take (n + 64 - n) (drop n b)) w → more ≡ from_bool (not (eqb here 0)) → Holds w start n b p blocks words
    → Holds w start (n + 64) b (set p blocks n) (blocks + more) (words + here)
holds-next {w} {start} {n} {b} {p} {blocks} {words} {here} {more} l room r e m h = go (eqb here 0) refl m
  where
    all : ℕ → Type 0
    all k = Holds w start (n + 64) b (set p blocks n) k (words + here)

    go : (t : Bool) → eqb here 0 ≡ t → more ≡ from_bool (not t) → all (blocks + more)
    go true q m =
        let z : blocks ≡ blocks + more = omega (arith, m) in
        subst all z (holds-empty l room e (holds-set n h) (eqb-true here 0 q))
    go false q m =
        let z : blocks + 1 ≡ blocks + more = omega (arith, m) in
        subst all z (holds-full l room e (holds-set n h) (get_or-set_same p blocks n 0 r))

-- the place behind the blocks told at the end
pub listed-is : {w start n end : ℕ} {b p : List ℕ} {blocks words : ℕ} → blocks < length p → n ≤ end → Holds w start n b p blocks words
    → Listed w start end b (set p blocks n) blocks words
listed-is {w} {start} {n} {end} {b} {p} {blocks} {words} r l h =
    let s : get_or (set p blocks n) blocks 0 ≡ n = get_or-set_same p blocks n 0 r in
    record {
      holds = subst (λ (m : ℕ). Holds w start m b (set p blocks n) blocks words) (sym s) (holds-set n h);
      stop = omega (arith, s, l);
    }

-- the first places of a list that ends before the book does, as a list
module _ {w start end : ℕ} {b p : List ℕ} {blocks words : ℕ} (h : Listed w start end b p blocks words) (r : blocks ≤ length p) where
  abbrev first : List ℕ
  first = take blocks p

  first-long : length first ≡ blocks
  first-long = length-take-le blocks p r

  first_at : (j : ℕ) → j < blocks → get_or first j 0 ≡ get_or p j 0
  first_at j a = get_or-take blocks p j 0 (omega (arith, a))

  -- and what is left when their blocks are cleared
  pub listed-cleared : {c : List ℕ} → c ≡ over (block_zeroed w (take blocks p)) 0 (length (take blocks p)) b
      → Cleared w start (get_or p blocks 0) b c words
  listed-cleared e =
      record {
        is = e ∙ ap (λ (n : ℕ). over (block_zeroed w first) 0 n b) first-long
            ∙ places-agree w p first 0 (blocks - 0) b (λ j a. first_at j (omega (arith, a))) ∙ h.holds.cleared.is;
        count = h.holds.cleared.count;
      }

-- no index is behind a short list
pub few-blocks : {w start n : ℕ} {b p : List ℕ} {blocks words : ℕ} → Holds w start n b p blocks words → n < start + 2048 → blocks < 32
few-blocks h l = omega (arith, h.few, l)

pub block-few : (w n : ℕ) (b : List ℕ) {r : ℕ} → n + 64 ≤ length b → r ≡ part_count (take (n + 64 - n) (drop n b)) w → r ≤ 64
block-few w n b {r} room e =
    omega (arith, cleared-few (cleared-block w n (n + 64) b (over (zeroed w) n (n + 64) b) r (omega arith) room refl e))

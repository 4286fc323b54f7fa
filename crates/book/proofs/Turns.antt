-- A loop over slots, items or words as a repetition: one turn, the end, two parts, and turns that change nothing; and what a loop of
-- writes keeps.
-- Assumes nothing.
use Prim.Native.Nat.{ℕ, zero, suc, ◌+◌, ◌-◌, ◌≤◌, ◌<◌, min}
use mathlib.Core.Path.{◌≡◌, refl, sym, ◌∙◌, ap, subst}
use mathlib.Core.List.{List}
use native.Mathlib.Omega.{arith}
use lib.ListN.{length}
use Rattle.book.specs.declared.grid.Grid.{Grid}
use Rattle.book.specs.Grids.{Fits}
use Rattle.book.specs.Lent.{Lies}
use Rattle.book.specs.Stores.{Wrote, times, over}

pub over-turn : (F : ℕ → List ℕ → List ℕ) (i to : ℕ) (b : List ℕ) → i < to → over F i to b ≡ over F (i + 1) to (F i b)
over-turn F i to b h =
    let n : to - i ≡ suc (to - (i + 1)) = omega arith in
    let e : suc i ≡ i + 1 = omega arith in
    ap (λ (n : ℕ). times F i n b) n ∙ ap (λ (i' : ℕ). times F i' (to - (i + 1)) (F i b)) e

pub over-end : (F : ℕ → List ℕ → List ℕ) (i to : ℕ) (b : List ℕ) → to ≤ i → over F i to b ≡ b
over-end F i to b h = let n : to - i ≡ 0 = omega arith in ap (λ (n : ℕ). times F i n b) n

-- from the end on there is no turn, wherever they would start
pub over-low : (F : ℕ → List ℕ → List ℕ) (from to : ℕ) (b : List ℕ) → over F (min from to) to b ≡ over F from to b
over-low F from to b = ap (λ (n : ℕ). times F (min from to) n b) e ∙ go (to - from) refl
  where
    e : to - min from to ≡ to - from
    e = omega arith

    go : (n : ℕ) → to - from ≡ n → times F (min from to) n b ≡ times F from n b
    go zero q = refl
    go (suc n) q = let l : min from to ≡ from = omega (arith, q) in ap (λ (i : ℕ). times F i (suc n) b) l

pub times_none : (F : ℕ → List ℕ → List ℕ) (lo n : ℕ) (b : List ℕ) → ((j : ℕ) → lo ≤ j → j < lo + n → F j b ≡ b) → times F lo n b ≡ b
times_none F lo zero b h = refl
times_none F lo (suc n) b h =
    ap (times F (suc lo) n) (h lo (omega arith) (omega arith)) ∙ times_none F (suc lo) n b (λ j l k. h j (omega arith) (omega arith))

-- repetitions one after the other, and of the same turns
pub times-add : (F : ℕ → List ℕ → List ℕ) (i m n : ℕ) (b : List ℕ) → times F i (m + n) b ≡ times F (i + m) n (times F i m b)
times-add F i zero n b =
    let z : 0 + n ≡ n = omega arith in
    let e : i ≡ i + 0 = omega arith in
    ap (λ (k : ℕ). times F i k b) z ∙ ap (λ (k : ℕ). times F k n b) e
times-add F i (suc m) n b =
    let z : suc m + n ≡ suc (m + n) = omega arith in
    let e : suc i + m ≡ i + suc m = omega arith in
    ap (λ (k : ℕ). times F i k b) z ∙ times-add F (suc i) m n (F i b) ∙ ap (λ (k : ℕ). times F k n (times F (suc i) m (F i b))) e

pub over-split : (F : ℕ → List ℕ → List ℕ) (i m n : ℕ) (b : List ℕ) → i ≤ m → m ≤ n → over F i n b ≡ over F m n (over F i m b)
over-split F i m n b h k =
    let e : n - i ≡ (m - i) + (n - m) = omega arith in
    let z : i + (m - i) ≡ m = omega arith in
    ap (λ (k : ℕ). times F i k b) e ∙ times-add F i (m - i) (n - m) b ∙ ap (λ (k : ℕ). times F k (n - m) (over F i m b)) z

pub times-from : (F G : ℕ → List ℕ → List ℕ) (p i n : ℕ) (b : List ℕ) → ((j : ℕ) (b : List ℕ) → F j b ≡ G (p + j) b) → times F i n b
    ≡ times G (p + i) n b
times-from F G p i zero b h = refl
times-from F G p i (suc n) b h =
    let e : p + suc i ≡ suc (p + i) = omega arith in
    ap (times F (suc i) n) (h i b) ∙ times-from F G p (suc i) n (G (p + i) b) h ∙ ap (λ (k : ℕ). times G k n (G (p + i) b)) e

pub times_long : (F : ℕ → List ℕ → List ℕ) → ((i : ℕ) (b : List ℕ) → length (F i b) ≡ length b) → (i n : ℕ) (b : List ℕ) → length (times F i n b)
    ≡ length b
times_long F h i zero b = refl
times_long F h i (suc n) b = times_long F h (suc i) n (F i b) ∙ h i b

-- words as many as before hold the same grids
pub wrote_by : (F : List ℕ → List ℕ) (b c : List ℕ) → c ≡ F b → length (F b) ≡ length b → Wrote F b c
unfolding Lies
wrote_by F b c e l = record { is = e; stays = λ g f. subst (Fits g) (sym (ap length e ∙ l)) f }

pub wrote_none : (F : List ℕ → List ℕ) (b : List ℕ) → F b ≡ b → Wrote F b b
wrote_none F b e = record { is = sym e; stays = λ g f. f }

-- one write after another
pub wrote_then : {F G : List ℕ → List ℕ} {b c d : List ℕ} → Wrote F b c → Wrote G c d → Wrote (λ b. G (F b)) b d
wrote_then {F} {G} w v = record { is = v.is ∙ ap G w.is; stays = λ g f. v.stays g (w.stays g f) }

-- a loop of writes from b₀, with b before turn i
pub record Turning (F : ℕ → List ℕ → List ℕ) (from to : ℕ) (b₀ : List ℕ) (i : ℕ) (b : List ℕ) : Type 0 where
  pub same : over F i to b ≡ over F from to b₀
  pub stays : (g : Grid) → Lies g b₀ → Lies g b

pub turning-start : {F : ℕ → List ℕ → List ℕ} {from to : ℕ} {b : List ℕ} → Turning F from to b from b
turning-start = record { same = refl; stays = λ g f. f }

pub turning-next : {F : ℕ → List ℕ → List ℕ} {from to : ℕ} {b₀ : List ℕ} {i : ℕ} {b c : List ℕ}
    → Turning F from to b₀ i b → i < to → Wrote (F i) b c → Turning F from to b₀ (i + 1) c
turning-next {F} {from} {to} {b₀} {i} {b} t h w =
    record {
      same = ap (over F (i + 1) to) w.is ∙ sym (over-turn F i to b h) ∙ t.same;
      stays = λ g f. w.stays g (t.stays g f);
    }

pub turning-end : {F : ℕ → List ℕ → List ℕ} {from to : ℕ} {b₀ : List ℕ} {i : ℕ} {b : List ℕ}
    → Turning F from to b₀ i b → to ≤ i → Wrote (over F from to) b₀ b
turning-end {F} {from} {to} {b₀} {i} {b} t h = record { is = sym (over-end F i to b h) ∙ t.same; stays = t.stays }

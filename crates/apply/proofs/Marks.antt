-- A bit turned twice is turned once; so the one, two or three slots of a short run are three slots marked, some of them again.
-- Assumes nothing.
use Prim.Native.Nat.{ℕ, zero, suc, ◌+◌, ◌-◌, ◌/◌, ◌%◌, ◌≤◌, ◌<◌, min}
use mathlib.Core.Path.{◌≡◌, refl, sym, ◌∙◌, ap}
use mathlib.Core.Bool.{Bool, true, false, not, ◌&&◌, ◌||◌, cond}
use borrow.Author.Tests.{leb-true, leb-false}
use Rattle.std.proofs.Math.Bool.{and_assoc, and_self, or_assoc, or_self}
use mathlib.Core.List.{List}
use native.Mathlib.Omega.{arith}
use lib.Dec.{eqb, leb}
use lib.ListN.{length, set, get_or, length-set}
use lib.Seq.{set-get_or, get_or-set_same}
use Rattle.model.specs.Bounded.{bit}
use Rattle.pool.specs.Pool.{put, clear}
use Rattle.pool.proofs.Masks.{pack-same, put-pack, clear-pack}
use Rattle.book.specs.declared.grid.Grid.{Grid}
use Rattle.book.specs.Grids.{place, cell_at}
use Rattle.book.specs.Lent.{Lies}
use Rattle.book.specs.Stores.{over, replaced}
use Rattle.book.proofs.Cells.{cell_room}
use Rattle.book.proofs.Turns.{over-turn, over-end}
use Rattle.queries.specs.Found.{middle_of}
use Rattle.apply.specs.Stores.{flipped, marked, marked_three, marked_all}

or-again : (a e : Bool) → (a || e) || e ≡ a || e
or-again a e = or_assoc a e e ∙ ap (λ (t : Bool). a || t) (or_self e)

and_again : (a e : Bool) → (a && e) && e ≡ a && e
and_again a e = and_assoc a e e ∙ ap (λ (t : Bool). a && t) (and_self e)

put-again : (w k : ℕ) → put (put w k) k ≡ put w k
unfolding put
put-again w k =
    put-pack (λ t. bit w t || eqb t k) 0 k
    ∙ pack-same (λ t. (bit w t || eqb t k) || eqb t (0 + k)) (λ t. bit w t || eqb t k) 0 0 32
    (λ t h. let z : 0 + k ≡ k = omega arith in rw z (or-again (bit w (0 + t)) (eqb (0 + t) k)))

clear-again : (w k : ℕ) → clear (clear w k) k ≡ clear w k
unfolding clear
clear-again w k =
    clear-pack (λ t. bit w t && not (eqb t k)) 0 k
    ∙ pack-same (λ t. (bit w t && not (eqb t k)) && not (eqb t (0 + k))) (λ t. bit w t && not (eqb t k)) 0 0 32
    (λ t h. let z : 0 + k ≡ k = omega arith in rw z (and_again (bit w (0 + t)) (not (eqb (0 + t) k))))

flipped-again : (on : Bool) (w k : ℕ) → flipped on (flipped on w k) k ≡ flipped on w k
flipped-again true w k = put-again w k
flipped-again false w k = clear-again w k

module _ (g : Grid) (on : Bool) (v : ℕ) (hv : v / 32 < g.items) where
  marked-long : (i : ℕ) (b : List ℕ) → length (marked g on v i b) ≡ length b
  unfolding marked replaced
  marked-long i b = length-set b (place g i (v / 32) 0) _

  marked-again : (i : ℕ) (b : List ℕ) → place g i (v / 32) 0 < length b → marked g on v i (marked g on v i b) ≡ marked g on v i b
  unfolding marked replaced cell_at
  marked-again i b l =
      let n : ℕ = place g i (v / 32) 0 in
      let x : ℕ = flipped on (get_or b n 0) (v % 32) in
      let s : get_or (set b n x) n 0 ≡ x = get_or-set_same b n x 0 l in
      let e : flipped on (get_or (set b n x) n 0) (v % 32) ≡ get_or (set b n x) n 0 =
      ap (λ (y : ℕ). flipped on y (v % 32)) s ∙ flipped-again on (get_or b n 0) (v % 32) ∙ sym s in
      ap (λ (y : ℕ). set (set b n x) n y) e ∙ set-get_or (set b n x) n 0

  in-book : (i : ℕ) (b : List ℕ) → Lies g b → i < g.slots → place g i (v / 32) 0 < length b
  unfolding Lies
  in-book i b f hi = omega (arith, f.ends, f.wide, (cell_room g.width hi hv).room)

  -- the slots of a short run, the last one marked again where they are fewer than three
  pub three-are-all : (from to : ℕ) (b : List ℕ) → Lies g b → to ≤ g.slots → from < to → (to - 1) - from ≤ 2
      → marked_three g on v from (min (from + 1) (to - 1)) (to - 1) b ≡ marked_all g on v from to b
  unfolding marked_three marked_all
  three-are-all from to b f h l s = go ((to - 1) - from) (omega arith) s
    where
      F : ℕ → List ℕ → List ℕ
      F i = marked g on v i

      last : (i : ℕ) (c : List ℕ) → i + 1 ≡ to → F i c ≡ over F i to c
      last i c e = sym (over-turn F i to c (omega arith) ∙ over-end F (i + 1) to (F i c) (omega arith))

      go : (n : ℕ) → to ≡ from + n + 1 → n ≤ 2 → F (to - 1) (F (min (from + 1) (to - 1)) (F from b)) ≡ over F from to b
      go zero e k =
          let p : to - 1 ≡ from = omega arith in
          let q : min (from + 1) (to - 1) ≡ from = omega arith in
          let a = marked-again from b (in-book from b f (omega arith)) in
          rw (q, p) (ap (F from) a ∙ a ∙ last from b (omega arith))
      go (suc zero) e k =
          let p : to - 1 ≡ from + 1 = omega arith in
          let q : min (from + 1) (to - 1) ≡ from + 1 = omega arith in
          let r : place g (from + 1) (v / 32) 0 < length (F from b) = omega (arith, marked-long from b, in-book (from + 1) b f (omega arith)) in
          rw (q, p) (marked-again (from + 1) (F from b) r ∙ last (from + 1) (F from b) (omega arith) ∙ sym (over-turn F from to b l))
      go (suc (suc zero)) e k =
          let p : to - 1 ≡ from + 1 + 1 = omega arith in
          let q : min (from + 1) (to - 1) ≡ from + 1 = omega arith in
          rw (q, p) (last (from + 1 + 1) (F (from + 1) (F from b)) (omega arith) ∙ sym (over-turn F (from + 1) to (F from b) (omega arith)) ∙ sym (over-turn F from to b l))
      go (suc (suc (suc n))) e k = absurd (let z : ⊥ = omega arith in z)

-- the slot in the middle of a run that has one
pub middle-min : (first last : ℕ) → first ≤ last → middle_of first last ≡ min (first + 1) last
unfolding middle_of
middle-min first last h = go (leb last first) refl
  where
    go : (t : Bool) → leb last first ≡ t → cond (leb last first) last (first + 1) ≡ min (first + 1) last
    go true e = ap (λ (t : Bool). cond t last (first + 1)) e ∙ (let l = leb-true last first e in omega arith)
    go false e = ap (λ (t : Bool). cond t last (first + 1)) e ∙ (let l = leb-false last first e in omega arith)

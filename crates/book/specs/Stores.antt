-- What the writing leaves do to a list of words: stores, and their repetition over items and slots.
-- Assumes nothing.
use Rattle.std.specs.Prelude.{ℕ, zero, suc, ◌+◌, ◌*◌, ◌-◌, ◌≤◌, ◌<◌, ◌≡◌, cond, List, eqb, set, get_or}
use Rattle.book.specs.declared.grid.Grid.{Grid}
use Rattle.book.specs.declared.puts.Content.{Content}
use Rattle.book.specs.Grids.{place, cell_at}
use Rattle.book.specs.Lent.{Lies}
use Rattle.book.specs.Rows.{words_count, rows_count}

-- from the words b to c by F, and every grid that lies in b lies in c
pub record Wrote (F : List ℕ → List ℕ) (b c : List ℕ) : Type 0 where
  pub is : c ≡ F b
  pub stays : (g : Grid) → Lies g b → Lies g c

-- F i, F (i + 1), .., n of them, one after the other; and those of from ≤ i < to
abbrev pub times : (ℕ → List ℕ → List ℕ) → ℕ → ℕ → List ℕ → List ℕ
times F i zero b = b
times F i (suc n) b = times F (suc i) n (F i b)

abbrev pub over : (ℕ → List ℕ → List ℕ) → ℕ → ℕ → List ℕ → List ℕ
over F from to b = times F from (to - from) b

-- word k of what a cell holds
abbrev pub word_in : Content → ℕ → ℕ
word_in c zero = c.entry
word_in c (suc zero) = c.second
word_in c (suc (suc k)) = c.third

abbrev pub empty : Content
empty = record { entry = 0; second = 0; third = 0 }

-- the first m words of c, from place n on
abbrev pub puts : Content → ℕ → ℕ → List ℕ → List ℕ
puts c n zero b = b
puts c n (suc m) b = set (puts c n m b) (n + m) (word_in c m)

-- the words of a cell, and its first word alone
unfoldable pub stored : Grid → Content → ℕ → ℕ → List ℕ → List ℕ
stored g c i j b = puts c (place g i j 0) g.width b

unfoldable pub replaced : Grid → ℕ → ℕ → ℕ → List ℕ → List ℕ
replaced g w i j b = set b (place g i j 0) w

-- a cell that holds w emptied; the cells of a row; the rows of some slots
unfoldable pub cleared : Grid → ℕ → ℕ → ℕ → List ℕ → List ℕ
cleared g w i j b = cond (eqb (cell_at g b i j) w) (stored g empty i j b) b

unfoldable pub swept_row : Grid → ℕ → ℕ → List ℕ → List ℕ
swept_row g w i b = over (λ j. cleared g w i j) 0 g.items b

unfoldable pub swept : Grid → ℕ → ℕ → ℕ → List ℕ → List ℕ
swept g w from to b = over (λ i. swept_row g w i) from to b

-- a word that is w becomes 0
unfoldable pub zeroed : ℕ → ℕ → List ℕ → List ℕ
zeroed w n b = set b n (cond (eqb (get_or b n 0) w) 0 (get_or b n 0))

-- from b to c those words become 0, and r of them were w
pub record Cleared (w start end : ℕ) (b c : List ℕ) (r : ℕ) : Type 0 where
  pub is : c ≡ over (zeroed w) start end b
  pub count : r ≡ words_count b w start end

-- the words of a block of 64 that are w become 0: the block at place j of a list
unfoldable pub block_zeroed : ℕ → List ℕ → ℕ → List ℕ → List ℕ
block_zeroed w places j b = over (zeroed w) (get_or places j 0) (get_or places j 0 + 64) b

-- the blocks at the first places of a list do not reach behind `end`
pub record Inside (places : List ℕ) (blocks end : ℕ) : Type 0 where
  pub at : (j : ℕ) → j < blocks → get_or places j 0 + 64 ≤ end

-- of the words of b from `start` to before `stop` so many are w, and all of these stand in those blocks
pub record Holds (w start stop : ℕ) (b places : List ℕ) (blocks words : ℕ) : Type 0 where
  pub few : start + 64 * blocks ≤ stop
  pub inside : Inside places blocks stop
  pub cleared : Cleared w start stop b (over (block_zeroed w places) 0 blocks b) words

-- the same, where the list tells `stop` behind those places, and it is not behind `end`
pub record Listed (w start end : ℕ) (b places : List ℕ) (blocks words : ℕ) : Type 0 where
  pub holds : Holds w start (get_or places blocks 0) b places blocks words
  pub stop : get_or places blocks 0 ≤ end

-- from b to c the rows of some slots are swept of w, and r of their cells held it
pub record Swept (g : Grid) (w from to : ℕ) (b c : List ℕ) (r : ℕ) : Type 0 where
  pub wrote : Wrote (swept g w from to) b c
  pub count : r ≡ rows_count g b w from to
  pub few : r ≤ 1000000000

-- the rows of the slots from lo to before hi, cells of one word one behind the other, are the words from `start` to before `end`
pub record Stretch (g : Grid) (lo hi start end : ℕ) : Type 0 where
  pub from : start ≡ g.base + lo * g.items
  pub to : end ≡ g.base + hi * g.items
  pub order : start ≤ end
  pub room : end ≤ g.base + g.slots * g.items * g.width

-- A whole book and its parts: what questions 1 and 2 say of the book they say of its diary and of its tail, and the book's words and the
-- ledger that it shows are read from each other.
-- Assumes nothing.
use Prim.Native.Nat.{ℕ, suc, ◌+◌, ◌-◌, ◌≤◌, ◌<◌}
use mathlib.Core.Path.{◌≡◌, refl, sym, ◌∙◌, ap, ap₂}
use mathlib.Core.Bool.{Bool, true, false, ◌&&◌, cond}
use mathlib.Core.List.{List, [], ◌∷◌, ◌++◌, append_assoc}
use native.Mathlib.Omega.{arith}
use lib.Dec.{leb, ltb, eqb}
use lib.ListN.{length, get_or, set, take, drop, length-append, length-take, length-drop, take-append-drop, get_or-append}
use lib.Seq.{get_or-take, get_or-drop, get_or_at, set_at, take_all, take_at, take-suc, drop_at, length-take-le}
use borrow.Author.Tests.{ltb-true, le-leb, eqb-true, eq-eqb}
use Rattle.model.specs.declared.Settings.{Settings}
use Rattle.model.specs.Bounded.{list}
use Rattle.model.specs.Site.{valid_settings, fixed_words, settings_length}
use Rattle.model.specs.Words.{diary_length, words}
use Rattle.model.specs.Reading.{settings_of, state_of}
use Rattle.model.specs.Tail.{Tail, tail_length, tail_words, tail_of, tail_kept}
use Rattle.model.specs.Ledger.{Ledger, behind_length, behind_words, book_length, book_words, diary_of, behind_of, tail_in, count_in, ledger_of}
use Rattle.model.specs.Laws.{well_laid, diary_laid, lawful, diary_lawful}
use Rattle.model.proofs.Search.{and_left, and_right, and-true}
use Rattle.model.proofs.Laws.{Sound}
use Rattle.model.proofs.Places.{settings-length, length-words}
use Rattle.model.proofs.ReadBack.{Valid, valid-is, seated, settings-back, state_of-words}
use Rattle.model.proofs.Shown.{words-state_of}
use Rattle.model.proofs.Sound.{book-sound}
use Rattle.model.proofs.Passes.{diary-lawful}
use Rattle.model.proofs.Tail.{TailSound, tail-shown, tail-read, tail-long, tail-kept, tail-back}

-- a ledger that a book can show
pub record LedgerSound (l : Ledger) : Type 0 where
  pub diary : Sound l.diary
  pub tail : TailSound l.tail

-- two lists with the same words up to the end of the settings have the same settings
same_head : (a b : List ℕ) (n : ℕ) → settings_length (settings_of b) ≤ n → ((i : ℕ) → i < n → get_or a i 0 ≡ get_or b i 0) → settings_of a ≡ settings_of b
unfolding settings_of settings_length
same_head a b n h e =
    λ i. record {
      dates = e 0 (omega (arith, h)) i;
      sessions = e 1 (omega (arith, h)) i;
      times = e 2 (omega (arith, h)) i;
      visitors = e 3 (omega (arith, h)) i;
      meetings = e 4 (omega (arith, h)) i;
      rooms = e 5 (omega (arith, h)) i;
      dining = e 6 (omega (arith, h)) i;
      hotels = e 7 (omega (arith, h)) i;
      transports = e 8 (omega (arith, h)) i;
      early = e 9 (omega (arith, h)) i;
      capacities = list (λ g. seat g i) 16;
    }
  where
    seat : (g : ℕ) → cond (ltb g (get_or a 6 0)) (get_or a (fixed_words + g) 0) 0 ≡ cond (ltb g (get_or b 6 0)) (get_or b (fixed_words + g) 0) 0
    seat g = ap (λ (n : ℕ). cond (ltb g n) (get_or a (fixed_words + g) 0) 0) (e 6 (omega (arith, h))) ∙ go (ltb g (get_or b 6 0)) refl
      where
        go : (t : Bool) → ltb g (get_or b 6 0) ≡ t → cond t (get_or a (fixed_words + g) 0) 0 ≡ cond t (get_or b (fixed_words + g) 0) 0
        go true q = e (fixed_words + g) (omega (arith, h, ltb-true g (get_or b 6 0) q))
        go false q = refl

-- the settings stand in the diary
pub settings-in : (S : Settings) → settings_length S ≤ diary_length S
unfolding diary_length
settings-in S = omega arith

fixed_in : (S : Settings) → fixed_words ≤ diary_length S
fixed_in S = omega (arith, settings-length S, settings-in S)

-- a book has the settings of its first part
pub diary-settings : (b : List ℕ) → settings_of (diary_of b) ≡ settings_of b
unfolding diary_of
diary-settings b =
    same_head (take (diary_length (settings_of b)) b) b (diary_length (settings_of b)) (settings-in (settings_of b))
    (λ i h. get_or-take (diary_length (settings_of b)) b i 0 h)

pub diary-behind : (b : List ℕ) → diary_of b ++ behind_of b ≡ b
unfolding diary_of behind_of
diary-behind b = take-append-drop (diary_length (settings_of b)) b

-- of what stands behind a diary, the tail and the count
module _ (w : List ℕ) (n : length w ≡ behind_length) where
  pub tail-in-long : length (tail_in w) ≡ tail_length
  unfolding tail_in behind_length
  tail-in-long = length-take-le tail_length w (omega (arith, n))

  pub behind-whole : tail_in w ++ (count_in w ∷ []) ≡ w
  unfolding tail_in count_in behind_length
  behind-whole = sym (take-suc w tail_length 0 (omega (arith, n))) ∙ take_all (suc tail_length) w (omega (arith, n))

module _ (t : Tail) (s : TailSound t) (n : ℕ) where
  pub behind-words-long : length (behind_words t n) ≡ behind_length
  unfolding behind_words behind_length
  behind-words-long = length-append (tail_words t) (n ∷ []) ∙ omega (arith, tail-long t s)

  pub tail-in-words : tail_in (behind_words t n) ≡ tail_words t
  unfolding tail_in behind_words
  tail-in-words = take_at (tail_words t) (n ∷ []) tail_length (tail-long t s)

  pub count-in-words : count_in (behind_words t n) ≡ n
  unfolding count_in behind_words
  count-in-words = get_or_at (tail_words t) n [] 0 tail_length (tail-long t s)

-- the two parts by the number of the diary's words
module _ (b : List ℕ) {S : Settings} {n : ℕ} (is : S ≡ settings_of b) (e : n ≡ diary_length S) where
  pub first_part : diary_of b ≡ take n b
  unfolding diary_of
  first_part = ap (λ (k : ℕ). take k b) (ap diary_length (sym is) ∙ sym e)

  pub part-behind : behind_of b ≡ drop n b
  unfolding behind_of
  part-behind = ap (λ (k : ℕ). drop k b) (ap diary_length (sym is) ∙ sym e)

  -- what is lent of a book from word n on
  pub lent-behind : take (length b - n) (drop n b) ≡ behind_of b
  lent-behind = take_all (length b - n) (drop n b) (omega (arith, length-drop n b)) ∙ sym part-behind

-- question 1 of the book
module _ (b : List ℕ) (one : well_laid b ≡ true) where
  pub laid-valid : valid_settings (settings_of b) ≡ true
  unfolding well_laid
  laid-valid = and_right (leb fixed_words (length b)) _ (and_left _ (eqb (length b) (book_length (settings_of b))) one)

  pub laid-long : length b ≡ book_length (settings_of b)
  unfolding well_laid
  laid-long = eqb-true _ _ (and_right (leb fixed_words (length b) && valid_settings (settings_of b)) _ one)

  pub diary-long : length (diary_of b) ≡ diary_length (settings_of b)
  unfolding diary_of book_length
  diary-long = length-take (diary_length (settings_of b)) b ∙ omega (arith, laid-long)

  pub behind-long : length (behind_of b) ≡ behind_length
  unfolding behind_of book_length
  behind-long = length-drop (diary_length (settings_of b)) b ∙ omega (arith, laid-long)

  -- what is lent of it between the diary and the last word is the tail, and the last word is the count
  pub last_word : 0 < length b
  unfolding book_length behind_length
  last_word = omega (arith, laid-long)

  module _ {S : Settings} {n : ℕ} (is : S ≡ settings_of b) (e : n ≡ diary_length S) where
    last-is : length b - 1 ≡ n + tail_length
    unfolding book_length behind_length
    last-is = omega (arith, laid-long, ap diary_length is, e)

    pub tail-fits : n ≤ length b - 1
    tail-fits = omega (arith, last-is)

    pub lent-tail : take (length b - 1 - n) (drop n b) ≡ tail_in (behind_of b)
    unfolding tail_in
    lent-tail =
        let q : length b - 1 - n ≡ tail_length = omega (arith, last-is) in
        ap₂ (λ (k : ℕ) (w : List ℕ). take k w) q (sym (part-behind b is e))

    pub count-lent : get_or b (length b - 1) 0 ≡ (ledger_of b).changes
    unfolding ledger_of count_in
    count-lent =
        ap (λ (i : ℕ). get_or b i 0) last-is ∙ sym (get_or-drop n b tail_length 0)
        ∙ ap (λ (w : List ℕ). get_or w tail_length 0) (sym (part-behind b is e))

  pub diary-fits : {S : Settings} {n : ℕ} → S ≡ settings_of b → n ≡ diary_length S → n ≤ length b
  unfolding book_length
  diary-fits is e = omega (arith, laid-long, ap diary_length is, e)

  pub laid-diary : diary_laid (diary_of b) ≡ true
  unfolding diary_laid
  laid-diary =
      rw (diary-settings b)
      (and-true
      (and-true (le-leb fixed_words (length (diary_of b)) (omega (arith, diary-long, fixed_in (settings_of b)))) laid-valid)
      (eq-eqb (length (diary_of b)) (diary_length (settings_of b)) diary-long))

  -- and question 2
  module _ (two : lawful b ≡ true) where
    pub lawful-diary : diary_lawful (diary_of b) ≡ true
    unfolding lawful
    lawful-diary = and_left _ (tail_kept (tail_in (behind_of b))) two

    pub lawful-tail : tail_kept (tail_in (behind_of b)) ≡ true
    unfolding lawful
    lawful-tail = and_right (diary_lawful (diary_of b)) _ two

    -- what stands behind the diary has the words of the tail and the count that it shows
    pub behind-shown : behind_words (ledger_of b).tail (ledger_of b).changes ≡ behind_of b
    unfolding behind_words ledger_of
    behind-shown =
        ap (λ (w : List ℕ). w ++ (count_in (behind_of b) ∷ [])) (tail-shown (tail_in (behind_of b)) (tail-in-long (behind_of b) behind-long) lawful-tail)
        ∙ behind-whole (behind_of b) behind-long

    -- the book has the words of the ledger that it shows
    pub words-ledger_of : book_words (ledger_of b) ≡ b
    unfolding book_words ledger_of
    words-ledger_of =
        ap₂ (λ (l r : List ℕ). l ++ r) (words-state_of (diary_of b) laid-diary lawful-diary) behind-shown
        ∙ diary-behind b

    pub ledger-sound : LedgerSound (ledger_of b)
    unfolding ledger_of
    ledger-sound =
        record {
          diary = book-sound (diary_of b) laid-diary lawful-diary;
          tail = tail-read (tail_in (behind_of b)) (tail-in-long (behind_of b) behind-long) lawful-tail;
        }

-- the words of a ledger
module _ (l : Ledger) (s : LedgerSound l) where
  seats : Valid l.diary.settings
  seats = valid-is l.diary.settings s.diary.valid

  behind : List ℕ
  behind = behind_words l.tail l.changes

  pub diary-words : length (words l.diary) ≡ diary_length l.diary.settings
  diary-words = length-words l.diary (seated seats)

  pub book-settings : settings_of (book_words l) ≡ l.diary.settings
  unfolding book_words behind
  book-settings =
      let back : settings_of (words l.diary) ≡ l.diary.settings = settings-back l.diary seats in
      let room : settings_length (settings_of (words l.diary)) ≤ length (words l.diary)
      = rw (back, diary-words) (settings-in l.diary.settings) in
      same_head (words l.diary ++ behind) (words l.diary) (length (words l.diary)) room
      (λ i h. get_or-append (words l.diary) behind 0 i h) ∙ back

  -- its two parts
  pub book-diary : diary_of (book_words l) ≡ words l.diary
  unfolding diary_of book_words behind
  book-diary =
      ap (λ (S : Settings). take (diary_length S) (book_words l)) book-settings
      ∙ take_at (words l.diary) behind (diary_length l.diary.settings) diary-words

  pub book-behind : behind_of (book_words l) ≡ behind_words l.tail l.changes
  unfolding behind_of book_words behind
  book-behind =
      ap (λ (S : Settings). drop (diary_length S) (book_words l)) book-settings
      ∙ drop_at (words l.diary) behind (diary_length l.diary.settings) diary-words

  pub book-long : length (book_words l) ≡ book_length l.diary.settings
  unfolding book_words book_length behind
  book-long = length-append (words l.diary) behind ∙ omega (arith, diary-words, behind-words-long l.tail s.tail l.changes)

  -- they pass questions 1 and 2, and show the ledger
  pub well-laid : well_laid (book_words l) ≡ true
  unfolding well_laid book_length
  well-laid =
      rw book-settings
      (and-true
      (and-true (le-leb fixed_words (length (book_words l)) (omega (arith, book-long, fixed_in l.diary.settings))) s.diary.valid)
      (eq-eqb (length (book_words l)) (book_length l.diary.settings) book-long))

  pub lawful-words : lawful (book_words l) ≡ true
  unfolding lawful
  lawful-words =
      rw (book-diary, book-behind, tail-in-words l.tail s.tail l.changes)
      (and-true (diary-lawful l.diary s.diary) (tail-kept l.tail s.tail))

  pub ledger_of-words : ledger_of (book_words l) ≡ l
  unfolding ledger_of
  ledger_of-words =
      λ i. record {
        diary = (ap state_of book-diary ∙ state_of-words l.diary s.diary) i;
        tail =
            (ap (λ (w : List ℕ). tail_of (tail_in w)) book-behind ∙ ap tail_of (tail-in-words l.tail s.tail l.changes)
            ∙ tail-back l.tail s.tail) i;
        changes = (ap count_in book-behind ∙ count-in-words l.tail s.tail l.changes) i;
      }

  -- another count is another last word, and nothing else
  pub recounted : (v : ℕ)
      → set (book_words l) (length (book_words l) - 1) v ≡ book_words (record { diary = l.diary; tail = l.tail; changes = v })
  unfolding book_words behind_words book_length behind_length
  recounted v =
      let front : List ℕ = words l.diary ++ tail_words l.tail in
      let n : length front ≡ length (book_words l) - 1
      = length-append (words l.diary) (tail_words l.tail) ∙ omega (arith, book-long, diary-words, tail-long l.tail s.tail) in
      ap (λ (b : List ℕ). set b (length (book_words l) - 1) v) (sym (append_assoc (words l.diary) (tail_words l.tail) (l.changes ∷ [])))
      ∙ set_at front l.changes [] v (length (book_words l) - 1) n
      ∙ append_assoc (words l.diary) (tail_words l.tail) (v ∷ [])

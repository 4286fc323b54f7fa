-- The settings line.
-- Assumes nothing.
use Prim.Native.Nat.{ℕ, ◌/◌, ◌≤◌, ◌<◌}
use native.Mathlib.Omega.{arith}
use mathlib.Core.Path.{◌≡◌, refl, sym, ◌∙◌, ap}
use mathlib.Core.Bool.{Bool, true, false, ◌&&◌, cond}
use mathlib.Core.List.{List, [], ◌++◌}
use lib.Dec.{leb}
use lib.ListN.{length, take, drop, length-append}
use lib.Seq.{take_at, drop_at, length-take-le}
use borrow.Author.Tests.{le-leb, lt-leb, eq-eqb}
use Rattle.std.specs.Prelude.{Err, Option, None, Some}
use Rattle.std.proofs.lemmas.Option.{none-some}
use Rattle.model.specs.declared.Refusal.{Refusal}
use Rattle.model.specs.declared.Settings.{Settings}
use Rattle.model.specs.Answers.{Answer}
use Rattle.model.specs.Answers.{done_with, refused_with}
use Rattle.model.specs.Site.{valid_settings, settings_most}
use Rattle.model.specs.Machine.{told}
use Rattle.model.specs.Reading.{settings_of}
use Rattle.model.specs.Ledger.{Ledger, empty_ledger, book_length, ledger_of}
use Rattle.model.specs.Calls.{Called, settings_good, fresh_book, lay}
use Rattle.model.specs.Lines.{whole_words, line_words, answer_line, answer_bytes, program_words}
use Rattle.model.proofs.Search.{never, and_right, both}
use Rattle.model.proofs.Places.{settings-length}
use Rattle.model.proofs.Shows.{good-valid}
use Rattle.book.specs.Good.{answered}
use Rattle.header.specs.Heads.{needed_length}
use Rattle.text.specs.Put.{Put}
use Rattle.lines.specs.Stream.{later, over, silent, opened}
use Rattle.lines.specs.Laying.{layable, LaidOf, LaidBy}
use Rattle.lines.specs.Post.{EndedOf}
use Rattle.lines.proofs.Whole.{settings-short}
use Rattle.step.proofs.Kept.{fresh-good}
use Rattle.lines.proofs.Books.{fresh-shows}
use Rattle.lines.proofs.Turns.{put-wrote, put-past}

-- a refusal lays no book
no-book : {A : Type 0} {e : Refusal} {n : ℕ} → Err e ≡ done_with n → A
no-book q = absurd cc

-- the cases
layable-24 : (w : List ℕ) → layable false w ≡ refused_with 24 0
unfolding layable
layable-24 w = refl

layable-25 : (w : List ℕ) → program_words < book_length (settings_of w) → layable true w ≡ refused_with 25 0
unfolding layable
layable-25 w h = simp (lt-leb (book_length (settings_of w)) program_words h)

layable-book : (w : List ℕ) → book_length (settings_of w) ≤ program_words → layable true w ≡ done_with (book_length (settings_of w))
unfolding layable
layable-book w h = simp (le-leb (book_length (settings_of w)) program_words h)

-- the length that a list of words asks for
needed-by : (w : List ℕ) (t : Bool) → settings_good w ≡ t → needed_length w ≡ cond t (Some (book_length (settings_of w))) None
unfolding needed_length
needed-by w t h = rw h

module _ (w : List ℕ) where
  good-by : {size : ℕ} (t : Bool) → settings_good w ≡ t → Some size ≡ needed_length w → (settings_good w ≡ true) × (size ≡ book_length (settings_of w))
  good-by {size} true h e =
      let s : ◌≡◌ {A = Option ℕ} (Some size) (Some (book_length (settings_of w))) = e ∙ needed-by w true h in
      (h, cc)
  good-by {size} false h e = let s : ◌≡◌ {A = Option ℕ} (Some size) None = e ∙ needed-by w false h in absurd cc

  none-by : (t : Bool) → settings_good w ≡ t → None ≡ needed_length w → settings_good w ≡ false
  none-by true h e = let s : ◌≡◌ {A = Option ℕ} None (Some (book_length (settings_of w))) = e ∙ needed-by w true h in absurd cc
  none-by false h e = h

  pub laid_none : {b : List ℕ} → None ≡ needed_length w → LaidOf w b (refused_with 24 0) b
  laid_none e =
      record { is = sym (ap (λ (t : Bool). layable t w) (none-by _ refl e) ∙ layable-24 w); fresh = λ n q. no-book q; refused = λ n q. refl }

  pub laid-large : {b : List ℕ} {size : ℕ} → Some size ≡ needed_length w → program_words < size → LaidOf w b (refused_with 25 0) b
  laid-large e h =
      let g = good-by _ refl e in
      record {
        is =
            sym (ap (λ (t : Bool). layable t w) g.0 ∙ layable-25 w (omega (arith, g.1)));
        fresh = λ n q. no-book q;
        refused = λ n q. refl;
      }

lay-good : (w b : List ℕ) → settings_good w ≡ true → length b ≡ book_length (settings_of w)
    → lay w b ≡ record { reply = told (done_with 0); book = fresh_book (settings_of w) }
unfolding lay
lay-good w b h e = simp (h, eq-eqb (length b) (book_length (settings_of w)) e)

pub laid-good : (w b : List ℕ) {last : List ℕ} {a : Answer} {size : ℕ} → Some size ≡ needed_length w → size ≤ program_words → program_words ≤ length b
    → answered a last ≡ lay w (take size b) → length last ≡ length (take size b) → LaidOf w b (done_with size) (last ++ drop size b)
laid-good w b {last} {a} {size} e h r q k =
    let g = good-by w _ refl e in
    let t = length-take-le size b (omega arith) in
    let f : last ≡ fresh_book (settings_of w) = ap (λ (c : Called). c.book) (q ∙ lay-good w (take size b) g.0 (t ∙ g.1)) in
    record {
      is = ap done_with g.1 ∙ sym (ap (λ (t : Bool). layable t w) g.0 ∙ layable-book w (omega (arith, g.1)));
      fresh = λ m p.
          let s : size ≡ m = cc in
          rw (← s)
          (omega (arith, length-append last (drop size b)), take_at last (drop size b) size (k ∙ t) ∙ f, drop_at last (drop size b) size (k ∙ t));
      refused = λ m p. no-book (sym p);
    }

-- the words of a line
module _ (l : List ℕ) {b : List ℕ} where
  refused-24 : whole_words l && settings_good (line_words l) ≡ false → LaidBy l b (refused_with 24 0) b
  refused-24 h =
      record { is = sym (ap (λ (t : Bool). layable t (line_words l)) h ∙ layable-24 (line_words l)); fresh = λ n q. no-book q; refused = λ n q. refl }

  pub by-not-whole : whole_words l ≡ false → LaidBy l b (refused_with 24 0) b
  by-not-whole h = refused-24 (rw h)

  pub by-long : settings_most < length l / 8 → LaidBy l b (refused_with 24 0) b
  by-long h = refused-24 (never (whole_words l && settings_good (line_words l)) (λ e. omega (arith, settings-short l e)))

  pub by-words : {b₀ : List ℕ} {r : Answer} → whole_words l ≡ true → LaidOf (line_words l) b₀ r b → LaidBy l b₀ r b
  by-words h k =
      record {
        is =
            k.is ∙ ap (λ (t : Bool). layable (t && settings_good (line_words l)) (line_words l)) (sym h);
        fresh = k.fresh;
        refused = k.refused;
      }

pub laid-is : {l b₀ b : List ℕ} {r q : Answer} → LaidBy l b₀ r b → r ≡ q → LaidBy l b₀ q b
laid-is {l} {b₀} {b} k e = rw e at k

-- the settings line is over
module _ (l : List ℕ) where
  abbrev S : Settings
  S = settings_of (line_words l)

  opened-24 : whole_words l && settings_good (line_words l) ≡ false → opened l ≡ record { out = answer_line (refused_with 24 0); point = over }
  unfolding opened
  opened-24 h = simp h

  opened-25 : whole_words l && settings_good (line_words l) ≡ true → leb (book_length S) program_words ≡ false
      → opened l ≡ record { out = answer_line (refused_with 25 0); point = over }
  unfolding opened
  opened-25 h k = simp (h, k)

  opened-book : whole_words l && settings_good (line_words l) ≡ true → leb (book_length S) program_words ≡ true
      → opened l ≡ silent (later (empty_ledger S) [])
  unfolding opened
  opened-book h k = simp (h, k)

  -- what was found of a line that lays a book, and of one that is refused
  book-by : {n : ℕ} (t u : Bool) → whole_words l && settings_good (line_words l) ≡ t → leb (book_length S) program_words ≡ u
      → done_with n ≡ cond t (cond u (done_with (book_length S)) (refused_with 25 0)) (refused_with 24 0)
      → (valid_settings S ≡ true) × (opened l ≡ silent (later (empty_ledger S) []))
  book-by true true h k e = (good-valid (line_words l) (and_right (whole_words l) _ h), opened-book h k)
  book-by true false h k e = no-book (sym e)
  book-by false u h k e = no-book (sym e)

  number_by : {e : Refusal} (t u : Bool) → whole_words l && settings_good (line_words l) ≡ t → leb (book_length S) program_words ≡ u
      → Err e ≡ cond t (cond u (done_with (book_length S)) (refused_with 25 0)) (refused_with 24 0)
      → opened l ≡ record { out = answer_line (Err e); point = over }
  number_by true true h k q = no-book q
  number_by true false h k q = opened-25 h k ∙ ap (λ (a : Answer). record { out = answer_line a; point = over }) (sym q)
  number_by false u h k q = opened-24 h ∙ ap (λ (a : Answer). record { out = answer_line a; point = over }) (sym q)

  pub settled-book : {b₀ b out : List ℕ} (n : ℕ) → LaidBy l b₀ (done_with n) b
      → EndedOf (opened l) (record { size = Some n; wrote = 0 }) b₀ b out out
  unfolding layable
  settled-book {b₀} {b} {out} n k =
      let f = k.fresh n refl in
      let o = book-by _ _ refl refl k.is in
      let g = fresh-good S o.0 in
      record {
        short = omega arith;
        book-past = f.2;
        out-past = refl;
        sized = record { fits = f.0; good = λ m z. let e : n ≡ m = cc in rw (← e, f.1) (record { read = refl; laid = g.laid; lawful = g.lawful }) };
        same =
            ap (λ (b : List ℕ). silent (later (ledger_of b) [])) f.1
            ∙ ap (λ (x : Ledger). silent (later x [])) (fresh-shows S o.0)
            ∙ sym o.1;
      }

  pub settled-refused : {b₀ b out out' : List ℕ} (e : Refusal) → LaidBy l b₀ (Err e) b → Put out out' 0 (answer_line (Err e))
      → EndedOf (opened l) (record { size = None; wrote = answer_bytes }) b₀ b out out'
  unfolding layable
  settled-refused {b₀} {b} {out} {out'} e k p =
      record {
        short = omega arith;
        book-past = k.refused e refl;
        out-past = put-past (Err e) p;
        sized = record { fits = omega arith; good = λ m z. absurd (none-some m z) };
        same =
            ap (λ (o : List ℕ). record { out = o; point = over }) (put-wrote (Err e) p)
            ∙ sym (number_by _ _ refl refl k.is);
      }

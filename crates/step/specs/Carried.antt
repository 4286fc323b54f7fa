-- The two functions of a kind, at a book and a request: what judges and what writes.
-- Assumes nothing.
use Rattle.std.specs.Prelude.{ℕ, ◌≡◌, true, List}
use Rattle.std.specs.Fn.{Once}
use denote.Ref.{MutBor}
use Rattle.model.specs.declared.Settings.{Settings}
use Rattle.model.specs.declared.Request.{Request}
use Rattle.model.specs.Answers.{Answer}
use Rattle.model.specs.Machine.{step}
use Rattle.model.specs.Words.{words}
use Rattle.model.specs.Reading.{state_of}
use Rattle.book.specs.declared.diary.Diary.{Diary}
use Rattle.book.specs.declared.site.Site.{Site}
use Rattle.book.specs.Lent.{reading}
use Rattle.apply.specs.Accepted.{accepted}

-- f may be called at the good diary of the words b and the request r, and its answer is the machine's
pub record Judges {F : Type 0} (g : Once F (Diary × (Request × Unit {0})) Answer) (f : F) (S : Settings) (b : List ℕ) (r : Request) : Type 0 where
  pub may : (d : Diary) → d.words.now ≡ b → d.site.settings ≡ S → g.pre f (d, (r, tt))
  pub says : (d : Diary) (a : Answer) → d.words.now ≡ b → d.site.settings ≡ S → g.post f (d, (r, tt)) a
      → a ≡ (step (state_of (reading b)) r).answer

-- f may be called there where the machine's answer is done, and leaves the words of the machine's state
pub record Writes {F : Type 0} (g : Once F (MutBor (List ℕ) × (Site × (Request × Unit {0}))) (Unit {0} × (MutBor (List ℕ) × Unit {0}))) (f : F) (S : Settings) (b : List ℕ) (r : Request) : Type 0 where
  pub may : (p : MutBor (List ℕ)) (site : Site) → p.now ≡ b → site.settings ≡ S
      → accepted (step (state_of (reading b)) r).answer ≡ true → g.pre f (p, (site, (r, tt)))
  pub leaves : (p q : MutBor (List ℕ)) (site : Site) → p.now ≡ b → g.post f (p, (site, (r, tt))) (tt, (q, tt))
      → reading q.now ≡ words (step (state_of (reading b)) r).state

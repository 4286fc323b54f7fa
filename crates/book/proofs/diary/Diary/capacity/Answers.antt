-- The word of the book is the capacity in the settings.
-- Assumes nothing.
use Rattle.book.specs.Lent.{reading}
use Rattle.book.proofs.Goods.{good-seats}
use Rattle.book.proofs.diary.Diary.capacity.Goals as goal

pub bounds-self-room : goal.bounds-self-room
unfolding reading
bounds-self-room c = (good-seats c.args.self.good c.args.room c.requires.room_lt_dining).0

pub returns : goal.returns
unfolding reading
returns c = (good-seats c.args.self.good c.args.room c.requires.room_lt_dining).1

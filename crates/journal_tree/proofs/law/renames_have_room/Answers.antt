use Rattle.journal_tree.proofs.Rooms.{renames-have-room}
use Rattle.journal_tree.proofs.law.renames_have_room.Goals as goal

pub returns : goal.returns
returns c = renames-have-room

use Rattle.journal_tree.proofs.Growing.{changes-move-ctime, names-move-ctime, names-move-mtime}
use Rattle.journal_tree.proofs.law.changes_move_times.Goals as goal

pub returns : goal.returns
returns c = record { nodes = changes-move-ctime; names = names-move-ctime; mtime = names-move-mtime }

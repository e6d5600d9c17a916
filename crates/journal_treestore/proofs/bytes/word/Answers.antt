use Rattle.std.proofs.Common.{sym, ap, ◌∙◌, w32}
use Rattle.std.specs.Int.{from_le_bytes}
use Rattle.journal_treestore.specs.Bytes.{word_at}
use Rattle.journal_treestore.proofs.Pieces.{four_bytes}
use Rattle.journal_treestore.proofs.bytes.word.Goals as goal

pub returns : goal.returns
unfolding word_at
returns c = c.from_le_bytes.ensures ∙ ap (from_le_bytes w32) (sym (four_bytes c.args.bytes.now c.args.at c.requires))

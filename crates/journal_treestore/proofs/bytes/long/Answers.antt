use Rattle.std.proofs.Common.{sym, ap, ◌∙◌, w64}
use Rattle.std.specs.Int.{from_le_bytes}
use Rattle.journal_treestore.specs.Bytes.{long_at}
use Rattle.journal_treestore.proofs.Pieces.{eight_bytes}
use Rattle.journal_treestore.proofs.bytes.long.Goals as goal

pub returns : goal.returns
unfolding long_at
returns c = c.from_le_bytes.ensures ∙ ap (from_le_bytes w64) (sym (eight_bytes c.args.bytes.now c.args.at c.requires))

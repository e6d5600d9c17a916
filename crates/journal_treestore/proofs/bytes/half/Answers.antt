use Rattle.std.proofs.Common.{sym, ap, ◌∙◌, w16}
use Rattle.std.specs.Int.{from_le_bytes}
use Rattle.journal_treestore.specs.Bytes.{half_at}
use Rattle.journal_treestore.proofs.Pieces.{two_bytes}
use Rattle.journal_treestore.proofs.bytes.half.Goals as goal

pub returns : goal.returns
unfolding half_at
returns c = c.from_le_bytes.ensures ∙ ap (from_le_bytes w16) (sym (two_bytes c.args.bytes.now c.args.at c.requires))

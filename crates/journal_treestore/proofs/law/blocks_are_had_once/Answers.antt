use Rattle.journal_treestore.proofs.Viewing.{blocks-once}
use Rattle.journal_treestore.proofs.law.blocks_are_had_once.Goals as goal

pub returns : goal.returns
returns c = blocks-once

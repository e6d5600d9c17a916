use Rattle.std.proofs.Common.{rules}
use Rattle.journal_treestore.specs.Inodes.{verifier_at}
use Rattle.journal_treestore.proofs.inode.verifier.Goals as goal

pub returns-then-bytes-eq-VERIFIER : goal.returns-then-bytes-eq-VERIFIER
unfolding verifier_at
returns-then-bytes-eq-VERIFIER c = search rules

pub returns-else-bytes-eq-VERIFIER : goal.returns-else-bytes-eq-VERIFIER
unfolding verifier_at
returns-else-bytes-eq-VERIFIER c = search rules

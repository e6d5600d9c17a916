use Rattle.std.proofs.Common.{◌≡◌, ◌<◌, rules}
use Rattle.std.proofs.lemmas.Result.{IfOk-weaker}
use Rattle.journal_treestore.specs.Places.{addr_of}
use Rattle.journal_treestore.specs.Places.Object.{owner_of}
use Rattle.journal_treeobjects.proofs.Learning.{learns-owner}
use Rattle.journal_treeobjects.proofs.tree_disk.TreeTransactionTreeDisk.owner.Goals as goal

pub returns-clause-learns : goal.returns-clause-learns
returns-clause-learns g c =
    let at : c.owner_addr-addr.result ≡ addr_of c.args.self.now.cut (owner_of c.args.block) = search rules in
    let low : c.args.block < c.args.self.now.cut.blocks = search rules in
    IfOk-weaker c.read_bytes.result _ _ (λ bytes read. learns-owner c.args.self.now c.read_bytes.new.self read.0 c.owner_addr-addr.result bytes read.1 c.args.block at low) c.read_bytes.ensures.keeps

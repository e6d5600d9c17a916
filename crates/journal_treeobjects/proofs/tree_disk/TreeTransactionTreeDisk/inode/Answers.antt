use Rattle.std.proofs.Common.{◌≡◌, ◌<◌, rules}
use Rattle.std.proofs.lemmas.Result.{IfOk-weaker}
use Rattle.journal_treestore.specs.Places.{addr_of}
use Rattle.journal_treestore.specs.Places.Object.{inode_of}
use Rattle.journal_treeobjects.proofs.Learning.{learns-inode}
use Rattle.journal_treeobjects.proofs.tree_disk.TreeTransactionTreeDisk.inode.Goals as goal

pub returns-clause-learns : goal.returns-clause-learns
returns-clause-learns g c =
    let at : c.inode_addr-addr.result ≡ addr_of c.args.self.now.cut (inode_of c.args.number) = search rules in
    let low : c.args.number < c.args.self.now.cut.numbers = search rules in
    IfOk-weaker c.read_bytes.result _ _ (λ bytes read. learns-inode c.args.self.now c.read_bytes.new.self read.0 c.inode_addr-addr.result bytes read.1 c.args.number at low) c.read_bytes.ensures.keeps

use Rattle.std.proofs.Common.{◌≡◌, rules}
use Rattle.std.proofs.lemmas.Result.{IfOk-weaker}
use Rattle.journal_treestore.specs.Places.{addr_of, IsOnDisk}
use Rattle.journal_treestore.specs.Places.Object.{data_block}
use Rattle.journal_treeobjects.proofs.Learning.{learns-block}
use Rattle.journal_treeobjects.proofs.tree_disk.TreeTransactionTreeDisk.block.Goals as goal

pub returns-clause-learns : goal.returns-clause-learns
returns-clause-learns g c =
    let at : c.block_addr-addr.result ≡ addr_of c.args.self.now.cut (data_block c.args.block) = search rules in
    let here : IsOnDisk c.args.self.now.cut (data_block c.args.block) = search rules in
    IfOk-weaker c.kept_value.result _ _ (λ value found. learns-block c.args.self.now c.keep.new.self c.in_ok-keep.ensures.keeps c.block_addr-addr.result value found c.args.block at here) c.kept_value.ensures.value

use Rattle.std.proofs.Common.{rules, ◌<◌, ◌^◌, ◌*◌, length, ap, ◌∙◌}
use Rattle.journal_treestore.specs.Bytes.{with_piece}
use Rattle.journal_treestore.specs.Entries.{entry_from}
use Rattle.journal_treestore.proofs.Recording.{length-with, with-same, with-other}
use Rattle.journal_treestore.proofs.entry.Entry.put.Goals as goal

pub returns-clause-written : goal.returns-clause-written
returns-clause-written c = c.put.ensures ∙ ap (with_piece c.args.block.now (8 * c.args.at)) c.bytes.ensures

pub returns-clause-read_back : goal.returns-clause-read_back
returns-clause-read_back c =
    let number : c.args.self.now.number < 2 ^ 32 = search rules in
    let tag : c.args.self.now.tag < 2 ^ 32 = search rules in
    ap (λ v. entry_from v c.args.at) (returns-clause-written c) ∙ with-same c.args.block.now c.args.at c.args.self.now c.requires.whole c.requires.inside number tag

pub returns-clause-others : goal.returns-clause-others
returns-clause-others c = λ i low other. ap (λ v. entry_from v i) (returns-clause-written c) ∙ with-other c.args.block.now c.args.at i c.args.self.now c.requires.whole c.requires.inside low other

pub returns-clause-length : goal.returns-clause-length
returns-clause-length c = ap length (returns-clause-written c) ∙ length-with c.args.block.now c.args.at c.args.self.now c.requires.whole c.requires.inside

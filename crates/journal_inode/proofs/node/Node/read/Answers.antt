use Rattle.std.proofs.Common.{rules}
use Rattle.journal_inode.specs.Nodes.{node_of}
use Rattle.journal_inode.proofs.Fields.{read-written, written-read}
use Rattle.journal_inode.proofs.node.Node.read.Goals as goal

pub returns-in-2-clause-read : goal.returns-in-2-clause-read
unfolding node_of
returns-in-2-clause-read c = search rules

pub returns-in-1-clause-read : goal.returns-in-1-clause-read
unfolding node_of
returns-in-1-clause-read c = search rules

pub returns-in_default-clause-read : goal.returns-in_default-clause-read
unfolding node_of
returns-in_default-clause-read c = search rules

pub returns-in-2-clause-read_back : goal.returns-in-2-clause-read_back
returns-in-2-clause-read_back c = λ node. read-written c.args.bytes.now _ node (returns-in-2-clause-read c)

pub returns-in-1-clause-read_back : goal.returns-in-1-clause-read_back
returns-in-1-clause-read_back c = λ node. read-written c.args.bytes.now _ node (returns-in-1-clause-read c)

pub returns-in_default-clause-read_back : goal.returns-in_default-clause-read_back
returns-in_default-clause-read_back c = λ node. read-written c.args.bytes.now _ node (returns-in_default-clause-read c)

pub returns-in-2-clause-writes_back : goal.returns-in-2-clause-writes_back
returns-in-2-clause-writes_back c = λ node. written-read c.args.bytes.now _ node (returns-in-2-clause-read c)

pub returns-in-1-clause-writes_back : goal.returns-in-1-clause-writes_back
returns-in-1-clause-writes_back c = λ node. written-read c.args.bytes.now _ node (returns-in-1-clause-read c)

pub returns-in_default-clause-writes_back : goal.returns-in_default-clause-writes_back
returns-in_default-clause-writes_back c = λ node. written-read c.args.bytes.now _ node (returns-in_default-clause-read c)

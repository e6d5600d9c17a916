use Rattle.std.proofs.Common.{rules}
use Rattle.journal_treestore.specs.Inodes.{inode_from}
use Rattle.journal_treestore.proofs.Fields.{read-written}
use Rattle.journal_treestore.proofs.inode.Inode.read.Goals as goal

pub returns-in-1-clause-read : goal.returns-in-1-clause-read
unfolding inode_from
returns-in-1-clause-read c = search rules

pub returns-in-2-clause-read : goal.returns-in-2-clause-read
unfolding inode_from
returns-in-2-clause-read c = search rules

pub returns-in-3-clause-read : goal.returns-in-3-clause-read
unfolding inode_from
returns-in-3-clause-read c = search rules

pub returns-in_default-clause-read : goal.returns-in_default-clause-read
unfolding inode_from
returns-in_default-clause-read c = search rules

pub returns-in-1-clause-read_back : goal.returns-in-1-clause-read_back
returns-in-1-clause-read_back c = λ inode name room few. read-written c.args.bytes.now _ inode name (returns-in-1-clause-read c) room few

pub returns-in-2-clause-read_back : goal.returns-in-2-clause-read_back
returns-in-2-clause-read_back c = λ inode name room few. read-written c.args.bytes.now _ inode name (returns-in-2-clause-read c) room few

pub returns-in-3-clause-read_back : goal.returns-in-3-clause-read_back
returns-in-3-clause-read_back c = λ inode name room few. read-written c.args.bytes.now _ inode name (returns-in-3-clause-read c) room few

pub returns-in_default-clause-read_back : goal.returns-in_default-clause-read_back
returns-in_default-clause-read_back c = λ inode name room few. read-written c.args.bytes.now _ inode name (returns-in_default-clause-read c) room few

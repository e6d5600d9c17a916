use Rattle.std.proofs.Common.{rules, ◌+◌, ◌≤◌, length}
use Rattle.journal_inode.proofs.Zeros.{other_inode}
use Rattle.journal_inode.proofs.making.first_inodes.Goals as goal

pub returns-clause-others : goal.returns-clause-others
returns-clause-others c = λ i low ne.
    other_inode c.in_ok-block.block c.copy_range.new.self i c.in_ok-block.ensures.contents low ne
    c.copy_range.ensures.before
    (λ j k from. let behind : 128 + length c.bytes.result ≤ j = search rules in c.copy_range.ensures.after j k behind)

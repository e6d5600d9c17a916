use Rattle.std.proofs.Common.{sym, subst}
use Rattle.journal_inode.specs.Admitting.{MarksOrMeets, Claims}
use Rattle.journal_inode.proofs.Blocks.{first_blocks}
use Rattle.journal_inode.proofs.rule.claim.Goals as goal

pub returns-in-File-clause-claims : goal.returns-in-File-clause-claims
returns-in-File-clause-claims c =
    subst (λ node. Claims c.args.version node c.args.owners.now.items c.mark.new.owners.items c.mark.result) (sym c.in-File.is)
    (subst (λ bs. MarksOrMeets bs c.args.owners.now.items c.mark.new.owners.items c.mark.result)
    (first_blocks c.args.version c.in-File.file c.extra_count-more.result c.numbers.result c.extra_count-more.ensures c.numbers.ensures) c.mark.ensures.marks)

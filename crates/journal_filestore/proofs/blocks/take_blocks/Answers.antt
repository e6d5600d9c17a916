use Rattle.std.proofs.Common.{subst}
use Rattle.std.specs.List.{AllByRecursion}
use Rattle.journal_filestore.specs.Doing.{HasBit}
use Rattle.journal_filestore.proofs.Doings.{IfOk-like}
use Rattle.journal_filestore.proofs.Gathering.{AreFresh-taken}
use Rattle.journal_filestore.proofs.blocks.take_blocks.Goals as goal

pub returns-clause-fresh : goal.returns-clause-fresh
returns-clause-fresh g c =
    IfOk-like c.are_clear.result _ _
    (λ clear bits is. AreFresh-taken _ c.args.count (c.in_ok-take.ensures.count c.if-not-branch.false) (c.in_ok-take.ensures.rising c.if-not-branch.false) (subst (AllByRecursion HasBit) c.deref.ensures.value (bits is)))
    c.are_clear.ensures.bits

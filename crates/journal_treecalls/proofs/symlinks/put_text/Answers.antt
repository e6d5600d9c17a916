use Rattle.std.proofs.Common.{arith}
use Rattle.journal_treecalls.proofs.Linked.{puts-text}
use Rattle.journal_treecalls.proofs.Learning.{one-longer}
use Rattle.journal_treecalls.proofs.symlinks.put_text.Goals as goal

pub returns-clause-puts : goal.returns-clause-puts
returns-clause-puts g c = puts-text _ _ _ _ _ _ _ _ c.args.number c.args.link.now c.with_first-head.result c.args.name.now c.args.block c.args.text.now _ _ _
    c.in_ok-put_block.ensures.written c.in_ok-put_owner.ensures.written c.in_ok-put_inode.ensures.written c.text_block.ensures.is c.owner_at.ensures c.with_first-head.ensures c.new_bytes.ensures
    c.in_ok-put_block.ensures.same c.in_ok-put_owner.ensures.same c.in_ok-put_inode.ensures.same

pub returns-clause-few : goal.returns-clause-few
returns-clause-few g c = omega (arith, one-longer _ _ _ c.in_ok-put_block.ensures.written, one-longer _ _ _ c.in_ok-put_owner.ensures.written, one-longer _ _ _ c.in_ok-put_inode.ensures.written)

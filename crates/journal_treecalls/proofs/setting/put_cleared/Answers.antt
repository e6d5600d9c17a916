use Rattle.journal_treecalls.proofs.Learning.{none-few, one-more}
use Rattle.journal_treecalls.proofs.Setters.{cleared-is}
use Rattle.journal_treecalls.proofs.setting.put_cleared.Goals as goal

pub returns-clause-puts : goal.returns-clause-puts
returns-clause-puts g c = record {
  same = λ V m. c.in_ok-block.ensures.learns.before V (c.in_ok-put_block.ensures.same V (c.in_ok-put_inode.ensures.same V m));
  is = λ V m. cleared-is _ _ _ V c.args.number c.args.target.now c.args.head.now c.args.tail c.in_ok-block.block c.clear_from-cleared.result _ c.in_ok-put_inode.ensures.written c.in_ok-put_block.ensures.written c.in_ok-block.ensures.first
      (c.in_ok-block.ensures.learns.now V (c.in_ok-put_block.ensures.same V (c.in_ok-put_inode.ensures.same V m))) c.clear_from-cleared.ensures.is c.used_bytes.ensures;
  told = c.changed.ensures;
}

pub returns-clause-few : goal.returns-clause-few
returns-clause-few g c = one-more _ _ _ 2 c.in_ok-put_inode.ensures.written (one-more _ _ _ 1 c.in_ok-put_block.ensures.written (none-few _ 1 c.in_ok-block.ensures.first))

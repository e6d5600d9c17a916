use Rattle.journal_treecalls.proofs.Learning.{none-few, one-more}
use Rattle.journal_treecalls.proofs.Setters.{both-are}
use Rattle.journal_treecalls.proofs.setting.put_both.Goals as goal

pub returns-clause-puts : goal.returns-clause-puts
returns-clause-puts g c = record {
  same = λ V m. c.in_ok-one.ensures.learns.before V (c.in_ok-other.ensures.learns.before V (c.in_ok-put_block.ensures.same V (c.in_ok-put_block-2.ensures.same V (c.in_ok-put_inode.ensures.same V m))));
  is = λ V m. both-are _ _ _ _ V c.args.number c.args.target.now c.args.head.now c.args.first c.args.second c.in_ok-one.one c.in_ok-other.other c.clear_from-one.result c.clear_from-other.result _
      c.in_ok-put_inode.ensures.written c.in_ok-put_block-2.ensures.written c.in_ok-put_block.ensures.written c.in_ok-other.ensures.first
      (c.in_ok-one.ensures.learns.now V (c.in_ok-other.ensures.learns.before V (c.in_ok-put_block.ensures.same V (c.in_ok-put_block-2.ensures.same V (c.in_ok-put_inode.ensures.same V m))))) c.clear_from-one.ensures.is
      (c.in_ok-other.ensures.learns.now V (c.in_ok-put_block.ensures.same V (c.in_ok-put_block-2.ensures.same V (c.in_ok-put_inode.ensures.same V m)))) c.clear_from-other.ensures.is c.used_bytes.ensures;
  told = c.changed.ensures;
}

pub returns-clause-few : goal.returns-clause-few
returns-clause-few g c = one-more _ _ _ 2 c.in_ok-put_inode.ensures.written (one-more _ _ _ 1 c.in_ok-put_block-2.ensures.written (one-more _ _ _ 0 c.in_ok-put_block.ensures.written (none-few _ 0 c.in_ok-other.ensures.first)))

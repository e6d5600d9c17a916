use Rattle.journal_treecalls.proofs.Learning.{none-few, one-more}
use Rattle.journal_treecalls.proofs.Setters.{plain-is}
use Rattle.journal_treecalls.proofs.setting.put_plain.Goals as goal

pub returns-clause-puts : goal.returns-clause-puts
returns-clause-puts g c = record {
  same = c.in_ok-put_inode.ensures.same;
  is = λ V m. plain-is _ _ V c.args.number c.args.target.now c.args.head.now _ c.in_ok-put_inode.ensures.written c.requires.first c.used_bytes.ensures;
  told = c.changed.ensures;
}

pub returns-clause-few : goal.returns-clause-few
returns-clause-few g c = one-more _ _ _ 2 c.in_ok-put_inode.ensures.written (none-few _ 2 c.requires.first)

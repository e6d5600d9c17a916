use Rattle.std.proofs.Common.{arith}
use Rattle.journal_treecalls.proofs.Learning.{one-longer}
use Rattle.journal_treecalls.proofs.moving.put_three_heads.Goals as goal

pub returns-clause-few : goal.returns-clause-few
returns-clause-few g c = omega (arith, one-longer _ _ _ c.in_ok-put_inode.ensures.written, one-longer _ _ _ c.in_ok-put_inode-2.ensures.written, one-longer _ _ _ c.in_ok-put_inode-3.ensures.written)

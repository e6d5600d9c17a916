use Rattle.journal_treecalls.proofs.Learned.{IfOk-like}
use Rattle.journal_treecalls.proofs.Setters.{head-puts}
use Rattle.journal_treecalls.proofs.setting.put_head.Goals as goal

pub returns-in-NoTail-clause-sets : goal.returns-in-NoTail-clause-sets
returns-in-NoTail-clause-sets g c = IfOk-like c.put_plain.result _ _ (λ changed p. head-puts _ _ _ _ c.args.number c.args.target.now c.args.head.now _ _ changed c.in_ok-tails_of.ensures.learns c.in-NoTail.is p) c.put_plain.ensures.puts

pub returns-in-OneTail-clause-sets : goal.returns-in-OneTail-clause-sets
returns-in-OneTail-clause-sets g c = IfOk-like c.put_cleared.result _ _ (λ changed p. head-puts _ _ _ _ c.args.number c.args.target.now c.args.head.now _ _ changed c.in_ok-tails_of.ensures.learns c.in-OneTail.is p) c.put_cleared.ensures.puts

pub returns-in-TwoTails-clause-sets : goal.returns-in-TwoTails-clause-sets
returns-in-TwoTails-clause-sets g c = IfOk-like c.put_both.result _ _ (λ changed p. head-puts _ _ _ _ c.args.number c.args.target.now c.args.head.now _ _ changed c.in_ok-tails_of.ensures.learns c.in-TwoTails.is p) c.put_both.ensures.puts

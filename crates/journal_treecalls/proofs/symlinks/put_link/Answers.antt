use Rattle.std.proofs.Common.{arith}
use Rattle.journal_treecalls.proofs.Linked.{puts-link}
use Rattle.journal_treecalls.proofs.symlinks.put_link.Goals as goal

pub returns-clause-puts : goal.returns-clause-puts
returns-clause-puts g c = puts-link _ _ _ _ _ c.args.number c.args.directory.now c.args.name.now c.args.wanted.now.plan.node c.args.wanted.now.text.now c.args.room.0.now c.args.room.1 c.args.now c.in_ok-made.made c.new_head-link.result c.place_number.result c.in_ok-made.ensures.plants c.in_ok-put_text.ensures.puts c.place_number.ensures c.new_head-link.ensures

pub returns-clause-few : goal.returns-clause-few
returns-clause-few g c = omega (arith, c.in_ok-made.ensures.few, c.in_ok-put_text.ensures.few)

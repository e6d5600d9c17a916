use Rattle.std.proofs.Common.{rules}
use Rattle.journal_parts.proofs.Between.{answers_mark_or_cut}
use Rattle.journal_parts.proofs.durable.Durable.mark_or_cut.Goals as goal

pub returns : goal.returns
returns g c = record {
  event =
      answers_mark_or_cut g.J.Naming.layout c.args.self.now c.do_due-answer.new.self (search rules) c.do_due-answer.ensures.crash c.args.volatile.now c.do_due-answer.new.volatile c.do_due-answer.result
      (search rules) c.do_due-answer.ensures.ok c.do_due-answer.ensures.refusal c.do_due-answer.ensures.volatile c.do_due-answer.ensures.tied;
}

use Rattle.std.proofs.Common.{[], subst}
use Rattle.journal_port.specs.Answers.{IsHelloAnswer, offer}
use Rattle.journal_port.proofs.Settling.{is_hello, is_counters, is_scan}
use Rattle.journal_port.proofs.respond.answer_no_wait.Goals as goal

pub returns-in-Hello : goal.returns-in-Hello
returns-in-Hello g c =
    is_hello g.J.Naming.layout (offer c.args.port.now.terms (g.C.Counting.tells c.args.port.now.counting.now)) [] c.args.request c.in-Hello.version c.args.session.now c.greet.result c.in-Hello.is
    (subst (λ l. IsHelloAnswer l c.args.port.now.terms.number c.in-Hello.version c.args.session.now c.args.session.now c.greet.result) c.args.port.now.is_its_layout (c.greet.ensures c.args.session.now))

pub returns-in-Counters : goal.returns-in-Counters
returns-in-Counters g c =
    is_counters g.J.Naming.layout (offer c.args.port.now.terms (g.C.Counting.tells c.args.port.now.counting.now)) [] c.args.request c.args.session.now c.count.result c.in-Counters.is
    (c.count.ensures c.args.session.now)

pub returns-in-Scan : goal.returns-in-Scan
returns-in-Scan g c =
    is_scan g.J.Naming.layout (offer c.args.port.now.terms (g.C.Counting.tells c.args.port.now.counting.now)) [] c.args.request c.in-Scan.block c.in-Scan.first c.in-Scan.value c.in-Scan.most c.args.session.now c.find_bits.new.session c.find_bits.result c.in-Scan.is c.find_bits.ensures

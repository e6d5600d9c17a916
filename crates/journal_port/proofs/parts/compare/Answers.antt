use Rattle.std.proofs.Common.{◌≡◌, sym, ◌∙◌}
use Rattle.std.specs.Cmp.Lexicographic.{same_text}
use Rattle.journal_port.proofs.Doing.{Does-matched}
use Rattle.journal_port.proofs.parts.compare.Goals as goal

pub returns-then-eq-clause-does : goal.returns-then-eq-clause-does
returns-then-eq-clause-does g c =
    let same : c.in-Ok.value ≡ c.args.part.now.value = sym c.bytes.ensures ∙ same_text c.bytes.result.now c.bytes-in-Ok.result.now (sym c.if-eq.true ∙ c.eq.ensures) ∙ c.bytes-in-Ok.ensures in
    Does-matched g.J.Naming.layout c.args.txn.now c.read.new.self c.args.part.now c.in-Ok.value c.requires.action c.requires.ready same c.in-Ok.ensures.reads c.in-Ok.ensures.kept c.in-Ok.ensures.agrees

use Rattle.std.proofs.Common.{ap, arith}
use Rattle.journal_world.specs.Addresses.{Shape}
use Rattle.journal_script.proofs.client.Client.disk.Goals as goal

pub returns-then-from-self-clause-answered : goal.returns-then-from-self-clause-answered
returns-then-from-self-clause-answered g c = λ lt. omega (arith, lt, c.from.ensures, c.if-from-self.true, ap (λ (s : Shape). s.blocks) c.self.invariant)

pub inspect-requires : goal.inspect-requires
inspect-requires g c = omega (arith, c.from.ensures, c.from-2.ensures, c.if-from-self.false, ap (λ (s : Shape). s.blocks) c.self.invariant)

use Rattle.journal_treecalls.proofs.Removed.{found-refused, found-hit}
use Rattle.journal_treecalls.proofs.named.find_in.Goals as goal

pub returns-in-Some-clause-learns : goal.returns-in-Some-clause-learns
returns-in-Some-clause-learns g c = found-refused _ c.args.directory c.args.name.now c.args.refusal c.in-Some.status c.in-Some.is

pub returns-in_ok-hit-in-None-clause-learns : goal.returns-in_ok-hit-in-None-clause-learns
returns-in_ok-hit-in-None-clause-learns g c = found-hit _ _ c.args.directory c.args.name.now c.args.refusal _ c.in_ok-hit-in-None.ensures.learns c.in-None.is

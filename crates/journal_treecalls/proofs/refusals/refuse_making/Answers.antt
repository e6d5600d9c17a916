use Rattle.journal_treecalls.proofs.Refusing.{refused-err, refused-ok}
use Rattle.journal_treecalls.proofs.refusals.refuse_making.Goals as goal

pub returns-in-Ok-clause-learns : goal.returns-in-Ok-clause-learns
returns-in-Ok-clause-learns g c = refused-ok _ _ c.args.caller.now c.args.directory c.args.name.now _ c.in_ok-found.ensures.learns c.in-Ok.found c.status_of_making.result c.in-Ok.is c.status_of_making.ensures

pub returns-in-Err-clause-learns : goal.returns-in-Err-clause-learns
returns-in-Err-clause-learns g c = refused-err _ _ c.args.caller.now c.args.directory c.args.name.now _ c.in_ok-found.ensures.learns c.in-Err.status c.in-Err.is

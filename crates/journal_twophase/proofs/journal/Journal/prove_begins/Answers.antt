use Rattle.journal_twophase.proofs.Knowing.{known}
use Rattle.journal_twophase.proofs.journal.Journal.prove_begins.Goals as goal

pub returns-clause-known : goal.returns-clause-known
returns-clause-known g c =
    let seen = c.seen-seen.ensures in
    known g.R.MapRule.statement g.J.Naming.layout c.args.session.now.seen seen.on_disk seen.sound seen.legal

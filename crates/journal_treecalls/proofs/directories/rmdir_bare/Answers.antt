use Rattle.journal_treecalls.proofs.Cleared.{bare-full, bare-taken}
use Rattle.journal_treecalls.proofs.Learning.{none-few}
use Rattle.journal_treecalls.proofs.directories.rmdir_bare.Goals as goal

pub returns-in-Some-clause-removes : goal.returns-in-Some-clause-removes
returns-in-Some-clause-removes g c = bare-full _ _ c.args.number c.args.directory.now c.args.hit.now c.args.now _ c.in_ok-find_entry.ensures.learns _ _ c.in_ok-find_entry.ensures.first c.in-Some.is

pub returns-in_ok-changed-in-None-clause-removes : goal.returns-in_ok-changed-in-None-clause-removes
returns-in_ok-changed-in-None-clause-removes g c = bare-taken _ _ c.args.number c.args.directory.now c.args.hit.now c.args.now _ c.in_ok-find_entry.ensures.learns _ _ _ c.in-None.is c.in_ok-changed-in-None.ensures.takes

pub returns-in-Some-clause-few : goal.returns-in-Some-clause-few
returns-in-Some-clause-few g c = none-few _ 4 c.in_ok-find_entry.ensures.first

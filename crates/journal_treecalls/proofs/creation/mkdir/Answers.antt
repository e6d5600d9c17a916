use Rattle.journal_treecalls.proofs.creation.mkdir.Goals as goal

pub returns-clause-does : goal.returns-clause-does
returns-clause-does g c = c.make.ensures.does

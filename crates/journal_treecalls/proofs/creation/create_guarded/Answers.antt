use Rattle.journal_treecalls.proofs.creation.create_guarded.Goals as goal

pub returns-clause-does : goal.returns-clause-does
returns-clause-does g c = c.make.ensures.does

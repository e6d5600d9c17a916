use Rattle.journal_treecalls.proofs.Learning.{none-few}
use Rattle.journal_treecalls.proofs.renaming.perform.Goals as goal

pub returns-in-Stays-clause-few : goal.returns-in-Stays-clause-few
returns-in-Stays-clause-few g c = none-few _ 11 c.requires.first

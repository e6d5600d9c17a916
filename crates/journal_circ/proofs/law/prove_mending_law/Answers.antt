use Rattle.journal_circ.specs.MendingLaws.{begun_mendable, settled_mendable, mendable_after_loss, mendable_after_rewrite, images_mended, reading_mended}
use Rattle.journal_circ.proofs.law.prove_mending_law.Goals as goal

pub returns-clause-begun : goal.returns-clause-begun
returns-clause-begun c size blocks = begun_mendable size blocks

pub returns-clause-settled : goal.returns-clause-settled
returns-clause-settled c p settled = settled_mendable p settled

pub returns-clause-lost : goal.returns-clause-lost
returns-clause-lost c old new loss mendable = mendable_after_loss old new loss mendable

pub returns-clause-tried : goal.returns-clause-tried
returns-clause-tried c old new rewritten mendable = mendable_after_rewrite old new rewritten mendable

pub returns-clause-images : goal.returns-clause-images
returns-clause-images c old lost mended loss rewritten = images_mended old lost mended loss rewritten

pub returns-clause-reading : goal.returns-clause-reading
returns-clause-reading c old lost mended loss rewritten = reading_mended old lost mended loss rewritten

use Rattle.journal_object.proofs.MapOfBlocks.{IsMapOf-map_of_blocks, are_objects-map_of_blocks, IsMapOf-zeros}
use Rattle.journal_object.proofs.law.prove_objects_law.Goals as goal

pub returns-clause-map : goal.returns-clause-map
returns-clause-map c layout content = IsMapOf-map_of_blocks layout content

pub returns-clause-objects : goal.returns-clause-objects
returns-clause-objects c layout content each = are_objects-map_of_blocks layout content each

pub returns-clause-zeros : goal.returns-clause-zeros
returns-clause-zeros c layout = IsMapOf-zeros layout

use Rattle.journal_treestore.proofs.Placing.{on_disk-valid, places-apart}
use Rattle.journal_treestore.proofs.law.places_never_overlap.Goals as goal

pub returns : goal.returns
returns c = record { objects = on_disk-valid; apart = places-apart }

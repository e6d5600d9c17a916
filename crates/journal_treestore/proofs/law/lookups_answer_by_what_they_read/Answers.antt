use Rattle.journal_treestore.proofs.Looking.{lookup-finds, lookup-misses}
use Rattle.journal_treestore.proofs.law.lookups_answer_by_what_they_read.Goals as goal

pub returns : goal.returns
returns c = record { found = lookup-finds; missed = lookup-misses }

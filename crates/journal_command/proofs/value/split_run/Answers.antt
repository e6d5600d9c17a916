use Rattle.journal_command.proofs.Printing.{runs-split}
use Rattle.journal_command.proofs.value.split_run.Goals as goal

pub returns : goal.returns
returns c = runs-split _ _ _ _ c.in_ok-byte.ensures.value c.run_length-count.ensures c.split_at.ensures.back

use Rattle.journal_script.proofs.Replying.{opens_without_memory_ok}
use Rattle.journal_script.proofs.mounted.run.Goals as goal

pub returns-in_default : goal.returns-in_default
returns-in_default g c = opens_without_memory_ok _ c.refuse.result c.args.opening _ _ c.args.disk c.refuse.ensures c.requires.whole

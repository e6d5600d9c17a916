use Rattle.journal_script.proofs.Replying.{opens_up_ok}
use Rattle.journal_script.proofs.mounted.serve.Goals as goal

pub returns-in-Ok : goal.returns-in-Ok
returns-in-Ok g c = opens_up_ok c.close.result c.args.opening _ _ _ c.in-Ok.ensures c.close.ensures

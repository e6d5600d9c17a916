use Rattle.journal_tree.proofs.Rightful.{calls-keep-rights}
use Rattle.journal_tree.proofs.law.calls_keep_rights.Goals as goal

pub returns : goal.returns
returns c = calls-keep-rights

use Rattle.journal_objlog.specs.StepLaws.{may_crash}
use Rattle.journal_objlog.proofs.object_log.ObjectLog.read_block.Goals as goal

pub returns-clause-crash : goal.returns-clause-crash
returns-clause-crash g c = may_crash c.args.self.now.log c.read.new.self c.read.ensures.crash

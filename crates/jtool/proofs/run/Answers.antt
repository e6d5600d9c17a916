use Rattle.jtool.proofs.Ending.{ends_well, ends_by_fault}
use Rattle.jtool.proofs.run.Goals as goal

pub returns-in-Ok-clause-script : goal.returns-in-Ok-clause-script
returns-in-Ok-clause-script g c n asks size other = ends_well _ _ _ c.obey.result _ (c.obey.ensures.script n asks size) c.in-Ok.is

pub returns-in-Err-clause-script : goal.returns-in-Err-clause-script
returns-in-Err-clause-script g c n asks size other = ends_by_fault _ _ _ c.obey.result c.in-Err.fault c.report.result (c.obey.ensures.script n asks size) c.in-Err.is c.report.ensures other

use Rattle.jtool.proofs.Ending.{can_begin}
use Rattle.jtool.proofs.obey.Goals as goal

pub returns-in_err-blocks-clause-script : goal.returns-in_err-blocks-clause-script
returns-in_err-blocks-clause-script g c n asks size = absurd (can_begin _ _ c.in_err-blocks.ensures.err n asks size)

use Rattle.std.proofs.Common.{refl}
use Rattle.journal_script.proofs.Losing.{to_mend_again}
use Rattle.journal_script.proofs.lost.mend.Goals as goal

pub stay-requires : goal.stay-requires
stay-requires c = record { to_mend = to_mend_again c.args.disk.past c.in-Err.field-0.disk.past (c.in-Err.ensures.rewritten refl) c.requires.to_mend }

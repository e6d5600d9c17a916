use Rattle.std.proofs.Common.{refl, sym, subst}
use Rattle.journal_script.specs.Endings.{IsWhole}
use Rattle.journal_disk.specs.MemDisks.{state_of}
use Rattle.journal_script.proofs.Replying.{opens_refused_ok}
use Rattle.journal_script.proofs.mounted.mount.Goals as goal

pub returns-in-Err : goal.returns-in-Err
returns-in-Err g c =
    opens_refused_ok c.refuse.result c.args.opening _ _ c.in-Err.field-0.disk (state_of c.args.disk) (state_of c.in-Err.field-0.disk) _ c.refuse.ensures c.in-Err.ensures.refusal
    (subst IsWhole (sym (c.in-Err.ensures.left.past refl)) c.requires.whole)

use Rattle.journal_script.specs.Endings.{told_of}
use Rattle.journal_script.proofs.Replying.{comes_after}
use Rattle.journal_script.proofs.Losing.{leaves_ready}
use Rattle.journal_script.proofs.mounted.next_after.Goals as goal

pub returns-in-Some : goal.returns-in-Some
returns-in-Some c = rw c.in-Some.is (λ old new comes.
    comes_after (told_of c.in-Some.crash.ending) c.leave.result old new (leaves_ready c.in-Some.crash.ending c.in-Some.crash.numbers.items c.args.disk c.leave.result c.requires.to_mend c.leave.ensures) comes)

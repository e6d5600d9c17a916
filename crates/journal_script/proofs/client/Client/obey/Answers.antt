use Rattle.std.proofs.Common.{refl}
use Rattle.journal_command.specs.declared.command.Command.TheVariants as commands
use Rattle.journal_script.proofs.Replying.{replies_plain}
use Rattle.journal_script.proofs.client.Client.obey.Goals as goal

pub returns-in-Wait : goal.returns-in-Wait
returns-in-Wait g c = rw c.in-Wait.is (replies_plain g.J.Naming.layout _ commands.Wait c.wait.result _ (λ _ t. (t, refl)) c.wait.ensures.answered c.wait.ensures.refusal c.goes_on-in-Wait.ensures)

pub returns-in-Log : goal.returns-in-Log
returns-in-Log g c = rw c.in-Log.is (replies_plain g.J.Naming.layout _ (commands.Log c.in-Log.most) c.log.result _ (λ _ t. (t, refl)) c.log.ensures.answered c.log.ensures.refusal c.goes_on-in-Log.ensures)

pub returns-in-Install : goal.returns-in-Install
returns-in-Install g c = rw c.in-Install.is (replies_plain g.J.Naming.layout _ (commands.Install c.in-Install.most) c.install.result _ (λ _ t. (t, refl)) c.install.ensures.answered c.install.ensures.refusal c.goes_on-in-Install.ensures)

pub returns-in-Pend : goal.returns-in-Pend
returns-in-Pend g c = rw c.in-Pend.is (replies_plain g.J.Naming.layout _ commands.Pend c.pend.result _ (λ _ t. (t, refl)) c.pend.ensures.answered c.pend.ensures.refusal c.goes_on-in-Pend.ensures)

pub returns-in-Disk : goal.returns-in-Disk
returns-in-Disk g c = rw c.in-Disk.is (replies_plain g.J.Naming.layout _ (commands.Disk c.in-Disk.block c.in-Disk.at c.in-Disk.len) c.disk.result _ (λ _ t. (t, refl)) c.disk.ensures.answered c.disk.ensures.refusal c.goes_on-in-Disk.ensures)

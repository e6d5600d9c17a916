use Rattle.std.proofs.Common.{◌≡◌, ◌≤◌, ap, sym, subst, ◌∙◌, rules}
use Rattle.journal_objlog.specs.ObjectLogs.{end_of}
use Rattle.journal_parts.specs.Durables.{DurableState}
use Rattle.journal_parts.specs.CallAnswers.{IfFreed, install_refusal_of}
use Rattle.journal_parts.specs.declared.due.InstallCall.{InstallCall}
use Rattle.journal_twophase.proofs.Failing.{noted_home}
use Rattle.journal_twophase.proofs.locked_parts.LockedParts.install_call.Goals as goal

pub trim-requires : goal.trim-requires
trim-requires g c =
    let free : c.in-Ok-Freed.freed ≤ end_of c.install_call.new.self.objects =
    subst (λ (call : InstallCall). IfFreed (λ upto. upto ≤ end_of c.install_call.new.self.objects) call) c.in-Ok-Freed.field-0-is c.in-Ok-Freed.ensures.home in
    let lent : c.install_call.new.self ≡ c.deref.result.now = search rules in
    record { home = subst (λ (d : DurableState). c.in-Ok-Freed.freed ≤ end_of d.objects) lent free }

pub returns : goal.returns
returns g c =
    noted_home _ _ (install_refusal_of c.in-Err-Failed.field-0) _ c.in-Err-Failed.ensures.event.refusal (c.note_fault.ensures ∙ sym (ap install_refusal_of c.in-Err-Failed.field-0-is))

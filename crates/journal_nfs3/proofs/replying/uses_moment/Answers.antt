use Rattle.std.proofs.Common.{ap, sym, subst, ◌∙◌}
use Rattle.journal_rpc.specs.declared.calls.Asked.{Asked}
use Rattle.journal_rpc.specs.CallViews.{asked_of}
use Rattle.journal_nfs3_wire.specs.Calls.{asks}
use Rattle.journal_nfs3.specs.Answers.{sets_times, IsTimeless}
use Rattle.journal_nfs3.proofs.Timeless.{other_timeless, asks_timeless}
use Rattle.journal_nfs3.proofs.replying.uses_moment.Goals as goal

pub returns-in-OtherVersion : goal.returns-in-OtherVersion
returns-in-OtherVersion c = record { timeless = λ none. subst (λ (a : Asked). IsTimeless (asks (asked_of a))) (sym c.in-OtherVersion.is) other_timeless }

pub returns-in-Procedure : goal.returns-in-Procedure
returns-in-Procedure c = record {
  timeless = λ none.
      subst (λ (a : Asked). IsTimeless (asks (asked_of a))) (sym c.in-Procedure.is)
      (asks_timeless c.in-Procedure.program c.in-Procedure.version c.in-Procedure.procedure c.in-Procedure.arguments.now
      (ap sets_times (sym c.from_number.ensures) ∙ sym c.sets_times.ensures ∙ none));
}

use Rattle.std.proofs.Common.{Result, ap, ◌∙◌}
use Rattle.journal_file_types.specs.declared.reply.Attributes.{Attributes}
use Rattle.journal_file_types.specs.declared.reply.Changed.{Changed}
use Rattle.journal_file_types.specs.declared.reply.Found.{Found}
use Rattle.journal_nfs3_wire.specs.declared.results.NfsError.{NfsError}
use Rattle.journal_nfs3_wire.specs.declared.results.Results.TheVariants as code_result
use Rattle.journal_nfs3_wire.specs.Profile.{results_of}
use Rattle.journal_mount3.proofs.RootTimes.{get_attributes_now, set_attributes_now, lookup_now, create_now, remove_now}
use Rattle.journal_mount3.proofs.root.set_results_at.Goals as goal

pub returns-in-GetAttributes : goal.returns-in-GetAttributes
returns-in-GetAttributes c = λ version. rw c.in-GetAttributes.is (ap (λ (r : Result Attributes NfsError). results_of version (code_result.GetAttributes r)) c.set_attributes_outcome.ensures ∙ get_attributes_now c.args.now version c.in-GetAttributes.outcome)

pub returns-in-SetAttributes : goal.returns-in-SetAttributes
returns-in-SetAttributes c = λ version. rw c.in-SetAttributes.is (ap (λ (r : Result Changed NfsError). results_of version (code_result.SetAttributes r)) c.set_changed_outcome.ensures ∙ set_attributes_now c.args.now version c.in-SetAttributes.outcome)

pub returns-in-Lookup : goal.returns-in-Lookup
returns-in-Lookup c = λ version. rw c.in-Lookup.is (ap (λ (r : Result Found NfsError). results_of version (code_result.Lookup r)) c.set_found_outcome.ensures ∙ lookup_now c.args.now version c.in-Lookup.outcome)

pub returns-in-Create : goal.returns-in-Create
returns-in-Create c = λ version. rw c.in-Create.is (ap (λ (r : Result Found NfsError). results_of version (code_result.Create r)) c.set_found_outcome-in-Create.ensures ∙ create_now c.args.now version c.in-Create.outcome)

pub returns-in-Remove : goal.returns-in-Remove
returns-in-Remove c = λ version. rw c.in-Remove.is (ap (λ (r : Result Attributes NfsError). results_of version (code_result.Remove r)) c.set_attributes_outcome-in-Remove.ensures ∙ remove_now c.args.now version c.in-Remove.outcome)

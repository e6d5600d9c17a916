use Rattle.std.proofs.Common.{◌≡◌, Option, ap, ◌∙◌}
use Rattle.std.specs.Prelude.{Bool}
use Rattle.journal_nfs3_wire.specs.declared.arguments.StableHow.{StableHow}
use Rattle.journal_treewire.specs.CodeViews.{results_of}
use Rattle.journal_treewire.specs.Requests.{request_of}
use Rattle.journal_treewire.specs.declared.results.TreeResults.{TreeResults}
use Rattle.journal_treeserver.specs.declared.awaited.AwaitedForm.{AwaitedForm}
use Rattle.journal_treeserver.specs.Answers.{owed_by, told_results}
use Rattle.journal_treeserver.specs.CodeViews.{served_as}
use Rattle.journal_treeserver.specs.Forms.{form_of}
use Rattle.journal_treeserver.proofs.Doing.{performed, told_error_is, was_refused}
use Rattle.journal_treeserver.proofs.server.TreeServer.perform.Goals as goal

pub returns-in-Ok : goal.returns-in-Ok
returns-in-Ok g c =
    let export = c.args.self.now.export in
    let asked = request_of c.args.asked.now.requested.now in
    let call = g.O.TreeOperation.call c.args.operation.now in
    let reply = g.O.TreeOperation.told c.in-Ok.done.reply in
    let receipt = c.in-Ok.done.receipt in
    let wait = c.committed.ensures.wait ∙ ap (λ (f : Option AwaitedForm). owed_by f c.tell-told.result.is_refusal receipt) c.form_of.ensures
    ∙ ap (λ (refuses : Bool). owed_by (form_of asked) refuses receipt) c.tell-told.ensures.refusal in
    let results = ap (λ (r : TreeResults). results_of export.disk r) c.committed.ensures.results ∙ c.tell-told.ensures.results export.disk
    ∙ ap (λ (how : StableHow). told_results export.disk export.verifier.0 how call reply) c.how_of.ensures in
    performed (served_as c.args.self.now.store.now.cut export) asked call c.args.asked.now.asking.caller c.args.asked.now.asking.now _ _ reply receipt _ _ c.in-Ok.ensures.committed wait results

pub returns-in-Err : goal.returns-in-Err
returns-in-Err g c =
    let export = c.args.self.now.export in
    was_refused (served_as c.args.self.now.store.now.cut export) (request_of c.args.asked.now.requested.now) (g.O.TreeOperation.call c.args.operation.now) c.args.asked.now.asking.caller c.args.asked.now.asking.now _ _
    c.journal_error.result _ _ (told_error_is c.in-Err.why _ c.journal_error.ensures) c.in-Err.ensures.session c.at_once.ensures.wait
    (ap (λ (r : TreeResults). results_of export.disk r) c.at_once.ensures.results ∙ c.refused.ensures export.disk)

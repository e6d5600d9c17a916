use Rattle.std.proofs.Common.{◌++◌, List, ℕ, ap, ◌∙◌, refl}
use Rattle.std.proofs.lemmas.Result.{on_ok_weaker}
use Rattle.journal_treewire.specs.Results.{Results}
use Rattle.journal_treeserver.specs.Answers.{told, outcome_text}
use Rattle.journal_treeserver.specs.CodeViews.{served_as}
use Rattle.journal_treeserver.specs.Lawful.{stands_in}
use Rattle.journal_treeserver.proofs.Doing.{told_wait_error_is}
use Rattle.journal_treeserver.proofs.server.TreeServer.refused_wait.Goals as goal

pub returns : goal.returns
returns g c =
    let disk = c.args.self.now.export.disk in
    let xid = c.args.call.now.xid in
    on_ok_weaker c.tell.result
    (λ written. (
      _,
      written,
      stands_in (served_as c.args.self.now.store.now.cut c.args.self.now.export) c.args.call.now c.wait_error.result _ (told_wait_error_is c.args.why.now _ c.wait_error.ensures)
          (ap (λ (r : Results). outcome_text disk xid (told r)) (c.refused.ensures disk)),
    )) c.tell.ensures

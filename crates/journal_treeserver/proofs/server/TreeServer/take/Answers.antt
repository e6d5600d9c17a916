use Rattle.std.proofs.Common.{refl, ap}
use Rattle.journal_treewire.specs.CodeViews.{results_of}
use Rattle.journal_treewire.specs.declared.results.TreeResults.{TreeResults}
use Rattle.journal_treeserver.proofs.Doing.{not_begun}
use Rattle.journal_treeserver.proofs.server.TreeServer.take.Goals as goal

pub returns-in_default : goal.returns-in_default
returns-in_default g c =
    let disk = c.args.self.now.export.disk in
    not_begun _ _ _ _ _ _ _ _ _ _ refl c.at_once.ensures.wait (ap (λ (r : TreeResults). results_of disk r) c.at_once.ensures.results) (c.refused.ensures disk)

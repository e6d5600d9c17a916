use Rattle.std.proofs.Common.{sym, subst}
use Rattle.journal_filestore.specs.Handles.{IsAt, IsTarget}
use Rattle.journal_filestore.proofs.Doings.{Tells-like}
use Rattle.journal_filestore.proofs.Finding.{IsAt-found, IsTarget-target_of}
use Rattle.journal_filestore.proofs.Gathering.{NoData-none}
use Rattle.journal_filestore.proofs.find.find.Goals as goal

pub returns-clause-told : goal.returns-clause-told
returns-clause-told g c =
    let h = c.args.handle in
    Tells-like _ _ _ _ _
    (λ m sound is. subst (IsAt g.V.Version.VERSION h.number h.generation m) (sym c.target_of.ensures)
    (IsAt-found m h.number h.generation _ sound h.in_range.0 h.in_range.1 is))
    c.in_ok-node.ensures.told

pub returns-clause-fits : goal.returns-clause-fits
returns-clause-fits g c = subst (IsTarget g.V.Version.VERSION c.args.handle.number) (sym c.target_of.ensures) (IsTarget-target_of g.V.Version.VERSION _ c.args.handle.number c.args.handle.generation c.in_ok-node.ensures.fits c.in_ok-node.ensures.small)

pub returns-clause-no_data : goal.returns-clause-no_data
returns-clause-no_data g c = c.in_ok-node.ensures.no_data (NoData-none c.args.txn.now c.requires.reads)

use Rattle.std.proofs.lemmas.Result.{err_from_is_err_and}
use Rattle.journal_mount3.proofs.Telling.{status_none, status_then}
use Rattle.journal_mount3.proofs.serving.measure.Goals as goal

pub returns-in_err-attributes : goal.returns-in_err-attributes
returns-in_err-attributes g c =
    let p = err_from_is_err_and c.from_residual.result c.from_residual.ensures.1 in rw (p.1, p.2) (status_none g.V.Version.VERSION c.args.layout.blocks c.args.now c.args.handle.now _ c.args.session.now _ c.in_err-attributes.field-0.0 c.in_err-attributes.ensures)

pub returns : goal.returns
returns g c =
    status_then g.V.Version.VERSION c.args.layout.blocks c.args.now c.args.handle.now _ _ _ c.in_ok-attributes.attributes c.count_files.result c.in_ok-attributes.ensures c.count_files.ensures.counts c.count_files.ensures.same c.count_files.ensures.cut

use Rattle.std.proofs.Common.{ap}
use Rattle.std.specs.Prelude.{bit_and}
use Rattle.std.proofs.lemmas.Result.{err_from_is_err_and}
use Rattle.journal_mount3.proofs.Telling.{grants_none, grants_some}
use Rattle.journal_mount3.proofs.serving.grant.Goals as goal

pub returns-in_err-attributes : goal.returns-in_err-attributes
returns-in_err-attributes g c = let p = err_from_is_err_and c.from_residual.result c.from_residual.ensures.1 in rw (p.1, p.2) (grants_none g.V.Version.VERSION c.args.asked c.args.now c.args.handle.now _ _ c.in_err-attributes.field-0.0 c.in_err-attributes.ensures)

pub returns : goal.returns
returns g c = grants_some g.V.Version.VERSION c.args.asked c.args.now c.args.handle.now _ _ c.in_ok-attributes.attributes _ c.in_ok-attributes.ensures (ap (bit_and c.args.asked) c.rights_of.ensures)

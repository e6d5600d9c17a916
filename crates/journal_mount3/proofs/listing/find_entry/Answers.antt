use Rattle.std.proofs.Common.{refl}
use Rattle.std.proofs.lemmas.Result.{err_from_is_err_and}
use Rattle.journal_mount3.specs.CodeViews.{listed_of}
use Rattle.journal_mount3.proofs.Finding.{finds_dot, finds_file}
use Rattle.journal_mount3.proofs.listing.find_entry.Goals as goal

pub returns-then-cookie-le-PARENT : goal.returns-then-cookie-le-PARENT
returns-then-cookie-le-PARENT g c = finds_dot g.V.Version.VERSION c.args.cookie c.args.directory.now _ _ listed_of _ c.if-cookie-le-PARENT.true (refl, _, refl, refl)

pub returns-in_err-find_file : goal.returns-in_err-find_file
returns-in_err-find_file g c = let p = err_from_is_err_and c.from_residual.result c.from_residual.ensures.1 in rw (p.1, p.2) (finds_file g.V.Version.VERSION c.args.cookie c.args.directory.now _ _ listed_of _ c.if-cookie-le-PARENT.false c.in_err-find_file.ensures)

pub returns-in-None : goal.returns-in-None
returns-in-None g c = finds_file g.V.Version.VERSION c.args.cookie c.args.directory.now _ _ listed_of _ c.if-cookie-le-PARENT.false (rw c.in-None.is at c.in_ok-find_file.ensures)

pub returns-in-Some : goal.returns-in-Some
returns-in-Some g c = finds_file g.V.Version.VERSION c.args.cookie c.args.directory.now _ _ listed_of _ c.if-cookie-le-PARENT.false (c.in-Some.found, rw c.in-Some.is at c.in_ok-find_file.ensures, refl)

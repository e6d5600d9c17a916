use Rattle.std.proofs.Common.{◌∙◌, sym, ap}
use Rattle.journal_lockmap.specs.Tables.{is_taken}
use Rattle.journal_lockmap.proofs.Places.{with_own, with_other}
use Rattle.journal_lockmap.proofs.place.Place.unmark.Goals as goal

pub returns-clause-free : goal.returns-clause-free
returns-clause-free g c = with_own g.J.Naming.layout.slots c.args.token

pub returns-clause-others : goal.returns-clause-others
returns-clause-others g c other differ = with_other g.J.Naming.layout.slots c.args.token other differ ∙ ap (λ t. is_taken t other) (sym c.requires.empty)

use Rattle.std.proofs.Common.{◌≤◌, length, ◌∙◌, rules}
use Rattle.journal_records.proofs.Lists.{has_few}
use Rattle.journal_records.proofs.array.is_array.Goals as goal

pub returns-then-values-limit-clause-exact : goal.returns-then-values-limit-clause-exact
returns-then-values-limit-clause-exact g c = λ has. c.are_short.ensures ∙ (has_few c.args.limit g.T.Element.item g.T.Element.is_short g.met.T.Element.has_short c.args.values.now has).1

pub returns-else-values-limit-clause-exact : goal.returns-else-values-limit-clause-exact
returns-else-values-limit-clause-exact g c = λ has.
    let le : length c.args.values.now ≤ c.args.limit = (has_few c.args.limit g.T.Element.item g.T.Element.is_short g.met.T.Element.has_short c.args.values.now has).0 in
    search (rules, le)

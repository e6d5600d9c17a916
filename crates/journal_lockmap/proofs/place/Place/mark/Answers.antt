use Rattle.std.proofs.Common.{◌≡◌, ◌∙◌, false, sym, ap}
use Rattle.journal_lockmap.specs.Tables.{is_taken}
use Rattle.journal_lockmap.proofs.Places.{taken_none, found_free, found_token, found_others}
use Rattle.journal_lockmap.proofs.place.Place.mark.Goals as goal

pub returns-else-is_taken-clause-free : goal.returns-else-is_taken-clause-free
returns-else-is_taken-clause-free g c =
    let free : is_taken c.args.self.now c.args.slot ≡ false = sym c.is_taken.ensures ∙ c.if-is_taken.false in
    (λ _. free, λ _. rw c.take.ensures.value (found_free g.J.Naming.layout.slots c.self.inside.token c.args.slot c.requires.in_range (ap (λ t. is_taken t c.args.slot) c.self.view_is ∙ free)))

pub returns-else-is_taken-clause-token : goal.returns-else-is_taken-clause-token
returns-else-is_taken-clause-token g c =
    let free : is_taken c.args.self.now c.args.slot ≡ false = sym c.is_taken.ensures ∙ c.if-is_taken.false in
    rw c.take.ensures.value (found_token g.J.Naming.layout.slots c.self.inside.token c.args.slot c.requires.in_range (ap (λ t. is_taken t c.args.slot) c.self.view_is ∙ free))

pub returns-else-is_taken-clause-taken : goal.returns-else-is_taken-clause-taken
returns-else-is_taken-clause-taken g c = rw c.take.ensures.after (taken_none g.J.Naming.layout.slots c.args.slot c.requires.in_range)

pub returns-else-is_taken-clause-others : goal.returns-else-is_taken-clause-others
returns-else-is_taken-clause-others g c other differ =
    let free : is_taken c.args.self.now c.args.slot ≡ false = sym c.is_taken.ensures ∙ c.if-is_taken.false in
    rw (c.take.ensures.after, ← c.self.view_is) (found_others g.J.Naming.layout.slots c.self.inside.token c.args.slot c.requires.in_range (ap (λ t. is_taken t c.args.slot) c.self.view_is ∙ free) other differ)

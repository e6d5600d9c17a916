use Rattle.std.proofs.Common.{sym}
use Rattle.journal_lockmap.proofs.Places.{taken_none, taken_some}
use Rattle.journal_lockmap.proofs.place.Place.is_taken.Goals as goal

pub returns-in-Some : goal.returns-in-Some
returns-in-Some g c = rw (c.slot.ensures.slot, ← c.self.view_is, c.in-Some.is) (sym (taken_some g.J.Naming.layout.slots c.in-Some.token c.args.slot c.requires.in_range))

pub returns-in-None : goal.returns-in-None
returns-in-None g c = rw (← c.self.view_is, c.in-None.is) (sym (taken_none g.J.Naming.layout.slots c.args.slot c.requires.in_range))

use Rattle.journal_treecalls.proofs.Learned.{IfOk-like}
use Rattle.journal_treecalls.proofs.Walking.{place-before, place-full, place-entry}
use Rattle.journal_treecalls.proofs.walk.show_place.Goals as goal

pub returns-then-place-begin-clause-learns : goal.returns-then-place-begin-clause-learns
returns-then-place-begin-clause-learns g c = place-before _ c.args.begin c.args.place c.args.entry c.args.page.now c.if-place-begin.true

pub returns-in-None-clause-learns : goal.returns-in-None-clause-learns
returns-in-None-clause-learns g c = place-full _ c.args.begin c.args.place c.args.entry c.args.page.now c.in-None.is

pub returns-in-Some-clause-learns : goal.returns-in-Some-clause-learns
returns-in-Some-clause-learns g c = IfOk-like c.show_entry.result _ _ (λ _ k. place-entry _ _ c.args.begin c.args.place c.args.entry _ _ c.if-place-begin.false c.if-entry-eq0.false k) c.show_entry.ensures.learns

use Rattle.std.proofs.Common.{sym, ◌∙◌}
use Rattle.journal_treecalls.proofs.Learned.{IfOk-like}
use Rattle.journal_treecalls.proofs.Walking.{entry-used, entry-away, entry-free}
use Rattle.journal_treecalls.proofs.walk.show_entry.Goals as goal

pub returns-else-from-place-clause-learns : goal.returns-else-from-place-clause-learns
returns-else-from-place-clause-learns g c = IfOk-like c.add.result _ _ (λ _ k. entry-used _ _ c.args.place c.args.number c.in_ok-bytes.bytes c.name_in.result.now c.read.result c.in-Used.head _ _ c.line_of-shown.result c.in_ok-bytes.ensures.learns c.read.ensures.read c.in-Used.is c.name_in.ensures.read (sym c.from.ensures ∙ c.if-from-place.false) c.line_of-shown.ensures k) c.add.ensures

pub returns-then-from-place-clause-learns : goal.returns-then-from-place-clause-learns
returns-then-from-place-clause-learns g c = entry-away _ _ c.args.place c.args.number c.in_ok-bytes.bytes c.read.result c.in-Used.head c.args.page.now c.in_ok-bytes.ensures.learns c.read.ensures.read c.in-Used.is (λ e. c.if-from-place.true (c.from.ensures ∙ e))

pub returns-in-Free-clause-learns : goal.returns-in-Free-clause-learns
returns-in-Free-clause-learns g c = entry-free _ _ c.args.place c.args.number _ c.in_ok-bytes.bytes c.read.result c.args.page.now c.in_ok-bytes.ensures.learns c.read.ensures.read c.in-Free.is

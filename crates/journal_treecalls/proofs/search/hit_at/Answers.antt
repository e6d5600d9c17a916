use Rattle.std.proofs.Common.{refl, sym, ◌∙◌}
use Rattle.journal_treecalls.proofs.Learned.{hit-some, hit-none, hit-untagged}
use Rattle.journal_treecalls.proofs.search.hit_at.Goals as goal

pub returns-then-not-has_tag-clause-learns : goal.returns-then-not-has_tag-clause-learns
returns-then-not-has_tag-clause-learns g c = hit-untagged _ c.args.which c.args.block.now c.args.tag c.args.name.now c.args.at c.read-entry.result c.read-entry.ensures (sym c.has_tag.ensures ∙ c.if-not-has_tag.true)

pub returns-in-Some-clause-learns : goal.returns-in-Some-clause-learns
returns-in-Some-clause-learns g c = hit-some _ _ c.args.which c.args.block.now c.args.tag c.args.name.now c.args.at c.read-entry.result c.read-entry.ensures _ c.in-Some.head _ c.in_ok-head.ensures.learns (sym c.has_tag.ensures ∙ c.if-not-has_tag.false) c.in-Some.is refl

pub returns-in-None-clause-learns : goal.returns-in-None-clause-learns
returns-in-None-clause-learns g c = hit-none _ _ c.args.which c.args.block.now c.args.tag c.args.name.now c.args.at c.read-entry.result c.read-entry.ensures _ c.in_ok-head.ensures.learns c.in-None.is

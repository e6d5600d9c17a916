use Rattle.journal_treecalls.proofs.Learned.{IfOk-like, find-hit, find-rest}
use Rattle.journal_treecalls.proofs.search.find.Goals as goal

pub returns-in-Some-clause-learns : goal.returns-in-Some-clause-learns
returns-in-Some-clause-learns g c = find-hit _ _ c.args.directory.now c.tag_of-tag.result c.args.name.now _ c.tag_of-tag.ensures c.in_ok-hit.ensures.learns c.in-Some.hit c.in-Some.is

pub returns-in-None-clause-learns : goal.returns-in-None-clause-learns
returns-in-None-clause-learns g c = IfOk-like c.find_above.result _ _ (λ o k.
    find-rest _ _ c.args.directory.now c.tag_of-tag.result c.args.name.now _ c.tag_of-tag.ensures c.in_ok-hit.ensures.learns _ o c.in-None.is k) c.find_above.ensures.learns

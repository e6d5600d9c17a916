use Rattle.journal_treecalls.proofs.growth.owner_at.Goals as goal

pub returns : goal.returns
returns c = c.bytes.ensures.shown

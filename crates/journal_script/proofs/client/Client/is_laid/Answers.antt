use Rattle.journal_script.proofs.client.Client.is_laid.Goals as goal

pub returns : goal.returns
returns g c = (c.self.inside.blocks, c.self.invariant)

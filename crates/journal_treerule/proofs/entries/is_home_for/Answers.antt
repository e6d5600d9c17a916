use Rattle.std.proofs.Common.{ℕ, ◌/◌, subst}
use Rattle.std.specs.Prelude.{◌↔◌, IsTrue}
use Rattle.journal_treestore.specs.Levels.{IsBlockFor}
use Rattle.journal_treerule.proofs.entries.is_home_for.Goals as goal

pub returns : goal.returns
returns c = subst (λ (p : ℕ). IsTrue c.is_block_for.result ↔ IsBlockFor c.args.tag (p / 512)) c.from.ensures c.is_block_for.ensures

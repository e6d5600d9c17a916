use Rattle.std.proofs.Common.{ℕ, ◌/◌, subst}
use Rattle.std.specs.Prelude.{◌↔◌, IsTrue}
use Rattle.journal_treestore.specs.Levels.{IsBlockFor}
use Rattle.journal_treecalls.proofs.Deciding.{needs-is}
use Rattle.journal_treecalls.proofs.renaming.needs_second.Goals as goal

pub returns : goal.returns
returns c = needs-is c.args.tag c.args.hit.now c.is_block_for.result (subst (λ (p : ℕ). IsTrue c.is_block_for.result ↔ IsBlockFor c.args.tag (p / 512)) c.from.ensures c.is_block_for.ensures)

use Rattle.std.proofs.Common.{◌≡◌, List, IfSome, is_some, sym, ap, subst, ◌∙◌}
use Rattle.journal_block.specs.declared.update.Update.{Update}
use Rattle.journal_block.specs.Block.{Bytes}
use Rattle.journal_block.specs.Updates.{updated, updates_block}
use Rattle.journal_tail.proofs.Kept.{home_named, copied_some, copied_content}
use Rattle.journal_tail.proofs.block_cache.BlockCache.find.Goals as goal

pub returns-clause-found : goal.returns-clause-found
returns-clause-found c =
    sym (copied_some c.peek.result)
    ∙ ap (λ o. is_some o) c.peek.ensures
    ∙ sym (home_named c.self.inside.blocks.entries c.args.block)
    ∙ ap (λ (us : List Update). updates_block us c.args.block) c.self.view_is

pub returns-clause-content : goal.returns-clause-content
returns-clause-content c =
    subst (λ (us : List Update). IfSome c.peek.result (λ found. (before : Bytes) → updated us c.args.block before ≡ found.now)) c.self.view_is
    (copied_content c.self.inside.blocks.entries c.args.block c.peek.result c.peek.ensures)

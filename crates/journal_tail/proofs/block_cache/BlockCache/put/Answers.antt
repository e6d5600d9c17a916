use Rattle.std.proofs.Common.{◌∷◌, ◌++◌, [], List, subst}
use Rattle.journal_block.specs.declared.update.Update.{Update}
use Rattle.journal_tail.specs.CachedUpdates.{cached_updates}
use Rattle.journal_tail.specs.Tails.{MakesNoOther}
use Rattle.journal_tail.proofs.Kept.{put_kept}
use Rattle.journal_tail.proofs.block_cache.BlockCache.put.Goals as goal

pub returns : goal.returns
returns c =
    subst (λ (us : List Update). MakesNoOther (us ++ c.args.update ∷ []) (cached_updates c.push-kept.new.self.entries)) c.self.view_is
    (put_kept c.self.inside.blocks c.args.update.block c.args.update.bytes c.push-kept.new.self c.push-kept.result c.push-kept.ensures.entries c.push-kept.ensures.err c.push-kept.ensures.succeeds)

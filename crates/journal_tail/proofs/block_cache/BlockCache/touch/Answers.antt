use Rattle.std.proofs.Common.{nat_eq, List, ap, subst, ◌∙◌}
use Rattle.std.specs.Map.{lookup}
use Rattle.journal_block.specs.declared.update.Update.{Update}
use Rattle.journal_tail.specs.CachedUpdates.{cached_updates}
use Rattle.journal_tail.specs.Tails.{MakeTheSame}
use Rattle.journal_tail.proofs.Kept.{home_alike, promoted_alike}
use Rattle.journal_tail.proofs.block_cache.BlockCache.touch.Goals as goal

pub returns : goal.returns
returns c =
    let es = c.self.inside.blocks.entries in
    subst (λ (us : List Update). MakeTheSame (cached_updates c.promote-kept.new.self.entries) us) c.self.view_is
    (home_alike c.promote-kept.new.self.entries es
    (λ b. ap (λ d. lookup (nat_eq b) d.entries) c.promote-kept.ensures.entries ∙ promoted_alike es c.args.block b))

use Rattle.std.proofs.Common.{nat_eq, List, ap, subst, ◌∙◌}
use Rattle.std.specs.Map.{lookup}
use Rattle.journal_block.specs.declared.update.Update.{Update}
use Rattle.journal_tail.specs.CachedUpdates.{cached_updates}
use Rattle.journal_tail.specs.Tails.{MakeTheSame}
use Rattle.journal_tail.proofs.Kept.{home_alike, demoted_alike}
use Rattle.journal_tail.proofs.block_cache.BlockCache.choose_next.Goals as goal

pub returns-in-Some : goal.returns-in-Some
returns-in-Some c =
    let es = c.self.inside.blocks.entries in
    subst (λ (us : List Update). MakeTheSame (cached_updates c.demote.new.self.entries) us) c.self.view_is
    (home_alike c.demote.new.self.entries es
    (λ b. ap (λ d. lookup (nat_eq b) d.entries) c.demote.ensures.entries ∙ demoted_alike es c.in-Some.oldest.now b c.len.ensures.valid.0))

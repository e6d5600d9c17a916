use Rattle.std.proofs.Common.{◌∷◌, ◌++◌, []}
use Rattle.journal_tail.proofs.Kept.{no_other_behind, no_other_then, same_no_other}
use Rattle.journal_tail.proofs.block_cache.BlockCache.keep.Goals as goal

pub returns : goal.returns
returns c =
    no_other_then (c.args.self.now ++ c.args.update ∷ []) (c.choose_next.new.self ++ c.args.update ∷ []) c.put.new.self
    (no_other_behind c.args.self.now c.choose_next.new.self (c.args.update ∷ []) (same_no_other c.args.self.now c.choose_next.new.self c.choose_next.ensures))
    c.put.ensures

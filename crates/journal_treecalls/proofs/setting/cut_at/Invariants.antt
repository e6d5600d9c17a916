use Rattle.std.proofs.Common.{ℕ, ◌≡◌, ◌<◌, length, get_or}
use Rattle.journal_treestore.specs.declared.inode.TheConstants.{DIRECT_BLOCKS}
use Rattle.journal_treecalls.specs.Sizes.{cut_one}
use Rattle.journal_treecalls.proofs.setting.cut_at.Given as goal

abbrev pub invariant-loop-j : goal.invariant-loop-j
invariant-loop-j l = (length l.kept ≡ DIRECT_BLOCKS) × ((k : ℕ) → k < l.j → get_or l.kept k 0 ≡ cut_one (get_or l.blocks k 0) l.size k)

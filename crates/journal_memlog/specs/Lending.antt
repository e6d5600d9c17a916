-- How the blocks of a tail are lent.
use Rattle.std.specs.Prelude.{ℕ, ◌-◌, [], ◌∷◌}
use Rattle.std.specs.Borrow.{Fml, Lends, MutBor}
use Rattle.journal_block.specs.Block.{Bytes}
use Rattle.journal_block.specs.contracts.block.Block.{the_row as block_row}
use Rattle.journal_memlog.specs.Logs.{LogState, appended}
use Rattle.journal_memlog.specs.Buckets.{update_at}
use Rattle.journal_memlog.specs.contracts.mem_log.MemLog.{the_row}

-- the log with other content in the update at a position of its tail: that update was appended
-- again
abbrev pub with_content : LogState → ℕ → Bytes → LogState
with_content log position bytes =
    appended log (record (update_at log.updates (position - log.start)) { bytes = bytes } ∷ [])

-- The log ends with the content that the lent block is left with
abbrev pub LendsBlock : MutBor LogState → ℕ → MutBor Bytes → Fml
LendsBlock log position block = Lends the_row block_row log block (with_content log.now position)

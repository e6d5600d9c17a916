-- How the blocks of a tail are lent.
use Rattle.std.specs.Prelude.{ℕ}
use Rattle.std.specs.Borrow.{Fml, Lends, MutBor}
use Rattle.journal_block.specs.Block.{Bytes}
use Rattle.journal_block.specs.contracts.block.Block.{the_row as block_row}
use Rattle.journal_memlog.specs.Lending.{with_content}
use Rattle.journal_tail.specs.Tails.{TailState}
use Rattle.journal_tail.specs.contracts.tail.Tail.{the_row}

-- the tail with other content in the update at a position
abbrev pub with_block : TailState → ℕ → Bytes → TailState
with_block t position bytes = record t { log = with_content t.log position bytes }

-- The tail ends with the content that the lent block is left with
abbrev pub LendsTailBlock : MutBor TailState → ℕ → MutBor Bytes → Fml
LendsTailBlock tail position block = Lends the_row block_row tail block (with_block tail.now position)

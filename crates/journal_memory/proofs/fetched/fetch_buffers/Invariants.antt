use Rattle.std.proofs.Common.{◌≡◌, map, take}
use Rattle.journal_memory.proofs.fetched.fetch_buffers.Given as goal

-- each block up to the index has its memory
abbrev pub invariant-loop-block : goal.invariant-loop-block
invariant-loop-block g l = map (λ u. u.block) l.rooms.items ≡ take l.block-index l.blocks

use Rattle.journal_memory.specs.Bits.{is_bit, bit_in}
use Rattle.journal_memory.proofs.Scanning.{FoundBelow}
use Rattle.journal_memory.proofs.bit_scan.BitScan.bits_in.Given as goal

-- the bits below this one that pass were found
abbrev pub invariant-loop-bit : goal.invariant-loop-bit
invariant-loop-bit l = FoundBelow (λ n. is_bit l.fn.self.value (bit_in l.block n)) l.fn.self l.bit l.bits.items

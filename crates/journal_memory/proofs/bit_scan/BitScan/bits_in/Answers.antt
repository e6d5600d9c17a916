use Rattle.std.proofs.Common.{◌≡◌, ℕ, ◌+◌, Bool, true, false, ◌≤◌, List, [], ◌∷◌, ◌++◌, ◌∙◌, sym, subst, rules, arith}
use mathlib.Core.Bool.{beq}
use Rattle.journal_world.specs.declared.layout.TheConstants.{BLOCK_BITS}
use Rattle.journal_block.specs.Block.{Bytes, bit_of}
use Rattle.journal_memory.specs.declared.bit_scan.BitScan.{BitScan}
use Rattle.journal_memory.specs.Bits.{is_bit, bit_in, bits_in, AreInOrder}
use Rattle.journal_memory.proofs.Scanning.{FoundBelow, found_more, found_same, found_all, found_enough, passes, in_order}
use Rattle.journal_memory.proofs.bit_scan.BitScan.bits_in.Goals as goal
use Rattle.journal_memory.proofs.bit_scan.BitScan.bits_in.Goals.{then-bit-self+in_ok-push, else-bit-self}

-- whether a bit of these bytes is asked for
abbrev is_asked : BitScan → Bytes → ℕ → Bool
is_asked s bytes n = is_bit s.value (bit_in bytes n)

in_order_of : (s : BitScan) (bytes : Bytes) (bits : List ℕ) → bits ≡ bits_in bytes s → AreInOrder s bits
in_order_of s bytes bits is = subst (AreInOrder s) (sym is) (in_order (is_asked s bytes) s)

pub returns-then-len-self-clause-bits : goal.returns-then-len-self-clause-bits
returns-then-len-self-clause-bits c =
    let s = c.args.self.now in
    let below : c.loop-bit.bit ≤ BLOCK_BITS = omega (arith, c.loop-bit-test.true) in
    found_enough (is_asked s c.args.block.now) s c.loop-bit.bit c.loop-bit.bits.items c.loop-bit.invariant c.loop-bit.auto.bit below
    (omega (arith, c.if-len-self.true, c.len.ensures))

pub returns-then-len-self-clause-order : goal.returns-then-len-self-clause-order
returns-then-len-self-clause-order c =
    in_order_of c.args.self.now c.args.block.now c.loop-bit.bits.items (returns-then-len-self-clause-bits c)

pub loop-bit-preserved : goal.loop-bit-preserved
loop-bit-preserved c =
    let s = c.args.self.now in
    let test = is_asked s c.args.block.now in
    let bit = c.loop-bit.bit in
    elim c.if-bit-self.branch [
      | then-bit-self+in_ok-push w ↦
          let items : c.if-bit-self.bits.items ≡ c.loop-bit.bits.items ++ c.loop-bit.bit ∷ [] = search rules in
          subst (FoundBelow test s (bit + 1)) (sym items)
          (found_more test s bit c.loop-bit.bits.items c.loop-bit.invariant c.loop-bit.auto.bit (omega (arith, c.loop-bit-test.true))
          (omega (arith, c.if-len-self.false, c.len.ensures))
          (passes s.value (bit_of c.args.block.now bit) ∙ subst (λ (b : Bool). beq b s.value ≡ true) c.bit.ensures w.if-bit-self.true))
      | else-bit-self w ↦
          let items : c.if-bit-self.bits.items ≡ c.loop-bit.bits.items = search rules in
          subst (FoundBelow test s (bit + 1)) (sym items)
          (found_same test s bit c.loop-bit.bits.items c.loop-bit.invariant c.loop-bit.auto.bit (omega (arith, c.loop-bit-test.true))
          (passes s.value (bit_of c.args.block.now bit) ∙ subst (λ (b : Bool). beq b s.value ≡ false) c.bit.ensures w.if-bit-self.false))
    ]

pub returns-clause-bits : goal.returns-clause-bits
returns-clause-bits c =
    let s = c.args.self.now in
    found_all (is_asked s c.args.block.now) s c.loop-bit.bit c.loop-bit.bits.items c.loop-bit.invariant c.loop-bit.auto.bit
    (omega (arith, c.loop-bit-test.false))

pub returns-clause-order : goal.returns-clause-order
returns-clause-order c = in_order_of c.args.self.now c.args.block.now c.loop-bit.bits.items (returns-clause-bits c)

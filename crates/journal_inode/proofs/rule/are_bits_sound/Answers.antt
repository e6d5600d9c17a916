use Rattle.std.proofs.Common.{◌≡◌, ◌+◌, ◌-◌, ◌*◌, refl, ap, subst, ◌∙◌, arith}
use Rattle.journal_world.specs.declared.layout.TheConstants.{FIRST_DATA}
use Rattle.journal_world.specs.Maps.{AreBitsFrom}
use Rattle.journal_inode.specs.Places.{addr_of}
use Rattle.journal_inode.specs.Places.Object.{bit}
use Rattle.journal_inode.proofs.Admitted.{words_more}
use Rattle.journal_inode.proofs.rule.are_bits_sound.Goals as goal

pub loop-word-preserved : goal.loop-word-preserved
loop-word-preserved g c =
    let place : FIRST_DATA + c.from.result - FIRST_DATA ≡ 64 * c.loop-word.word = omega (arith, c.from.ensures) in
    let next : 64 * c.loop-word.word + 64 ≡ 64 * (c.loop-word.word + 1) = omega arith in
    words_more _ _ _ _ _ _ _ _ _ _ _ _ _ next c.loop-word.invariant c.read_bits.ensures.same_map c.read_bits.ensures.same_trust c.read_bits.ensures.stays_failed
    (λ trust. subst (λ a. AreBitsFrom (g.O.ObjectReader.map c.loop-word.reader) a c.in_ok-bits.bits) (c.bit_addr.ensures ∙ ap (λ k. addr_of (bit k)) place) (c.in_ok-bits.ensures.bits trust))
    (c.if-not-are_bits_asked.ensures.0 refl)

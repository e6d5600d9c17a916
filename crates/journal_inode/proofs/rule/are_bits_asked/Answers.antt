use Rattle.std.proofs.Common.{◌==◌, sym, ap}
use Rattle.std.proofs.lemmas.Nat.Bits.{shr_and_one}
use Rattle.journal_inode.proofs.Admitted.{asked_more, same_tests}
use Rattle.journal_inode.proofs.rule.are_bits_asked.Goals as goal

pub loop-i-preserved : goal.loop-i-preserved
loop-i-preserved c =
    asked_more c.args.owners.now c.args.first c.loop-i.i c.args.bits _ c.is_taken.result c.loop-i.invariant
    (ap (λ n. n == 1) (sym (shr_and_one c.args.bits c.loop-i.i))) c.is_taken.ensures
    (same_tests _ _ c.if-is_set-is_taken.false)

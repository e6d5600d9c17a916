use Rattle.std.proofs.Common.{ℕ, ◌≤◌, ap, subst, arith}
use Rattle.journal_memlog.specs.Logs.{LogState}
use Rattle.journal_memlog.specs.Buckets.{IsLastOf}
use Rattle.journal_memlog.proofs.Indexed.{tail_latest_is}
use Rattle.journal_memlog.proofs.mem_log.MemLog.in_tail.Goals as goal

pub returns-in-Some-clause-content : goal.returns-in-Some-clause-content
returns-in-Some-clause-content c =
    let last = subst (λ (floor : ℕ). IsLastOf c.args.self.now c.args.block floor c.in-Some.position) (ap (λ (log : LogState). log.cut) c.self.view_is) c.in-Some.ensures.last in
    tail_latest_is c.args.self.now c.args.block c.in-Some.position
    (subst (λ (log : LogState). log.start ≤ log.cut) c.self.view_is (omega (arith, c.self.invariant.sound.bounds.start_to_logged, c.self.invariant.sound.bounds.logged_to_cut)))
    last c.at.result.now c.at.ensures

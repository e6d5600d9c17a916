use Rattle.std.proofs.Common.{ℕ, ap, subst}
use Rattle.journal_memlog.specs.Logs.{LogState}
use Rattle.journal_memlog.specs.Buckets.{IsLastOf}
use Rattle.journal_memlog.proofs.Indexed.{latest_is}
use Rattle.journal_memlog.proofs.mem_log.MemLog.latest.Goals as goal

pub returns-in-Some-clause-content : goal.returns-in-Some-clause-content
returns-in-Some-clause-content c =
    let last = subst (λ (floor : ℕ). IsLastOf c.args.self.now c.args.block floor c.in-Some.position) (ap (λ (log : LogState). log.start) c.self.view_is) c.in-Some.ensures.last in
    latest_is c.args.self.now c.args.block c.in-Some.position last c.at.result.now c.at.ensures

use Rattle.std.proofs.Common.{ℕ, IsTrue, sym, subst, arith}
use Rattle.std.proofs.lemmas.Result.{on_ok_weaker}
use Rattle.journal_disk.specs.Disks.{IsSettled, LostNone}
use Rattle.journal_disk.specs.Laws.{rewritten_both, rewritten_synced, settled_after_barrier}
use Rattle.journal_circ.proofs.Mended.{lost_none, synced_or_not}
use Rattle.journal_circ.proofs.circ.mending.write_again.Goals as goal

pub returns-clause-rewritten : goal.returns-clause-rewritten
returns-clause-rewritten g c = λ honest.
    let honest_1 = subst IsTrue (sym c.rewrite_first.ensures.keeps.honest) honest in
    let honest_2 = subst IsTrue (sym c.rewrite_homes.ensures.keeps.honest) honest_1 in
    rewritten_both (c.rewrite_first.ensures.rewritten honest)
    (rewritten_both (c.rewrite_homes.ensures.rewritten honest_1)
    (rewritten_synced _ _ (synced_or_not c.barrier.result _ _ (c.barrier.ensures.synced honest_2) (c.barrier.ensures.not_synced honest_2))))

pub returns-clause-settled : goal.returns-clause-settled
returns-clause-settled g c = λ honest mendable log.
    let honest_1 = subst IsTrue (sym c.rewrite_first.ensures.keeps.honest) honest in
    let honest_2 = subst IsTrue (sym c.rewrite_homes.ensures.keeps.honest) honest_1 in
    on_ok_weaker c.barrier.result
    (λ synced. subst IsSettled (sym synced) (settled_after_barrier _
    (lost_none _ _ _ _ _ _ (omega (arith, c.requires.in_range)) c.requires.log.ordered mendable log
    (c.rewrite_first.ensures.rewritten honest) (c.in_ok-rewrite_first.ensures.kept honest)
    (c.rewrite_homes.ensures.rewritten honest_1) (c.in_ok-rewrite_homes.ensures.kept honest_1))))
    (c.barrier.ensures.synced honest_2)

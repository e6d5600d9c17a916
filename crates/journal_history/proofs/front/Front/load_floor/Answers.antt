use Rattle.std.proofs.Common.{◌≤◌, List, arith, subst}
use Rattle.journal_world.specs.Histories.{Entry, floor}
use Rattle.journal_world.proofs.Marks.{floor-append-le}
use Rattle.journal_history.proofs.front.Front.load_floor.Goals as goal

pub returns-clause-marked : goal.returns-clause-marked
returns-clause-marked g c =
    let between = c.load-floor.new.seen.log in
    let found : c.load-floor.result ≤ floor between = c.load-floor.ensures.6.1.0 in
    let later = c.at_head.ensures in
    let grown : floor between ≤ floor c.at_head.result = subst (λ (h : List Entry). floor between ≤ floor h) later.1 (floor-append-le between later.0) in
    rw c.drop.view_is (omega arith)

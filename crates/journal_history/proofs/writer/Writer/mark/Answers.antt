use Rattle.std.proofs.Common.{◌≤◌}
use Rattle.journal_world.specs.Histories.{floor, count}
use Rattle.journal_world.proofs.Marks.{floor-mark}
use Rattle.journal_history.proofs.Growth.{may_mark}
use Rattle.journal_history.proofs.Committing.{whole_after_mark}
use Rattle.journal_history.proofs.writer.Writer.mark.Goals as goal

pub add_after-requires-clause-may : goal.add_after-requires-clause-may
add_after-requires-clause-may g c =
    let history = c.self.inside.front in
    let rises : floor history ≤ c.args.n = rw c.self.view_is c.requires.rises in
    let made : c.args.n ≤ count history = rw c.self.view_is c.requires.made in
    rw c.get.ensures (may_mark g.R.MapRule.statement history c.args.n c.len-len.ensures.sound c.self.invariant.begun rises made)

pub invariant_of-self : goal.invariant_of-self
invariant_of-self g c =
    let history = c.self.inside.front in
    let rises : floor history ≤ c.args.n = rw c.self.view_is c.requires.rises in
    rw (c.in_ok-self-inside.ensures.added, c.get.ensures) (whole_after_mark g.J.Naming.layout history c.self.inside.commits c.self.inside.mark c.self.inside.published c.self.invariant c.args.n rises)

pub returns-clause-marked : goal.returns-clause-marked
returns-clause-marked g c =
    let history = c.self.inside.front in
    let rises : floor history ≤ c.args.n = rw c.self.view_is c.requires.rises in
    rw (c.in_ok-self-inside.ensures.added, c.get.ensures) (floor-mark history c.args.n rises)

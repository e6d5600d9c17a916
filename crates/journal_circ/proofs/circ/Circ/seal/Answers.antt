use Rattle.std.proofs.Common.{◌≡◌, ◌≤◌, ◌+◌, ◌^◌, true, sym, subst, arith, IsTrue}
use Rattle.journal_block.specs.Block.{u64_at}
use Rattle.journal_circ.specs.Log.{label_of, is_sealed, begin_of, count_in}
use Rattle.journal_circ.specs.Ring.{Ring, ChangesForm}
use Rattle.journal_circ.proofs.Grouped.{is_sealed_by, counts}
use Rattle.journal_circ.specs.Mending.{IsMendable}
use Rattle.journal_circ.proofs.Sealing.{none_there, changes, mends}
use Rattle.journal_circ.proofs.Steps.{ring}
use Rattle.journal_circ.proofs.circ.Circ.seal.Given.{Over}
use Rattle.journal_circ.proofs.circ.Circ.seal.Goals.{After-put_stable}
use Rattle.journal_circ.proofs.circ.Circ.seal.Goals as goal

-- block 0 was or was not put, and was or was not made stable
tried : (g : Over) (c : After-put_stable g) → IsTrue c.args.self.disk.honest
    → ChangesForm c.args.self (g.D.BlockDisk.state c.put_stable.new.device.disk).past × IsMendable (g.D.BlockDisk.state c.put_stable.new.device.disk).past
tried g c =
    let s = c.self.inside in
    let old : Ring = ring (g.D.BlockDisk.state s.device.disk) s.header s.tags (label_of s.start_block) s.sealed s.extent s.next s.device.faulted in
    let new = (g.D.BlockDisk.state c.put_stable.new.device.disk).past in
    let v = c.put_group.new.header in
    let bound : u64_at v 0 ≡ 2 ^ 63 + s.next = c.put_group.ensures.bound in
    let sealed : is_sealed v ≡ true = is_sealed_by v (omega (arith, bound)) in
    let begins : begin_of v ≡ s.next = omega (arith, bound) in
    let none : count_in v s.next ≡ 0 = counts s.header v s.next 0 c.put_group.ensures.word (omega arith) c.put_group.ensures.others in
    let empty : s.extent.start ≡ s.next = subst (λ (r : Ring). r.extent.start ≡ r.next) (sym c.self.view_is) c.requires.empty in
    let narrow : old.disk.past.size ≤ 2 ^ 40 = subst (λ (r : Ring). r.disk.past.size ≤ 2 ^ 40) (sym c.self.view_is) c.requires.narrow in
    subst (λ (r : Ring). IsTrue r.disk.honest → ChangesForm r new × IsMendable new) c.self.view_is
    (λ honest. (
      changes old c.self.invariant honest empty v (none_there v s.next sealed begins none) (λ _. narrow) new (c.put_stable.ensures.tries honest),
      mends old c.self.invariant honest empty v (none_there v s.next sealed begins none) (λ _. narrow) new (c.put_stable.ensures.tries honest),
    ))

pub returns-in-Ok-clause-crash : goal.returns-in-Ok-clause-crash
returns-in-Ok-clause-crash g c = λ honest. (tried g (goal.at.returns-in-Ok-clause-crash g c).After-put_stable honest).0

pub returns-clause-crash : goal.returns-clause-crash
returns-clause-crash g c = λ honest. (tried g (goal.at.returns-clause-crash g c).After-put_stable honest).0

pub returns-clause-mendable : goal.returns-clause-mendable
returns-clause-mendable g c = λ honest. (tried g (goal.at.returns-clause-mendable g c).After-put_stable honest).1

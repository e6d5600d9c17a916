use Rattle.std.proofs.Common.{◌≡◌, ◌∙◌, false, sym, subst, arith, IsTrue}
use Rattle.journal_circ.specs.Log.{label_of, is_sealed}
use Rattle.journal_circ.specs.Ring.{Ring, ChangesForm}
use Rattle.journal_circ.proofs.Forms.{is_plain, plain_end}
use Rattle.journal_circ.proofs.Puts.{not_sealed}
use Rattle.journal_circ.specs.Mending.{IsMendable}
use Rattle.journal_circ.proofs.Sealing.{changes, mends}
use Rattle.journal_circ.proofs.Steps.{ring}
use Rattle.journal_circ.proofs.circ.Circ.unseal.Given.{Over}
use Rattle.journal_circ.proofs.circ.Circ.unseal.Goals.{After-put_stable}
use Rattle.journal_circ.proofs.circ.Circ.unseal.Goals as goal

-- block 0 was or was not put, and was or was not made stable
tried : (g : Over) (c : After-put_stable g) → IsTrue c.args.self.disk.honest
    → ChangesForm c.args.self (g.D.BlockDisk.state c.put_stable.new.device.disk).past × IsMendable (g.D.BlockDisk.state c.put_stable.new.device.disk).past
tried g c =
    let s = c.self.inside in
    let old : Ring = ring (g.D.BlockDisk.state s.device.disk) s.header s.tags (label_of s.start_block) s.sealed s.extent s.next s.device.faulted in
    let new = (g.D.BlockDisk.state c.put_stable.new.device.disk).past in
    let v = c.put_u64.new.self in
    let plain : is_sealed v ≡ false = is_plain v (omega (arith, c.put_u64.ensures.number, c.self.invariant.bounds)) in
    let empty : s.extent.start ≡ s.next = subst (λ (r : Ring). r.extent.start ≡ r.next) (sym c.self.view_is) c.requires.empty in
    subst (λ (r : Ring). IsTrue r.disk.honest → ChangesForm r new × IsMendable new) c.self.view_is
    (λ honest. (
      changes old c.self.invariant honest empty v (λ f. plain_end v f plain ∙ c.put_u64.ensures.number) (not_sealed plain) new (c.put_stable.ensures.tries honest),
      mends old c.self.invariant honest empty v (λ f. plain_end v f plain ∙ c.put_u64.ensures.number) (not_sealed plain) new (c.put_stable.ensures.tries honest),
    ))

pub returns-in-Ok-clause-crash : goal.returns-in-Ok-clause-crash
returns-in-Ok-clause-crash g c = λ honest. (tried g (goal.at.returns-in-Ok-clause-crash g c).After-put_stable honest).0

pub returns-clause-crash : goal.returns-clause-crash
returns-clause-crash g c = λ honest. (tried g (goal.at.returns-clause-crash g c).After-put_stable honest).0

pub returns-clause-mendable : goal.returns-clause-mendable
returns-clause-mendable g c = λ honest. (tried g (goal.at.returns-clause-mendable g c).After-put_stable honest).1

use Rattle.std.proofs.Common.{◌≡◌, ◌≤◌, inr, refl, sym, subst, arith, IsTrue}
use Rattle.journal_block.specs.Block.{Bytes}
use Rattle.journal_circ.specs.Log.{label_of}
use Rattle.journal_circ.specs.Ring.{Ring, Crashes, IsInstalled}
use Rattle.journal_circ.specs.Soundness.{IsCirc}
use Rattle.journal_circ.proofs.Puts.{fine_of, done_of, start_is_put}
use Rattle.journal_circ.proofs.Steps.{ring, stepped_at, stays, put as put_low}
use Rattle.journal_circ.proofs.circ.Circ.put_start.Given.{Over}
use Rattle.journal_circ.proofs.circ.Circ.put_start.Goals.{After-write}
use Rattle.journal_circ.proofs.circ.Circ.put_start.Goals as goal

pub returns-in_err-check-clause-crash : goal.returns-in_err-check-clause-crash
returns-in_err-check-clause-crash g c =
    subst (λ (r : Ring). Crashes r.extent.coming r r) c.self.view_is (stays _ _ c.self.invariant (omega (arith, c.self.invariant.bounds)) (omega (arith, c.self.invariant.bounds)) (inr refl))

-- block 1 was or was not written
clause_crash : (g : Over) (c : After-write g) → let s = c.self.inside in
    let now = ring (g.D.BlockDisk.state c.write.new.self.disk) s.header s.tags (label_of c.put_start.new.block) s.sealed (record s.extent { freed = c.args.upto }) s.next c.write.new.self.faulted in
    IsCirc now × Crashes c.args.self.now.extent.coming c.args.self.now now
clause_crash g c =
    let s = c.self.inside in
    let old : Ring = ring (g.D.BlockDisk.state s.device.disk) s.header s.tags (label_of s.start_block) s.sealed s.extent s.next s.device.faulted in
    let d = g.D.BlockDisk.state c.write.new.self.disk in
    let fine = fine_of c.write.result c.write.ensures.ok c.write.ensures.err in
    let done = done_of c.write.result c.write.ensures.written c.write.ensures.err in
    let synced : IsTrue s.extent.homes = subst (λ (r : Ring). IsTrue r.extent.homes) (sym c.self.view_is) c.requires.synced in
    let idle : s.extent.freed ≡ s.extent.start = subst (λ (r : Ring). r.extent.freed ≡ r.extent.start) (sym c.self.view_is) c.requires.idle in
    let above : s.extent.start ≤ c.args.upto = subst (λ (r : Ring). r.extent.start ≤ c.args.upto) (sym c.self.view_is) c.requires.above in
    let below : c.args.upto ≤ s.extent.end = subst (λ (r : Ring). c.args.upto ≤ r.extent.end) (sym c.self.view_is) c.requires.below in
    let installed : IsTrue old.disk.honest → IsInstalled old c.args.upto = subst (λ (r : Ring). IsTrue r.disk.honest → IsInstalled r c.args.upto) (sym c.self.view_is) c.requires.installed in
    let is = start_is_put old d c.write.new.self.faulted c.self.invariant c.write.ensures.keeps fine 1 c.put_start.new.block (omega (arith, c.self.invariant.bounds)) c.write.ensures.written_or_not done
    refl c.args.upto idle synced above below c.put_start.ensures.number c.put_start.ensures.label installed in
    subst (λ (l : Bytes). let new = ring d s.header s.tags l s.sealed (record s.extent { freed = c.args.upto }) s.next c.write.new.self.faulted in
    IsCirc new × Crashes c.args.self.now.extent.coming c.args.self.now new) (sym c.put_start.ensures.label) (
      is,
      stepped_at c.self.view_is (put_low old d 1 c.put_start.new.block c.self.invariant c.write.ensures.keeps (omega (arith, c.self.invariant.bounds)) c.write.ensures.written_or_not
          s.header s.tags (λ q ge lt same. omega arith) (λ q ge lt. (refl, λ f. refl)) (record s.extent { freed = c.args.upto }) c.write.new.self.faulted refl refl is
          (omega arith) s.extent.coming (omega (arith, c.self.invariant.bounds)) (omega (arith, c.self.invariant.bounds)) (inr refl) refl),
    )

pub invariant_of-self : goal.invariant_of-self
invariant_of-self g c = (clause_crash g (goal.at.invariant_of-self g c).After-write).0

pub returns-in_err-write-clause-crash : goal.returns-in_err-write-clause-crash
returns-in_err-write-clause-crash g c = (clause_crash g (goal.at.returns-in_err-write-clause-crash g c).After-write).1

pub invariant_of-self-2 : goal.invariant_of-self-2
invariant_of-self-2 g c = (clause_crash g (goal.at.invariant_of-self-2 g c).After-write).0

pub returns-clause-crash : goal.returns-clause-crash
returns-clause-crash g c = (clause_crash g (goal.at.returns-clause-crash g c).After-write).1

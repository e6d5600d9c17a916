use Rattle.std.proofs.Common.{◌≡◌, ◌<◌, false, inr, refl, sym, subst, arith, IsTrue}
use Rattle.journal_circ.specs.Log.{label_of}
use Rattle.journal_circ.specs.Ring.{Ring, Crashes, IsLogged}
use Rattle.journal_circ.specs.Soundness.{IsCirc}
use Rattle.journal_circ.proofs.Puts.{fine_of, home_is_put}
use Rattle.journal_circ.proofs.Steps.{ring, stepped_at, stays, home}
use Rattle.journal_circ.proofs.circ.Circ.put_home.Given.{Over}
use Rattle.journal_circ.proofs.circ.Circ.put_home.Goals.{After-write}
use Rattle.journal_circ.proofs.circ.Circ.put_home.Goals as goal

pub returns-in_err-check-clause-crash : goal.returns-in_err-check-clause-crash
returns-in_err-check-clause-crash g c =
    subst (λ (r : Ring). Crashes r.extent.coming r r) c.self.view_is (stays _ _ c.self.invariant (omega (arith, c.self.invariant.bounds)) (omega (arith, c.self.invariant.bounds)) (inr refl))

-- the block was or was not written
clause_crash : (g : Over) (c : After-write g) → let s = c.self.inside in
    let now = ring (g.D.BlockDisk.state c.write.new.self.disk) s.header s.tags (label_of s.start_block) s.sealed (record s.extent { homes = false }) s.next c.write.new.self.faulted in
    IsCirc now × Crashes c.args.self.now.extent.coming c.args.self.now now
clause_crash g c =
    let s = c.self.inside in
    let old : Ring = ring (g.D.BlockDisk.state s.device.disk) s.header s.tags (label_of s.start_block) s.sealed s.extent s.next s.device.faulted in
    let d = g.D.BlockDisk.state c.write.new.self.disk in
    let fine = fine_of c.write.result c.write.ensures.ok c.write.ensures.err in
    let idle : s.extent.freed ≡ s.extent.start = subst (λ (r : Ring). r.extent.freed ≡ r.extent.start) (sym c.self.view_is) c.requires.idle in
    let on_disk : c.args.block < old.disk.past.size = subst (λ (r : Ring). c.args.block < r.disk.past.size) (sym c.self.view_is) c.requires.on_disk in
    let logged : IsTrue old.disk.honest → IsLogged old c.args.block = subst (λ (r : Ring). IsTrue r.disk.honest → IsLogged r c.args.block) (sym c.self.view_is) c.requires.logged in
    let is = home_is_put old d c.write.new.self.faulted c.self.invariant c.write.ensures.keeps fine c.args.block c.args.from.now on_disk c.write.ensures.written_or_not c.requires.home idle logged in (
      is,
      stepped_at c.self.view_is (home old d c.args.block c.args.from.now c.self.invariant c.write.ensures.keeps on_disk c.write.ensures.written_or_not
          s.header s.tags (λ q ge lt same. omega (arith, c.requires.home)) (λ q ge lt. (refl, λ f. refl)) (record s.extent { homes = false }) c.write.new.self.faulted refl refl is logged refl),
    )

pub invariant_of-self : goal.invariant_of-self
invariant_of-self g c = (clause_crash g (goal.at.invariant_of-self g c).After-write).0

pub returns-in_err-write-clause-crash : goal.returns-in_err-write-clause-crash
returns-in_err-write-clause-crash g c = (clause_crash g (goal.at.returns-in_err-write-clause-crash g c).After-write).1

pub invariant_of-self-2 : goal.invariant_of-self-2
invariant_of-self-2 g c = (clause_crash g (goal.at.invariant_of-self-2 g c).After-write).0

pub returns-clause-crash : goal.returns-clause-crash
returns-clause-crash g c = (clause_crash g (goal.at.returns-clause-crash g c).After-write).1

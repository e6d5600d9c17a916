use Rattle.std.proofs.Common.{false, ◌∙◌, ◌≡◌, inl, refl, sym, subst, arith, IsTrue}
use Rattle.journal_circ.specs.Log.{label_of, address_at, is_sealed}
use Rattle.journal_circ.proofs.Forms.{is_plain}
use Rattle.journal_circ.specs.Ring.{Ring, Crashes, KeepsLog}
use Rattle.journal_circ.specs.Soundness.{IsCirc}
use Rattle.journal_circ.proofs.Puts.{fine_of, done_of, end_is_put}
use Rattle.journal_circ.proofs.Steps.{ring, alike_by, stays, put as put_low, log_put, homes_put}
use Rattle.journal_circ.proofs.circ.Circ.put_end.Given.{Over}
use Rattle.journal_circ.proofs.circ.Circ.put_end.Goals.{After-write}
use Rattle.journal_circ.proofs.circ.Circ.put_end.Goals as goal

pub returns-in_err-check-clause-crash : goal.returns-in_err-check-clause-crash
returns-in_err-check-clause-crash g c =
    subst (λ (r : Ring). (r.extent.coming ≡ r.extent.end) → Crashes r.next r r) c.self.view_is
    (λ one. stays _ _ c.self.invariant (omega (arith, c.self.invariant.bounds)) (omega (arith, c.self.invariant.bounds)) (inl one)) c.requires.one

-- block 0 was or was not written
clause_crash : (g : Over) (c : After-write g) → let s = c.self.inside in
    let now = ring (g.D.BlockDisk.state c.write.new.self.disk) c.put_u64.new.self s.tags (label_of s.start_block) s.sealed (record s.extent { coming = s.next }) s.next c.write.new.self.faulted in
    IsCirc now × Crashes c.args.self.now.next c.args.self.now now × (IsTrue c.args.self.now.disk.honest → KeepsLog c.args.self.now now)
clause_crash g c =
    let s = c.self.inside in
    let old : Ring = ring (g.D.BlockDisk.state s.device.disk) s.header s.tags (label_of s.start_block) s.sealed s.extent s.next s.device.faulted in
    let d = g.D.BlockDisk.state c.write.new.self.disk in
    let fine = fine_of c.write.result c.write.ensures.ok c.write.ensures.err in
    let done = done_of c.write.result c.write.ensures.written c.write.ensures.err in
    let one : s.extent.coming ≡ s.extent.end = subst (λ (r : Ring). r.extent.coming ≡ r.extent.end) (sym c.self.view_is) c.requires.one in
    let synced : s.extent.stable ≡ s.next = subst (λ (r : Ring). r.extent.stable ≡ r.next) (sym c.self.view_is) c.requires.synced in
    let plain_was : is_sealed s.header ≡ false = sym c.self.invariant.form ∙ subst (λ (r : Ring). r.sealed ≡ false) (sym c.self.view_is) c.requires.plain in
    let plain : is_sealed c.put_u64.new.self ≡ false = is_plain c.put_u64.new.self (omega (arith, c.put_u64.ensures.number, c.self.invariant.bounds)) in
    let is = end_is_put old d c.write.new.self.faulted c.self.invariant c.write.ensures.keeps fine 0 c.put_u64.new.self (omega (arith, c.self.invariant.bounds)) c.write.ensures.written_or_not done
    refl plain_was plain one synced c.put_u64.ensures.number (λ q. c.put_u64.ensures.after (address_at q) (omega arith)) in (
      is,
      subst (λ (r : Ring). Crashes r.next r (ring d c.put_u64.new.self s.tags (label_of s.start_block) s.sealed (record s.extent { coming = s.next }) s.next c.write.new.self.faulted)) c.self.view_is
          (put_low old d 0 c.put_u64.new.self c.self.invariant c.write.ensures.keeps (omega (arith, c.self.invariant.bounds)) c.write.ensures.written_or_not
          c.put_u64.new.self s.tags (λ q ge lt same. omega arith) (λ q ge lt. alike_by s.header c.put_u64.new.self q (plain ∙ sym plain_was) (c.put_u64.ensures.after (address_at q) (omega arith))) (record s.extent { coming = s.next }) c.write.new.self.faulted refl refl is
          (omega arith) s.next (omega (arith, c.self.invariant.bounds)) (omega arith) (inl one) refl),
      subst (λ (r : Ring). IsTrue r.disk.honest → KeepsLog r (ring d c.put_u64.new.self s.tags (label_of s.start_block) s.sealed (record s.extent { coming = s.next }) s.next c.write.new.self.faulted)) c.self.view_is
          (λ honest. record {
            log = log_put old d 0 c.put_u64.new.self c.self.invariant c.write.ensures.keeps (omega (arith, c.self.invariant.bounds)) c.write.ensures.written_or_not c.put_u64.new.self s.tags (λ q ge lt same. omega arith)
                (λ q ge lt. alike_by s.header c.put_u64.new.self q (plain ∙ sym plain_was) (c.put_u64.ensures.after (address_at q) (omega arith))) honest;
            home = homes_put old d 0 c.put_u64.new.self c.self.invariant c.write.ensures.keeps (omega (arith, c.self.invariant.bounds)) c.write.ensures.written_or_not c.put_u64.new.self s.tags (λ q ge lt same. omega arith)
                (λ q ge lt. alike_by s.header c.put_u64.new.self q (plain ∙ sym plain_was) (c.put_u64.ensures.after (address_at q) (omega arith))) honest (omega arith);
          }),
    )

pub invariant_of-self : goal.invariant_of-self
invariant_of-self g c = (clause_crash g (goal.at.invariant_of-self g c).After-write).0

pub returns-in_err-write-clause-crash : goal.returns-in_err-write-clause-crash
returns-in_err-write-clause-crash g c = (clause_crash g (goal.at.returns-in_err-write-clause-crash g c).After-write).1

pub invariant_of-self-2 : goal.invariant_of-self-2
invariant_of-self-2 g c = (clause_crash g (goal.at.invariant_of-self-2 g c).After-write).0

pub returns-clause-crash : goal.returns-clause-crash
returns-clause-crash g c = (clause_crash g (goal.at.returns-clause-crash g c).After-write).1

pub returns-in_err-write-clause-log : goal.returns-in_err-write-clause-log
returns-in_err-write-clause-log g c = (clause_crash g (goal.at.returns-in_err-write-clause-log g c).After-write).2

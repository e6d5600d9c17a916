use Rattle.std.proofs.Common.{◌≡◌, ◌≢◌, ◌∙◌, ◌<◌, ◌≤◌, ◌-◌, ◌+◌, ◌%◌, ◌^◌, ℕ, true, false, ap, inl, refl, sym, subst, arith, IsTrue}
use Rattle.journal_block.specs.Block.{u64_at}
use Rattle.journal_circ.specs.Log.{label_of, log_block, address, is_sealed, begin_of, home_in, tag_in, first_in, word_of, with_tag, home_by}
use Rattle.journal_circ.specs.Ring.{Ring, Crashes, KeepsLog}
use Rattle.journal_circ.specs.Soundness.{IsCirc}
use Rattle.journal_circ.proofs.Grouped.{is_sealed_by, sealed_home, sealed_bytes, homes, tags, firsts, counts}
use Rattle.journal_circ.proofs.Puts.{fine_of, done_of, group_is_put}
use Rattle.journal_circ.proofs.Steps.{ring, Alike, stays, put as put_low, log_put, homes_put}
use Rattle.journal_circ.proofs.circ.Circ.put_group.Given.{Over}
use Rattle.journal_circ.proofs.circ.Circ.put_group.Goals.{After-write}
use Rattle.journal_circ.proofs.circ.Circ.put_group.Goals as goal

pub returns-in_err-check-clause-crash : goal.returns-in_err-check-clause-crash
returns-in_err-check-clause-crash g c =
    subst (λ (r : Ring). (r.extent.coming ≡ r.extent.end) → Crashes r.next r r) c.self.view_is
    (λ one. stays _ _ c.self.invariant (omega (arith, c.self.invariant.bounds)) (omega (arith, c.self.invariant.bounds)) (inl one)) c.requires.one

-- block 0 was or was not written
wrote : (g : Over) (c : After-write g) → let s = c.self.inside in
    let now = ring (g.D.BlockDisk.state c.write.new.self.disk) c.put_group.new.header s.tags (label_of s.start_block) s.sealed (record s.extent { coming = s.next }) s.next c.write.new.self.faulted in
    IsCirc now × Crashes c.args.self.now.next c.args.self.now now × (IsTrue c.args.self.now.disk.honest → KeepsLog c.args.self.now now)
wrote g c =
    let s = c.self.inside in
    let old : Ring = ring (g.D.BlockDisk.state s.device.disk) s.header s.tags (label_of s.start_block) s.sealed s.extent s.next s.device.faulted in
    let d = g.D.BlockDisk.state c.write.new.self.disk in
    let v = c.put_group.new.header in
    let n = s.next - s.extent.end in
    let fine = fine_of c.write.result c.write.ensures.ok c.write.ensures.err in
    let done = done_of c.write.result c.write.ensures.written c.write.ensures.err in
    let well : s.device.faulted ≡ false = c.in_ok-check.ensures.ok in
    let one : s.extent.coming ≡ s.extent.end = subst (λ (r : Ring). r.extent.coming ≡ r.extent.end) (sym c.self.view_is) c.requires.one in
    let was_sealed : is_sealed s.header ≡ true = sym c.self.invariant.form ∙ subst (λ (r : Ring). r.sealed ≡ true) (sym c.self.view_is) c.requires.sealed in
    let some : s.extent.end < s.next = subst (λ (r : Ring). r.extent.end < r.next) (sym c.self.view_is) c.requires.some in
    let few : n < 2 ^ 8 = omega (arith, c.self.invariant.bounds.few was_sealed) in
    let bound : u64_at v 0 ≡ 2 ^ 63 + s.extent.end = c.put_group.ensures.bound in
    let word : address v s.extent.end ≡ word_of (home_in s.header s.extent.end) n (tag_in s.header s.extent.end) (first_in s.header s.extent.end) = c.put_group.ensures.word in
    let others : (q : ℕ) → q % 511 ≢ s.extent.end % 511 → address v q ≡ address s.header q = c.put_group.ensures.others in
    let sealed : is_sealed v ≡ true = is_sealed_by v (omega (arith, bound)) in
    let begins : begin_of v ≡ s.extent.end = omega (arith, bound) in
    let same_homes : (q : ℕ) → home_by v q ≡ home_by s.header q = λ q.
    sealed_home v q sealed ∙ homes s.header v s.extent.end n word few others q ∙ sym (sealed_home s.header q was_sealed) in
    let alike : (q : ℕ) → s.extent.start ≤ q → q < s.next → Alike s.header v q = λ q ge lt. (
      same_homes q,
      λ f.
          sealed_bytes v f q sealed ∙ ap (with_tag (f (log_block q))) (firsts s.header v s.extent.end n word few others q) ∙ sym (sealed_bytes s.header f q was_sealed),
    ) in
    let words : (q : ℕ) → s.extent.start ≤ q → q < s.extent.end → address v q ≡ address s.header q = λ q ge lt.
    others q (λ same. omega (arith, ge, lt, same, some, c.self.invariant.bounds)) in
    let on_disk : 0 < old.disk.past.size = omega (arith, c.self.invariant.bounds) in
    let is = group_is_put old d c.write.new.self.faulted c.self.invariant c.write.ensures.keeps fine 0 v on_disk c.write.ensures.written_or_not done
    refl well was_sealed one sealed begins (counts s.header v s.extent.end n word few others) (tags s.header v s.extent.end n word few others) words same_homes in (
      is,
      subst (λ (r : Ring). Crashes r.next r (ring d v s.tags (label_of s.start_block) s.sealed (record s.extent { coming = s.next }) s.next c.write.new.self.faulted)) c.self.view_is
          (put_low old d 0 v c.self.invariant c.write.ensures.keeps on_disk c.write.ensures.written_or_not
          v s.tags (λ q ge lt same. omega arith) alike (record s.extent { coming = s.next }) c.write.new.self.faulted refl refl is
          (omega arith) s.next (omega (arith, c.self.invariant.bounds)) (omega arith) (inl one) refl),
      subst (λ (r : Ring). IsTrue r.disk.honest → KeepsLog r (ring d v s.tags (label_of s.start_block) s.sealed (record s.extent { coming = s.next }) s.next c.write.new.self.faulted)) c.self.view_is
          (λ honest. record {
            log = log_put old d 0 v c.self.invariant c.write.ensures.keeps on_disk c.write.ensures.written_or_not v s.tags (λ q ge lt same. omega arith) alike honest;
            home = homes_put old d 0 v c.self.invariant c.write.ensures.keeps on_disk c.write.ensures.written_or_not v s.tags (λ q ge lt same. omega arith) alike honest (omega arith);
          }),
    )

pub invariant_of-self : goal.invariant_of-self
invariant_of-self g c = (wrote g (goal.at.invariant_of-self g c).After-write).0

pub returns-in_err-write-clause-crash : goal.returns-in_err-write-clause-crash
returns-in_err-write-clause-crash g c = (wrote g (goal.at.returns-in_err-write-clause-crash g c).After-write).1

pub returns-in_err-write-clause-log : goal.returns-in_err-write-clause-log
returns-in_err-write-clause-log g c = (wrote g (goal.at.returns-in_err-write-clause-log g c).After-write).2

pub invariant_of-self-2 : goal.invariant_of-self-2
invariant_of-self-2 g c = (wrote g (goal.at.invariant_of-self-2 g c).After-write).0

pub returns-clause-crash : goal.returns-clause-crash
returns-clause-crash g c = (wrote g (goal.at.returns-clause-crash g c).After-write).1

pub returns-clause-log : goal.returns-clause-log
returns-clause-log g c = (wrote g (goal.at.returns-clause-log g c).After-write).2

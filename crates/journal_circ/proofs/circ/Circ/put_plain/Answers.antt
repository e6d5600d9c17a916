use Rattle.std.proofs.Common.{false, ◌∙◌, ap, ◌≡◌, ◌<◌, ◌≤◌, ◌+◌, ◌^◌, ℕ, ◌++◌, [], ◌∷◌, inr, refl, sym, subst, arith, IsTrue}
use Rattle.std.proofs.lemmas.Result.{err_from_is_err_and}
use Rattle.journal_block.specs.Block.{u64_at}
use Rattle.journal_disk.specs.Disks.{read_of}
use Rattle.journal_disk.specs.Laws.{read_written}
use Rattle.std.specs.Prelude.{nat_le}
use Rattle.journal_circ.specs.Log.{label_of, log_block, address_at, address, is_sealed, home_by, bytes_by}
use Rattle.journal_circ.proofs.Forms.{plain_home, plain_bytes}
use Rattle.journal_circ.specs.Ring.{Ring, Crashes, log_of}
use Rattle.journal_circ.specs.Soundness.{IsCirc}
use Rattle.journal_circ.proofs.Puts.{not_good, address_kept, addresses_put, slot_is_put}
use Rattle.journal_circ.proofs.Steps.{ring, alike_by, stepped_at, log_put, put, log_grown, slot}
use Rattle.journal_circ.proofs.circ.Circ.put_plain.Given.{Over}
use Rattle.journal_circ.proofs.circ.Circ.put_plain.Goals.{In_err-write, After-put_u64}
use Rattle.journal_circ.proofs.circ.Circ.put_plain.Goals as goal

-- the log block was perhaps written, and no position has it
failed : (g : Over) (c : In_err-write g) → let s = c.self.inside in
    let now = ring (g.D.BlockDisk.state c.write.new.self.disk) s.header s.tags (label_of s.start_block) s.sealed s.extent s.next c.write.new.self.faulted in
    IsCirc now × Crashes c.args.self.now.extent.coming c.args.self.now now × (IsTrue c.args.self.now.disk.honest → log_of now ≡ log_of c.args.self.now)
failed g c =
    let s = c.self.inside in
    let old : Ring = ring (g.D.BlockDisk.state s.device.disk) s.header s.tags (label_of s.start_block) s.sealed s.extent s.next s.device.faulted in
    let d = g.D.BlockDisk.state c.write.new.self.disk in
    let plain_was : is_sealed s.header ≡ false = sym c.self.invariant.form ∙ subst (λ (r : Ring). r.sealed ≡ false) (sym c.self.view_is) c.requires.plain in
    let here : c.log_block.result ≡ log_block s.next = c.log_block.ensures in
    let room : s.next < s.extent.start + 511 = subst (λ (r : Ring). r.next < r.extent.start + 511) (sym c.self.view_is) c.requires.room in
    let on_disk : c.log_block.result < old.disk.past.size = omega (arith, c.self.invariant.bounds) in
    let is = slot_is_put old d c.write.new.self.faulted c.self.invariant c.write.ensures.keeps (not_good c.write.new.self.faulted c.in_err-write.ensures.err)
    c.log_block.result c.args.from.now on_disk c.write.ensures.written_or_not
    s.header s.tags s.next refl (omega arith) (omega arith) (λ q ge lt same. omega arith) (λ q ge lt. refl)
    (omega arith) c.self.invariant.bounds.fits c.self.invariant.bounds.small
    (λ q ge lt. subst (λ (n : ℕ). (513 ≤ home_by s.header q) × (home_by s.header q < n)) (sym c.write.ensures.keeps.size) (c.self.invariant.bounds.addresses q ge lt)) plain_was c.self.invariant.tags_size in (
      is,
      stepped_at c.self.view_is (put old d c.log_block.result c.args.from.now c.self.invariant c.write.ensures.keeps on_disk c.write.ensures.written_or_not
          s.header s.tags (λ q ge lt same. omega arith) (λ q ge lt. (refl, λ f. refl)) s.extent c.write.new.self.faulted refl refl is
          (omega arith) s.extent.coming (omega (arith, c.self.invariant.bounds)) (omega (arith, c.self.invariant.bounds)) (inr refl) refl),
      subst (λ (r : Ring). IsTrue r.disk.honest → log_of (ring d s.header s.tags (label_of s.start_block) s.sealed s.extent s.next c.write.new.self.faulted) ≡ log_of r) c.self.view_is
          (log_put old d c.log_block.result c.args.from.now c.self.invariant c.write.ensures.keeps on_disk c.write.ensures.written_or_not
          s.header s.tags (λ q ge lt same. omega arith) (λ q ge lt. (refl, λ f. refl))),
    )

pub invariant_of-self : goal.invariant_of-self
invariant_of-self g c = (failed g (goal.at.invariant_of-self g c).In_err-write).0

pub returns-in_err-write-clause-crash : goal.returns-in_err-write-clause-crash
returns-in_err-write-clause-crash g c = (failed g (goal.at.returns-in_err-write-clause-crash g c).In_err-write).1

pub returns-in_err-write-clause-log : goal.returns-in_err-write-clause-log
returns-in_err-write-clause-log g c =
    let err = err_from_is_err_and c.from_residual.result c.from_residual.ensures.1 in
    rw err.1 (failed g (goal.at.returns-in_err-write-clause-log g c).In_err-write).2

-- the log block was written, and the next position has it
clauses_crash_and_log : (g : Over) (c : After-put_u64 g) → let s = c.self.inside in
    let now = ring (g.D.BlockDisk.state c.write.new.self.disk) c.put_u64.new.self s.tags (label_of s.start_block) s.sealed s.extent (s.next + 1) c.write.new.self.faulted in
    IsCirc now × Crashes c.args.self.now.extent.coming c.args.self.now now
    × (IsTrue c.args.self.now.disk.honest → log_of now ≡ log_of c.args.self.now ++ record { block = c.args.address; bytes = c.args.from.now } ∷ [])
clauses_crash_and_log g c =
    let s = c.self.inside in
    let old : Ring = ring (g.D.BlockDisk.state s.device.disk) s.header s.tags (label_of s.start_block) s.sealed s.extent s.next s.device.faulted in
    let d = g.D.BlockDisk.state c.write.new.self.disk in
    let plain_was : is_sealed s.header ≡ false = sym c.self.invariant.form ∙ subst (λ (r : Ring). r.sealed ≡ false) (sym c.self.view_is) c.requires.plain in
    let here : c.log_block.result ≡ log_block s.next = c.log_block.ensures in
    let room : s.next < s.extent.start + 511 = subst (λ (r : Ring). r.next < r.extent.start + 511) (sym c.self.view_is) c.requires.room in
    let small : s.next + 1 < 2 ^ 62 = subst (λ (r : Ring). r.next + 1 < 2 ^ 62) (sym c.self.view_is) c.requires.small in
    let within : c.log_block.result < old.disk.past.size = omega (arith, c.self.invariant.bounds) in
    let a : c.address_at.result ≡ address_at s.next = c.address_at.ensures in
    let number : u64_at c.put_u64.new.self (address_at s.next) ≡ c.args.address = subst (λ (n : ℕ). u64_at c.put_u64.new.self n ≡ c.args.address) a c.put_u64.ensures.number in
    let words : (q : ℕ) → s.extent.start ≤ q → q < s.next → address c.put_u64.new.self q ≡ address s.header q =
    address_kept s.header c.put_u64.new.self s.extent.start s.next c.args.address room number
    (λ k le. c.put_u64.ensures.before k (omega arith)) (λ k le. c.put_u64.ensures.after k (omega arith)) in
    let form : is_sealed c.put_u64.new.self ≡ is_sealed s.header = ap (nat_le (2 ^ 63)) (c.put_u64.ensures.before 0 (omega arith)) in
    let plain : is_sealed c.put_u64.new.self ≡ false = form ∙ plain_was in
    let home : home_by c.put_u64.new.self s.next ≡ c.args.address = plain_home c.put_u64.new.self s.next plain ∙ number in
    let content : IsTrue old.disk.honest → bytes_by c.put_u64.new.self (read_of d.past) s.next ≡ c.args.from.now = λ honest.
    plain_bytes c.put_u64.new.self (read_of d.past) s.next plain
    ∙ (λ i. read_of (c.in_ok-write.ensures.written honest i) (sym here i)) ∙ read_written old.disk.past c.log_block.result c.args.from.now in
    let on_disk : c.args.address < d.past.size = subst (λ (n : ℕ). c.args.address < n) (sym c.write.ensures.keeps.size) (subst (λ (r : Ring). c.args.address < r.disk.past.size) (sym c.self.view_is) c.requires.on_disk) in
    let is = slot_is_put old d c.write.new.self.faulted c.self.invariant c.write.ensures.keeps (λ _. c.in_ok-write.ensures.ok.0)
    c.log_block.result c.args.from.now within c.write.ensures.written_or_not
    c.put_u64.new.self s.tags (s.next + 1) form (omega arith) (omega arith) (λ q ge lt same. omega arith) words
    (omega arith) (omega arith) small
    (addresses_put s.header c.put_u64.new.self s.extent.start s.next c.args.address room number
    (λ k le. c.put_u64.ensures.before k (omega arith)) (λ k le. c.put_u64.ensures.after k (omega arith))
    d.past.size c.args.address form home c.requires.home on_disk
    (λ q ge lt. subst (λ (n : ℕ). (513 ≤ home_by s.header q) × (home_by s.header q < n)) (sym c.write.ensures.keeps.size) (c.self.invariant.bounds.addresses q ge lt))) plain_was c.self.invariant.tags_size in (
      is,
      stepped_at c.self.view_is (slot old d c.log_block.result c.args.from.now c.self.invariant c.write.ensures.keeps within c.write.ensures.written_or_not
          c.put_u64.new.self s.tags (λ q ge lt same. omega arith) (λ q ge lt. alike_by s.header c.put_u64.new.self q form (words q ge lt)) c.args.address c.args.from.now c.write.new.self.faulted home content is (omega arith)),
      subst (λ (r : Ring). IsTrue r.disk.honest → log_of (ring d c.put_u64.new.self s.tags (label_of s.start_block) s.sealed s.extent (s.next + 1) c.write.new.self.faulted) ≡ log_of r ++ record { block = c.args.address; bytes = c.args.from.now } ∷ []) c.self.view_is
          (log_grown old d c.log_block.result c.args.from.now c.self.invariant c.write.ensures.keeps within c.write.ensures.written_or_not
          c.put_u64.new.self s.tags (λ q ge lt same. omega arith) (λ q ge lt. alike_by s.header c.put_u64.new.self q form (words q ge lt)) c.args.address c.args.from.now c.write.new.self.faulted home content is),
    )

pub invariant_of-self-2 : goal.invariant_of-self-2
invariant_of-self-2 g c = (clauses_crash_and_log g (goal.at.invariant_of-self-2 g c).After-put_u64).0

pub returns-clause-crash : goal.returns-clause-crash
returns-clause-crash g c = (clauses_crash_and_log g (goal.at.returns-clause-crash g c).After-put_u64).1

pub returns-clause-log : goal.returns-clause-log
returns-clause-log g c = (clauses_crash_and_log g (goal.at.returns-clause-log g c).After-put_u64).2

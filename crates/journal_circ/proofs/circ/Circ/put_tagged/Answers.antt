use Rattle.std.proofs.Common.{true, ◌∙◌, ap, ◌≡◌, ◌≢◌, ◌<◌, ◌≤◌, ◌+◌, ◌%◌, ◌/◌, ◌^◌, ℕ, ◌++◌, [], ◌∷◌, length, inr, refl, sym, subst, arith, IsTrue, ⊎_elim, if◌then◌else◌}
use Rattle.std.proofs.lemmas.Result.{err_from_is_err_and}
use Rattle.std.proofs.lemmas.Bool.{cases_lt}
use Rattle.std.specs.Prelude.{nat_le}
use Rattle.journal_block.specs.Block.{Bytes, u64_at}
use Rattle.journal_disk.specs.Disks.{Past, read_of}
use Rattle.journal_disk.specs.Laws.{read_written}
use Rattle.journal_circ.specs.Log.{label_of, log_block, address_at, address, is_sealed, home_by, bytes_by, tag_in, tag_of, tag_at, with_tag}
use Rattle.journal_circ.specs.Ring.{Ring, Crashes, log_of}
use Rattle.journal_circ.specs.Soundness.{IsCirc}
use Rattle.journal_circ.proofs.Groups.{byte_back, tag_put}
use Rattle.journal_circ.proofs.Puts.{not_good, addresses_put, slot_is_tried, tagged_slot_is_put}
use Rattle.journal_circ.proofs.Steps.{ring, alike_by, stepped_at, log_put, put, log_grown, slot}
use Rattle.journal_circ.proofs.circ.Circ.put_tagged.Given.{Over}
use Rattle.journal_circ.proofs.circ.Circ.put_tagged.Goals as goal

-- the log block was perhaps written, and no position has it
failed : (g : Over) (c : goal.After-from_residual g) → let s = c.self.inside in
    let now = ring (g.D.BlockDisk.state c.write.new.self.disk) s.header s.tags (label_of s.start_block) s.sealed s.extent s.next c.write.new.self.faulted in
    IsCirc now × Crashes c.args.self.now.extent.coming c.args.self.now now × (IsTrue c.args.self.now.disk.honest → log_of now ≡ log_of c.args.self.now)
failed g c =
    let s = c.self.inside in
    let old : Ring = ring (g.D.BlockDisk.state s.device.disk) s.header s.tags (label_of s.start_block) s.sealed s.extent s.next s.device.faulted in
    let d = g.D.BlockDisk.state c.write.new.self.disk in
    let v = c.put_tagged.new.into in
    let here : c.log_block.result ≡ log_block s.next = c.log_block.ensures in
    let room : s.next < s.extent.start + 511 = subst (λ (r : Ring). r.next < r.extent.start + 511) (sym c.self.view_is) c.requires.room in
    let few : s.next < s.extent.end + 255 = subst (λ (r : Ring). r.next < r.extent.end + 255) (sym c.self.view_is) c.requires.few in
    let sealed : is_sealed s.header ≡ true = sym c.self.invariant.form ∙ subst (λ (r : Ring). r.sealed ≡ true) (sym c.self.view_is) c.requires.sealed in
    let on_disk : c.log_block.result < old.disk.past.size = omega (arith, c.self.invariant.bounds) in
    let v_tag : tag_of v ≡ c.other_tag-tag.result = ap tag_of c.put_tagged.ensures.contents ∙ tag_put c.args.from.now c.other_tag-tag.result in
    let torn : tag_of v ≢ tag_in s.header s.next = λ is. c.other_tag-tag.ensures.second (sym v_tag ∙ is ∙ sym c.tag_in-wanted.ensures) in
    let is = slot_is_tried old d c.write.new.self.faulted c.self.invariant c.write.ensures.keeps (not_good c.write.new.self.faulted c.in_err-write.ensures.err)
    c.log_block.result v on_disk c.write.ensures.written_or_not sealed here room few torn c.in_err-write.ensures.err in (
      is,
      stepped_at c.self.view_is (put old d c.log_block.result v c.self.invariant c.write.ensures.keeps on_disk c.write.ensures.written_or_not
          s.header s.tags (λ q ge lt same. omega arith) (λ q ge lt. (refl, λ f. refl)) s.extent c.write.new.self.faulted refl refl is
          (omega arith) s.extent.coming (omega (arith, c.self.invariant.bounds)) (omega (arith, c.self.invariant.bounds)) (inr refl) refl),
      subst (λ (r : Ring). IsTrue r.disk.honest → log_of (ring d s.header s.tags (label_of s.start_block) s.sealed s.extent s.next c.write.new.self.faulted) ≡ log_of r) c.self.view_is
          (log_put old d c.log_block.result v c.self.invariant c.write.ensures.keeps on_disk c.write.ensures.written_or_not
          s.header s.tags (λ q ge lt same. omega arith) (λ q ge lt. (refl, λ f. refl))),
    )

pub invariant_of-self : goal.invariant_of-self
invariant_of-self g c = (failed g c).0

pub returns-in_err-write-clause-crash : goal.returns-in_err-write-clause-crash
returns-in_err-write-clause-crash g c = (failed g c).1

pub returns-in_err-write-clause-log : goal.returns-in_err-write-clause-log
returns-in_err-write-clause-log g c =
    let err = err_from_is_err_and c.from_residual.result c.from_residual.ensures.1 in
    rw err.1 (failed g c).2

-- the log block was written, and the next position has it
done : (g : Over) (c : goal.After-self-1 g) → let s = c.self.inside in
    let now = ring (g.D.BlockDisk.state c.write.new.self.disk) c.put_u64.new.self c.put_tag_at.new.tags (label_of s.start_block) s.sealed s.extent (s.next + 1) c.write.new.self.faulted in
    IsCirc now × Crashes c.args.self.now.extent.coming c.args.self.now now
    × (IsTrue c.args.self.now.disk.honest → log_of now ≡ log_of c.args.self.now ++ record { block = c.args.address; bytes = c.args.from.now } ∷ [])
done g c =
    let s = c.self.inside in
    let old : Ring = ring (g.D.BlockDisk.state s.device.disk) s.header s.tags (label_of s.start_block) s.sealed s.extent s.next s.device.faulted in
    let d = g.D.BlockDisk.state c.write.new.self.disk in
    let v = c.put_tagged.new.into in
    let t = c.other_tag-tag.result in
    let h2 = c.put_u64.new.self in
    let here : c.log_block.result ≡ log_block s.next = c.log_block.ensures in
    let room : s.next < s.extent.start + 511 = subst (λ (r : Ring). r.next < r.extent.start + 511) (sym c.self.view_is) c.requires.room in
    let few : s.next < s.extent.end + 255 = subst (λ (r : Ring). r.next < r.extent.end + 255) (sym c.self.view_is) c.requires.few in
    let small : s.next + 1 < 2 ^ 62 = subst (λ (r : Ring). r.next + 1 < 2 ^ 62) (sym c.self.view_is) c.requires.small in
    let sealed : is_sealed s.header ≡ true = sym c.self.invariant.form ∙ subst (λ (r : Ring). r.sealed ≡ true) (sym c.self.view_is) c.requires.sealed in
    let on_disk : c.log_block.result < old.disk.past.size = omega (arith, c.self.invariant.bounds) in
    let v_tag : tag_of v ≡ t = ap tag_of c.put_tagged.ensures.contents ∙ tag_put c.args.from.now t in
    let torn : t ≢ tag_in s.header s.next = λ is. c.other_tag-tag.ensures.second (is ∙ sym c.tag_in-wanted.ensures) in
    let new : t ≢ tag_at s.tags s.next = λ is. c.other_tag-tag.ensures.first (is ∙ sym c.tag_at-held.ensures) in
    let a : c.address_at.result ≡ address_at s.next = c.address_at.ensures in
    let number : u64_at h2 (address_at s.next) ≡ c.word_of-word.result = subst (λ (n : ℕ). u64_at h2 n ≡ c.word_of-word.result) a c.put_u64.ensures.number in
    let form : is_sealed h2 ≡ is_sealed s.header = ap (nat_le (2 ^ 63)) (c.put_u64.ensures.before 0 (omega arith)) in
    let sealed2 : is_sealed h2 ≡ true = form ∙ sealed in
    let wanted : tag_in h2 s.next ≡ t = ap (λ (w : ℕ). w / 2 ^ 48 % 2 ^ 8) number ∙ c.word_of-word.ensures.tag in
    let words : (q : ℕ) → q % 511 ≢ s.next % 511 → address h2 q ≡ address s.header q = λ q other. ⊎_elim
    (λ (less : q % 511 < s.next % 511). c.put_u64.ensures.before (address_at q) (omega (arith, less, a)))
    (λ (more : s.next % 511 ≤ q % 511). c.put_u64.ensures.after (address_at q) (omega (arith, more, other, a)))
    (cases_lt (q % 511) (s.next % 511)) in
    let home : home_by h2 s.next ≡ c.args.address = (λ i. if sealed2 i then number i % 2 ^ 40 else number i) ∙ c.word_of-word.ensures.home in
    let stored : IsTrue old.disk.honest → read_of d.past c.log_block.result ≡ v = λ honest.
    ap (λ (p : Past). read_of p c.log_block.result) (c.in_ok-write.ensures.written honest) ∙ read_written old.disk.past c.log_block.result v in
    let some : 0 < length c.args.from.now = omega (arith, c.put_tagged.ensures.size) in
    let first : c.word_of-word.result / 2 ^ 56 ≡ tag_of c.args.from.now = c.word_of-word.ensures.first ∙ c.tag_of.ensures in
    let content : IsTrue old.disk.honest → bytes_by h2 (read_of d.past) s.next ≡ c.args.from.now = λ honest.
    let stored_here : read_of d.past (log_block s.next) ≡ v = subst (λ (b : ℕ). read_of d.past b ≡ v) here (stored honest) in
    (λ i. if sealed2 i then with_tag (stored_here i) (number i / 2 ^ 56) else stored_here i)
    ∙ ap (with_tag v) first ∙ ap (λ (b : Bytes). with_tag b (tag_of c.args.from.now)) c.put_tagged.ensures.contents
    ∙ byte_back c.args.from.now t some in
    let homes : c.args.address < d.past.size = subst (λ (n : ℕ). c.args.address < n) (sym c.write.ensures.keeps.size) (subst (λ (r : Ring). c.args.address < r.disk.past.size) (sym c.self.view_is) c.requires.on_disk) in
    let is = tagged_slot_is_put old d c.write.new.self.faulted c.self.invariant c.write.ensures.keeps (λ _. c.in_ok-write.ensures.ok.0)
    c.log_block.result v on_disk c.write.ensures.written_or_not sealed here room few stored t v_tag torn new h2 form wanted words
    c.put_tag_at.new.tags c.put_tag_at.ensures.size c.put_tag_at.ensures.tag c.put_tag_at.ensures.others small
    (addresses_put s.header h2 s.extent.start s.next c.word_of-word.result room number
    (λ k le. c.put_u64.ensures.before k (omega (arith, a, le))) (λ k le. c.put_u64.ensures.after k (omega (arith, a, le)))
    d.past.size c.args.address form home c.requires.home homes
    (λ q ge lt. subst (λ (n : ℕ). (513 ≤ home_by s.header q) × (home_by s.header q < n)) (sym c.write.ensures.keeps.size) (c.self.invariant.bounds.addresses q ge lt))) in
    let apart : (q : ℕ) → s.extent.start ≤ q → q < s.next → q % 511 ≢ s.next % 511 = λ q ge lt same. omega (arith, ge, lt, same, room) in (
      is,
      stepped_at c.self.view_is (slot old d c.log_block.result v c.self.invariant c.write.ensures.keeps on_disk c.write.ensures.written_or_not
          h2 c.put_tag_at.new.tags (λ q ge lt same. omega arith) (λ q ge lt. alike_by s.header h2 q form (words q (apart q ge lt)))
          c.args.address c.args.from.now c.write.new.self.faulted home content is (omega arith)),
      subst (λ (r : Ring). IsTrue r.disk.honest → log_of (ring d h2 c.put_tag_at.new.tags (label_of s.start_block) s.sealed s.extent (s.next + 1) c.write.new.self.faulted) ≡ log_of r ++ record { block = c.args.address; bytes = c.args.from.now } ∷ []) c.self.view_is
          (log_grown old d c.log_block.result v c.self.invariant c.write.ensures.keeps on_disk c.write.ensures.written_or_not
          h2 c.put_tag_at.new.tags (λ q ge lt same. omega arith) (λ q ge lt. alike_by s.header h2 q form (words q (apart q ge lt)))
          c.args.address c.args.from.now c.write.new.self.faulted home content is),
    )

pub invariant_of-self-2 : goal.invariant_of-self-2
invariant_of-self-2 g c = (done g c).0

pub returns-clause-crash : goal.returns-clause-crash
returns-clause-crash g c = (done g c).1

pub returns-clause-log : goal.returns-clause-log
returns-clause-log g c = (done g c).2

use Rattle.std.proofs.Common.{◌≡◌, rules, IfOk, List, ℕ, length, sym, ap, ◌∙◌, subst}
use Rattle.std.proofs.lemmas.List.FromFn.{length-map-range_with_len}
use Rattle.journal_block.specs.Block.{Bytes}
use Rattle.journal_disk.specs.Disks.{Past}
use Rattle.journal_disk.specs.MemDisks.{MemState, image_of, disk_from, chosen}
use Rattle.journal_disk.proofs.Choices.{image_of_is_image}
use Rattle.journal_disk.proofs.mem_disk.MemDisk.image.Given.{Over}
use Rattle.journal_disk.proofs.mem_disk.MemDisk.image.Goals.{After-begin}
use Rattle.journal_disk.proofs.mem_disk.MemDisk.image.Goals as goal

shown : (g : Over) (c : After-begin g) → c.put_image.new.blocks.items ≡ image_of c.args.self.now.past c.args.choice.now
shown g c =
    let s = c.self.inside in
    c.put_image.ensures.image s.first.items
    ∙ ap (λ (d : List Bytes). image_of (record { size = length d; first = s.first.items; device = d; events = s.events.events }) c.args.choice.now) (c.in_ok-image.ensures.copies ∙ c.deref.ensures.value)
    ∙ ap (λ (m : MemState). image_of m.past c.args.choice.now) c.self.view_is

pub returns-clause-disk : goal.returns-clause-disk
returns-clause-disk g c =
    let p = c.args.self.now.past in
    let image = image_of p c.args.choice.now in
    subst (λ (n : ℕ). IfOk c.begin.result (λ disk. disk ≡ disk_from n image)) (length-map-range_with_len (chosen p c.args.choice.now) 0 p.size)
    (subst (λ (bs : List Bytes). IfOk c.begin.result (λ disk. disk ≡ disk_from (length bs) bs)) (shown g c) c.begin.ensures.disk)

pub returns-clause-image : goal.returns-clause-image
returns-clause-image g c = search (rules, returns-clause-disk g c, image_of_is_image)

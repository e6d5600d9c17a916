use Rattle.std.proofs.Common.{◌≡◌, IsTrue, sym, subst, ◌∙◌, rules}
use Rattle.journal_world.specs.Histories.{is_trusted}
use Rattle.journal_disk.specs.Disks.{DiskState}
use Rattle.journal_disk.specs.Images.{EveryImage}
use Rattle.journal_parts.specs.Cores.{Leaves}
use Rattle.journal_parts.specs.Durables.{DurableState, disk_of}
use Rattle.journal_twophase.proofs.Images.{images_again}
use Rattle.journal_twophase.proofs.device.LockedParts+MemDisk+R+J.image.Goals as goal

pub returns-clause-images : goal.returns-clause-images
returns-clause-images g c =
    let lent : c.deref.result.now ≡ c.deref-3.result.now = search rules in
    let seen : IsTrue (is_trusted c.show_images.new.session.seen) → EveryImage (disk_of c.deref.result.now).past (Leaves c.show_images.new.session.seen) =
    λ trusted. c.in_ok-show_images.ensures.images (sym c.in_ok-show_images.ensures.trusted ∙ trusted) in
    let all : IsTrue (is_trusted c.show_images.new.session.seen) → EveryImage c.disk.result.now.past (Leaves c.show_images.new.session.seen) =
    λ trusted. subst (λ (d : DiskState). EveryImage d.past (Leaves c.show_images.new.session.seen)) (sym c.disk.ensures.disk)
    (subst (λ (d : DurableState). EveryImage (disk_of d).past (Leaves c.show_images.new.session.seen)) lent (seen trusted)) in
    images_again c.disk.result.now.past (Leaves c.show_images.new.session.seen) _ c.image.result c.image.ensures.disk c.image.ensures.image all

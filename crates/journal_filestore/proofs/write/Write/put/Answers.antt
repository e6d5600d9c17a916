use Rattle.std.proofs.Common.{◌≡◌, ◌+◌, length, max, ap, ◌∙◌, arith}
use Rattle.journal_inode.specs.Versions.{extra_count}
use Rattle.journal_filestore.specs.Handles.{time_of}
use Rattle.journal_filestore.specs.Changes.{with_blocks}
use Rattle.journal_filestore.proofs.Setting.{lacks_taken}
use Rattle.journal_filestore.proofs.Writing.{written}
use Rattle.journal_filestore.proofs.Writings.{HasChanged-written}
use Rattle.journal_filestore.proofs.write.Write.put.Goals as goal

pub returns-then-not-branch-clause-changes : goal.returns-then-not-branch-clause-changes
returns-then-not-branch-clause-changes g c =
    let w = c.args.self.now in
    let size : c.max-size.result ≡ max c.args.file.size (w.offset + length w.bytes.now) = omega (arith, c.max-size.ensures) in
    let had : c.extra_count-had.result ≡ extra_count g.V.Version.VERSION c.args.file.size = c.extra_count-had.ensures ∙ ap (λ v. extra_count v c.args.file.size) c.VERSION.ensures in
    let has : c.extra_count.result ≡ extra_count g.V.Version.VERSION c.max-size.result = c.extra_count.ensures ∙ ap (λ v. extra_count v c.max-size.result) c.VERSION-2.ensures in
    lacks_taken g.V.Version.VERSION _ _ _ _ c.args.file.size (max c.args.file.size (w.offset + length w.bytes.now)) _ _ c.if-not-branch.true c.in_ok-take_blocks.ensures.short
    (omega (arith, had, has ∙ ap (extra_count g.V.Version.VERSION) size)) c.in_ok-take_blocks.ensures.told

pub returns-clause-changes : goal.returns-clause-changes
returns-clause-changes g c =
    let w = c.args.self.now in
    let size : c.max-size.result ≡ max c.args.file.size (w.offset + length w.bytes.now) = omega (arith, c.max-size.ensures) in
    let had : c.extra_count-had.result ≡ extra_count g.V.Version.VERSION c.args.file.size = c.extra_count-had.ensures ∙ ap (λ v. extra_count v c.args.file.size) c.VERSION.ensures in
    let is : c.with_blocks-written.result ≡ written g.V.Version.VERSION c.args.file c.take_blocks.new.space.taken.items w.offset w.bytes.now (time_of w.moment) =
    c.with_blocks-written.ensures.node
    ∙ ap (λ xs. with_blocks c.args.file c.extra_count-had.result xs c.max-size.result c.at.result) c.deref.ensures.value
    ∙ ap (λ k. with_blocks c.args.file k c.take_blocks.new.space.taken.items c.max-size.result c.at.result) had
    ∙ ap (λ k. with_blocks c.args.file (extra_count g.V.Version.VERSION c.args.file.size) c.take_blocks.new.space.taken.items k c.at.result) size
    ∙ ap (λ t. with_blocks c.args.file (extra_count g.V.Version.VERSION c.args.file.size) c.take_blocks.new.space.taken.items (max c.args.file.size (w.offset + length w.bytes.now)) t) c.at.ensures in
    HasChanged-written g.V.Version.VERSION _ w.handle.number w.offset w.bytes.now (time_of w.moment) c.args.file c.with_blocks-written.result _ _ _ _ _ c.if-not-branch.false c.in_ok-take_blocks.ensures.told c.in_ok-put_bytes.ensures.makes is

use Rattle.std.proofs.Common.{ℕ, ◌≡◌, ◌-◌, replicate, ap, subst, ◌∙◌, arith}
use Rattle.journal_inode.specs.Versions.{extra_count}
use Rattle.journal_filestore.specs.Doing.{AreFresh, WritesEach, file_written}
use Rattle.journal_filestore.specs.Changes.{with_blocks}
use Rattle.journal_filestore.proofs.Setting.{lacks_taken, Makes-grown}
use Rattle.journal_filestore.proofs.set_file.grow.Goals as goal

pub returns-then-not-branch-clause-changes : goal.returns-then-not-branch-clause-changes
returns-then-not-branch-clause-changes g c =
    let had : c.extra_count-had.result ≡ extra_count g.V.Version.VERSION c.args.file.size = c.extra_count-had.ensures ∙ ap (λ v. extra_count v c.args.file.size) c.VERSION.ensures in
    let has : c.extra_count.result ≡ extra_count g.V.Version.VERSION c.args.size = c.extra_count.ensures ∙ ap (λ v. extra_count v c.args.size) c.VERSION-2.ensures in
    lacks_taken g.V.Version.VERSION _ _ _ _ c.args.file.size c.args.size _ _ c.if-not-branch.true c.in_ok-take_blocks.ensures.short
    (omega (arith, had, has)) c.in_ok-take_blocks.ensures.told

pub returns-clause-changes : goal.returns-clause-changes
returns-clause-changes g c =
    let f = c.args.file in
    let node = c.with_blocks-after.result in
    let taken = c.take_blocks.new.space.taken.items in
    let had : c.extra_count-had.result ≡ extra_count g.V.Version.VERSION f.size = c.extra_count-had.ensures ∙ ap (λ v. extra_count v f.size) c.VERSION.ensures in
    let has : c.extra_count.result ≡ extra_count g.V.Version.VERSION c.args.size = c.extra_count.ensures ∙ ap (λ v. extra_count v c.args.size) c.VERSION-2.ensures in
    let count : c.extra_count.result - c.extra_count-had.result ≡ extra_count g.V.Version.VERSION c.args.size - extra_count g.V.Version.VERSION f.size = omega (arith, had, has) in
    let fresh : AreFresh (extra_count g.V.Version.VERSION c.args.size - extra_count g.V.Version.VERSION f.size) taken = subst (λ k. AreFresh k taken) count (c.in_ok-take_blocks.ensures.fresh c.if-not-branch.false) in
    Makes-grown g.V.Version.VERSION _ c.args.number f node taken c.in_ok-zeros.zeros.items c.args.size c.args.mtime _ c.take_blocks.new.txn c.write_file.new.txn _ c.requires.writes c.if-not-branch.false c.in_ok-take_blocks.ensures.told
    (subst (λ xs. WritesEach g.J.Naming.layout c.take_blocks.new.txn c.write_file.new.txn (file_written c.args.number node taken taken xs)) c.deref-4.ensures.value
    (subst (λ xs. WritesEach g.J.Naming.layout c.take_blocks.new.txn c.write_file.new.txn (file_written c.args.number node taken xs c.deref-4.result.now)) c.deref-3.ensures.value
    (subst (λ xs. WritesEach g.J.Naming.layout c.take_blocks.new.txn c.write_file.new.txn (file_written c.args.number node xs c.deref-3.result.now c.deref-4.result.now)) c.deref-2.ensures.value c.in_ok-write_file.ensures.writes)))
    (c.with_blocks-after.ensures.node
    ∙ ap (λ xs. with_blocks f c.extra_count-had.result xs c.args.size c.args.mtime) c.deref.ensures.value
    ∙ ap (λ k. with_blocks f k taken c.args.size c.args.mtime) had)
    c.with_blocks-after.ensures.fits c.requires.fits.4 c.requires.more c.requires.small c.requires.timed fresh
    (c.in_ok-zeros.ensures.items_if_clones_equal (λ y same. same) ∙ ap (λ k. replicate {A = ℕ} k 0) (omega (arith, count, fresh.count)))

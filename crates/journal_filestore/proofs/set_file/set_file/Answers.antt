use Rattle.std.proofs.Common.{◌≡◌, ◌<◌, ◌≤◌, ◌-◌, ◌++◌, take, replicate, ap, subst, ◌∙◌}
use Rattle.std.specs.Prelude.{unwrap_or}
use Rattle.journal_inode.specs.Sound.{content}
use Rattle.journal_filestore.specs.Changes.{ChangesFile, HasChanged}
use Rattle.journal_filestore.specs.Operations.{resized}
use Rattle.journal_filestore.proofs.Doings.{IfOk-like}
use Rattle.journal_filestore.proofs.Setting.{HasChanged-like, ChangesFile-like}
use Rattle.journal_filestore.proofs.Resizing.{resized-grown, resized-cut}
use Rattle.journal_filestore.proofs.set_file.set_file.Goals as goal

pub returns-then-size-file-clause-changes : goal.returns-then-size-file-clause-changes
returns-then-size-file-clause-changes g c =
    let f = c.args.file in
    let s = c.args.settings in
    let size : c.unwrap_or-size.result ≡ unwrap_or s.size f.size = c.unwrap_or-size.ensures in
    subst (λ t. HasChanged g.V.Version.VERSION g.J.Naming.layout c.args.txn.now c.shrink.new.txn c.args.number f (unwrap_or s.size f.size) t (λ m. resized (content g.V.Version.VERSION m f) s.size) c.in_ok-shrink.field-0) c.time_after-mtime.ensures.value
    (subst (λ k. HasChanged g.V.Version.VERSION g.J.Naming.layout c.args.txn.now c.shrink.new.txn c.args.number f k c.time_after-mtime.result (λ m. resized (content g.V.Version.VERSION m f) s.size) c.in_ok-shrink.field-0) size
    (HasChanged-like _ _ _ _ f c.unwrap_or-size.result c.time_after-mtime.result _ _ _
    (λ m sound. ap (λ k. take k (content g.V.Version.VERSION m f)) size ∙ resized-cut (content g.V.Version.VERSION m f) f.size s.size sound.whole (subst (λ k. k < f.size) size c.if-size-file.true)) c.in_ok-shrink.ensures.changes))

pub returns-clause-changes : goal.returns-clause-changes
returns-clause-changes g c =
    let f = c.args.file in
    let s = c.args.settings in
    let size : c.unwrap_or-size.result ≡ unwrap_or s.size f.size = c.unwrap_or-size.ensures in
    IfOk-like c.grow.result _ _
    (λ o changes.
    subst (λ t. ChangesFile g.V.Version.VERSION g.J.Naming.layout c.args.txn.now c.grow.new.txn c.args.number f (unwrap_or s.size f.size) t (λ m. resized (content g.V.Version.VERSION m f) s.size) o) c.time_after-mtime.ensures.value
    (subst (λ k. ChangesFile g.V.Version.VERSION g.J.Naming.layout c.args.txn.now c.grow.new.txn c.args.number f k c.time_after-mtime.result (λ m. resized (content g.V.Version.VERSION m f) s.size) o) size
    (ChangesFile-like _ _ _ _ f c.unwrap_or-size.result c.time_after-mtime.result _ _ o
    (λ m sound. ap (λ k. content g.V.Version.VERSION m f ++ replicate (k - f.size) 0) size ∙ resized-grown (content g.V.Version.VERSION m f) f.size s.size sound.whole (subst (λ k. f.size ≤ k) size c.if-size-file.false)) changes)))
    c.grow.ensures.changes

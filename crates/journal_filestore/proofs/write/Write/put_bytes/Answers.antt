use Rattle.std.proofs.Common.{◌≡◌, ◌+◌, ◌-◌, ◌*◌, ◌/◌, ◌∷◌, ◌++◌, min, length, replicate, slice_range, refl, ap, subst, ◌∙◌, arith}
use Rattle.journal_world.specs.declared.layout.TheConstants.{BLOCK_BYTES}
use Rattle.journal_inode.specs.Versions.{extra_count}
use Rattle.journal_inode.specs.Sound.{held}
use Rattle.journal_filestore.specs.Handles.{time_of}
use Rattle.journal_filestore.specs.Operations.{with_data}
use Rattle.journal_filestore.specs.Doing.{LearnsThat, WritesEach, file_written}
use Rattle.journal_filestore.proofs.Doings.{OnOk-like}
use Rattle.journal_filestore.proofs.Writings.{Makes-write_whole, Makes-write_read}
use Rattle.journal_filestore.proofs.write.Write.put_bytes.Goals as goal

pub returns-then-self-changed-clause-makes : goal.returns-then-self-changed-clause-makes
returns-then-self-changed-clause-makes g c =
    let w = c.args.self.now in
    let bs = w.bytes.now in
    let written = c.args.written in
    let taken = c.args.space.now.taken.items in
    let first = c.min-first.result in
    let after = (w.offset + length bs - 1) / BLOCK_BYTES + 1 in
    let had : c.extra_count-had.result ≡ extra_count g.V.Version.VERSION c.args.file.size = c.extra_count-had.ensures ∙ ap (λ v. extra_count v c.args.file.size) c.VERSION.ensures in
    let first_is : first ≡ min (extra_count g.V.Version.VERSION c.args.file.size + 1) (w.offset / BLOCK_BYTES) = c.min-first.ensures ∙ ap (λ k. min (k + 1) (w.offset / BLOCK_BYTES)) had in
    OnOk-like c.write_file.result _ _
    (λ wrote.
    Makes-write_whole g.V.Version.VERSION _ w.handle.number w.offset bs (time_of w.moment) c.args.file written taken first after c.args.txn.now c.args.txn.now c.write_file.new.txn c.requires.writes c.requires.written c.requires.fits
    c.requires.whole.4 c.requires.small c.requires.some c.requires.end w.moment.in_second c.requires.fresh first_is refl
    (subst (λ xs. WritesEach g.J.Naming.layout c.args.txn.now c.write_file.new.txn (file_written w.handle.number written taken (slice_range xs first after) bs)) c.numbers-numbers.ensures
    (subst (λ xs. WritesEach g.J.Naming.layout c.args.txn.now c.write_file.new.txn (file_written w.handle.number written xs (slice_range c.numbers-numbers.result first after) bs)) c.deref.ensures.value wrote))
    (subst (λ xs. length bs ≡ BLOCK_BYTES * length (slice_range xs first after)) c.numbers-numbers.ensures (omega (arith, c.if-self-changed.true))))
    c.write_file.ensures.writes

pub returns-clause-makes : goal.returns-clause-makes
returns-clause-makes g c =
    let w = c.args.self.now in
    let bs = w.bytes.now in
    let written = c.args.written in
    let taken = c.args.space.now.taken.items in
    let first = c.min-first.result in
    let after = (w.offset + length bs - 1) / BLOCK_BYTES + 1 in
    let numbers = c.numbers-numbers.result in
    let middle = slice_range numbers first c.min.result in
    let had : c.extra_count-had.result ≡ extra_count g.V.Version.VERSION c.args.file.size = c.extra_count-had.ensures ∙ ap (λ v. extra_count v c.args.file.size) c.VERSION.ensures in
    let first_is : first ≡ min (extra_count g.V.Version.VERSION c.args.file.size + 1) (w.offset / BLOCK_BYTES) = c.min-first.ensures ∙ ap (λ k. min (k + 1) (w.offset / BLOCK_BYTES)) had in
    let end_is : c.min.result ≡ min (1 + extra_count g.V.Version.VERSION c.args.file.size) after = omega (arith, c.min.ensures, had) in
    OnOk-like c.write_file-2.result _ _
    (λ wrote.
    Makes-write_read g.V.Version.VERSION _ w.handle.number w.offset bs (time_of w.moment) c.args.file written taken first after c.args.txn.now c.read_span.new.txn c.write_file-2.new.txn c.requires.writes c.requires.written c.requires.fits
    c.requires.whole.4 c.requires.small c.requires.some c.requires.end w.moment.in_second c.requires.fresh first_is refl
    middle c.in_ok-bytes.bytes.items c.place.new.block.items
    (ap (λ xs. slice_range xs first c.min.result) c.numbers-numbers.ensures ∙ ap (slice_range (written.block ∷ written.more) first) end_is)
    (subst (λ xs. LearnsThat g.V.Version.VERSION g.J.Naming.layout c.args.txn.now c.read_span.new.txn (λ m. c.in_ok-bytes.bytes.items ≡ held m middle ++ replicate (BLOCK_BYTES * length (slice_range xs first after) - BLOCK_BYTES * length middle) 0)) c.numbers-numbers.ensures c.in_ok-bytes.ensures.told)
    (subst (λ xs. length c.in_ok-bytes.bytes.items ≡ BLOCK_BYTES * length (slice_range xs first after)) c.numbers-numbers.ensures c.in_ok-bytes.ensures.whole)
    (c.place.ensures ∙ ap (λ k. with_data c.in_ok-bytes.bytes.items k bs) (let e : w.offset - first * BLOCK_BYTES ≡ w.offset - BLOCK_BYTES * first = omega arith in e))
    (subst (λ xs. WritesEach g.J.Naming.layout c.read_span.new.txn c.write_file-2.new.txn (file_written w.handle.number written taken (slice_range xs first after) c.place.new.block.items)) c.numbers-numbers.ensures
    (subst (λ xs. WritesEach g.J.Naming.layout c.read_span.new.txn c.write_file-2.new.txn (file_written w.handle.number written taken (slice_range numbers first after) xs)) c.deref-3.ensures.value
    (subst (λ xs. WritesEach g.J.Naming.layout c.read_span.new.txn c.write_file-2.new.txn (file_written w.handle.number written xs (slice_range numbers first after) c.deref-3.result.now)) c.deref-2.ensures.value wrote))))
    c.write_file-2.ensures.writes

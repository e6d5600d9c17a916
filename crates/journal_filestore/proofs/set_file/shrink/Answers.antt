use Rattle.std.proofs.Common.{ℕ, ◌≡◌, ◌≤◌, ◌+◌, ◌-◌, ◌*◌, ◌++◌, [], ◌∷◌, length, take, replicate, slice_range, get_or, sym, ap, ◌∙◌, arith}
use Rattle.std.proofs.lemmas.Grind.{get_or_default_zero}
use Rattle.journal_world.specs.declared.layout.TheConstants.{BLOCK_BYTES}
use Rattle.journal_inode.specs.declared.node.TheConstants.{MORE_BLOCKS}
use Rattle.journal_inode.specs.Versions.{extra_count}
use Rattle.journal_inode.proofs.Blocks.{more_fits}
use Rattle.journal_filestore.specs.Changes.{with_blocks}
use Rattle.journal_filestore.proofs.Numbering.{more_rises}
use Rattle.journal_filestore.proofs.Writing.{length-piece}
use Rattle.journal_filestore.proofs.Setting.{Makes-shrunk}
use Rattle.journal_filestore.proofs.set_file.shrink.Goals as goal

pub returns-clause-changes : goal.returns-clause-changes
returns-clause-changes g c =
    let f = c.args.file in
    let size = c.args.size in
    let all = f.block ∷ f.more in
    let numbers = c.numbers-numbers.result in
    let v = c.in_ok-read_block.field-0 in
    let last : c.extra_count-last.result ≡ extra_count g.V.Version.VERSION size = c.extra_count-last.ensures ∙ ap (λ x. extra_count x size) c.VERSION.ensures in
    let had : c.extra_count-had.result ≡ extra_count g.V.Version.VERSION f.size = c.extra_count-had.ensures ∙ ap (λ x. extra_count x f.size) c.VERSION-2.ensures in
    let few : extra_count g.V.Version.VERSION f.size ≤ MORE_BLOCKS = more_fits g.V.Version.VERSION f.size c.requires.whole in
    let rises : extra_count g.V.Version.VERSION size ≤ extra_count g.V.Version.VERSION f.size = more_rises g.V.Version.VERSION size f.size (omega (arith, c.requires.less)) in
    let many : length f.more ≡ MORE_BLOCKS = c.requires.fits.4 in
    let whole : length numbers ≡ length all = ap length c.numbers-numbers.ensures in
    let piece : length (slice_range numbers (c.extra_count-last.result + 1) (c.extra_count-had.result + 1)) ≡ c.extra_count-had.result + 1 - (c.extra_count-last.result + 1) =
    length-piece numbers (c.extra_count-last.result + 1) (c.extra_count-had.result + 1) (omega (arith, had, few, many, whole)) in
    let in_block : size - c.extra_count-last.result * BLOCK_BYTES ≡ size - BLOCK_BYTES * extra_count g.V.Version.VERSION size = omega (arith, last) in
    Makes-shrunk g.V.Version.VERSION _ c.args.number f c.with_blocks-after.result _ _ _ _ size c.args.mtime _ _ _ _ c.requires.writes c.in_ok-read_block.ensures.told c.in_ok-write_bits.ensures.writes c.in_ok-write_file.ensures.writes
    (c.with_blocks-after.ensures.node ∙ ap (λ k. with_blocks f k [] size c.args.mtime) last)
    c.with_blocks-after.ensures.fits many c.requires.less c.requires.whole c.requires.timed
    (get_or_default_zero all (extra_count g.V.Version.VERSION size) _ (omega (arith, rises, few, many))
    ∙ ap (λ k. get_or all k 0) (sym last)
    ∙ ap (λ xs. get_or xs c.extra_count-last.result 0) (sym c.numbers-numbers.ensures))
    (ap (λ xs. slice_range xs (c.extra_count-last.result + 1) (c.extra_count-had.result + 1)) c.numbers-numbers.ensures
    ∙ ap (λ k. slice_range all (k + 1) (c.extra_count-had.result + 1)) last
    ∙ ap (λ k. slice_range all (extra_count g.V.Version.VERSION size + 1) (k + 1)) had)
    (omega (arith, piece, had, few))
    (c.deref.ensures.value ∙ c.cut_off.ensures
    ∙ ap (λ x. take (size - c.extra_count-last.result * BLOCK_BYTES) x ++ replicate {A = ℕ} (length x - (size - c.extra_count-last.result * BLOCK_BYTES)) 0) c.into_bytes-block.ensures
    ∙ ap (λ k. take k v ++ replicate {A = ℕ} (length v - k) 0) in_block)

use Rattle.std.proofs.Common.{rules, ℕ, ◌≡◌, ◌+◌, ◌/◌, ◌==◌, get_or, Fits, w8, ap, ◌∙◌}
use Rattle.std.specs.Prelude.{slice_range}
use Rattle.std.specs.Int.{bit_at}
use Rattle.std.proofs.Math.Facts.{Fits-lt-pow}
use Rattle.byteorder.specs.Endian.{little_number}
use Rattle.journal_block.specs.Block.{bit_of}
use Rattle.journal_block.proofs.Bits.{bit_of-number}
use Rattle.journal_block.proofs.block.Block.bits_from.Goals as goal

pub returns : goal.returns
returns c k within =
    let fits : (i : ℕ) → Fits w8 (get_or c.as_slice-bytes.result.now i 0) = search rules in
    let same : c.as_slice-bytes.result.now ≡ c.args.self.now = search rules in
    let number : c.read_u64.result ≡ little_number 8 (slice_range c.as_slice-bytes.result.now (c.args.i / 8) (c.args.i / 8 + 8)) = search rules in
    ap (λ n. bit_at n k == 1) number
    ∙ bit_of-number c.as_slice-bytes.result.now c.args.i k (λ p. Fits-lt-pow {w = w8} (fits p)) c.requires.multiple within
    ∙ ap (λ b. bit_of b (c.args.i + k)) same

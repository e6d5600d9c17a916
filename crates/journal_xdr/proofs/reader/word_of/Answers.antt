use Rattle.std.proofs.Common.{arith}
use Rattle.std.proofs.lemmas.Nat.{be_bytes_4}
use Rattle.std.specs.Int.{w32, from_be_bytes}
use Rattle.std.specs.Prelude.{◌≡◌}
use Rattle.journal_xdr.specs.BasicLaws.{word_is}
use Rattle.journal_xdr.proofs.reader.word_of.Goals as goal

pub returns : goal.returns
returns c =
    let is : c.read_u32.result ≡ from_be_bytes w32 c.args.bytes.now = omega (arith, c.read_u32.ensures) in
    word_is c.args.bytes.now c.read_u32.result is (be_bytes_4 c.args.bytes.now _ c.requires (λ i. omega (arith, c.type_inv.bytes i)) is)

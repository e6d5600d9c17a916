use Rattle.std.proofs.Common.{arith}
use Rattle.std.proofs.lemmas.Nat.{be_bytes_8}
use Rattle.std.specs.Int.{w64, from_be_bytes}
use Rattle.std.specs.Prelude.{◌≡◌}
use Rattle.journal_xdr.specs.BasicLaws.{hyper_is}
use Rattle.journal_xdr.proofs.reader.hyper_of.Goals as goal

pub returns : goal.returns
returns c =
    let is : c.read_u64.result ≡ from_be_bytes w64 c.args.bytes.now = omega (arith, c.read_u64.ensures) in
    hyper_is c.args.bytes.now c.read_u64.result is (be_bytes_8 c.args.bytes.now _ c.requires (λ i. omega (arith, c.type_inv.bytes i)) is)

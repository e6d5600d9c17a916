use Rattle.std.proofs.Common.{rules, ◌≡◌, Some, None}
use Rattle.journal_xdr.specs.Basic.{fixed}
use Rattle.journal_xdr.specs.BasicLaws.{fixed_laws}
use Rattle.journal_xdr.specs.ItemLaws.{none_is_spelled}
use Rattle.journal_xdr.proofs.reader.Reader.fixed.Goals as goal

pub returns-then-are_zeros-clause-grammar : goal.returns-then-are_zeros-clause-grammar
unfolding fixed
returns-then-are_zeros-clause-grammar c =
    let read : (fixed c.args.length).reading c.args.self.now ≡ Some (c.in_ok-bytes.bytes.now, c.raw-2.new.self) = search rules in
    (fixed_laws c.args.length).takes _ _ read

pub returns-else-are_zeros-clause-grammar : goal.returns-else-are_zeros-clause-grammar
unfolding fixed
returns-else-are_zeros-clause-grammar c =
    let read : (fixed c.args.length).reading c.args.self.now ≡ None = search rules in
    none_is_spelled (fixed c.args.length) (fixed_laws c.args.length) _ read

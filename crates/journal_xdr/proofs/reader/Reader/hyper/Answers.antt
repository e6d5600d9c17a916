use Rattle.std.proofs.Common.{rules, ◌≡◌, Some}
use Rattle.journal_xdr.specs.Basic.{hyper}
use Rattle.journal_xdr.specs.BasicLaws.{hyper_laws}
use Rattle.journal_xdr.proofs.reader.Reader.hyper.Goals as goal

pub returns-clause-grammar : goal.returns-clause-grammar
unfolding hyper
returns-clause-grammar c =
    let read : hyper.reading c.args.self.now ≡ Some (c.hyper_of.result, c.raw.new.self) = search rules in
    hyper_laws.takes _ _ read

use Rattle.std.proofs.Common.{rules, ◌≡◌, Some}
use Rattle.journal_xdr.specs.Basic.{word}
use Rattle.journal_xdr.specs.BasicLaws.{word_laws}
use Rattle.journal_xdr.proofs.reader.Reader.word.Goals as goal

pub returns-clause-grammar : goal.returns-clause-grammar
unfolding word
returns-clause-grammar c =
    let read : word.reading c.args.self.now ≡ Some (c.word_of.result, c.raw.new.self) = search rules in
    word_laws.takes _ _ read

use Rattle.std.proofs.Common.{rules}
use Rattle.journal_xdr.specs.Items.{ReadsItem}
use Rattle.journal_xdr.specs.Basic.{enumeration}
use Rattle.journal_xdr.specs.BasicLaws.{enumeration_laws}
use Rattle.journal_xdr.specs.ItemLaws.{finds}
use Rattle.journal_xdr.proofs.reader.Reader.enumeration.Goals as goal

pub returns-clause-grammar : goal.returns-clause-grammar
returns-clause-grammar g c =
    let item = enumeration g.E.Enumeration.meaning g.E.Enumeration.code in
    let laws = enumeration_laws g.E.Enumeration.meaning g.E.Enumeration.code g.met.E.Enumeration.has_one_number in
    let read : ReadsItem item (λ value. value) c.args.self.now c.word.new.self c.from_number.result = search rules in
    finds item laws (λ value. value) _ _ _ read

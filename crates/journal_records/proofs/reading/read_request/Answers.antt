use Rattle.std.proofs.Common.{◌≡◌, IsTrue, false, Some, Err, ap, sym, ◌∙◌, rules}
use Rattle.std.proofs.lemmas.Bool.{false≢true}
use Rattle.journal_xdr.specs.Basic.{word}
use Rattle.journal_records.specs.Operations.{operation_of}
use Rattle.journal_records.proofs.Spelling.{no_word, asked_fault, asked_whole, asked_more}
use Rattle.journal_records.proofs.reading.read_request.Goals as goal

pub returns-in_default : goal.returns-in_default
returns-in_default c = no_word c.args.bytes.now (ap word.reading (sym c.new-reader.ensures) ∙ c.in_default.ensures.reading)

pub returns-in_err-request : goal.returns-in_err-request
returns-in_err-request c =
    let number : word.reading c.args.bytes.now ≡ Some (c.in-Some.number, c.word.new.self) = ap word.reading (sym c.new-reader.ensures) ∙ c.in-Some.ensures.reading in
    let operation : operation_of c.in-Some.number ≡ Some c.in-Some-from_number.operation = search rules in
    let is : c.from_residual.result ≡ Err c.in_err-request.field-0.0 = search rules in
    rw is (asked_fault c.args.bytes.now c.word.new.self c.read_asked.new.reader c.in-Some.number c.in-Some-from_number.operation c.in_err-request.field-0.0 number operation c.in_err-request.ensures)

pub returns : goal.returns
returns c =
    let number : word.reading c.args.bytes.now ≡ Some (c.in-Some.number, c.word.new.self) = ap word.reading (sym c.new-reader.ensures) ∙ c.in-Some.ensures.reading in
    let operation : operation_of c.in-Some.number ≡ Some c.in-Some-from_number.operation = search rules in
    asked_whole c.args.bytes.now c.word.new.self c.read_asked.new.reader c.in-Some.number c.in-Some-from_number.operation _ number operation c.in_ok-request.ensures (let at_end : IsTrue c.is_at_end.result = search rules in c.is_at_end.ensures.0 at_end)

pub returns-then-not-is_at_end : goal.returns-then-not-is_at_end
returns-then-not-is_at_end c =
    let number : word.reading c.args.bytes.now ≡ Some (c.in-Some.number, c.word.new.self) = ap word.reading (sym c.new-reader.ensures) ∙ c.in-Some.ensures.reading in
    let operation : operation_of c.in-Some.number ≡ Some c.in-Some-from_number.operation = search rules in
    asked_more c.args.bytes.now c.word.new.self c.read_asked.new.reader c.in-Some.number c.in-Some-from_number.operation _ number operation c.in_ok-request.ensures
    (λ none. let left : c.is_at_end.result ≡ false = search rules in absurd (false≢true (sym left ∙ c.is_at_end.ensures.1 none)))

use Rattle.std.proofs.Common.{◌≡◌, Err, List, ℕ, ap, refl, sym, subst, ◌∙◌, rules}
use Rattle.std.proofs.lemmas.Bool.{false≢true}
use Rattle.journal_records.specs.Answers.{answer, told_of}
use Rattle.journal_records.specs.Readings.{Reads}
use Rattle.journal_records.proofs.Spelling.{told_fault, told_whole, told_more}
use Rattle.journal_records.proofs.reading.read_answer.Goals as goal

pub returns-in_err-answer : goal.returns-in_err-answer
returns-in_err-answer c =
    let is : c.from_residual.result ≡ Err c.in_err-answer.field-0.0 = search rules in
    rw is (told_fault c.args.bytes.now c.read_told.new.reader c.in_err-answer.field-0.0 (subst (λ (b : List ℕ). Reads answer told_of b c.read_told.new.reader (Err c.in_err-answer.field-0.0)) c.new-reader.ensures c.in_err-answer.ensures))

pub returns-then-is_at_end : goal.returns-then-is_at_end
returns-then-is_at_end c =
    told_whole c.args.bytes.now c.read_told.new.reader _ (ap answer.reading (sym c.new-reader.ensures) ∙ c.in_ok-answer.ensures) (c.if-is_at_end.ensures.0 refl)

pub returns-else-is_at_end : goal.returns-else-is_at_end
returns-else-is_at_end c =
    told_more c.args.bytes.now c.read_told.new.reader _ (ap answer.reading (sym c.new-reader.ensures) ∙ c.in_ok-answer.ensures)
    (λ none. absurd (false≢true (c.if-is_at_end.ensures.1 none)))

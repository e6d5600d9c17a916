use Rattle.std.proofs.Common.{◌≡◌, true, false, sym, ◌∙◌, arith}
use Rattle.std.proofs.lemmas.Grind.{common_steps}
use Rattle.std.specs.Str.{IsUtf8}
use Rattle.journal_command.specs.Numbers.{is_padded}
use Rattle.journal_command.proofs.Decimals.{decimal_from_parse, decimal_is_parsed, is_padded-decimal, IsUtf8-decimal}
use Rattle.journal_command.proofs.number.read_port.Goals as goal

pub returns-then-is_padded-clause-none : goal.returns-then-is_padded-clause-none
returns-then-is_padded-clause-none c n small is =
    let padded : is_padded c.args.text.now ≡ true = sym c.is_padded.ensures ∙ c.if-is_padded.true in
    let plain = is_padded-decimal n (omega arith) in
    let same = rw is at padded in
    cc

pub returns-in_err-ok-clause-none : goal.returns-in_err-ok-clause-none
returns-in_err-ok-clause-none c =
    let no_text : ¬ (IsUtf8 c.args.text.now) = grind (arith, common_steps) in
    rw c.from_residual.ensures (λ n small is. no_text (rw is (IsUtf8-decimal n (omega arith))))

pub returns-clause-found : goal.returns-clause-found
returns-clause-found c =
    let plain : is_padded c.args.text.now ≡ false = sym c.is_padded.ensures ∙ c.if-is_padded.false in
    let same : c.in_ok-ok.field-0.now ≡ c.args.text.now = grind (arith, common_steps) in
    rw c.ok-2.ensures.value (decimal_from_parse 16 (omega arith) _ _ plain (rw same at c.parse.ensures.value.0))

pub returns-clause-none : goal.returns-clause-none
returns-clause-none c =
    let same : c.in_ok-ok.field-0.now ≡ c.args.text.now = grind (arith, common_steps) in
    rw c.ok-2.ensures.value (decimal_is_parsed 16 (omega arith) _ _ (rw same at c.parse.ensures.value.0))

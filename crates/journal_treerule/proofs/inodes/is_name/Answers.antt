use Rattle.std.proofs.Common.{sym, ◌∙◌}
use Rattle.std.proofs.lemmas.Bool.{false≢true}
use Rattle.journal_treerule.proofs.NameKinds.{no-name-dots, no-name-bytes, name-decides}
use Rattle.journal_treerule.proofs.inodes.is_name.Goals as goal

pub returns-then-is_dots : goal.returns-then-is_dots
returns-then-is_dots c = ((λ no. absurd (false≢true no)), (λ is. absurd (no-name-dots c.args.name.now (sym c.is_dots.ensures ∙ c.if-is_dots.true) is)))

pub returns-then-has_zero_or_slash : goal.returns-then-has_zero_or_slash
returns-then-has_zero_or_slash c = (
  (λ no. absurd (false≢true no)),
  (λ is. absurd (no-name-bytes c.args.name.now (sym c.is_dots.ensures ∙ c.if-is_dots.false) (sym c.has_zero_or_slash.ensures ∙ c.if-has_zero_or_slash.true) is)),
)

pub returns : goal.returns
returns c = name-decides c.args.name.now c.is_short.result (sym c.is_dots.ensures ∙ c.if-is_dots.false) (sym c.has_zero_or_slash.ensures ∙ c.if-has_zero_or_slash.false) c.is_short.ensures

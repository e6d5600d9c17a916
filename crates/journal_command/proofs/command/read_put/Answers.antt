use Rattle.std.proofs.Common.{◌∷◌, ◌∙◌, ap}
use Rattle.std.specs.Fmt.{decimal}
use Rattle.journal_command.proofs.Behind.{put_unspelled}
use Rattle.journal_command.proofs.command.read_put.Goals as goal

pub returns-in_err-value-clause-none : goal.returns-in_err-value-clause-none
returns-in_err-value-clause-none c =
    let a = c.in_ok-addr.addr in
    let is = c.in_ok-addr.ensures.found.1 ∙ ap (λ l. decimal a.block ∷ decimal a.off ∷ l) c.in_ok-word.ensures in
    rw c.from_residual-in_err-value.ensures (put_unspelled _ _ _ _ _ is c.in_err-value.ensures.none)

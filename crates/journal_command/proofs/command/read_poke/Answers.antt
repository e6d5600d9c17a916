use Rattle.std.proofs.Common.{◌∷◌, ◌∙◌, ap, refl, sym}
use Rattle.std.specs.Fmt.{decimal}
use Rattle.journal_command.proofs.Behind.{poke_unspelled, poke_outside, poke_says}
use Rattle.journal_command.proofs.command.read_poke.Goals as goal

pub returns-in_err-value-clause-none : goal.returns-in_err-value-clause-none
returns-in_err-value-clause-none c =
    let block = c.in_ok-block.ensures.found in
    let at = c.in_ok-at.ensures.found in
    let is = block.1 ∙ ap (λ l. decimal c.in_ok-block.block ∷ l) (at.1 ∙ ap (λ l. decimal c.in_ok-at.at ∷ l) c.in_ok-word.ensures) in
    rw c.from_residual-in_err-value.ensures (poke_unspelled _ _ _ _ _ is c.in_err-value.ensures.none)

pub returns-then-not-is_in_block-clause-none : goal.returns-then-not-is_in_block-clause-none
returns-then-not-is_in_block-clause-none c =
    let block = c.in_ok-block.ensures.found in
    let at = c.in_ok-at.ensures.found in
    let is = block.1 ∙ ap (λ l. decimal c.in_ok-block.block ∷ l) (at.1 ∙ ap (λ l. decimal c.in_ok-at.at ∷ l) c.in_ok-word.ensures) in
    poke_outside _ _ c.in_ok-block.block c.in_ok-at.at _ _ is at.0 c.in_ok-value.ensures.only (sym c.is_in_block.ensures ∙ c.if-not-is_in_block.true)

pub returns-clause-found : goal.returns-clause-found
returns-clause-found c =
    let block = c.in_ok-block.ensures.found in
    let at = c.in_ok-at.ensures.found in
    let is = block.1 ∙ ap (λ l. decimal c.in_ok-block.block ∷ l) (at.1 ∙ ap (λ l. decimal c.in_ok-at.at ∷ l) c.in_ok-word.ensures) in
    poke_says _ _ _ _ c.in_ok-block.block c.in_ok-at.at _ c.in_ok-value.value refl c.alone.ensures.found is block.0 c.in_ok-value.ensures.found (sym c.is_in_block.ensures ∙ c.if-not-is_in_block.false)

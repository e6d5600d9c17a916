use Rattle.std.proofs.Common.{◌≡◌, ◌∷◌, ◌∙◌, sym}
use Rattle.std.specs.Fmt.{decimal}
use Rattle.journal_command.proofs.Behind.{disk_outside}
use Rattle.journal_command.proofs.command.read_disk.Goals as goal

pub returns-then-not-is_in_block-clause-none : goal.returns-then-not-is_in_block-clause-none
returns-then-not-is_in_block-clause-none c =
    let block = c.in_ok-block.ensures.found in
    let at = c.in_ok-at.ensures.found in
    let len = c.in_ok-len.ensures.found in
    let is : c.args.words.now ≡ decimal c.in_ok-block.block ∷ decimal c.in_ok-at.at ∷ decimal c.in_ok-len.len ∷ c.number-3.new.self = cc (block.1, at.1, len.1) in
    disk_outside _ _ _ _ _ is at.0 len.0 (sym c.is_in_block.ensures ∙ c.if-not-is_in_block.true)

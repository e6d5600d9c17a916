use Rattle.std.proofs.Common.{◌≡◌, ◌∷◌, [], ◌∙◌, ap, sym, rules}
use Rattle.std.specs.Prelude.{codes, string_bytes}
use Rattle.journal_command.proofs.Asking.{two_items, Asks-script}
use Rattle.journal_command.proofs.ask.script_asked.Goals as goal

pub returns-in_ok-read_number-in-len2-clause-some : goal.returns-in_ok-read_number-in-len2-clause-some
returns-in_ok-read_number-in-len2-clause-some c =
    let script : string_bytes c.what-item.result ≡ codes "script" = search rules in
    let both = two_items string_bytes c.args.words.now _ _ c.in-len2.len_at_least c.in-len2.len_below c.what-item.is c.blocks-item.is in
    Asks-script _ c.as_bytes.result.now _ _ (both ∙ ap (λ w. w ∷ string_bytes c.blocks-item.result ∷ []) script ∙ ap (λ t. codes "script" ∷ t ∷ []) (sym c.as_bytes.ensures.value)) c.in_ok-read_number-in-len2.ensures.found c.from.ensures

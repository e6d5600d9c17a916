use Rattle.std.proofs.Common.{◌≡◌, ◌∷◌, [], ◌∙◌, ap, sym, rules}
use Rattle.std.specs.Prelude.{codes, string_bytes}
use Rattle.journal_command.proofs.Asking.{two_items}
use Rattle.journal_command.proofs.ask.migrate_asked.Goals as goal

pub returns-in-len2-clause-some : goal.returns-in-len2-clause-some
returns-in-len2-clause-some c =
    let what : string_bytes c.what-item.result ≡ codes "migrate" = search rules in
    let both = two_items string_bytes c.args.words.now _ _ c.in-len2.len_at_least c.in-len2.len_below c.what-item.is c.path-item.is in
    both ∙ ap (λ w. w ∷ string_bytes c.path-item.result ∷ []) what ∙ ap (λ t. codes "migrate" ∷ t ∷ []) (sym c.as_str-in-len2.ensures.value)

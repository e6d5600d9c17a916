use Rattle.std.proofs.Common.{◌≡◌, ◌∷◌, [], ◌∙◌, ap, sym, rules}
use Rattle.std.specs.Prelude.{codes, string_bytes}
use Rattle.journal_command.proofs.Asking.{three_items, Asks-format}
use Rattle.journal_command.proofs.ask.format_asked.Goals as goal

pub returns-in_ok-read_number-in-len3-clause-some : goal.returns-in_ok-read_number-in-len3-clause-some
returns-in_ok-read_number-in-len3-clause-some c =
    let what : string_bytes c.what-item.result ≡ codes "format" = search rules in
    let all = three_items string_bytes c.args.words.now _ _ _ c.in-len3.len_at_least c.in-len3.len_below c.what-item.is c.path-item.is c.blocks-item.is in
    let named = ap (λ w. w ∷ string_bytes c.path-item.result ∷ string_bytes c.blocks-item.result ∷ []) what in
    let placed = ap (λ t. codes "format" ∷ t ∷ string_bytes c.blocks-item.result ∷ []) (sym c.as_str-in-len3.ensures.value) in
    let counted = ap (λ t. codes "format" ∷ c.as_str-in-len3.result.now ∷ t ∷ []) (sym c.as_bytes.ensures.value) in
    Asks-format _ _ c.as_bytes.result.now _ _ (all ∙ named ∙ placed ∙ counted) c.in_ok-read_number-in-len3.ensures.found c.from.ensures

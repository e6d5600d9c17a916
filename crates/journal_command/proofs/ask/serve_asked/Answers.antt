use Rattle.std.proofs.Common.{◌≡◌, ◌∷◌, [], ◌∙◌, ap, sym, rules}
use Rattle.std.specs.Prelude.{codes, string_bytes}
use Rattle.journal_command.proofs.Asking.{four_items, Asks-serve}
use Rattle.journal_command.proofs.ask.serve_asked.Goals as goal

pub returns-in_ok-read_number-in-len4-clause-some : goal.returns-in_ok-read_number-in-len4-clause-some
returns-in_ok-read_number-in-len4-clause-some c =
    let what : string_bytes c.what-item.result ≡ codes "serve" = search rules in
    let all = four_items string_bytes c.args.words.now _ _ _ _ c.in-len4.len_at_least c.in-len4.len_below c.what-item.is c.path-item.is c.port-item.is c.connections-item.is in
    let named = ap (λ w. w ∷ string_bytes c.path-item.result ∷ string_bytes c.port-item.result ∷ string_bytes c.connections-item.result ∷ []) what in
    let placed = ap (λ t. codes "serve" ∷ t ∷ string_bytes c.port-item.result ∷ string_bytes c.connections-item.result ∷ []) (sym c.as_str-in-len4.ensures.value) in
    let at = ap (λ t. codes "serve" ∷ c.as_str-in-len4.result.now ∷ t ∷ string_bytes c.connections-item.result ∷ []) (sym c.as_bytes.ensures.value) in
    let counted = ap (λ t. codes "serve" ∷ c.as_str-in-len4.result.now ∷ c.as_bytes.result.now ∷ t ∷ []) (sym c.as_bytes-in-len4.ensures.value) in
    Asks-serve _ _ c.as_bytes.result.now _ c.as_bytes-in-len4.result.now _ _ (all ∙ named ∙ placed ∙ at ∙ counted) c.in_ok-read_port-in-len4.ensures.found c.in_ok-read_number-in-len4.ensures.found c.from.ensures

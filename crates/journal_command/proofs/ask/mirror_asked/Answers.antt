use Rattle.std.proofs.Common.{◌≡◌, ◌∷◌, [], List, ℕ, ◌∙◌, ap, sym, get_or, rules}
use Rattle.std.specs.Prelude.{codes, string_bytes}
use Rattle.journal_command.proofs.Asking.{five_items, Asks-mirror}
use Rattle.journal_command.proofs.ask.mirror_asked.Goals as goal

pub returns-in_err-read_port-in-len5-clause-none : goal.returns-in_err-read_port-in-len5-clause-none
returns-in_err-read_port-in-len5-clause-none c =
    let all = five_items string_bytes c.args.words.now _ _ _ _ _ c.in-len5.len_at_least c.in-len5.len_below c.what-item.is c.path-item.is c.port-item.is c.connections-item.is c.how-item.is in
    rw c.from_residual.ensures
    (λ path port k asked. c.in_err-read_port-in-len5.ensures.none port asked.0 (c.as_bytes.ensures.value ∙ ap (λ (words : List (List ℕ)). get_or words 2 []) (sym all ∙ asked.2)))

pub returns-in_err-read_number-in-len5-clause-none : goal.returns-in_err-read_number-in-len5-clause-none
returns-in_err-read_number-in-len5-clause-none c =
    let all = five_items string_bytes c.args.words.now _ _ _ _ _ c.in-len5.len_at_least c.in-len5.len_below c.what-item.is c.path-item.is c.port-item.is c.connections-item.is c.how-item.is in
    rw c.from_residual-in_err-read_number-in-len5.ensures
    (λ path port k asked. c.in_err-read_number-in-len5.ensures.none k asked.1 (c.as_bytes-in-len5.ensures.value ∙ ap (λ (words : List (List ℕ)). get_or words 3 []) (sym all ∙ asked.2)))

pub returns-in_ok-read_number-in-len5-clause-some : goal.returns-in_ok-read_number-in-len5-clause-some
returns-in_ok-read_number-in-len5-clause-some c =
    let what : string_bytes c.what-item.result ≡ codes "serve" = search rules in
    let how : string_bytes c.how-item.result ≡ codes "mirror" = search rules in
    let all = five_items string_bytes c.args.words.now _ _ _ _ _ c.in-len5.len_at_least c.in-len5.len_below c.what-item.is c.path-item.is c.port-item.is c.connections-item.is c.how-item.is in
    let named = ap (λ w. w ∷ string_bytes c.path-item.result ∷ string_bytes c.port-item.result ∷ string_bytes c.connections-item.result ∷ string_bytes c.how-item.result ∷ []) what in
    let mirrored = ap (λ w. codes "serve" ∷ string_bytes c.path-item.result ∷ string_bytes c.port-item.result ∷ string_bytes c.connections-item.result ∷ w ∷ []) how in
    let placed = ap (λ t. codes "serve" ∷ t ∷ string_bytes c.port-item.result ∷ string_bytes c.connections-item.result ∷ codes "mirror" ∷ []) (sym c.as_str-in-len5.ensures.value) in
    let at = ap (λ t. codes "serve" ∷ c.as_str-in-len5.result.now ∷ t ∷ string_bytes c.connections-item.result ∷ codes "mirror" ∷ []) (sym c.as_bytes.ensures.value) in
    let counted = ap (λ t. codes "serve" ∷ c.as_str-in-len5.result.now ∷ c.as_bytes.result.now ∷ t ∷ codes "mirror" ∷ []) (sym c.as_bytes-in-len5.ensures.value) in
    Asks-mirror _ _ c.as_bytes.result.now _ c.as_bytes-in-len5.result.now _ _ (all ∙ named ∙ mirrored ∙ placed ∙ at ∙ counted) c.in_ok-read_port-in-len5.ensures.found c.in_ok-read_number-in-len5.ensures.found c.from.ensures

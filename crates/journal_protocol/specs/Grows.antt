-- A session that has seen all that it had seen.
use Rattle.std.proofs.Common.{◌≡◌, List, [], ◌++◌, sym, ap, ◌∙◌, append_assoc}
use Rattle.std.proofs.lemmas.List.{append-nil}
use mathlib.Core.List.{IsPrefix}
use Rattle.journal_world.specs.Histories.{Entry}
use Rattle.journal_history.specs.Tokens.{SessionState}

-- the session has seen all that it had seen
abbrev pub Grows : SessionState → SessionState → Type 0
Grows old new = IsPrefix old.seen new.seen

pub grows-same : (old new : SessionState) → new ≡ old → Grows old new
grows-same old new e = ([], append-nil old.seen ∙ ap (λ (s : SessionState). s.seen) (sym e))

pub grows-trans : (old mid new : SessionState) → Grows old mid → Grows mid new → Grows old new
grows-trans old mid new p q = (p.0 ++ q.0, sym (append_assoc old.seen p.0 q.0) ∙ ap (λ (h : List Entry). h ++ q.0) p.1 ∙ q.1)

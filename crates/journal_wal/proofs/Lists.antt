-- Beginnings of lists of updates.
use Rattle.std.proofs.Common.{◌≡◌, ◌≤◌, ℕ, true, List, take, drop, sym, ap, ◌∙◌}
use Rattle.std.proofs.lemmas.Bool.{or_left}
use Rattle.std.proofs.lemmas.List.{take-append-drop, take-take}
use Rattle.journal_block.specs.declared.update.Update.{Update}
use Rattle.journal_block.specs.Updates.{updates_block}
use Rattle.journal_memlog.specs.Laws.{updates_block-append}

-- all updates are of the blocks that the first of them are of
pub updates_block-all : (n : ℕ) (us : List Update) (b : ℕ) → updates_block (take n us) b ≡ true → updates_block us b ≡ true
updates_block-all n us b named =
    ap (λ (ws : List Update). updates_block ws b) (sym (take-append-drop n us))
    ∙ updates_block-append (take n us) (drop n us) b
    ∙ or_left (updates_block (take n us) b) (updates_block (drop n us) b) named

-- so does a longer beginning
pub updates_block-longer : (n m : ℕ) (us : List Update) (b : ℕ) → n ≤ m → updates_block (take n us) b ≡ true
    → updates_block (take m us) b ≡ true
updates_block-longer n m us b le named =
    updates_block-all n (take m us) b (ap (λ (ws : List Update). updates_block ws b) (take-take n m us le) ∙ named)

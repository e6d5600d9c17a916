use Rattle.std.proofs.Common.{rules, ℕ, ◌≡◌, ◌<◌, ◌^◌, List, refl, ap, ◌∙◌}
use Rattle.journal_treestore.specs.Bytes.{with_piece}
use Rattle.journal_treestore.specs.Owners.{owner_from}
use Rattle.journal_treestore.proofs.Recording.{owner_pieces, owner_read}
use Rattle.journal_treestore.proofs.owner.record_bytes.Goals as goal

step : (at : ℕ) {a b p q : List ℕ} → a ≡ b → p ≡ q → with_piece a at p ≡ with_piece b at q
step at {b = b} {p = p} same pieces = ap (λ x. with_piece x at p) same ∙ ap (with_piece b at) pieces

pub returns-clause-written : goal.returns-clause-written
returns-clause-written c = c.put-2.ensures ∙ step 4 (c.put.ensures ∙ step 0 refl c.to_le_bytes.ensures) c.to_le_bytes-2.ensures ∙ owner_pieces c.args.owner.number c.args.owner.place

pub returns-clause-shown : goal.returns-clause-shown
returns-clause-shown c =
    let number : c.args.owner.number < 2 ^ 32 = search rules in
    let place : c.args.owner.place < 2 ^ 32 = search rules in
    ap owner_from (returns-clause-written c) ∙ owner_read c.args.owner number place

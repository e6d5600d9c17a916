use Rattle.std.proofs.Common.{ℕ, ◌≡◌, List, ap, ◌∙◌}
use Rattle.journal_treestore.specs.Bytes.{with_piece}
use Rattle.journal_treestore.proofs.Describing.{front_pieces}
use Rattle.journal_treestore.proofs.description.Description.front.Goals as goal

step : (at : ℕ) {a b p q : List ℕ} → a ≡ b → p ≡ q → with_piece a at p ≡ with_piece b at q
step at {b = b} {p = p} same pieces = ap (λ x. with_piece x at p) same ∙ ap (with_piece b at) pieces

pub returns : goal.returns
returns c =
    c.put-5.ensures ∙ step 32 (c.put-4.ensures ∙ step 24 (c.put-3.ensures ∙ step 16 (c.put-2.ensures ∙ step 8 c.put.ensures c.to_le_bytes.ensures) c.to_le_bytes-2.ensures) c.to_le_bytes-3.ensures) c.to_le_bytes-4.ensures
    ∙ front_pieces c.args.self.now.blocks c.args.self.now.numbers c.args.self.now.disk

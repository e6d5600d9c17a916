use Rattle.std.proofs.Common.{ℕ, ◌≡◌, List, refl, ap, ◌∙◌}
use Rattle.journal_treestore.specs.Bytes.{with_piece}
use Rattle.journal_treestore.proofs.Recording.{owner_pieces}
use Rattle.journal_treestore.proofs.entry.Entry.bytes.Goals as goal

step : (at : ℕ) {a b p q : List ℕ} → a ≡ b → p ≡ q → with_piece a at p ≡ with_piece b at q
step at {b = b} {p = p} same pieces = ap (λ x. with_piece x at p) same ∙ ap (with_piece b at) pieces

pub returns : goal.returns
returns c = c.put-2.ensures ∙ step 4 (c.put.ensures ∙ step 0 refl c.to_le_bytes.ensures) c.to_le_bytes-2.ensures ∙ owner_pieces c.args.self.now.number c.args.self.now.tag

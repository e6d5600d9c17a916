use Rattle.std.proofs.Common.{ℕ, ◌≡◌, List, replicate, refl, ap, ◌∙◌, w32, w64}
use Rattle.std.specs.Int.{to_le_bytes}
use Rattle.journal_inode.specs.Nodes.{with_piece, bytes_of_fields, no_more}
use Rattle.journal_inode.proofs.node.fields.Goals as goal

-- the six pieces over zeros are the fields
pieces : (kind generation size block secs nanos : ℕ)
    → with_piece (with_piece (with_piece (with_piece (with_piece (with_piece (replicate 128 0) 0 (to_le_bytes w32 kind)) 4 (to_le_bytes w32 generation)) 8 (to_le_bytes w64 size)) 16 (to_le_bytes w64 block)) 24 (to_le_bytes w32 secs)) 28 (to_le_bytes w32 nanos)
    ≡ bytes_of_fields kind generation size block (record { secs = secs; nanos = nanos }) no_more
unfolding bytes_of_fields
pieces kind generation size block secs nanos = refl

-- two equal lists with two equal pieces
step : (at : ℕ) {a b p q : List ℕ} → a ≡ b → p ≡ q → with_piece a at p ≡ with_piece b at q
step at {b = b} {p = p} same pieces = ap (λ x. with_piece x at p) same ∙ ap (with_piece b at) pieces

pub returns : goal.returns
returns c =
    c.put-6.ensures
    ∙ step 28 (c.put-5.ensures ∙ step 24 (c.put-4.ensures ∙ step 16 (c.put-3.ensures ∙ step 8 (c.put-2.ensures ∙ step 4 (c.put.ensures ∙ step 0 refl c.to_le_bytes.ensures) c.to_le_bytes-2.ensures) c.to_le_bytes-3.ensures) c.to_le_bytes-4.ensures) c.to_le_bytes-5.ensures) c.to_le_bytes-6.ensures
    ∙ pieces c.args.kind c.args.generation c.args.size c.args.block c.args.mtime.secs c.args.mtime.nanos

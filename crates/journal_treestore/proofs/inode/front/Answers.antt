use Rattle.std.proofs.Common.{ℕ, ◌≡◌, ◌+◌, List, ap, ◌∙◌, w32}
use Rattle.std.specs.Int.{to_le_bytes}
use Rattle.journal_treestore.specs.Bytes.{with_piece}
use Rattle.journal_treestore.proofs.Whole.{front_pieces}
use Rattle.journal_treestore.proofs.inode.front.Goals as goal

-- two equal lists with two equal pieces
step : (at : ℕ) {a b p q : List ℕ} → a ≡ b → p ≡ q → with_piece a at p ≡ with_piece b at q
step at {b = b} {p = p} same pieces = ap (λ x. with_piece x at p) same ∙ ap (with_piece b at) pieces

-- and with a time
times : (at s n : ℕ) {a b : List ℕ} → a ≡ b → with_piece (with_piece a at (to_le_bytes w32 s)) (at + 4) (to_le_bytes w32 n) ≡ with_piece (with_piece b at (to_le_bytes w32 s)) (at + 4) (to_le_bytes w32 n)
times at s n same = ap (λ x. with_piece (with_piece x at (to_le_bytes w32 s)) (at + 4) (to_le_bytes w32 n)) same

pub returns : goal.returns
returns c =
    let h = c.args.head.now in
    c.put_time-2.ensures
    ∙ times 40 h.attributes.ctime.secs h.attributes.ctime.nanos (c.put_time.ensures
    ∙ times 32 h.attributes.mtime.secs h.attributes.mtime.nanos (c.put-8.ensures
    ∙ step 28 (c.put-7.ensures ∙ step 24 (c.put-6.ensures ∙ step 20 (c.put-5.ensures ∙ step 16 (c.put-4.ensures ∙ step 8 (c.put-3.ensures ∙ step 4 (c.put-2.ensures
    ∙ step 2 c.put.ensures c.to_le_bytes.ensures) c.to_le_bytes-2.ensures) c.to_le_bytes-3.ensures) c.to_le_bytes-4.ensures) c.to_le_bytes-5.ensures) c.to_le_bytes-6.ensures) c.to_le_bytes-7.ensures))
    ∙ front_pieces c.args.kind c.args.length h.attributes.mode h.generation h.size h.attributes.owner h.attributes.group h.directory h.place h.attributes.mtime.secs h.attributes.mtime.nanos h.attributes.ctime.secs h.attributes.ctime.nanos

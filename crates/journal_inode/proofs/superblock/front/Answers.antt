use Rattle.std.proofs.Common.{ℕ, ◌≡◌, List, [], ◌∷◌, replicate, refl, ap, ◌∙◌, w64}
use Rattle.std.specs.Int.{to_le_bytes}
use Rattle.journal_inode.specs.Nodes.{with_piece}
use Rattle.journal_inode.specs.declared.version.FormatVersion.{FormatVersion}
use Rattle.journal_inode.specs.Versions.{number_of}
use Rattle.journal_inode.specs.Sound.{superblock_head}
use Rattle.journal_inode.proofs.superblock.front.Goals as goal

abbrev name : List ℕ
name = 0x47 ∷ 0x4a ∷ 0x4e ∷ 0x4c ∷ 0x44 ∷ 0x53 ∷ 0x4b ∷ 0x31 ∷ []

pieces : (version : FormatVersion) (blocks : ℕ) → with_piece (with_piece (with_piece (replicate 24 0) 0 name) 8 (to_le_bytes w64 (number_of version))) 16 (to_le_bytes w64 blocks) ≡ superblock_head version blocks
unfolding superblock_head
pieces version blocks = refl

step : (at : ℕ) {a b p q : List ℕ} → a ≡ b → p ≡ q → with_piece a at p ≡ with_piece b at q
step at {b = b} {p = p} same pieces = ap (λ x. with_piece x at p) same ∙ ap (with_piece b at) pieces

pub returns : goal.returns
returns c = c.put-3.ensures ∙ step 16 (c.put-2.ensures ∙ step 8 (c.put.ensures) (c.to_le_bytes.ensures ∙ ap (to_le_bytes w64) c.number.ensures)) c.to_le_bytes-2.ensures ∙ pieces c.args.version c.args.blocks

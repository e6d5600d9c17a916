-- How many bytes files use.
use Rattle.std.proofs.Common.{ℕ, ◌≡◌, ◌<◌, ◌≤◌, ◌*◌, Bool, true, false, cond, ◌==◌, length, refl, sym, ap, subst, ◌∙◌}
use Rattle.std.proofs.Math.Nat.{min-eq_left}
use Rattle.std.proofs.lemmas.Bool.{cond-false, ne_eqb}
use Rattle.journal_world.specs.declared.layout.TheConstants.{BLOCK_BYTES}
use Rattle.journal_world.specs.Addresses.{Value}
use Rattle.journal_world.specs.Maps.{Map}
use Rattle.journal_inode.specs.declared.version.FormatVersion.{FormatVersion}
use Rattle.journal_inode.specs.declared.node.FileNode.{FileNode}
use Rattle.journal_inode.specs.declared.node.Node.TheVariants.{Free, Root, File}
use Rattle.journal_inode.specs.declared.node.TheConstants.{MORE_BLOCKS}
use Rattle.journal_inode.specs.declared.place.TheConstants.{INODES}
use Rattle.journal_inode.specs.Places.{object}
use Rattle.journal_inode.specs.Places.Object.{inode}
use Rattle.journal_inode.specs.Nodes.{node_of, word_at, time_at, file_from}
use Rattle.journal_inode.specs.Versions.{most_bytes, room_of}
use Rattle.journal_inode.specs.Sound.{node_at, file_blocks, IsInPlace, HasSoundFiles}
use Rattle.journal_inode.proofs.Blocks.{length-blocks}
use Rattle.journal_filestore.specs.Operations.{attributes_of_node}
use Rattle.journal_nfs3_wire.specs.Profile.{used_bytes, fattr_of}

-- an inode's further blocks have each a number
more_whole : (v : Value) (f : FileNode) → node_of v ≡ File f → length f.more ≡ MORE_BLOCKS
unfolding node_of
more_whole v f is = of_kind (word_at v 0 == 2) (word_at v 0 == 1) is
  where
    of_kind : (a b : Bool) → cond a (File (file_from v)) (cond b (Root (time_at v 24)) (Free (word_at v 4))) ≡ File f → length f.more ≡ MORE_BLOCKS
    of_kind true b is = let same : file_from v ≡ f = cc in subst (λ (g : FileNode). length g.more ≡ MORE_BLOCKS) same refl
    of_kind false true is = absurd cc
    of_kind false false is = absurd cc

uses_blocks : (version : FormatVersion) (m : Map) → HasSoundFiles version m → (i : ℕ) (f : FileNode) → i < INODES → node_at m i ≡ File f → used_bytes version f.size ≡ BLOCK_BYTES * length (file_blocks version f)
uses_blocks version m sound i f within is =
    let small : f.size ≤ most_bytes version = (sound.files i f within is).small in
    ap (room_of version) (min-eq_left small) ∙ sym (ap (λ n. BLOCK_BYTES * n) (length-blocks version f (more_whole (object m (inode i)) f is) small))

-- the root is no file
pub files_use_blocks : (version : FormatVersion) (m : Map) → HasSoundFiles version m → (i : ℕ) (f : FileNode) → i < INODES → node_at m i ≡ File f
    → (fattr_of version (attributes_of_node i f)).used ≡ BLOCK_BYTES * length (file_blocks version f)
files_use_blocks version m sound i f within is =
    let other : (i == 1) ≡ false = ne_eqb i 1 (λ root. subst (λ (j : ℕ). IsInPlace j (File f)) root (subst (IsInPlace i) is (sound.placed i within))) in
    cond-false _ _ _ other ∙ uses_blocks version m sound i f within is

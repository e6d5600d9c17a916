-- REMOVE, as its transaction makes it.
use Rattle.std.proofs.Common.{ℕ, ◌≡◌, ◌≤◌, ◌+◌, true, List, [], ◌∷◌, ◌++◌, length, None, subst, arith, length-append}
use Rattle.journal_world.specs.Addresses.{Shape}
use Rattle.journal_twophase.specs.Transactions.{TxnState}
use Rattle.journal_inode.specs.declared.version.FormatVersion.{FormatVersion}
use Rattle.journal_inode.specs.declared.node.FileNode.{FileNode}
use Rattle.journal_inode.specs.declared.node.Node.TheVariants.{Free, File}
use Rattle.journal_inode.specs.declared.node.TheConstants.{MORE_BLOCKS}
use Rattle.journal_inode.specs.Places.Object.{inode}
use Rattle.journal_inode.specs.Nodes.{inode_bytes, Fits}
use Rattle.journal_inode.specs.Sound.{node_at, file_blocks}
use Rattle.journal_filestore.specs.Files.{is_file_number}
use Rattle.journal_filestore.specs.Doing.{WritesObject, WritesEach, bits_written, Puts, Makes}
use Rattle.journal_filestore.proofs.Doings.{Tells-nothing}
use Rattle.journal_filestore.proofs.Lasting.{Becomes, Makes-each, WritesEach-append, WritesEach-one, length-bits}
use Rattle.journal_filestore.proofs.Removing.{Puts-removed}

-- the bits of the file's blocks are cleared, and the inode becomes free
pub Makes-remove : (version : FormatVersion) (layout : Shape) (j : ℕ) (f : FileNode) (numbers : List ℕ) (t0 t1 t2 : TxnState) → t0.writes ≡ []
    → numbers ≡ file_blocks version f → length numbers ≤ 1 + MORE_BLOCKS
    → WritesEach layout t0 t1 (bits_written 0 numbers) → WritesObject layout t1 t2 (inode j) (inode_bytes (Free f.generation))
    → is_file_number j ≡ true → Fits (File f)
    → Makes version layout t0 t2 (λ m n. node_at m j ≡ File f → Puts version m n j (record { generation = f.generation; file = None }))
Makes-remove version layout j f numbers t0 t1 t2 fresh are few wrote_bits wrote_node number fits =
    Makes-each layout t0 t0 t2 _ _ (bits_written 0 numbers ++ (inode j, inode_bytes (Free f.generation)) ∷ []) fresh (Tells-nothing layout t0)
    (WritesEach-append layout t0 t1 t2 (bits_written 0 numbers) ((inode j, inode_bytes (Free f.generation)) ∷ []) wrote_bits (WritesEach-one layout t1 t2 (inode j) (inode_bytes (Free f.generation)) wrote_node))
    (let both : length (bits_written 0 numbers ++ (inode j, inode_bytes (Free f.generation)) ∷ []) ≡ length (bits_written 0 numbers) + 1 = length-append (bits_written 0 numbers) ((inode j, inode_bytes (Free f.generation)) ∷ []) in omega (arith, both, length-bits 0 numbers, few))
    (λ m n sound nothing becomes is_file.
    Puts-removed version m n j f number sound is_file fits.0
    (subst (λ bs. Becomes m n (bits_written 0 bs ++ (inode j, inode_bytes (Free f.generation)) ∷ [])) are becomes))

-- What is at a number of a file.
use Rattle.std.proofs.Common.{ℕ, ◌≡◌, true, Some, None, Ok, Err, refl, sym, ap, ◌∙◌}
use Rattle.journal_world.specs.Maps.{Map}
use Rattle.journal_inode.specs.declared.version.FormatVersion.{FormatVersion}
use Rattle.journal_inode.specs.declared.node.Time.{Time}
use Rattle.journal_inode.specs.declared.node.FileNode.{FileNode}
use Rattle.journal_inode.specs.declared.node.Node.{Node}
use Rattle.journal_inode.specs.declared.node.Node.TheVariants.{Free, Root, File}
use Rattle.journal_inode.specs.Sound.{node_at, HasSoundFiles}
use Rattle.journal_file_types.specs.declared.reply.Attributes.{Attributes}
use Rattle.journal_file_types.specs.declared.status.Status.TheVariants.{NoEntry}
use Rattle.journal_filestore.specs.Files.{is_file_number, files_of}
use Rattle.journal_filestore.specs.Operations.{attributes_of_node, of_root, lookup_entry, lookup_number, remove_entry, remove_number}
use Rattle.journal_filestore.specs.Doing.{Puts}
use Rattle.journal_filestore.proofs.FilesReplaced.{IsFileNumber-test}
use Rattle.journal_filestore.proofs.Finding.{entry_at}
use Rattle.journal_filestore.proofs.Answering.{attributes-data, no_root}

-- no file is there
pub lookup-absent : {version : FormatVersion} (m : Map) (j : ℕ) (n : Node) → HasSoundFiles version m → is_file_number j ≡ true → node_at m j ≡ n → ((f : FileNode) → n ≡ File f → ⊥)
    → lookup_number (files_of version m) (Some j) ≡ (Err NoEntry, files_of version m)
lookup-absent {version} m j (Free g) sound number is other = ap (lookup_entry (files_of version m) j) (entry_at version m j (Free g) number is)
lookup-absent {version} m j (Root t) sound number is other = absurd (no_root m j t sound number is)
lookup-absent {version} m j (File f) sound number is other = absurd (other f refl)

pub remove-absent : {version : FormatVersion} (m : Map) (j : ℕ) (n : Node) → HasSoundFiles version m → is_file_number j ≡ true → node_at m j ≡ n → ((f : FileNode) → n ≡ File f → ⊥)
    → remove_number (files_of version m) (Some j) ≡ (Err NoEntry, files_of version m)
remove-absent {version} m j (Free g) sound number is other = ap (remove_entry (files_of version m) j) (entry_at version m j (Free g) number is)
remove-absent {version} m j (Root t) sound number is other = absurd (no_root m j t sound number is)
remove-absent {version} m j (File f) sound number is other = absurd (other f refl)

-- one is
pub lookup-found : {version : FormatVersion} (m : Map) (j : ℕ) (f : FileNode) (t : Time) (of_file the_root : Attributes) → HasSoundFiles version m → is_file_number j ≡ true → node_at m j ≡ File f → (files_of version m).root ≡ t
    → of_file ≡ attributes_of_node j f → the_root ≡ of_root t
    → lookup_number (files_of version m) (Some j) ≡ (Ok (record { generation = f.generation; file = of_file; root = the_root }), files_of version m)
lookup-found {version} m j f t of_file the_root sound number is root_is file_told root_told =
    ap (lookup_entry (files_of version m) j) (entry_at version m j (File f) number is)
    ∙ ap (λ x. (Ok (record { generation = f.generation; file = x; root = of_root (files_of version m).root }), files_of version m))
    (attributes-data m j f (sound.files j f (IsFileNumber-test j number).to is) ∙ sym file_told)
    ∙ ap (λ x. (Ok (record { generation = f.generation; file = of_file; root = x }), files_of version m)) (ap of_root root_is ∙ sym root_told)

-- it is removed
pub remove-found : {version : FormatVersion} (m after : Map) (j : ℕ) (f : FileNode) (t : Time) (the_root : Attributes) → HasSoundFiles version m → is_file_number j ≡ true → node_at m j ≡ File f → (files_of version m).root ≡ t → the_root ≡ of_root t
    → Puts version m after j (record { generation = f.generation; file = None })
    → (Ok the_root, files_of version after) ≡ remove_number (files_of version m) (Some j)
remove-found {version} m after j f t the_root sound number is root_is root_told puts =
    ap (λ x. (Ok x, files_of version after)) (root_told ∙ ap of_root (sym root_is))
    ∙ ap (λ x. (Ok (of_root (files_of version m).root), x)) puts.files
    ∙ sym (ap (remove_entry (files_of version m) j) (entry_at version m j (File f) number is))

-- The laws of the items of directories, handles and credentials.
use Rattle.std.proofs.Common.{◌≡◌, ℕ, zero, suc, refl, ap, Some, List}
use Rattle.journal_xdr.specs.Items.{IsGrammar}
use Rattle.journal_xdr.specs.Basic.{word}
use Rattle.journal_xdr.specs.ItemLaws.{pair_laws, made_laws, some_is, tagged_laws, only_laws, never_laws, variant_laws}
use Rattle.journal_xdr.specs.BasicLaws.{word_laws, hyper_laws, opaque_laws, string_laws}
use Rattle.journal_xdr.specs.ListLaws.{array_laws}
use Rattle.journal_nfs3_wire.specs.declared.arguments.NewAttributes.{NewAttributes}
use Rattle.journal_nfs3_wire.specs.Arguments.{DirectoryEntry}
use Rattle.journal_nfs3_wire.proofs.ArgumentLaws.{new_attributes_laws, entry_laws}
use Rattle.journal_treewire.specs.declared.procedure.DirectoryProcedure.{DirectoryProcedure}
use Rattle.journal_treewire.specs.declared.procedure.DirectoryProcedure.TheVariants as procedure
use Rattle.journal_treewire.specs.Credentials.{system_body}
use Rattle.journal_treewire.specs.Directories.{Device, device, NodeData, Regular, Directory, BlockDevice, CharacterDevice, SymbolicLink, Socket, Fifo, node_type, block_part, character_part, socket_part, fifo_part, node_arm, node_data, LinkArguments, link_arguments, DirectoryOperation, ReadLink, MakeDirectory, MakeLink, MakeNode, RemoveDirectory, Rename, Link, read_link_part, make_directory_part, make_link_part, make_node_part, remove_directory_part, rename_part, link_part, directory_arguments}
use Rattle.journal_treewire.specs.Handles.{disk_handle}

pub disk_handle_laws : IsGrammar disk_handle
unfolding disk_handle
disk_handle_laws = made_laws _ _ _ (pair_laws _ _ hyper_laws (pair_laws _ _ word_laws word_laws)) (λ p. refl) (λ h. refl)

pub system_body_laws : IsGrammar system_body
unfolding system_body
system_body_laws = made_laws _ _ _ (pair_laws _ _ word_laws (pair_laws _ _ (string_laws 255) (pair_laws _ _ word_laws (pair_laws _ _ word_laws (array_laws word word_laws 16))))) (λ p. refl) (λ b. refl)

-- ---- what MKNOD makes

device_laws : IsGrammar device
unfolding device
device_laws = made_laws _ _ _ (pair_laws _ _ word_laws word_laws) (λ p. refl) (λ d. refl)

block_is : (v : NodeData) (p : NewAttributes × Device) → block_part v ≡ Some p → BlockDevice p.0 p.1 ≡ v
block_is (BlockDevice a d) p e = let is = some_is (a, d) p e in rw (← is) refl
block_is _ p e = absurd cc

character_is : (v : NodeData) (p : NewAttributes × Device) → character_part v ≡ Some p → CharacterDevice p.0 p.1 ≡ v
character_is (CharacterDevice a d) p e = let is = some_is (a, d) p e in rw (← is) refl
character_is _ p e = absurd cc

socket_is : (v : NodeData) (a : NewAttributes) → socket_part v ≡ Some a → Socket a ≡ v
socket_is (Socket b) a e = cc
socket_is _ a e = absurd cc

fifo_is : (v : NodeData) (a : NewAttributes) → fifo_part v ≡ Some a → Fifo a ≡ v
fifo_is (Fifo b) a e = cc
fifo_is _ a e = absurd cc

arm_laws : (n : ℕ) → IsGrammar (node_arm n)
arm_laws zero = never_laws
arm_laws (suc zero) = only_laws Regular
arm_laws (suc (suc zero)) = only_laws Directory
arm_laws (suc (suc (suc zero))) = variant_laws _ _ _ (pair_laws _ _ new_attributes_laws device_laws) (λ x. refl) block_is
arm_laws (suc (suc (suc (suc zero)))) = variant_laws _ _ _ (pair_laws _ _ new_attributes_laws device_laws) (λ x. refl) character_is
arm_laws (suc (suc (suc (suc (suc zero))))) = only_laws SymbolicLink
arm_laws (suc (suc (suc (suc (suc (suc zero)))))) = variant_laws _ _ _ new_attributes_laws (λ x. refl) socket_is
arm_laws (suc (suc (suc (suc (suc (suc (suc zero))))))) = variant_laws _ _ _ new_attributes_laws (λ x. refl) fifo_is
arm_laws (suc (suc (suc (suc (suc (suc (suc (suc n)))))))) = never_laws

type_is : (n : ℕ) (v : NodeData) → (node_arm n).Has v → node_type v ≡ n
type_is zero v h = absurd h
type_is (suc zero) v h = ap node_type h
type_is (suc (suc zero)) v h = ap node_type h
type_is (suc (suc (suc zero))) (BlockDevice a d) h = refl
type_is (suc (suc (suc zero))) _ h = absurd h
type_is (suc (suc (suc (suc zero)))) (CharacterDevice a d) h = refl
type_is (suc (suc (suc (suc zero)))) _ h = absurd h
type_is (suc (suc (suc (suc (suc zero))))) v h = ap node_type h
type_is (suc (suc (suc (suc (suc (suc zero)))))) (Socket a) h = refl
type_is (suc (suc (suc (suc (suc (suc zero)))))) _ h = absurd h
type_is (suc (suc (suc (suc (suc (suc (suc zero))))))) (Fifo a) h = refl
type_is (suc (suc (suc (suc (suc (suc (suc zero))))))) _ h = absurd h
type_is (suc (suc (suc (suc (suc (suc (suc (suc n)))))))) v h = absurd h

node_data_laws : IsGrammar node_data
unfolding node_data
node_data_laws = tagged_laws word node_arm node_type word_laws arm_laws type_is

-- ---- the arguments of a procedure

link_arguments_laws : IsGrammar link_arguments
unfolding link_arguments
link_arguments_laws = made_laws _ _ _ (pair_laws _ _ entry_laws (pair_laws _ _ new_attributes_laws (string_laws 4294967295))) (λ p. refl) (λ a. refl)

read_link_is : (v : DirectoryOperation) (h : List ℕ) → read_link_part v ≡ Some h → ReadLink h ≡ v
read_link_is (ReadLink k) h e = cc
read_link_is _ h e = absurd cc

make_directory_is : (v : DirectoryOperation) (p : DirectoryEntry × NewAttributes) → make_directory_part v ≡ Some p → MakeDirectory p.0 p.1 ≡ v
make_directory_is (MakeDirectory d a) p e = let is = some_is (d, a) p e in rw (← is) refl
make_directory_is _ p e = absurd cc

make_link_is : (v : DirectoryOperation) (p : LinkArguments) → make_link_part v ≡ Some p → MakeLink p ≡ v
make_link_is (MakeLink q) p e = cc
make_link_is _ p e = absurd cc

make_node_is : (v : DirectoryOperation) (p : DirectoryEntry × NodeData) → make_node_part v ≡ Some p → MakeNode p.0 p.1 ≡ v
make_node_is (MakeNode d n) p e = let is = some_is (d, n) p e in rw (← is) refl
make_node_is _ p e = absurd cc

remove_directory_is : (v : DirectoryOperation) (p : DirectoryEntry) → remove_directory_part v ≡ Some p → RemoveDirectory p ≡ v
remove_directory_is (RemoveDirectory q) p e = cc
remove_directory_is _ p e = absurd cc

rename_is : (v : DirectoryOperation) (p : DirectoryEntry × DirectoryEntry) → rename_part v ≡ Some p → Rename p.0 p.1 ≡ v
rename_is (Rename d f) p e = let is = some_is (d, f) p e in rw (← is) refl
rename_is _ p e = absurd cc

link_is : (v : DirectoryOperation) (p : List ℕ × DirectoryEntry) → link_part v ≡ Some p → Link p.0 p.1 ≡ v
link_is (Link h d) p e = let is = some_is (h, d) p e in rw (← is) refl
link_is _ p e = absurd cc

pub directory_arguments_laws : (p : DirectoryProcedure) → IsGrammar (directory_arguments p)
unfolding directory_arguments
directory_arguments_laws procedure.ReadLink = variant_laws _ _ _ (opaque_laws 64) (λ x. refl) read_link_is
directory_arguments_laws procedure.MakeDirectory = variant_laws _ _ _ (pair_laws _ _ entry_laws new_attributes_laws) (λ x. refl) make_directory_is
directory_arguments_laws procedure.MakeLink = variant_laws _ _ _ link_arguments_laws (λ x. refl) make_link_is
directory_arguments_laws procedure.MakeNode = variant_laws _ _ _ (pair_laws _ _ entry_laws node_data_laws) (λ x. refl) make_node_is
directory_arguments_laws procedure.RemoveDirectory = variant_laws _ _ _ entry_laws (λ x. refl) remove_directory_is
directory_arguments_laws procedure.Rename = variant_laws _ _ _ (pair_laws _ _ entry_laws entry_laws) (λ x. refl) rename_is
directory_arguments_laws procedure.Link = variant_laws _ _ _ (pair_laws _ _ (opaque_laws 64) entry_laws) (λ x. refl) link_is

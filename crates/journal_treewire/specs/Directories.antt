-- The procedures of directories and links, by their numbers, and their arguments as items (RFC
-- 1813, sections 3.3.5, 3.3.9 to 3.3.11 and 3.3.13 to 3.3.15).
use Rattle.std.specs.Prelude.{◌≡◌, refl, ℕ, zero, suc, List, [], ◌∷◌, Option, Some, None}
use Rattle.journal_xdr.specs.Items.{Item, pair, mapped_item, tagged, only, never, variant}
use Rattle.journal_xdr.specs.Basic.{word, string, listed}
use Rattle.journal_xdr.specs.BasicLaws.{listed_back}
use Rattle.journal_nfs3_wire.specs.declared.arguments.NewAttributes.{NewAttributes}
use Rattle.journal_nfs3_wire.specs.Arguments.{handle, new_attributes, DirectoryEntry, entry, directory_entry_of}
use Rattle.journal_treewire.specs.declared.procedure.DirectoryProcedure.{DirectoryProcedure}
use Rattle.journal_treewire.specs.declared.procedure.DirectoryProcedure.TheVariants as procedure
use Rattle.journal_treewire.specs.declared.arguments.Device as code_device
use Rattle.journal_treewire.specs.declared.arguments.NodeData as code_data
use Rattle.journal_treewire.specs.declared.arguments.NodeData.TheVariants as code_kinds
use Rattle.journal_treewire.specs.declared.arguments.LinkArguments as code_link
use Rattle.journal_treewire.specs.declared.arguments.DirectoryOperation as code_operation
use Rattle.journal_treewire.specs.declared.arguments.DirectoryOperation.TheVariants as code_operations

-- ---- procedures

abbrev pub directory_procedures : List (ℕ × DirectoryProcedure)
directory_procedures =
    (5, procedure.ReadLink) ∷ (9, procedure.MakeDirectory) ∷ (10, procedure.MakeLink) ∷ (11, procedure.MakeNode) ∷ (13, procedure.RemoveDirectory) ∷ (14, procedure.Rename)
    ∷ (15, procedure.Link) ∷ []

abbrev pub directory_procedure_of : ℕ → Option DirectoryProcedure
directory_procedure_of n = listed directory_procedures n

abbrev pub directory_procedure_number : DirectoryProcedure → ℕ
directory_procedure_number procedure.ReadLink = 5
directory_procedure_number procedure.MakeDirectory = 9
directory_procedure_number procedure.MakeLink = 10
directory_procedure_number procedure.MakeNode = 11
directory_procedure_number procedure.RemoveDirectory = 13
directory_procedure_number procedure.Rename = 14
directory_procedure_number procedure.Link = 15

pub directory_procedure_is : (p : DirectoryProcedure) → directory_procedure_of (directory_procedure_number p) ≡ Some p
directory_procedure_is procedure.ReadLink = refl
directory_procedure_is procedure.MakeDirectory = refl
directory_procedure_is procedure.MakeLink = refl
directory_procedure_is procedure.MakeNode = refl
directory_procedure_is procedure.RemoveDirectory = refl
directory_procedure_is procedure.Rename = refl
directory_procedure_is procedure.Link = refl

pub directory_procedure_back : (n : ℕ) (p : DirectoryProcedure) → directory_procedure_of n ≡ Some p → directory_procedure_number p ≡ n
directory_procedure_back = listed_back directory_procedure_number directory_procedures (refl, (refl, (refl, (refl, (refl, (refl, (refl, tt)))))))

-- ---- what MKNOD makes

-- specdata3
pub record Device : Type 0 where
  pub major : ℕ
  pub minor : ℕ

unfoldable pub device : Item Device
device = mapped_item (pair word word) (λ p. record { major = p.0; minor = p.1 }) (λ d. (d.major, d.minor))

-- mknoddata3, by ftype3: a device has attributes and a number, a socket and a pipe have attributes
pub data NodeData : Type 0 where
  Regular : NodeData
  Directory : NodeData
  BlockDevice : NewAttributes → Device → NodeData
  CharacterDevice : NewAttributes → Device → NodeData
  SymbolicLink : NodeData
  Socket : NewAttributes → NodeData
  Fifo : NewAttributes → NodeData

abbrev pub node_type : NodeData → ℕ
node_type Regular = 1
node_type Directory = 2
node_type (BlockDevice a d) = 3
node_type (CharacterDevice a d) = 4
node_type SymbolicLink = 5
node_type (Socket a) = 6
node_type (Fifo a) = 7

abbrev pub block_part : NodeData → Option (NewAttributes × Device)
block_part (BlockDevice a d) = Some (a, d)
block_part _ = None

abbrev pub character_part : NodeData → Option (NewAttributes × Device)
character_part (CharacterDevice a d) = Some (a, d)
character_part _ = None

abbrev pub socket_part : NodeData → Option NewAttributes
socket_part (Socket a) = Some a
socket_part _ = None

abbrev pub fifo_part : NodeData → Option NewAttributes
fifo_part (Fifo a) = Some a
fifo_part _ = None

abbrev pub node_arm : ℕ → Item NodeData
node_arm zero = never
node_arm (suc zero) = only Regular
node_arm (suc (suc zero)) = only Directory
node_arm (suc (suc (suc zero))) = variant (pair new_attributes device) (λ p. BlockDevice p.0 p.1) block_part
node_arm (suc (suc (suc (suc zero)))) = variant (pair new_attributes device) (λ p. CharacterDevice p.0 p.1) character_part
node_arm (suc (suc (suc (suc (suc zero))))) = only SymbolicLink
node_arm (suc (suc (suc (suc (suc (suc zero)))))) = variant new_attributes (λ a. Socket a) socket_part
node_arm (suc (suc (suc (suc (suc (suc (suc zero))))))) = variant new_attributes (λ a. Fifo a) fifo_part
node_arm (suc (suc (suc (suc (suc (suc (suc (suc n)))))))) = never

unfoldable pub node_data : Item NodeData
node_data = tagged word node_arm node_type

-- ---- each procedure with its arguments (3.3)

-- nfspath3: a string of any length
abbrev pub path : Item (List ℕ)
path = string 4294967295

-- SYMLINK3args
pub record LinkArguments : Type 0 where
  pub entry : DirectoryEntry
  pub attributes : NewAttributes
  pub path : List ℕ

unfoldable pub link_arguments : Item LinkArguments
link_arguments = mapped_item (pair entry (pair new_attributes path)) (λ p. record { entry = p.0; attributes = p.1.0; path = p.1.1 }) (λ a. (a.entry, (a.attributes, a.path)))

-- A procedure of directories and links, with its arguments
pub data DirectoryOperation : Type 0 where
  ReadLink : List ℕ → DirectoryOperation
  MakeDirectory : DirectoryEntry → NewAttributes → DirectoryOperation
  MakeLink : LinkArguments → DirectoryOperation
  MakeNode : DirectoryEntry → NodeData → DirectoryOperation
  RemoveDirectory : DirectoryEntry → DirectoryOperation
  Rename : DirectoryEntry → DirectoryEntry → DirectoryOperation
  Link : List ℕ → DirectoryEntry → DirectoryOperation

abbrev pub read_link_part : DirectoryOperation → Option (List ℕ)
read_link_part (ReadLink h) = Some h
read_link_part _ = None

abbrev pub make_directory_part : DirectoryOperation → Option (DirectoryEntry × NewAttributes)
make_directory_part (MakeDirectory e a) = Some (e, a)
make_directory_part _ = None

abbrev pub make_link_part : DirectoryOperation → Option LinkArguments
make_link_part (MakeLink a) = Some a
make_link_part _ = None

abbrev pub make_node_part : DirectoryOperation → Option (DirectoryEntry × NodeData)
make_node_part (MakeNode e d) = Some (e, d)
make_node_part _ = None

abbrev pub remove_directory_part : DirectoryOperation → Option DirectoryEntry
remove_directory_part (RemoveDirectory e) = Some e
remove_directory_part _ = None

abbrev pub rename_part : DirectoryOperation → Option (DirectoryEntry × DirectoryEntry)
rename_part (Rename e f) = Some (e, f)
rename_part _ = None

abbrev pub link_part : DirectoryOperation → Option (List ℕ × DirectoryEntry)
link_part (Link h e) = Some (h, e)
link_part _ = None

-- the arguments of a procedure of directories and links
unfoldable pub directory_arguments : DirectoryProcedure → Item DirectoryOperation
directory_arguments procedure.ReadLink = variant handle (λ h. ReadLink h) read_link_part
directory_arguments procedure.MakeDirectory = variant (pair entry new_attributes) (λ p. MakeDirectory p.0 p.1) make_directory_part
directory_arguments procedure.MakeLink = variant link_arguments (λ a. MakeLink a) make_link_part
directory_arguments procedure.MakeNode = variant (pair entry node_data) (λ p. MakeNode p.0 p.1) make_node_part
directory_arguments procedure.RemoveDirectory = variant entry (λ e. RemoveDirectory e) remove_directory_part
directory_arguments procedure.Rename = variant (pair entry entry) (λ p. Rename p.0 p.1) rename_part
directory_arguments procedure.Link = variant (pair handle entry) (λ p. Link p.0 p.1) link_part

-- ---- what the code's values stand for, whatever memory they are lent

abbrev pub device_of : code_device.Device → Device
device_of d = record { major = d.major; minor = d.minor }

abbrev pub node_data_of : code_data.NodeData → NodeData
node_data_of code_kinds.Regular = Regular
node_data_of code_kinds.Directory = Directory
node_data_of (code_kinds.BlockDevice a d) = BlockDevice a (device_of d)
node_data_of (code_kinds.CharacterDevice a d) = CharacterDevice a (device_of d)
node_data_of code_kinds.SymbolicLink = SymbolicLink
node_data_of (code_kinds.Socket a) = Socket a
node_data_of (code_kinds.Fifo a) = Fifo a

abbrev pub link_arguments_of : code_link.LinkArguments → LinkArguments
link_arguments_of a = record { entry = directory_entry_of a.entry; attributes = a.attributes; path = a.path.now }

abbrev pub directory_operation_of : code_operation.DirectoryOperation → DirectoryOperation
directory_operation_of (code_operations.ReadLink h) = ReadLink h.now
directory_operation_of (code_operations.MakeDirectory e a) = MakeDirectory (directory_entry_of e) a
directory_operation_of (code_operations.MakeLink a) = MakeLink (link_arguments_of a)
directory_operation_of (code_operations.MakeNode e d) = MakeNode (directory_entry_of e) (node_data_of d)
directory_operation_of (code_operations.RemoveDirectory e) = RemoveDirectory (directory_entry_of e)
directory_operation_of (code_operations.Rename e f) = Rename (directory_entry_of e) (directory_entry_of f)
directory_operation_of (code_operations.Link h e) = Link h.now (directory_entry_of e)

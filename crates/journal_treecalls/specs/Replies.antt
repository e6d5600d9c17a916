-- Replies, as the definitions have them.
use Rattle.std.specs.Prelude.{ℕ, ◌≡◌, ◌+◌, ◌&&◌, List, Some, Result, Ok, Err, bit_and, ◌==◌, if◌then◌else◌}
use Rattle.journal_tree.specs.declared.limits.TheConstants.{ROOT}
use Rattle.journal_tree.specs.declared.reply.Attributes.{Attributes}
use Rattle.journal_tree.specs.declared.reply.Found.{Found}
use Rattle.journal_tree.specs.declared.reply.Kind.{Kind}
use Rattle.journal_tree.specs.declared.reply.Kind.TheVariants.{Directory, File, Link}
use Rattle.journal_tree.specs.declared.caller.Caller.{Caller}
use Rattle.journal_tree.specs.declared.status.Status.{Status}
use Rattle.journal_tree.specs.declared.status.Status.TheVariants.{NoEntry}
use Rattle.journal_tree.specs.Rights.{may_read, may_write, may_search, may_run}
use Rattle.journal_tree.specs.Calls.{refused, name_kind, on_found}
use Rattle.journal_tree.specs.Attributes.{Access, ACCESS_READ, ACCESS_LOOKUP, ACCESS_WRITE, ACCESS_DELETE, ACCESS_EXECUTE, where_true}
use Rattle.journal_tree.specs.Trees.{find}
use Rattle.journal_tree.specs.Names.{found, parent_of, lookup_name}
use Rattle.journal_treestore.specs.declared.inode.Head.{Head}
use Rattle.journal_treestore.specs.Views.{View, node_of, tree_of}
use Rattle.journal_treestore.specs.Views.Seen.{used}
use Rattle.journal_treecalls.specs.declared.attributes.AccessReply.{AccessReply}
use Rattle.journal_treecalls.specs.declared.node.Record.{Record}
use Rattle.journal_treecalls.specs.Targets.{held, told_of}

-- the rights of a caller, by the kind of the node
abbrev pub granted_to : Caller → Attributes → Kind → ℕ
granted_to c a Directory =
    where_true (may_read c a) ACCESS_READ + where_true (may_search c a) ACCESS_LOOKUP
    + where_true (may_write c a && may_search c a) (ACCESS_WRITE + ACCESS_DELETE)
granted_to c a File =
    where_true (may_read c a) ACCESS_READ + where_true (may_write c a) ACCESS_WRITE + where_true (may_run c a) ACCESS_EXECUTE
granted_to c a Link = where_true (may_read c a) ACCESS_READ

abbrev pub access_of : Caller → ℕ → Head → ℕ → AccessReply
access_of c n head asked = record { node = told_of n head; rights = bit_and asked (granted_to c head.attributes head.kind) }

abbrev pub access_told : Result AccessReply Status → Result Access Status
access_told (Ok r) = Ok (record { node = r.node; rights = r.rights })
access_told (Err status) = Err status

-- a node that was found, and its directory
abbrev pub found_of : ℕ → Head → ℕ → Head → Found
found_of d head n node = record { generation = node.generation; node = told_of n node; directory = told_of d head }

-- LOOKUP's answer in a directory that the caller may search
abbrev pub LooksUp : View → ℕ → Record → List ℕ → Result Found Status → Type 0
LooksUp V d r name reply = V.inode d ≡ used (held r) → r.head.kind ≡ Directory
    → lookup_name (tree_of V) d (node_of V (held r)) (name_kind name) name ≡ (reply, tree_of V)

-- the number of the directory above
abbrev pub number_above : ℕ → Record → ℕ
number_above d r = if d == ROOT then ROOT else r.head.directory

-- and its parts: of the directory above, and of a name
abbrev pub LooksUpParent : View → ℕ → Record → Result Found Status → Type 0
LooksUpParent V d r reply = V.inode d ≡ used (held r) → r.head.kind ≡ Directory
    → on_found (tree_of V) (Some (parent_of d (node_of V (held r)))) (refused NoEntry (tree_of V)) (found (tree_of V) d (node_of V (held r))) ≡ (reply, tree_of V)

abbrev pub LooksUpName : View → ℕ → Record → List ℕ → Result Found Status → Type 0
LooksUpName V d r name reply = V.inode d ≡ used (held r) → r.head.kind ≡ Directory
    → on_found (tree_of V) (find (tree_of V) d name) (refused NoEntry (tree_of V)) (found (tree_of V) d (node_of V (held r))) ≡ (reply, tree_of V)

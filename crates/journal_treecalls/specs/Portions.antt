-- The reply of READ.
use Rattle.std.specs.Prelude.{ℕ, ◌≡◌, ◌+◌, ◌-◌, max, min, Bool, nat_le, if◌then◌else◌, length, Option, Some, None, Result, Ok, Err}
use Rattle.journal_tree.specs.declared.limits.TheConstants.{MOST_FILE_BLOCKS, TRANSFER_BYTES}
use Rattle.journal_tree.specs.declared.reply.Kind.{Kind}
use Rattle.journal_tree.specs.declared.reply.Kind.TheVariants.{Directory, File, Link}
use Rattle.journal_tree.specs.declared.caller.Caller.{Caller}
use Rattle.journal_tree.specs.declared.status.Status.{Status}
use Rattle.journal_tree.specs.declared.status.Status.TheVariants.{Invalid, NoAccess}
use Rattle.journal_tree.specs.Rights.{may_fetch}
use Rattle.journal_tree.specs.Contents.{Portion}
use Rattle.journal_treestore.specs.declared.inode.Head.{Head}
use Rattle.journal_treestore.specs.Views.{View}
use Rattle.journal_treecalls.specs.declared.fetch.Span.{Span}
use Rattle.journal_treecalls.specs.declared.node.Record.{Record}
use Rattle.journal_treecalls.specs.declared.portion.ReadReply.{ReadReply}
use Rattle.journal_treecalls.specs.Targets.{told_of}
use Rattle.journal_treecalls.specs.Fetches.{file_blocks, IsFetched}

-- why a node is not read, by its kind and by the right to fetch
abbrev pub reading_by : Kind → Bool → Option Status
reading_by Directory may = Some Invalid
reading_by File may = if may then None else Some NoAccess
reading_by Link may = Some Invalid

abbrev pub reading_status : Caller → Head → Option Status
reading_status c h = reading_by h.kind (may_fetch c h.attributes)

-- where the bytes end that are read from a file of a size
abbrev pub reach_of : ℕ → ℕ → ℕ → ℕ
reach_of size offset count = min (offset + min count TRANSFER_BYTES) (max offset size)

abbrev pub portion_told : Result ReadReply Status → Result Portion Status
portion_told (Ok r) = Ok (record { file = r.file; bytes = r.bytes.items; is_end = r.is_end })
portion_told (Err status) = Err status

abbrev pub no_span : Span
no_span = record { from = 0; to = 0 }

-- A reply has the bytes of a file from an offset on
pub record HasPortion (V : View) (n : ℕ) (h : Head) (offset count : ℕ) (reply : ReadReply) : Type 0 where
  pub file : reply.file ≡ told_of n h
  pub long : length reply.bytes.items ≡ reach_of h.size offset count - offset
  pub fetched : IsFetched V (file_blocks V h) no_span offset MOST_FILE_BLOCKS reply.bytes.items
  pub ends : reply.is_end ≡ nat_le h.size (reach_of h.size offset count)

-- or the node is not read
pub data ReadsNode (V : View) (c : Caller) (n : ℕ) (r : Record) (offset count : ℕ) : Result ReadReply Status → Type 0 where
  kept : (status : Status) → reading_status c r.head ≡ Some status → ReadsNode V c n r offset count (Err status)
  fetches : (reply : ReadReply) → reading_status c r.head ≡ None → HasPortion V n r.head offset count reply → ReadsNode V c n r offset count (Ok reply)

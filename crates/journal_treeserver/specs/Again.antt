-- Calls that come again: a client that has got no reply sends the same call once more.
use Rattle.std.specs.Prelude.{Bool, true, false}
use mathlib.Core.List.{IsPrefix}
use Rattle.journal_history.specs.Tokens.{SessionState, OnlyExtends, CommitPlace}
use Rattle.journal_tree.specs.declared.caller.Caller.{Caller}
use Rattle.journal_tree.specs.declared.time.Time.{Time}
use Rattle.journal_tree.specs.Op.{Call, Reply}
use Rattle.journal_treestore.specs.declared.place.Cut.{Cut}
use Rattle.journal_treefs.specs.Calls.{IsCommittedCall}
use Rattle.journal_nfs3_wire.specs.Arguments as nine
use Rattle.journal_treewire.specs.Directories as links
use Rattle.journal_treewire.specs.Requests.{Requested, file, directory}

-- The calls that make, remove or move a name: CREATE, REMOVE, MKDIR, SYMLINK, RMDIR and RENAME. A
-- second copy of one, done after the first, would find what the first has left
abbrev pub is_done_once : Requested → Bool
is_done_once (file (nine.Create e how)) = true
is_done_once (file (nine.Remove e)) = true
is_done_once (directory (links.MakeDirectory e a)) = true
is_done_once (directory (links.MakeLink a)) = true
is_done_once (directory (links.RemoveDirectory e)) = true
is_done_once (directory (links.Rename e f)) = true
is_done_once other = false

-- A copy of the call that came before was committed with this reply, and its commit is in the
-- history that the session has then seen. The session itself has done nothing
pub record WasCommitted (c : Cut) (call : Call) (caller : Caller) (old new : SessionState) (reply : Reply) (receipt : CommitPlace) : Type 0 where
  pub moment : Time
  pub before : SessionState
  pub after : SessionState
  pub committed : IsCommittedCall c call caller moment before after reply receipt
  pub stands : IsPrefix after.seen new.seen
  pub extends : OnlyExtends old new

-- The meaning of the code's values.
use Rattle.std.specs.Prelude.{ℕ, ◌≡◌, ◌++◌, false, List, Option, Some, None}
use Rattle.journal_history.specs.Tokens.{SessionState, CommitPlace}
use Rattle.journal_inode.specs.declared.node.Time.{Time as Moment}
use Rattle.journal_protocol.specs.declared.held_reply.HeldReply.{HeldReply}
use Rattle.journal_protocol.specs.declared.held_reply.HeldWait.{HeldWait}
use Rattle.journal_tree.specs.declared.caller.Caller.{Caller}
use Rattle.journal_tree.specs.declared.time.Time.{Time}
use Rattle.journal_tree.specs.declared.settings.CreateMode.TheVariants.{Unchecked, Guarded, Exclusive}
use Rattle.journal_tree.specs.Op.{Call, write, create, mkdir, symlink, rename}
use Rattle.journal_treestore.specs.declared.place.Cut.{Cut}
use Rattle.journal_mount_wire.specs.Arguments.{mount_call_of}
use Rattle.journal_treewire.specs.CodeViews.{results_of}
use Rattle.journal_treewire.specs.Requests.{Requested, request_of}
use Rattle.journal_treeserver.specs.declared.asking.Wanted as code_wanted
use Rattle.journal_treeserver.specs.declared.asking.Wanted.TheVariants as code_wants
use Rattle.journal_treeserver.specs.declared.awaited.AwaitedCall.{AwaitedCall}
use Rattle.journal_treeserver.specs.declared.awaited.Owed.{Owed}
use Rattle.journal_treeserver.specs.declared.performing.Done.{Done}
use Rattle.journal_treeserver.specs.declared.reply_table.Begun.{Begun}
use Rattle.journal_treeserver.specs.declared.reply_table.Begun.TheVariants.{Again, First, NotKept}
use Rattle.journal_treeserver.specs.declared.server.Export.{Export}
use Rattle.journal_treeserver.specs.declared.taking.Taking as code_taking
use Rattle.journal_treeserver.specs.declared.taking.Taking.TheVariants as code_takes
use Rattle.journal_treeserver.specs.Asking.{Wanted, files, mount, denied, refused}
use Rattle.journal_treewire.specs.Results.{Null}
use Rattle.journal_treeserver.specs.Kept.{IsKept}
use Rattle.journal_treeserver.specs.Answers.{Served, awaiting, IsAtOnce, asked_of, changes, Comes, ComesUnless, Replies}

abbrev pub served_as : Cut → Export → Served
served_as cut e = record { cut = cut; disk = e.disk; squash = e.squash; read_only = e.is_read_only; verifier = e.verifier.0; client = e.client }

abbrev pub wanted_of : code_wanted.Wanted → Wanted
wanted_of (code_wants.Files caller r) = files caller (request_of r)
wanted_of (code_wants.Mount m) = mount (mount_call_of m)
wanted_of code_wants.Denied = denied
wanted_of (code_wants.Refused why) = refused why

-- a call that may take numbers or blocks
abbrev pub taking_call : code_taking.Taking → Call
taking_call (code_takes.Write w) = write w.handle w.offset w.count w.bytes.now
taking_call (code_takes.CreateUnchecked p s) = create p.directory p.name.now (Unchecked s)
taking_call (code_takes.CreateGuarded p s) = create p.directory p.name.now (Guarded s)
taking_call (code_takes.CreateExclusive p v) = create p.directory p.name.now (Exclusive v)
taking_call (code_takes.MakeDirectory p s) = mkdir p.directory p.name.now s
taking_call (code_takes.MakeLink l) = symlink l.entry.directory l.entry.name.now l.settings l.text.now
taking_call (code_takes.Rename p q) = rename p.directory p.name.now q.directory q.name.now

-- a call was done so, up to its commit
abbrev pub IsDone : Served → Requested → Call → Caller → Time → SessionState → SessionState → Done CommitPlace → Type 0
IsDone S asked call caller now old new d = Comes S (awaiting d.wait) asked call caller now old new (results_of S.disk d.results)

-- the wait of a reply to a call with this number, with what is remembered of the call
abbrev pub held_wait : {P : Type 0} → ℕ → Option (Owed P) → Option (HeldWait AwaitedCall P)
held_wait xid None = None
held_wait xid (Some owed) = Some (record { call = record { xid = xid; form = owed.form }; receipt = owed.receipt })

-- A reply to what is wanted under this number is held
pub record IsHeld (S : Served) (now : Moment) (xid : ℕ) (wanted : Wanted) (old new : SessionState) (wrote writes : List ℕ) (soon : HeldReply AwaitedCall CommitPlace) : Type 0 where
  pub wait : Option (Owed CommitPlace)
  pub text : List ℕ
  pub written : writes ≡ wrote ++ text
  pub replies : Replies S (awaiting wait) now xid wanted old new text
  pub held : soon.wait ≡ held_wait xid wait
  pub goes_on : soon.ends ≡ false

-- A call of a tree that is only looked at was answered so. NULL is none, and one that would change
-- the tree is answered by ROFS
abbrev pub LooksAs : Served → Requested → Option Call → Caller → Time → SessionState → SessionState → Done CommitPlace → Type 0
LooksAs S asked None caller now old new d = IsAtOnce (awaiting d.wait) old new Null (results_of S.disk d.results)
LooksAs S asked (Some call) caller now old new d = ComesUnless (changes call) S (awaiting d.wait) asked (asked_of S.read_only call) caller now old new (results_of S.disk d.results)

-- and of one that may be changed
abbrev pub ChangesAs : Served → Requested → Option Call → Caller → Time → SessionState → SessionState → Done CommitPlace → Type 0
ChangesAs S asked None caller now old new d = IsAtOnce (awaiting d.wait) old new Null (results_of S.disk d.results)
ChangesAs S asked (Some call) caller now old new d = IsDone S asked (asked_of S.read_only call) caller now old new d

-- a reply that is given again is that to the call of this record
abbrev pub IsBegun : {J R : Type 0} → Served → List ℕ → Begun J R → Type 0
IsBegun S record_bytes (Again repeat) = IsKept S record_bytes repeat.reply.items repeat.front
IsBegun S record_bytes First = Unit {0}
IsBegun S record_bytes NotKept = Unit {0}

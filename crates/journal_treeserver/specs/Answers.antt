-- Which reply belongs to a call on a tree that is served.
use Rattle.std.specs.Prelude.{ℕ, ◌≡◌, ◌≤◌, Bool, true, false, ◌&&◌, nat_lt, bit_and, if◌then◌else◌, List, length, Option, Some, None, Ok, Err}
use Rattle.journal_world.specs.declared.refusal.Refusal.{Refusal}
use Rattle.journal_world.specs.declared.refusal.Refusal.TheVariants.{Busy, DeviceFailed}
use Rattle.journal_world.specs.Histories.{Entry, floor}
use Rattle.journal_history.specs.Tokens.{SessionState, OnlyExtends, CommitPlace}
use Rattle.journal_inode.specs.declared.node.Time.{Time as Moment}
use Rattle.journal_rpc.specs.Calls.{Message, message}
use Rattle.journal_rpc.specs.Markings.{record_marking}
use Rattle.journal_rpc.specs.Replies.{one_fragment, reply, denial}
use Rattle.journal_protocol.specs.Protocols.{Service}
use Rattle.journal_tree.specs.declared.caller.Caller.{Caller}
use Rattle.journal_tree.specs.declared.limits.TheConstants.{ROOT}
use Rattle.journal_tree.specs.declared.time.Time.{Time}
use Rattle.journal_tree.specs.Op.{Call, access, setattr, write, create, mkdir, symlink, mknod, remove, rmdir, rename, link, Reply, link_read, bytes_read, listed, listed_plus, is_refusal}
use Rattle.journal_treestore.specs.declared.place.Cut.{Cut}
use Rattle.journal_treefs.specs.Calls.{IsCommittedCall, IsMadeAt}
use Rattle.journal_nfs3_wire.specs.declared.arguments.StableHow.{StableHow}
use Rattle.journal_nfs3_wire.specs.declared.results.NfsError.{NfsError}
use Rattle.journal_nfs3_wire.specs.declared.results.NfsError.TheVariants.{Io, ServerFault, Jukebox, ReadOnly}
use Rattle.journal_mount_wire.specs.Arguments.{MountCall}
use Rattle.journal_mount_wire.specs.Mounts.{mount_text}
use Rattle.journal_treewire.specs.Answers.{answer_of}
use Rattle.journal_treewire.specs.Calls.{Resolved, call_on}
use Rattle.journal_treewire.specs.Handles.{DiskHandle, disk_handle}
use Rattle.journal_treewire.specs.Refusals.{refused_request}
use Rattle.journal_treewire.specs.Requests.{Requested}
use Rattle.journal_treewire.specs.Results.{Results, Null, LinkText, Read, Directory, DirectoryPlus, results_text}
use Rattle.journal_treewire.specs.Values.{time_in}
use Rattle.journal_treewire.specs.declared.parts.TheConstants.{MOST_LINES}
use Rattle.journal_tree.specs.declared.limits.TheConstants.{MOST_LINK, TRANSFER_BYTES}
use Rattle.journal_treeserver.specs.declared.awaited.AwaitedCall.{AwaitedCall}
use Rattle.journal_treeserver.specs.declared.awaited.AwaitedForm.{AwaitedForm}
use Rattle.journal_treeserver.specs.declared.awaited.Owed.{Owed}
use Rattle.journal_treeserver.specs.declared.client.ClientAddress.{ClientAddress}
use Rattle.journal_treeserver.specs.Again.{is_done_once, WasCommitted}
use Rattle.journal_treeserver.specs.Asking.{Wanted, files, mount, refused, asks}
use Rattle.journal_treeserver.specs.Forms.{how_of, form_of}

-- A tree as it is served to a client: how its disk is cut, the disk's own number, whether root is
-- squashed, whether the tree is only read, the server's verifier, and the client's address, where
-- it has one
pub record Served : Type 0 where
  pub cut : Cut
  pub disk : ℕ
  pub squash : Bool
  pub read_only : Bool
  pub verifier : List ℕ
  pub client : Option ClientAddress

-- ---- how far a reply is

-- A mark of this history covers its commit, or this is waited for
pub data Standing : Type 0 where
  marked : List Entry → Standing
  awaiting : Option (Owed CommitPlace) → Standing

abbrev pub HasNoWait : Standing → Type 0
HasNoWait (marked history) = Unit {0}
HasNoWait (awaiting wait) = wait ≡ None

-- the wait of a reply of this form. A refusal waits for nothing
abbrev pub owed_by : {P : Type 0} → Option AwaitedForm → Bool → P → Option (Owed P)
owed_by None refuses receipt = None
owed_by (Some form) true receipt = None
owed_by (Some form) false receipt = Some (record { form = form; receipt = receipt })

abbrev pub IsCovered : Option AwaitedForm → Reply → CommitPlace → List Entry → Type 0
IsCovered None r receipt history = Unit {0}
IsCovered (Some form) r receipt history = is_refusal r ≡ false → receipt.count ≤ floor history

abbrev pub IsSoFar : Standing → Option AwaitedForm → Reply → CommitPlace → Type 0
IsSoFar (marked history) form r receipt = IsCovered form r receipt history
IsSoFar (awaiting wait) form r receipt = wait ≡ owed_by form (is_refusal r) receipt

-- ---- the results of a call that is committed

-- a reply that is longer than one may be
abbrev pub is_long : Reply → Bool
is_long (link_read (Ok l)) = nat_lt MOST_LINK (length l.text)
is_long (bytes_read (Ok p)) = nat_lt TRANSFER_BYTES (length p.bytes)
is_long (listed (Ok l)) = nat_lt MOST_LINES (length l.page.items)
is_long (listed_plus (Ok l)) = nat_lt MOST_LINES (length l.page.items)
is_long other = false

-- it becomes SERVERFAULT
abbrev pub long_results : Reply → Results
long_results (link_read r) = LinkText (Err (ServerFault, None))
long_results (bytes_read r) = Read (Err (ServerFault, None))
long_results (listed r) = Directory (Err (ServerFault, None))
long_results (listed_plus r) = DirectoryPlus (Err (ServerFault, None))
long_results other = Null

abbrev pub told_results : ℕ → List ℕ → StableHow → Call → Reply → Results
told_results disk verifier how call r = if is_long r then long_results r else answer_of disk verifier how call r

-- ---- what a request comes to

-- why a journal refuses, on the wire
abbrev pub journal_error : {C : Type 0} → Refusal C → NfsError
journal_error Busy = Jukebox
journal_error (DeviceFailed cause) = Io
journal_error other = ServerFault

-- which is one of these
abbrev pub IsJournalError : NfsError → Type 0
IsJournalError Jukebox = Unit {0}
IsJournalError Io = Unit {0}
IsJournalError ServerFault = Unit {0}
IsJournalError other = ⊥

-- why it refuses a wait, on the wire: never JUKEBOX, by which a client asks once more
abbrev pub wait_error : {C : Type 0} → Refusal C → NfsError
wait_error (DeviceFailed cause) = Io
wait_error other = ServerFault

-- which is one of these
abbrev pub IsWaitError : NfsError → Type 0
IsWaitError Io = Unit {0}
IsWaitError ServerFault = Unit {0}
IsWaitError other = ⊥

-- A call of the tree is committed with its reply, of which there are results; or the journal
-- refuses, and it was not done; or it was done, and is not known to be stable. So a call that is
-- answered JUKEBOX was not done.
--
-- Of a client that has an address, a call that is to be done once may also be a copy of one that
-- came before. It has the results of that one, whose commit is in the history that the session
-- has then seen, with a mark that covers it; or they are refused, where it is not known to be
-- stable. The call is not done again
pub data Comes (S : Served) (standing : Standing) (asked : Requested) (call : Call) (caller : Caller) (now : Time) (old new : SessionState) : Results → Type 0 where
  done : (r : Reply) (receipt : CommitPlace) → IsCommittedCall S.cut call caller now old new r receipt → IsSoFar standing (form_of asked) r receipt
      → Comes S standing asked call caller now old new (told_results S.disk S.verifier (how_of asked) call r)
  undone : (why : NfsError) → IsJournalError why → OnlyExtends old new → HasNoWait standing → Comes S standing asked call caller now old new (refused_request asked why)
  unsure : (why : NfsError) (history : List Entry) (form : AwaitedForm) (r : Reply) (place : ℕ) → standing ≡ marked history → IsWaitError why → form_of asked ≡ Some form
      → IsMadeAt S.cut call caller now old new r place → Comes S standing asked call caller now old new (refused_request asked why)
  repeated : (client : ClientAddress) (r : Reply) (receipt : CommitPlace) → S.client ≡ Some client → is_done_once asked ≡ true → WasCommitted S.cut call caller old new r receipt
      → receipt.count ≤ floor new.seen → HasNoWait standing → Comes S standing asked call caller now old new (told_results S.disk S.verifier (how_of asked) call r)
  repeated_unsure : (why : NfsError) (client : ClientAddress) (r : Reply) (receipt : CommitPlace) → IsWaitError why → S.client ≡ Some client → is_done_once asked ≡ true
      → WasCommitted S.cut call caller old new r receipt → HasNoWait standing → Comes S standing asked call caller now old new (refused_request asked why)

-- the call is one that changes a tree, or would
abbrev pub changes : Call → Bool
changes (setattr h s guard) = true
changes (write h offset count bytes) = true
changes (create h name mode) = true
changes (mkdir h name s) = true
changes (symlink h name s text) = true
changes (mknod h name) = true
changes (remove h name) = true
changes (rmdir h name) = true
changes (rename h name k new_name) = true
changes (link h k name) = true
changes other = false

-- Where a tree is only read, no other rights are asked of a node than READ, LOOKUP and EXECUTE
abbrev pub asked_of : Bool → Call → Call
asked_of true (access h rights) = access h (bit_and rights 35)
asked_of read_only call = call

-- A request is answered so without a call
abbrev pub IsAtOnce : Standing → SessionState → SessionState → Results → Results → Type 0
IsAtOnce standing old new told results = (results ≡ told) × (new ≡ old) × HasNoWait standing

-- where it is forbidden, by ROFS
abbrev pub ComesUnless : Bool → Served → Standing → Requested → Call → Caller → Time → SessionState → SessionState → Results → Type 0
ComesUnless true S standing asked call caller now old new results = IsAtOnce standing old new (refused_request asked ReadOnly) results
ComesUnless false S standing asked call caller now old new results = Comes S standing asked call caller now old new results

-- NULL, and a handle that names nothing on the disk, do nothing. Where the tree is only read, no
-- call is done that changes one, and ACCESS grants no right to
abbrev pub ComesTo : Served → Standing → Requested → Caller → Time → Resolved → SessionState → SessionState → Results → Type 0
ComesTo S standing asked caller now (Ok None) old new results = IsAtOnce standing old new Null results
ComesTo S standing asked caller now (Ok (Some call)) old new results = ComesUnless (S.read_only && changes call) S standing asked (asked_of S.read_only call) caller now old new results
ComesTo S standing asked caller now (Err why) old new results = IsAtOnce standing old new (refused_request asked why) results

-- ---- replies

-- The outcome of a call
pub data Outcome : Type 0 where
  told : Results → Outcome
  mounted : MountCall → Outcome
  none_told : Wanted → Outcome

-- the root's handle: the disk's own number, and the root's number and generation, which stay
abbrev pub root_of : ℕ → DiskHandle
root_of disk = record { disk = disk; handle = record { number = ROOT; generation = 1 } }

abbrev pub root_bytes : ℕ → List ℕ
root_bytes disk = disk_handle.spelling (root_of disk)

-- the text of a reply, as a record of one fragment
abbrev pub outcome_text : ℕ → ℕ → Outcome → List ℕ
outcome_text disk xid (told r) = one_fragment (reply results_text xid (Ok r))
outcome_text disk xid (mounted m) = one_fragment (reply (mount_text (root_bytes disk)) xid (Ok m))
outcome_text disk xid (none_told (refused why)) = one_fragment (reply results_text xid (Err why))
outcome_text disk xid (none_told other) = one_fragment (denial xid)

-- A request comes to this
abbrev pub IsOutcome : Served → Standing → Moment → Wanted → SessionState → SessionState → Outcome → Type 0
IsOutcome S standing now (files caller asked) old new outcome =
    (results : Results) × (outcome ≡ told results) × ComesTo S standing asked caller (time_in now) (call_on S.disk asked) old new results
IsOutcome S standing now (mount m) old new outcome = (outcome ≡ mounted m) × (new ≡ old) × HasNoWait standing
IsOutcome S standing now other old new outcome = (outcome ≡ none_told other) × (new ≡ old) × HasNoWait standing

-- The text is the reply to what is wanted under this number at this moment, the session has then
-- seen that, and so far is the reply
pub record Replies (S : Served) (standing : Standing) (now : Moment) (xid : ℕ) (wanted : Wanted) (old new : SessionState) (text : List ℕ) : Type 0 where
  pub outcome : Outcome
  pub comes : IsOutcome S standing now wanted old new outcome
  pub is_sent : text ≡ outcome_text S.disk xid outcome

-- and to a call
abbrev pub AnswersAs : Served → Standing → Moment → Message → SessionState → SessionState → List ℕ → Type 0
AnswersAs S standing now call old new text = Replies S standing now call.xid (asks S.squash call) old new text

-- by the marks of a history
abbrev pub answers : Served → List Entry → Moment → Message → SessionState → SessionState → List ℕ → Type 0
answers S history = AnswersAs S (marked history)

-- Its records are those of remote procedure calls, with room for the bytes of a WRITE, and no reply
-- ends a connection
abbrev pub service_of : Served → Service Message
service_of S = record { marking = record record_marking { most_bytes = 69632 }; reads = message; answers = answers S; does = answers S; stops = λ text. ⊥ }

-- The text may take the place of a reply that waits, to a call with this number and of this form,
-- by any history: it says that the reply is not known to be stable
abbrev pub StandsInFor : Served → AwaitedCall → List ℕ → Type 0
StandsInFor S a text =
    (now : Moment) (call : Message) (old new : SessionState) (receipt : CommitPlace) (soon : List ℕ) (history : List Entry)
    → call.xid ≡ a.xid → AnswersAs S (awaiting (Some (record { form = a.form; receipt = receipt }))) now call old new soon → answers S history now call old new text

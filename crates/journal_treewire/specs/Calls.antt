-- Which call of a tree a request is on a disk.
use Rattle.std.specs.Prelude.{ℕ, min, List, Option, Some, None, option_map, Result, Ok, Err}
use Rattle.journal_nfs3_wire.specs.declared.results.NfsError.{NfsError}
use Rattle.journal_nfs3_wire.specs.Arguments as nine
use Rattle.journal_nfs3_wire.specs.Queries as query
use Rattle.journal_tree.specs.declared.limits.TheConstants.{TRANSFER_BYTES}
use Rattle.journal_tree.specs.declared.reply.Handle.{Handle}
use Rattle.journal_tree.specs.Op.{Call, getattr, setattr, lookup, access, readlink, read, write, create, mkdir, symlink, mknod, remove, rmdir, rename, link, readdir, readdirplus, fsstat, fsinfo, pathconf, commit}
use Rattle.journal_treewire.specs.declared.call.TreeCall as code_call
use Rattle.journal_treewire.specs.declared.call.TreeCall.TheVariants as code_calls
use Rattle.journal_treewire.specs.Directories as links
use Rattle.journal_treewire.specs.Handles.{handle_in}
use Rattle.journal_treewire.specs.Requests.{Requested, Requested as requested, file, directory}
use Rattle.journal_treewire.specs.Values.{time_in, settings_in, create_mode_in}

-- The meaning of a request on a disk: a call of its tree, NULL, which is none, or why a handle
-- names nothing there
abbrev pub Resolved : Type 0
Resolved = Result (Option Call) NfsError

-- the call of a handle, if that is one
abbrev pub of_handle : Result Handle NfsError → (Handle → Call) → Resolved
of_handle (Ok h) call = Ok (Some (call h))
of_handle (Err why) call = Err why

abbrev pub on_handle : ℕ → List ℕ → (Handle → Call) → Resolved
on_handle disk bytes call = of_handle (handle_in disk bytes) call

-- and of two. The first one that is none is answered
abbrev pub of_handles : Result Handle NfsError → Result Handle NfsError → (Handle → Handle → Call) → Resolved
of_handles (Ok h) second call = of_handle second (call h)
of_handles (Err why) second call = Err why

abbrev pub on_handles : ℕ → List ℕ → List ℕ → (Handle → Handle → Call) → Resolved
on_handles disk first second call = of_handles (handle_in disk first) (handle_in disk second) call

-- How stable a WRITE is to be, and which part of a file COMMIT asks for, is no matter of the tree
abbrev pub file_call : ℕ → nine.Operation → Resolved
file_call disk nine.Null = Ok None
file_call disk (nine.GetAttributes h) = on_handle disk h getattr
file_call disk (nine.SetAttributes h a guard) = on_handle disk h (λ k. setattr k (settings_in a) (option_map time_in guard))
file_call disk (nine.Lookup e) = on_handle disk e.directory (λ k. lookup k e.called)
file_call disk (nine.Read h offset count) = on_handle disk h (λ k. read k offset count)
file_call disk (nine.Write h offset count how bytes) = on_handle disk h (λ k. write k offset count bytes)
file_call disk (nine.Create e how) = on_handle disk e.directory (λ k. create k e.called (create_mode_in how))
file_call disk (nine.Remove e) = on_handle disk e.directory (λ k. remove k e.called)
file_call disk (nine.Commit h offset count) = on_handle disk h commit

-- A listing has no more bytes than are read at once. A cookie's verifier is not looked at, because
-- no cookie ends
abbrev pub list_bytes : ℕ → ℕ
list_bytes count = min count TRANSFER_BYTES

abbrev pub query_call : ℕ → query.Query → Resolved
query_call disk (query.Access h asked) = on_handle disk h (λ k. access k asked)
query_call disk (query.ReadDirectory p) = on_handle disk p.directory (λ k. readdir k p.cookie (list_bytes p.count))
query_call disk (query.ReadDirectoryPlus p) = on_handle disk p.directory (λ k. readdirplus k p.cookie (list_bytes p.names_count) (list_bytes p.count))
query_call disk (query.FileSystemStatus h) = on_handle disk h fsstat
query_call disk (query.FileSystemInformation h) = on_handle disk h fsinfo
query_call disk (query.PathConfiguration h) = on_handle disk h pathconf

abbrev pub directory_call : ℕ → links.DirectoryOperation → Resolved
directory_call disk (links.ReadLink h) = on_handle disk h readlink
directory_call disk (links.MakeDirectory e a) = on_handle disk e.directory (λ k. mkdir k e.called (settings_in a))
directory_call disk (links.MakeLink a) = on_handle disk a.entry.directory (λ k. symlink k a.entry.called (settings_in a.attributes) a.path)
directory_call disk (links.MakeNode e d) = on_handle disk e.directory (λ k. mknod k e.called)
directory_call disk (links.RemoveDirectory e) = on_handle disk e.directory (λ k. rmdir k e.called)
directory_call disk (links.Rename e f) = on_handles disk e.directory f.directory (λ h k. rename h e.called k f.called)
directory_call disk (links.Link h e) = on_handles disk h e.directory (λ k d. link k d e.called)

abbrev pub call_on : ℕ → Requested → Resolved
call_on disk (file o) = file_call disk o
call_on disk (requested.query q) = query_call disk q
call_on disk (directory d) = directory_call disk d

-- ---- what the code's values stand for

abbrev pub call_of : code_call.TreeCall → Option Call
call_of code_calls.Null = None
call_of (code_calls.GetAttributes h) = Some (getattr h)
call_of (code_calls.SetAttributes c) = Some (setattr c.handle c.settings c.guard)
call_of (code_calls.Lookup p) = Some (lookup p.directory p.name.now)
call_of (code_calls.Access h asked) = Some (access h asked)
call_of (code_calls.ReadLink h) = Some (readlink h)
call_of (code_calls.Read r) = Some (read r.handle r.offset r.count)
call_of (code_calls.Write w) = Some (write w.handle w.offset w.count w.bytes.now)
call_of (code_calls.Create p mode) = Some (create p.directory p.name.now mode)
call_of (code_calls.MakeDirectory p s) = Some (mkdir p.directory p.name.now s)
call_of (code_calls.MakeLink l) = Some (symlink l.entry.directory l.entry.name.now l.settings l.text.now)
call_of (code_calls.MakeNode p) = Some (mknod p.directory p.name.now)
call_of (code_calls.Remove p) = Some (remove p.directory p.name.now)
call_of (code_calls.RemoveDirectory p) = Some (rmdir p.directory p.name.now)
call_of (code_calls.Rename p q) = Some (rename p.directory p.name.now q.directory q.name.now)
call_of (code_calls.Link h p) = Some (link h p.directory p.name.now)
call_of (code_calls.ReadDirectory p) = Some (readdir p.directory p.cookie p.count)
call_of (code_calls.ReadDirectoryPlus p) = Some (readdirplus p.directory p.cookie p.names_count p.count)
call_of (code_calls.FileSystemStatus h) = Some (fsstat h)
call_of (code_calls.FileSystemInformation h) = Some (fsinfo h)
call_of (code_calls.PathConfiguration h) = Some (pathconf h)
call_of (code_calls.Commit h) = Some (commit h)

abbrev pub resolved : Result code_call.TreeCall NfsError → Resolved
resolved (Ok c) = Ok (call_of c)
resolved (Err why) = Err why

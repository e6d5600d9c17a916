-- Results are in the grammar, and short.
use Rattle.std.proofs.Common.{◌≡◌, ℕ, ◌+◌, ◌<◌, ◌≤◌, ◌^◌, List, ◌++◌, length, Option, Some, None, Ok, Err, refl, arith}
use Rattle.std.proofs.lemmas.List.{length-append}
use Rattle.journal_xdr.specs.Items.{Item}
use Rattle.journal_xdr.specs.Basic.{word, boolean, fixed, opaque, optional}
use Rattle.journal_xdr.specs.BasicLaws.{length-word, length-hyper, length-boolean, opaque_short}
use Rattle.journal_inode.specs.declared.node.Time.{Time}
use Rattle.journal_inode.specs.declared.version.FormatVersion.{FormatVersion}
use Rattle.journal_file_types.specs.declared.reply.Attributes.{Attributes}
use Rattle.journal_file_types.specs.declared.reply.Changed.{Changed}
use Rattle.journal_file_types.specs.declared.reply.Found.{Found}
use Rattle.journal_file_types.specs.Portions.{PortionState}
use Rattle.journal_nfs3_wire.specs.declared.arguments.StableHow.{StableHow}
use Rattle.journal_nfs3_wire.specs.declared.arguments.StableHow.TheVariants.{Unstable, DataSync, FileSync}
use Rattle.journal_nfs3_wire.specs.declared.results.NfsError.{NfsError}
use Rattle.journal_nfs3_wire.specs.Arguments.{time, stable_how, stable_how_number}
use Rattle.journal_nfs3_wire.specs.Handles.{FileHandle, file_handle}
use Rattle.journal_nfs3_wire.specs.Results.{status, error_number, outcome, given_handle, Fattr, fattr, post_op_attributes, Before, before, Change, change, LookupResults, lookup_results, ReadResults, read_results, WriteResults, write_results, CreateResults, create_results, CommitResults, commit_results, Null, GetAttributes, SetAttributes, Lookup, Read, Write, Create, Remove, Commit, nothing, results, IsResult}
use Rattle.journal_nfs3_wire.specs.Profile.{fattr_of, change_of, unchanged_of, no_change, found_handle, lookup_of, read_results_of, stability_told, write_of, create_of, commit_of}
use Rattle.journal_nfs3_wire.proofs.Fitting.{some_has, none_has, no_change_has, bytes_has, boolean_has, verifier_has, ok_has, err_has}

-- ---- how long results are

pub length-time : (t : Time) → length (time.spelling t) ≡ 8
unfolding time
length-time t = simp (length-append, length-word)

pub length-fattr : (f : Fattr) → length (fattr.spelling f) ≡ 84
unfolding fattr
length-fattr f = simp (length-append, length-word, length-hyper, length-time)

length-before : (b : Before) → length (before.spelling b) ≡ 24
unfolding before
length-before b = simp (length-append, length-hyper, length-time)

length-handle : (h : FileHandle) → length (given_handle.spelling h) ≡ 16
unfolding given_handle opaque fixed file_handle word
length-handle h = refl

pub after_short : (o : Option Fattr) → length (post_op_attributes.spelling o) ≤ 88
after_short None = simp (length-append, length-boolean) (omega arith)
after_short (Some f) = simp (length-append, length-boolean, length-fattr) (omega arith)

before_short : (o : Option Before) → length ((optional before).spelling o) ≤ 28
before_short None = simp (length-append, length-boolean) (omega arith)
before_short (Some b) = simp (length-append, length-boolean, length-before) (omega arith)

handle_short : (o : Option FileHandle) → length ((optional given_handle).spelling o) ≤ 20
handle_short None = simp (length-append, length-boolean) (omega arith)
handle_short (Some h) = simp (length-append, length-boolean, length-handle) (omega arith)

pub change_short : (c : Change) → length (change.spelling c) ≤ 116
unfolding change
change_short c = omega (arith, length-append ((optional before).spelling c.before) (post_op_attributes.spelling c.after), before_short c.before, after_short c.after)

pub length-verifier : (v : List ℕ) → length v ≡ 8 → length ((fixed 8).spelling v) ≡ 8
unfolding fixed
length-verifier v e = simp length-append (omega (arith, e))

lookup_short : (r : LookupResults) → length (lookup_results.spelling r) ≤ 192
unfolding lookup_results
lookup_short r =
    let object = given_handle.spelling r.object in
    let a = post_op_attributes.spelling r.attributes in
    let d = post_op_attributes.spelling r.directory in
    omega (arith, length-append object (a ++ d), length-append a d, length-handle r.object, after_short r.attributes, after_short r.directory)

read_short : (r : ReadResults) → length r.bytes ≤ 8192 → length (read_results.spelling r) ≤ 8396
unfolding read_results
read_short r h =
    let a = post_op_attributes.spelling r.attributes in
    let n = word.spelling r.count in
    let e = boolean.spelling r.is_end in
    let b = (opaque 4294967295).spelling r.bytes in
    omega (arith, h, length-append a (n ++ (e ++ b)), length-append n (e ++ b), length-append e b, after_short r.attributes, length-word r.count, length-boolean r.is_end, opaque_short 4294967295 r.bytes)

pub write_short : (r : WriteResults) → length r.verifier ≡ 8 → length (write_results.spelling r) ≤ 132
unfolding write_results
write_short r h =
    let c = change.spelling r.change in
    let n = word.spelling r.count in
    let s = stable_how.spelling r.committed in
    let v = (fixed 8).spelling r.verifier in
    omega (arith, length-append c (n ++ (s ++ v)), length-append n (s ++ v), length-append s v, change_short r.change, length-word r.count, length-word (stable_how_number r.committed), length-verifier r.verifier h)

create_short : (r : CreateResults) → length (create_results.spelling r) ≤ 224
unfolding create_results
create_short r =
    let object = (optional given_handle).spelling r.object in
    let a = post_op_attributes.spelling r.attributes in
    let d = change.spelling r.directory in
    omega (arith, length-append object (a ++ d), length-append a d, handle_short r.object, after_short r.attributes, change_short r.directory)

pub commit_short : (r : CommitResults) → length r.verifier ≡ 8 → length (commit_results.spelling r) ≤ 124
unfolding commit_results
commit_short r h = omega (arith, length-append (change.spelling r.change) ((fixed 8).spelling r.verifier), change_short r.change, length-verifier r.verifier h)

pub ok_short : {A B : Type 0} (ok : Item A) (refused : Item B) (v : A) (n : ℕ) → length (ok.spelling v) ≤ n → length ((outcome ok refused).spelling (Ok v)) ≤ 4 + n
ok_short ok refused v n h = omega (arith, h, length-append (word.spelling 0) (ok.spelling v), length-word 0)

pub err_short : {A B : Type 0} (ok : Item A) (refused : Item B) (why : NfsError) (b : B) (n : ℕ) → length (refused.spelling b) ≤ n → length ((outcome ok refused).spelling (Err (why, b))) ≤ 4 + n
err_short ok refused why b n h = omega (arith, h, length-append (status.spelling (Some why)) (refused.spelling b), length-word (error_number why))

-- ---- the results of each procedure

pub null_result : IsResult Null
unfolding results
null_result = record { has = refl; short = omega arith }

pub get_attributes_ok : (f : Fattr) → fattr.Has f → IsResult (GetAttributes (Ok f))
unfolding results
get_attributes_ok f h = record { has = ok_has fattr nothing f h; short = omega (arith, ok_short fattr nothing f 84 (omega (arith, length-fattr f))) }

pub get_attributes_err : (why : NfsError) → IsResult (GetAttributes (Err (why, tt)))
unfolding results
get_attributes_err why = record { has = err_has fattr nothing why tt refl; short = omega (arith, err_short fattr nothing why tt 0 (omega arith)) }

pub set_attributes_ok : (c : Change) → change.Has c → IsResult (SetAttributes (Ok c))
unfolding results
set_attributes_ok c h = record { has = ok_has change change c h; short = omega (arith, ok_short change change c 116 (change_short c)) }

pub set_attributes_err : (why : NfsError) → IsResult (SetAttributes (Err (why, no_change)))
unfolding results
set_attributes_err why = record { has = err_has change change why no_change no_change_has; short = omega (arith, err_short change change why no_change 116 (change_short no_change)) }

pub lookup_ok : (version : FormatVersion) (f : Found) → given_handle.Has (found_handle f) → fattr.Has (fattr_of version f.file) → fattr.Has (fattr_of version f.root) → IsResult (Lookup (Ok (lookup_of version f)))
unfolding results lookup_results
lookup_ok version f h file root =
    let has : lookup_results.Has (lookup_of version f) = (h, (some_has fattr (fattr_of version f.file) file, some_has fattr (fattr_of version f.root) root)) in
    record { has = ok_has lookup_results post_op_attributes (lookup_of version f) has; short = omega (arith, ok_short lookup_results post_op_attributes (lookup_of version f) 192 (lookup_short (lookup_of version f))) }

pub lookup_err : (why : NfsError) → IsResult (Lookup (Err (why, None)))
unfolding results
lookup_err why = record { has = err_has lookup_results post_op_attributes why None (none_has fattr); short = omega (arith, err_short lookup_results post_op_attributes why None 88 (after_short None)) }

pub read_ok : (version : FormatVersion) (p : PortionState) → fattr.Has (fattr_of version p.file) → length p.bytes ≤ 8192 → IsResult (Read (Ok (read_results_of version p)))
unfolding results read_results word
read_ok version p file h =
    let has : read_results.Has (read_results_of version p) = (some_has fattr (fattr_of version p.file) file, (omega (arith, h), (boolean_has p.is_end, bytes_has p.bytes (omega (arith, h))))) in
    record { has = ok_has read_results post_op_attributes (read_results_of version p) has; short = omega (arith, ok_short read_results post_op_attributes (read_results_of version p) 8396 (read_short (read_results_of version p) h)) }

pub read_err : (why : NfsError) → IsResult (Read (Err (why, None)))
unfolding results
read_err why = record { has = err_has read_results post_op_attributes why None (none_has fattr); short = omega (arith, err_short read_results post_op_attributes why None 88 (after_short None)) }

stable_has : (how : StableHow) → stable_how.Has (stability_told how)
unfolding word
stable_has Unstable = (omega arith, refl)
stable_has DataSync = (omega arith, refl)
stable_has FileSync = (omega arith, refl)

pub write_ok : (version : FormatVersion) (c : Changed) (count : ℕ) (how : StableHow) (verifier : List ℕ) → change.Has (change_of version c) → count < 2 ^ 32 → length verifier ≡ 8 → IsResult (Write (Ok (write_of version count how verifier c)))
unfolding results write_results word
write_ok version c count how verifier h n long =
    let r = write_of version count how verifier c in
    let has : write_results.Has r = (h, (n, (stable_has how, verifier_has verifier long))) in
    record { has = ok_has write_results change r has; short = omega (arith, ok_short write_results change r 132 (write_short r long)) }

pub write_err : (why : NfsError) → IsResult (Write (Err (why, no_change)))
unfolding results
write_err why = record { has = err_has write_results change why no_change no_change_has; short = omega (arith, err_short write_results change why no_change 116 (change_short no_change)) }

pub create_ok : (version : FormatVersion) (f : Found) → given_handle.Has (found_handle f) → fattr.Has (fattr_of version f.file) → change.Has (unchanged_of version f.root) → IsResult (Create (Ok (create_of version f)))
unfolding results create_results
create_ok version f h file root =
    let has : create_results.Has (create_of version f) = (some_has given_handle (found_handle f) h, (some_has fattr (fattr_of version f.file) file, root)) in
    record { has = ok_has create_results change (create_of version f) has; short = omega (arith, ok_short create_results change (create_of version f) 224 (create_short (create_of version f))) }

pub create_err : (why : NfsError) → IsResult (Create (Err (why, no_change)))
unfolding results
create_err why = record { has = err_has create_results change why no_change no_change_has; short = omega (arith, err_short create_results change why no_change 116 (change_short no_change)) }

pub remove_ok : (c : Change) → change.Has c → IsResult (Remove (Ok c))
unfolding results
remove_ok c h = record { has = ok_has change change c h; short = omega (arith, ok_short change change c 116 (change_short c)) }

pub remove_err : (why : NfsError) → IsResult (Remove (Err (why, no_change)))
unfolding results
remove_err why = record { has = err_has change change why no_change no_change_has; short = omega (arith, err_short change change why no_change 116 (change_short no_change)) }

pub commit_ok : (version : FormatVersion) (a : Attributes) (verifier : List ℕ) → change.Has (unchanged_of version a) → length verifier ≡ 8 → IsResult (Commit (Ok (commit_of version verifier a)))
unfolding results commit_results
commit_ok version a verifier h long =
    let r = commit_of version verifier a in
    let has : commit_results.Has r = (h, verifier_has verifier long) in
    record { has = ok_has commit_results change r has; short = omega (arith, ok_short commit_results change r 124 (commit_short r long)) }

pub commit_err : (why : NfsError) → IsResult (Commit (Err (why, no_change)))
unfolding results
commit_err why = record { has = err_has commit_results change why no_change no_change_has; short = omega (arith, err_short commit_results change why no_change 116 (change_short no_change)) }

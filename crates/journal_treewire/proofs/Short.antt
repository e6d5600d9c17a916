-- How long results are.
use Rattle.std.proofs.Common.{◌≡◌, ℕ, ◌+◌, ◌<◌, ◌≤◌, ◌^◌, List, ◌++◌, length, Option, Some, None, Result, Ok, Err, refl, arith, length-append}
use Rattle.journal_xdr.specs.Items.{Item}
use Rattle.journal_xdr.specs.Basic.{word, hyper, boolean, fixed, opaque, string, optional}
use Rattle.journal_xdr.specs.BasicLaws.{length-word, length-hyper, length-boolean, opaque_short}
use Rattle.journal_nfs3_wire.specs.declared.results.NfsError.{NfsError}
use Rattle.journal_nfs3_wire.specs.Arguments.{time}
use Rattle.journal_nfs3_wire.specs.Results.{Fattr, fattr, post_op_attributes, Change, change, ReadResults, read_results, WriteResults, write_results, CommitResults, commit_results, outcome, nothing, error_number}
use Rattle.journal_nfs3_wire.specs.QueryResults.{AccessResults, access_results, StatusResults, status_results, InformationResults, information_results, ConfigurationResults, configuration_results}
use Rattle.journal_nfs3_wire.proofs.ResultFacts.{length-time, length-fattr, after_short, change_short, write_short, commit_short, ok_short, err_short}
use Rattle.journal_treewire.specs.Directories.{path}
use Rattle.journal_treewire.specs.Handles.{DiskHandle, disk_handle}
use Rattle.journal_treewire.specs.Results.{given_handle, FoundResults, found_results, LinkResults, link_results, MadeResults, made_results, TwoChanges, two_changes, refusal, file_and_change}

-- ---- parts

length-handle : (h : DiskHandle) → length (given_handle.spelling h) ≡ 20
unfolding given_handle opaque fixed disk_handle word hyper
length-handle h = refl

pub handle_short : (o : Option DiskHandle) → length ((optional given_handle).spelling o) ≤ 24
handle_short None = simp (length-append, length-boolean) (omega arith)
handle_short (Some h) = simp (length-append, length-boolean, length-handle) (omega arith)

found_short : (r : FoundResults) → length (found_results.spelling r) ≤ 196
unfolding found_results
found_short r =
    let object = given_handle.spelling r.object in
    let a = post_op_attributes.spelling r.attributes in
    let d = post_op_attributes.spelling r.directory in
    omega (arith, length-append object (a ++ d), length-append a d, length-handle r.object, after_short r.attributes, after_short r.directory)

link_short : (r : LinkResults) → length r.text ≤ 4095 → length (link_results.spelling r) ≤ 4200
unfolding link_results string
link_short r h = omega (arith, h, length-append (post_op_attributes.spelling r.attributes) (path.spelling r.text), after_short r.attributes, opaque_short 4294967295 r.text)

made_short : (r : MadeResults) → length (made_results.spelling r) ≤ 228
unfolding made_results
made_short r =
    let object = (optional given_handle).spelling r.object in
    let a = post_op_attributes.spelling r.attributes in
    let d = change.spelling r.directory in
    omega (arith, length-append object (a ++ d), length-append a d, handle_short r.object, after_short r.attributes, change_short r.directory)

two_changes_short : (c : TwoChanges) → length (two_changes.spelling c) ≤ 300
unfolding two_changes
two_changes_short c = omega (arith, length-append (change.spelling c.source) (change.spelling c.goal), change_short c.source, change_short c.goal)

access_short : (r : AccessResults) → length (access_results.spelling r) ≤ 92
unfolding access_results
access_short r = omega (arith, length-append (post_op_attributes.spelling r.attributes) (word.spelling r.granted), after_short r.attributes, length-word r.granted)

read_short : (r : ReadResults) → length r.bytes ≤ 65536 → length (read_results.spelling r) ≤ 66000
unfolding read_results
read_short r h =
    let a = post_op_attributes.spelling r.attributes in
    let n = word.spelling r.count in
    let e = boolean.spelling r.is_end in
    let b = (opaque 4294967295).spelling r.bytes in
    omega (arith, h, length-append a (n ++ (e ++ b)), length-append n (e ++ b), length-append e b, after_short r.attributes, length-word r.count, length-boolean r.is_end, opaque_short 4294967295 r.bytes)

status_short : (r : StatusResults) → length (status_results.spelling r) ≤ 140
unfolding status_results
status_short r =
    let a = post_op_attributes.spelling r.attributes in
    let b1 = hyper.spelling r.total_bytes in
    let b2 = hyper.spelling r.free_bytes in
    let b3 = hyper.spelling r.available_bytes in
    let f1 = hyper.spelling r.total_files in
    let f2 = hyper.spelling r.free_files in
    let f3 = hyper.spelling r.available_files in
    let s = word.spelling r.stays_for in
    omega (
      arith,
      length-append a (b1 ++ (b2 ++ (b3 ++ (f1 ++ (f2 ++ (f3 ++ s)))))),
      length-append b1 (b2 ++ (b3 ++ (f1 ++ (f2 ++ (f3 ++ s))))),
      length-append b2 (b3 ++ (f1 ++ (f2 ++ (f3 ++ s)))),
      length-append b3 (f1 ++ (f2 ++ (f3 ++ s))),
      length-append f1 (f2 ++ (f3 ++ s)),
      length-append f2 (f3 ++ s),
      length-append f3 s,
      after_short r.attributes,
      length-hyper r.total_bytes,
      length-hyper r.free_bytes,
      length-hyper r.available_bytes,
      length-hyper r.total_files,
      length-hyper r.free_files,
      length-hyper r.available_files,
      length-word r.stays_for,
    )

information_short : (r : InformationResults) → length (information_results.spelling r) ≤ 136
unfolding information_results
information_short r =
    let a = post_op_attributes.spelling r.attributes in
    let w1 = word.spelling r.read_most in
    let w2 = word.spelling r.read_best in
    let w3 = word.spelling r.read_multiple in
    let w4 = word.spelling r.write_most in
    let w5 = word.spelling r.write_best in
    let w6 = word.spelling r.write_multiple in
    let w7 = word.spelling r.list_best in
    let f = hyper.spelling r.file_most in
    let t = time.spelling r.time_delta in
    let p = word.spelling r.properties in
    omega (
      arith,
      length-append a (w1 ++ (w2 ++ (w3 ++ (w4 ++ (w5 ++ (w6 ++ (w7 ++ (f ++ (t ++ p))))))))),
      length-append w1 (w2 ++ (w3 ++ (w4 ++ (w5 ++ (w6 ++ (w7 ++ (f ++ (t ++ p)))))))),
      length-append w2 (w3 ++ (w4 ++ (w5 ++ (w6 ++ (w7 ++ (f ++ (t ++ p))))))),
      length-append w3 (w4 ++ (w5 ++ (w6 ++ (w7 ++ (f ++ (t ++ p)))))),
      length-append w4 (w5 ++ (w6 ++ (w7 ++ (f ++ (t ++ p))))),
      length-append w5 (w6 ++ (w7 ++ (f ++ (t ++ p)))),
      length-append w6 (w7 ++ (f ++ (t ++ p))),
      length-append w7 (f ++ (t ++ p)),
      length-append f (t ++ p),
      length-append t p,
      after_short r.attributes,
      length-word r.read_most,
      length-word r.read_best,
      length-word r.read_multiple,
      length-word r.write_most,
      length-word r.write_best,
      length-word r.write_multiple,
      length-word r.list_best,
      length-hyper r.file_most,
      length-time r.time_delta,
      length-word r.properties,
    )

configuration_short : (r : ConfigurationResults) → length (configuration_results.spelling r) ≤ 112
unfolding configuration_results
configuration_short r =
    let a = post_op_attributes.spelling r.attributes in
    let l = word.spelling r.links_most in
    let n = word.spelling r.name_most in
    let t1 = boolean.spelling r.refuses_longer in
    let t2 = boolean.spelling r.keeps_owners in
    let t3 = boolean.spelling r.ignores_case in
    let t4 = boolean.spelling r.keeps_case in
    omega (
      arith,
      length-append a (l ++ (n ++ (t1 ++ (t2 ++ (t3 ++ t4))))),
      length-append l (n ++ (t1 ++ (t2 ++ (t3 ++ t4)))),
      length-append n (t1 ++ (t2 ++ (t3 ++ t4))),
      length-append t1 (t2 ++ (t3 ++ t4)),
      length-append t2 (t3 ++ t4),
      length-append t3 t4,
      after_short r.attributes,
      length-word r.links_most,
      length-word r.name_most,
      length-boolean r.refuses_longer,
      length-boolean r.keeps_owners,
      length-boolean r.ignores_case,
      length-boolean r.keeps_case,
    )

-- ---- outcomes

outcome_short : {A B : Type 0} (ok : Item A) (refused : Item B) (most : ℕ) → ((v : A) → length (ok.spelling v) ≤ most) → ((b : B) → length (refused.spelling b) ≤ most) → (r : Result A (NfsError × B)) → length ((outcome ok refused).spelling r) ≤ 4 + most
outcome_short ok refused most ho hr (Ok v) = ok_short ok refused v most (ho v)
outcome_short ok refused most ho hr (Err why) = err_short ok refused why.0 why.1 most (hr why.1)

abbrev IsShort : List ℕ → Type 0
IsShort text = length text < 2 ^ 30

after_few : (o : Option Fattr) → length (post_op_attributes.spelling o) ≤ 300
after_few o = omega (arith, after_short o)

change_few : (c : Change) → length (change.spelling c) ≤ 300
change_few c = omega (arith, change_short c)

pub attributes_result : (r : Result Fattr (NfsError × Unit {0})) → IsShort ((outcome fattr nothing).spelling r)
attributes_result r = omega (arith, outcome_short fattr nothing 300 (λ f. omega (arith, length-fattr f)) (λ u. omega arith) r)

pub changed_result : (r : Result Change (NfsError × Change)) → IsShort ((outcome change change).spelling r)
changed_result r = omega (arith, outcome_short change change 300 change_few change_few r)

pub found_result : (r : Result FoundResults (NfsError × Option Fattr)) → IsShort ((outcome found_results post_op_attributes).spelling r)
found_result r = omega (arith, outcome_short found_results post_op_attributes 300 (λ f. omega (arith, found_short f)) after_few r)

pub access_result : (r : Result AccessResults (NfsError × Option Fattr)) → IsShort ((outcome access_results post_op_attributes).spelling r)
access_result r = omega (arith, outcome_short access_results post_op_attributes 300 (λ f. omega (arith, access_short f)) after_few r)

pub made_result : (r : Result MadeResults (NfsError × Change)) → IsShort ((outcome made_results change).spelling r)
made_result r = omega (arith, outcome_short made_results change 300 (λ f. omega (arith, made_short f)) change_few r)

pub renamed_result : (r : Result TwoChanges (NfsError × TwoChanges)) → IsShort ((outcome two_changes two_changes).spelling r)
renamed_result r = omega (arith, outcome_short two_changes two_changes 300 two_changes_short two_changes_short r)

pub status_result : (r : Result StatusResults (NfsError × Option Fattr)) → IsShort ((outcome status_results post_op_attributes).spelling r)
status_result r = omega (arith, outcome_short status_results post_op_attributes 300 (λ f. omega (arith, status_short f)) after_few r)

pub information_result : (r : Result InformationResults (NfsError × Option Fattr)) → IsShort ((outcome information_results post_op_attributes).spelling r)
information_result r = omega (arith, outcome_short information_results post_op_attributes 300 (λ f. omega (arith, information_short f)) after_few r)

pub configuration_result : (r : Result ConfigurationResults (NfsError × Option Fattr)) → IsShort ((outcome configuration_results post_op_attributes).spelling r)
configuration_result r = omega (arith, outcome_short configuration_results post_op_attributes 300 (λ f. omega (arith, configuration_short f)) after_few r)

refusal_short : {A : Type 0} (a : Item A) (why : NfsError) (v : A) → length (a.spelling v) ≤ 300 → IsShort ((refusal a).spelling (Some why, v))
refusal_short a why v h = omega (arith, h, length-append (word.spelling (error_number why)) (a.spelling v), length-word (error_number why))

pub linked_result : (why : NfsError) (c : Option Fattr × Change) → IsShort ((refusal file_and_change).spelling (Some why, c))
linked_result why c = refusal_short file_and_change why c (omega (arith, length-append (post_op_attributes.spelling c.0) (change.spelling c.1), after_short c.0, change_short c.1))

-- ---- with the text of a link, with bytes of a file, with a verifier, and with lines

pub refused_link : (why : NfsError) → IsShort ((outcome link_results post_op_attributes).spelling (Err (why, None)))
refused_link why = omega (arith, err_short link_results post_op_attributes why None 300 (after_few None))

pub link_result : (r : LinkResults) → length r.text ≤ 4095 → IsShort ((outcome link_results post_op_attributes).spelling (Ok r))
link_result r h = omega (arith, ok_short link_results post_op_attributes r 4200 (link_short r h))

pub refused_read : (why : NfsError) → IsShort ((outcome read_results post_op_attributes).spelling (Err (why, None)))
refused_read why = omega (arith, err_short read_results post_op_attributes why None 300 (after_few None))

pub part_result : (r : ReadResults) → length r.bytes ≤ 65536 → IsShort ((outcome read_results post_op_attributes).spelling (Ok r))
part_result r h = omega (arith, ok_short read_results post_op_attributes r 66000 (read_short r h))

pub written_ok : (w : WriteResults) → length w.verifier ≡ 8 → IsShort ((outcome write_results change).spelling (Ok w))
written_ok w h = omega (arith, ok_short write_results change w 132 (write_short w h))

pub written_err : (why : NfsError) (c : Change) → IsShort ((outcome write_results change).spelling (Err (why, c)))
written_err why c = omega (arith, err_short write_results change why c 300 (change_few c))

pub committed_ok : (w : CommitResults) → length w.verifier ≡ 8 → IsShort ((outcome commit_results change).spelling (Ok w))
committed_ok w h = omega (arith, ok_short commit_results change w 124 (commit_short w h))

pub committed_err : (why : NfsError) (c : Change) → IsShort ((outcome commit_results change).spelling (Err (why, c)))
committed_err why c = omega (arith, err_short commit_results change why c 300 (change_few c))

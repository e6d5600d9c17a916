-- Values whose numbers are in range are in the grammar.
use Rattle.std.proofs.Common.{◌≡◌, ℕ, ◌<◌, ◌≤◌, ◌^◌, List, [], ◌∷◌, length, take, Some, None, Ok, Err, refl, arith}
use Rattle.std.specs.Prelude.{map}
use Rattle.std.specs.List.{All, AllByRecursion}
use Rattle.std.proofs.lemmas.List.{length-take}
use Rattle.std.proofs.lemmas.List.Elements.{recursion_from_All}
use Rattle.journal_xdr.specs.Basic.{word, hyper, fixed, opaque, string}
use Rattle.journal_tree.specs.declared.time.Time.{Time}
use Rattle.journal_tree.specs.declared.reply.Kind.{Kind}
use Rattle.journal_tree.specs.declared.reply.Kind.TheVariants.{Directory, File, Link}
use Rattle.journal_tree.specs.declared.reply.Told.{Told}
use Rattle.journal_tree.specs.declared.reply.Changed.{Changed as TreeChanged}
use Rattle.journal_tree.specs.declared.reply.Found.{Found as TreeFound}
use Rattle.journal_tree.specs.declared.reply.Made.{Made as TreeMade}
use Rattle.journal_tree.specs.declared.reply.Renamed.{Renamed as TreeRenamed}
use Rattle.journal_tree.specs.declared.reply.Space.{Space}
use Rattle.journal_treecalls.specs.declared.attributes.AccessReply.{AccessReply}
use Rattle.journal_treecalls.specs.declared.facts.FactsReply.{FactsReply}
use Rattle.journal_treecalls.specs.declared.facts.NameFactsReply.{NameFactsReply}
use Rattle.journal_treecalls.specs.declared.lines.Line.{Line}
use Rattle.journal_treecalls.specs.Lines.{item_of, beside_of}
use Rattle.journal_nfs3_wire.specs.declared.arguments.StableHow.{StableHow}
use Rattle.journal_nfs3_wire.specs.declared.arguments.StableHow.TheVariants.{Unstable, DataSync, FileSync}
use Rattle.journal_nfs3_wire.specs.declared.results.NfsError.{NfsError}
use Rattle.journal_nfs3_wire.specs.Arguments.{time, name, stable_how}
use Rattle.journal_nfs3_wire.specs.QueryResults.{entry, access_results, page_results, status_results, information_results, configuration_results}
use Rattle.journal_nfs3_wire.specs.Results.{Fattr, fattr, before, post_op_attributes, Change, change, read_results, write_results, commit_results, outcome, status, nothing}
use Rattle.journal_nfs3_wire.specs.Profile.{no_change, stability_told}
use Rattle.journal_nfs3_wire.proofs.Fitting.{boolean_has, some_has, none_has, no_change_has, bytes_has, verifier_has, ok_has, err_has}
use Rattle.journal_nfs3_wire.proofs.WholeLaws.{is_whole}
use Rattle.journal_treewire.specs.declared.parts.FilePart.{FilePart}
use Rattle.journal_treewire.specs.declared.parts.Lines.{Lines}
use Rattle.journal_treewire.specs.declared.parts.ShortText.{ShortText}
use Rattle.journal_treewire.specs.CodeViews.{access_seen, link_seen, read_seen, line_seen, line_plus_seen, list_seen, list_plus_seen, information_seen, configuration_seen}
use Rattle.journal_treewire.specs.Handles.{DiskHandle, disk_handle}
use Rattle.journal_treewire.specs.Profile.{type_of, used_of, fattr_of, before_of, change_of, handle_of, found_of, write_of, made_of, renamed_of, no_changes, cookie_verifier, entry_of, entries_plus, status_of, word_of, commit_of}
use Rattle.journal_treewire.specs.Results.{given_handle, found_results, link_results, made_results, entry_plus, refusal, two_changes, file_and_change}
use Rattle.journal_treewire.specs.Values.{time_out}
use Rattle.journal_treewire.proofs.DirectoryLaws.{disk_handle_laws}

-- ---- a node

time_has : (t : Time) → t.secs < 2 ^ 32 → t.nanos < 2 ^ 32 → time.Has (time_out t)
unfolding time word
time_has t secs nanos = (secs, nanos)

type_few : (k : Kind) → type_of k < 2 ^ 32
type_few Directory = omega arith
type_few File = omega arith
type_few Link = omega arith

used_few : (size : ℕ) → used_of size < 2 ^ 64
used_few size = omega arith

pub fattr_has : (disk : ℕ) (t : Told) → disk < 2 ^ 64 → t.number < 2 ^ 32 → t.size < 2 ^ 64 → t.attributes.mode < 2 ^ 16 → t.attributes.owner < 2 ^ 32 → t.attributes.group < 2 ^ 32 → t.attributes.mtime.secs < 2 ^ 32 → t.attributes.mtime.nanos < 2 ^ 32
    → t.attributes.ctime.secs < 2 ^ 32 → t.attributes.ctime.nanos < 2 ^ 32 → fattr.Has (fattr_of disk t)
unfolding fattr word hyper
fattr_has disk t d number size mode owner group modified_secs modified_nanos changed_secs changed_nanos =
    let m : time.Has (time_out t.attributes.mtime) = time_has t.attributes.mtime modified_secs modified_nanos in
    let c : time.Has (time_out t.attributes.ctime) = time_has t.attributes.ctime changed_secs changed_nanos in
    (type_few t.kind, (omega arith, (omega arith, (owner, (group, (size, (used_few t.size, ((omega arith, omega arith), (d, (omega arith, (m, (m, c))))))))))))

pub before_has : (t : Told) → t.size < 2 ^ 64 → t.attributes.mtime.secs < 2 ^ 32 → t.attributes.mtime.nanos < 2 ^ 32 → t.attributes.ctime.secs < 2 ^ 32 → t.attributes.ctime.nanos < 2 ^ 32 → before.Has (before_of t)
unfolding before hyper
before_has t size modified_secs modified_nanos changed_secs changed_nanos = (size, (time_has t.attributes.mtime modified_secs modified_nanos, time_has t.attributes.ctime changed_secs changed_nanos))

-- ---- handles

disk_handle_has : (h : DiskHandle) → h.disk < 2 ^ 64 → h.handle.number < 2 ^ 32 → h.handle.generation < 2 ^ 32 → disk_handle.Has h
unfolding disk_handle word hyper
disk_handle_has h d n g = (d, (n, g))

short_has : (h : DiskHandle) → (opaque 64).Has (disk_handle.spelling h)
unfolding disk_handle word hyper opaque fixed
short_has h = ((omega arith, refl), refl)

pub handle_has : (h : DiskHandle) → h.disk < 2 ^ 64 → h.handle.number < 2 ^ 32 → h.handle.generation < 2 ^ 32 → given_handle.Has h
unfolding given_handle
handle_has h d n g = (short_has h, is_whole disk_handle disk_handle_laws (disk_handle.spelling h) h (record { has = disk_handle_has h d n g; is = refl }))

-- ---- the results of each procedure

pub attributes_ok : (f : Fattr) → fattr.Has f → (outcome fattr nothing).Has (Ok f)
attributes_ok f h = ok_has fattr nothing f h

pub attributes_err : (why : NfsError) → (outcome fattr nothing).Has (Err (why, tt))
attributes_err why = err_has fattr nothing why tt refl

pub changed_ok : (c : Change) → change.Has c → (outcome change change).Has (Ok c)
changed_ok c h = ok_has change change c h

pub changed_err : (why : NfsError) → (outcome change change).Has (Err (why, no_change))
changed_err why = err_has change change why no_change no_change_has

pub found_ok : (disk : ℕ) (f : TreeFound) → given_handle.Has (handle_of disk f.node.number f.generation) → fattr.Has (fattr_of disk f.node) → fattr.Has (fattr_of disk f.directory) → (outcome found_results post_op_attributes).Has (Ok (found_of disk f))
unfolding found_results
found_ok disk f h node directory = ok_has found_results post_op_attributes (found_of disk f) (h, (some_has fattr _ node, some_has fattr _ directory))

pub found_err : (why : NfsError) → (outcome found_results post_op_attributes).Has (Err (why, None))
found_err why = err_has found_results post_op_attributes why None (none_has fattr)

pub access_ok : (disk : ℕ) (a : AccessReply) → fattr.Has (fattr_of disk a.node) → a.rights < 2 ^ 32 → (outcome access_results post_op_attributes).Has (Ok (access_seen disk a))
unfolding access_results word
access_ok disk a node rights = ok_has access_results post_op_attributes (access_seen disk a) (some_has fattr _ node, rights)

pub access_err : (why : NfsError) → (outcome access_results post_op_attributes).Has (Err (why, None))
access_err why = err_has access_results post_op_attributes why None (none_has fattr)

status_some : (why : NfsError) → status.Has (Some why)
status_some why = let h = err_has fattr nothing why tt refl in h.0

pub link_ok : (disk : ℕ) (t : ShortText) → fattr.Has (fattr_of disk t.reply.node) → length t.reply.text.items ≤ 4095 → (outcome link_results post_op_attributes).Has (Ok (link_seen disk t))
unfolding link_results string
link_ok disk t node h =
    let few : length t.reply.text.items < 2 ^ 32 = omega (arith, h) in
    ok_has link_results post_op_attributes (link_seen disk t) (some_has fattr _ node, bytes_has t.reply.text.items few)

pub link_err : (why : NfsError) → (outcome link_results post_op_attributes).Has (Err (why, None))
link_err why = err_has link_results post_op_attributes why None (none_has fattr)

pub read_ok : (disk : ℕ) (p : FilePart) → fattr.Has (fattr_of disk p.reply.file) → length p.reply.bytes.items ≤ 65536 → (outcome read_results post_op_attributes).Has (Ok (read_seen disk p))
unfolding read_results word
read_ok disk p file h =
    let few : length p.reply.bytes.items < 2 ^ 32 = omega (arith, h) in
    ok_has read_results post_op_attributes (read_seen disk p) (some_has fattr _ file, (few, (boolean_has p.reply.is_end, bytes_has p.reply.bytes.items few)))

pub read_err : (why : NfsError) → (outcome read_results post_op_attributes).Has (Err (why, None))
read_err why = err_has read_results post_op_attributes why None (none_has fattr)

stable_has : (how : StableHow) → stable_how.Has (stability_told how)
unfolding word
stable_has Unstable = (omega arith, refl)
stable_has DataSync = (omega arith, refl)
stable_has FileSync = (omega arith, refl)

pub write_ok : (disk count : ℕ) (how : StableHow) (verifier : List ℕ) (c : TreeChanged) → count < 2 ^ 32 → change.Has (change_of disk c) → length verifier ≡ 8 → (outcome write_results change).Has (Ok (write_of disk count how verifier c))
unfolding write_results word
write_ok disk count how verifier c few changed long = ok_has write_results change (write_of disk count how verifier c) (changed, (few, (stable_has how, verifier_has verifier long)))

pub write_err : (why : NfsError) → (outcome write_results change).Has (Err (why, no_change))
write_err why = err_has write_results change why no_change no_change_has

pub made_ok : (disk : ℕ) (m : TreeMade) → given_handle.Has (handle_of disk m.node.number m.generation) → fattr.Has (fattr_of disk m.node) → change.Has (change_of disk m.directory) → (outcome made_results change).Has (Ok (made_of disk m))
unfolding made_results
made_ok disk m h node directory = ok_has made_results change (made_of disk m) (some_has given_handle _ h, (some_has fattr _ node, directory))

pub made_err : (why : NfsError) → (outcome made_results change).Has (Err (why, no_change))
made_err why = err_has made_results change why no_change no_change_has

pub renamed_ok : (disk : ℕ) (r : TreeRenamed) → change.Has (change_of disk r.source) → change.Has (change_of disk r.goal) → (outcome two_changes two_changes).Has (Ok (renamed_of disk r))
unfolding two_changes
renamed_ok disk r source goal = ok_has two_changes two_changes (renamed_of disk r) (source, goal)

no_changes_has : two_changes.Has no_changes
unfolding two_changes
no_changes_has = (no_change_has, no_change_has)

pub renamed_err : (why : NfsError) → (outcome two_changes two_changes).Has (Err (why, no_changes))
renamed_err why = err_has two_changes two_changes why no_changes no_changes_has

pub linked_has : (why : NfsError) → (refusal file_and_change).Has (Some why, (None, no_change))
linked_has why = (status_some why, (none_has fattr, no_change_has))

pub space_ok : (disk : ℕ) (s : Space) → fattr.Has (fattr_of disk s.node) → s.total_bytes < 2 ^ 64 → s.free_bytes < 2 ^ 64 → s.total_nodes < 2 ^ 64 → s.free_nodes < 2 ^ 64 → (outcome status_results post_op_attributes).Has (Ok (status_of disk s))
unfolding status_results word hyper
space_ok disk s node total free all rest = ok_has status_results post_op_attributes (status_of disk s) (some_has fattr _ node, (total, (free, (free, (all, (rest, (rest, omega arith)))))))

pub space_err : (why : NfsError) → (outcome status_results post_op_attributes).Has (Err (why, None))
space_err why = err_has status_results post_op_attributes why None (none_has fattr)

word_few : (n : ℕ) → word_of n < 2 ^ 32
word_few n = omega arith

pub information_ok : (disk : ℕ) (f : FactsReply) → fattr.Has (fattr_of disk f.node) → f.transfer < 2 ^ 32 → f.file < 2 ^ 64 → f.step_secs < 2 ^ 32 → f.step_nanos < 2 ^ 32 → f.properties < 2 ^ 32 → (outcome information_results post_op_attributes).Has (Ok (information_seen disk f))
unfolding information_results time word hyper
information_ok disk f node transfer file secs nanos properties =
    let m = word_few f.multiple in
    ok_has information_results post_op_attributes (information_seen disk f) (some_has fattr _ node, (transfer, (transfer, (m, (transfer, (transfer, (m, (transfer, (file, ((secs, nanos), properties))))))))))

pub information_err : (why : NfsError) → (outcome information_results post_op_attributes).Has (Err (why, None))
information_err why = err_has information_results post_op_attributes why None (none_has fattr)

pub configuration_ok : (disk : ℕ) (f : NameFactsReply) → fattr.Has (fattr_of disk f.node) → f.links < 2 ^ 32 → (outcome configuration_results post_op_attributes).Has (Ok (configuration_seen disk f))
unfolding configuration_results word
configuration_ok disk f node links =
    ok_has configuration_results post_op_attributes (configuration_seen disk f)
    (some_has fattr _ node, (links, (word_few f.name, (boolean_has f.refuses_long, (boolean_has f.owner_restricted, (boolean_has f.ignores_case, boolean_has f.keeps_case))))))

pub configuration_err : (why : NfsError) → (outcome configuration_results post_op_attributes).Has (Err (why, None))
configuration_err why = err_has configuration_results post_op_attributes why None (none_has fattr)

pub commit_ok : (disk : ℕ) (verifier : List ℕ) (c : TreeChanged) → change.Has (change_of disk c) → length verifier ≡ 8 → (outcome commit_results change).Has (Ok (commit_of disk verifier c))
unfolding commit_results
commit_ok disk verifier c changed long = ok_has commit_results change (commit_of disk verifier c) (changed, verifier_has verifier long)

pub commit_err : (why : NfsError) → (outcome commit_results change).Has (Err (why, no_change))
commit_err why = err_has commit_results change why no_change no_change_has

-- ---- lines

name_has : (n : ℕ) (bytes : List ℕ) → n < 2 ^ 8 → name.Has (take n bytes)
unfolding string
name_has n bytes few = bytes_has (take n bytes) (omega (arith, few, length-take n bytes))

pub entry_has : (l : Line) → l.number < 2 ^ 32 → l.name_bytes < 2 ^ 8 → l.cookie < 2 ^ 64 → entry.Has (line_seen l)
unfolding entry hyper
entry_has l number few cookie = (omega (arith, number), (name_has l.name_bytes l.name few, cookie))

pub plus_some : (disk : ℕ) (l : Line) (t : Told) → l.node ≡ Some t → entry.Has (line_seen l) → given_handle.Has (handle_of disk l.number l.generation) → fattr.Has (fattr_of disk t) → entry_plus.Has (line_plus_seen disk l)
unfolding entry_plus
plus_some disk l t is e h node = (e, (rw is (some_has fattr (fattr_of disk t) node), some_has given_handle _ h))

pub plus_none : (disk : ℕ) (l : Line) → l.node ≡ None → entry.Has (line_seen l) → given_handle.Has (handle_of disk l.number l.generation) → entry_plus.Has (line_plus_seen disk l)
unfolding entry_plus
plus_none disk l is e h = (e, (rw is (none_has fattr), some_has given_handle _ h))

each_has : (ls : List Line) → AllByRecursion (λ l. entry.Has (line_seen l)) ls → AllByRecursion entry.Has (map entry_of (map item_of ls))
each_has [] h = tt
each_has (l ∷ ls) h = (h.0, each_has ls h.1)

each_plus_has : (disk : ℕ) (ls : List Line) → AllByRecursion (λ l. entry_plus.Has (line_plus_seen disk l)) ls → AllByRecursion entry_plus.Has (entries_plus disk (map item_of ls) (map beside_of ls))
each_plus_has disk [] h = tt
each_plus_has disk (l ∷ ls) h = (h.0, each_plus_has disk ls h.1)

pub list_ok : (disk : ℕ) (l : Lines) → fattr.Has (fattr_of disk l.reply.directory) → All (λ x. entry.Has (line_seen x)) l.reply.lines.items → (outcome (page_results entry) post_op_attributes).Has (Ok (list_seen disk l))
unfolding page_results
list_ok disk l directory each =
    let ls = l.reply.lines.items in
    ok_has (page_results entry) post_op_attributes (list_seen disk l)
    (some_has fattr _ directory, (verifier_has cookie_verifier refl, (each_has ls (recursion_from_All _ ls each), boolean_has l.reply.is_end)))

pub list_plus_ok : (disk : ℕ) (l : Lines) → fattr.Has (fattr_of disk l.reply.directory) → All (λ x. entry_plus.Has (line_plus_seen disk x)) l.reply.lines.items → (outcome (page_results entry_plus) post_op_attributes).Has (Ok (list_plus_seen disk l))
unfolding page_results
list_plus_ok disk l directory each =
    let ls = l.reply.lines.items in
    ok_has (page_results entry_plus) post_op_attributes (list_plus_seen disk l)
    (some_has fattr _ directory, (verifier_has cookie_verifier refl, (each_plus_has disk ls (recursion_from_All _ ls each), boolean_has l.reply.is_end)))

pub list_err : (why : NfsError) → (outcome (page_results entry) post_op_attributes).Has (Err (why, None))
list_err why = err_has (page_results entry) post_op_attributes why None (none_has fattr)

pub list_plus_err : (why : NfsError) → (outcome (page_results entry_plus) post_op_attributes).Has (Err (why, None))
list_plus_err why = err_has (page_results entry_plus) post_op_attributes why None (none_has fattr)

-- What is told is short.
use Rattle.std.proofs.Common.{◌≡◌, ◌+◌, ◌<◌, ◌≤◌, ◌^◌, ◌++◌, length, None, Result, Ok, Err, subst, arith}
use Rattle.std.specs.Result.{ForOk}
use Rattle.std.proofs.lemmas.List.{length-append}
use Rattle.journal_xdr.specs.Items.{Item}
use Rattle.journal_xdr.specs.Basic.{word, hyper, boolean}
use Rattle.journal_xdr.specs.BasicLaws.{length-word, length-hyper, length-boolean}
use Rattle.journal_inode.specs.declared.version.FormatVersion.{FormatVersion}
use Rattle.journal_nfs3_wire.specs.declared.results.NfsError.{NfsError}
use Rattle.journal_nfs3_wire.specs.Arguments.{time}
use Rattle.journal_nfs3_wire.specs.Results.{post_op_attributes}
use Rattle.journal_nfs3_wire.specs.QueryResults.{entry, AccessResults, access_results, StatusResults, status_results, InformationResults, information_results, ConfigurationResults, configuration_results, page_results}
use Rattle.journal_nfs3_wire.proofs.ResultFacts.{length-time, after_short, ok_short, err_short}
use Rattle.journal_mount3.specs.declared.entry.PlainEntry as code_plain
use Rattle.journal_mount3.specs.declared.entry.PlusEntry as code_plus
use Rattle.journal_mount3.specs.declared.page.Listing.{Listing}
use Rattle.journal_rpc.specs.declared.replies.CallRefused.{CallRefused}
use Rattle.journal_mount3.specs.declared.results.Told as code_told
use Rattle.journal_mount3.specs.declared.results.QueryResults as code_query
use Rattle.journal_mount3.specs.declared.results.QueryResults.TheVariants as code_queries
use Rattle.journal_mount3.specs.Entries.{entry_plus}
use Rattle.journal_mount3.specs.Results.{told, query_text}
use Rattle.journal_mount3.specs.CodeViews.{listed_of, access_seen, status_seen, plain_entry_of, plus_entry_of, page_seen, query_results_of, told_text}
use Rattle.journal_mount3.specs.Served.{information_of, configuration_of}
use Rattle.journal_mount3.proofs.Lengths.{length-plain, length-plus, length-page}

access_short : (r : AccessResults) → length (access_results.spelling r) ≤ 92
unfolding access_results
access_short r = omega (arith, length-append (post_op_attributes.spelling r.attributes) (word.spelling r.granted), after_short r.attributes, length-word r.granted)

status_short : (r : StatusResults) → length (status_results.spelling r) ≤ 140
unfolding status_results
status_short r =
    let a = post_op_attributes.spelling r.attributes in
    let h1 = hyper.spelling r.total_bytes in
    let h2 = hyper.spelling r.free_bytes in
    let h3 = hyper.spelling r.available_bytes in
    let h4 = hyper.spelling r.total_files in
    let h5 = hyper.spelling r.free_files in
    let h6 = hyper.spelling r.available_files in
    let w = word.spelling r.stays_for in
    omega (
      arith,
      after_short r.attributes,
      length-append a (h1 ++ (h2 ++ (h3 ++ (h4 ++ (h5 ++ (h6 ++ w)))))),
      length-append h1 (h2 ++ (h3 ++ (h4 ++ (h5 ++ (h6 ++ w))))),
      length-append h2 (h3 ++ (h4 ++ (h5 ++ (h6 ++ w)))),
      length-append h3 (h4 ++ (h5 ++ (h6 ++ w))),
      length-append h4 (h5 ++ (h6 ++ w)),
      length-append h5 (h6 ++ w),
      length-append h6 w,
      length-hyper r.total_bytes,
      length-hyper r.free_bytes,
      length-hyper r.available_bytes,
      length-hyper r.total_files,
      length-hyper r.free_files,
      length-hyper r.available_files,
      length-word r.stays_for,
    )

information_short : (r : InformationResults) → length (information_results.spelling r) ≤ 140
unfolding information_results
information_short r =
    let a = post_op_attributes.spelling r.attributes in
    let w1 = word.spelling r.read_most in
    let w2 = word.spelling r.read_best in
    let w3 = word.spelling r.read_multiple in
    let w4 = word.spelling r.write_most in
    let w5 = word.spelling r.write_best in
    let w6 = word.spelling r.write_multiple in
    let w7 = word.spelling r.list_best in
    let h = hyper.spelling r.file_most in
    let t = time.spelling r.time_delta in
    let p = word.spelling r.properties in
    omega (
      arith,
      after_short r.attributes,
      length-append a (w1 ++ (w2 ++ (w3 ++ (w4 ++ (w5 ++ (w6 ++ (w7 ++ (h ++ (t ++ p))))))))),
      length-append w1 (w2 ++ (w3 ++ (w4 ++ (w5 ++ (w6 ++ (w7 ++ (h ++ (t ++ p)))))))),
      length-append w2 (w3 ++ (w4 ++ (w5 ++ (w6 ++ (w7 ++ (h ++ (t ++ p))))))),
      length-append w3 (w4 ++ (w5 ++ (w6 ++ (w7 ++ (h ++ (t ++ p)))))),
      length-append w4 (w5 ++ (w6 ++ (w7 ++ (h ++ (t ++ p))))),
      length-append w5 (w6 ++ (w7 ++ (h ++ (t ++ p)))),
      length-append w6 (w7 ++ (h ++ (t ++ p))),
      length-append w7 (h ++ (t ++ p)),
      length-append h (t ++ p),
      length-append t p,
      length-word r.read_most,
      length-word r.read_best,
      length-word r.read_multiple,
      length-word r.write_most,
      length-word r.write_best,
      length-word r.write_multiple,
      length-word r.list_best,
      length-hyper r.file_most,
      length-time r.time_delta,
      length-word r.properties,
    )

configuration_short : (r : ConfigurationResults) → length (configuration_results.spelling r) ≤ 112
unfolding configuration_results
configuration_short r =
    let a = post_op_attributes.spelling r.attributes in
    let w1 = word.spelling r.links_most in
    let w2 = word.spelling r.name_most in
    let b1 = boolean.spelling r.refuses_longer in
    let b2 = boolean.spelling r.keeps_owners in
    let b3 = boolean.spelling r.ignores_case in
    let b4 = boolean.spelling r.keeps_case in
    omega (
      arith,
      after_short r.attributes,
      length-append a (w1 ++ (w2 ++ (b1 ++ (b2 ++ (b3 ++ b4))))),
      length-append w1 (w2 ++ (b1 ++ (b2 ++ (b3 ++ b4)))),
      length-append w2 (b1 ++ (b2 ++ (b3 ++ b4))),
      length-append b1 (b2 ++ (b3 ++ b4)),
      length-append b2 (b3 ++ b4),
      length-append b3 b4,
      length-word r.links_most,
      length-word r.name_most,
      length-boolean r.refuses_longer,
      length-boolean r.keeps_owners,
      length-boolean r.ignores_case,
      length-boolean r.keeps_case,
    )

refused_short : {A : Type 0} (a : Item A) (why : NfsError) → length ((told a).spelling (Err (why, None))) ≤ 92
refused_short a why = err_short a post_op_attributes why None 88 (after_short None)

plain_page_short : (l : Listing code_plain.PlainEntry) → length ((page_results entry).spelling (page_seen plain_entry_of l)) ≤ 70000
plain_page_short l =
    let long = length-page entry plain_entry_of 24 (λ e. length-plain (listed_of e.0)) l.entries.items l.is_end in
    omega (arith, long, l.few)

plus_page_short : (l : Listing code_plus.PlusEntry) → length ((page_results entry_plus).spelling (page_seen plus_entry_of l)) ≤ 70000
plus_page_short l =
    let long = length-page entry_plus plus_entry_of 132 (λ e. length-plus e.version (listed_of e.entry)) l.entries.items l.is_end in
    omega (arith, long, l.few)

pub query_short : (version : FormatVersion) (r : code_query.QueryResults) → length (query_text (query_results_of version r)) < 2 ^ 30
query_short version (code_queries.Access (Ok g)) = omega (arith, ok_short access_results post_op_attributes (access_seen version g) 92 (access_short (access_seen version g)))
query_short version (code_queries.Access (Err why)) = omega (arith, refused_short access_results why)
query_short version (code_queries.ReadDirectory (Ok l)) = omega (arith, ok_short (page_results entry) post_op_attributes (page_seen plain_entry_of l) 70000 (plain_page_short l))
query_short version (code_queries.ReadDirectory (Err why)) = omega (arith, refused_short (page_results entry) why)
query_short version (code_queries.ReadDirectoryPlus (Ok l)) = omega (arith, ok_short (page_results entry_plus) post_op_attributes (page_seen plus_entry_of l) 70000 (plus_page_short l))
query_short version (code_queries.ReadDirectoryPlus (Err why)) = omega (arith, refused_short (page_results entry_plus) why)
query_short version (code_queries.FileSystemStatus (Ok s)) = omega (arith, ok_short status_results post_op_attributes (status_seen version s) 140 (status_short (status_seen version s)))
query_short version (code_queries.FileSystemStatus (Err why)) = omega (arith, refused_short status_results why)
query_short version (code_queries.FileSystemInformation (Ok a)) = omega (arith, ok_short information_results post_op_attributes (information_of version a) 140 (information_short (information_of version a)))
query_short version (code_queries.FileSystemInformation (Err why)) = omega (arith, refused_short information_results why)
query_short version (code_queries.PathConfiguration (Ok a)) = omega (arith, ok_short configuration_results post_op_attributes (configuration_of version a) 112 (configuration_short (configuration_of version a)))
query_short version (code_queries.PathConfiguration (Err why)) = omega (arith, refused_short configuration_results why)

told_is : (a b : code_told.Told) → ◌≡◌ {A = Result code_told.Told CallRefused} (Ok a) (Ok b) → a ≡ b
told_is a b e = cc

-- the same of an outcome
pub short_so : (told : code_told.Told) → length (told_text told) < 2 ^ 30 → ForOk {E = CallRefused} (Ok told) (λ (t : code_told.Told). length (told_text t) < 2 ^ 30)
short_so told h = λ x is. subst (λ (t : code_told.Told). length (told_text t) < 2 ^ 30) (told_is told x is) h

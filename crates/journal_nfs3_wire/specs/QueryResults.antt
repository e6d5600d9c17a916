-- The answers of queries, as items (RFC 1813, sections 3.3.4 and 3.3.16 to 3.3.20).
use Rattle.std.specs.Prelude.{ℕ, Bool, List, Option, Result}
use Rattle.journal_xdr.specs.Items.{Item, pair, mapped_item}
use Rattle.journal_xdr.specs.Basic.{word, hyper, boolean, fixed}
use Rattle.journal_xdr.specs.Lists.{list}
use Rattle.journal_inode.specs.declared.node.Time.{Time}
use Rattle.journal_nfs3_wire.specs.Arguments.{name, time}
use Rattle.journal_nfs3_wire.specs.Results.{Fattr, post_op_attributes}

-- entry3
pub record Entry : Type 0 where
  pub fileid : ℕ
  pub called : List ℕ
  pub cookie : ℕ

unfoldable pub entry : Item Entry
entry = mapped_item (pair hyper (pair name hyper)) (λ p. record { fileid = p.0; called = p.1.0; cookie = p.1.1 }) (λ e. (e.fileid, (e.called, e.cookie)))

-- ACCESS3resok
pub record AccessResults : Type 0 where
  pub attributes : Option Fattr
  pub granted : ℕ

unfoldable pub access_results : Item AccessResults
access_results = mapped_item (pair post_op_attributes word) (λ p. record { attributes = p.0; granted = p.1 }) (λ r. (r.attributes, r.granted))

-- READDIR3resok and READDIRPLUS3resok, by the form of their entries
pub record PageResults (E : Type 0) : Type 0 where
  pub attributes : Option Fattr
  pub verifier : List ℕ
  pub entries : List E
  pub is_end : Bool

unfoldable pub page_results : {E : Type 0} → Item E → Item (PageResults E)
page_results {E} element = mapped_item (pair post_op_attributes (pair (fixed 8) (pair (list element) boolean)))
    (λ p. record { attributes = p.0; verifier = p.1.0; entries = p.1.1.0; is_end = p.1.1.1 })
    (λ r. (r.attributes, (r.verifier, (r.entries, r.is_end))))

-- FSSTAT3resok
pub record StatusResults : Type 0 where
  pub attributes : Option Fattr
  pub total_bytes : ℕ
  pub free_bytes : ℕ
  pub available_bytes : ℕ
  pub total_files : ℕ
  pub free_files : ℕ
  pub available_files : ℕ
  pub stays_for : ℕ

unfoldable pub status_results : Item StatusResults
status_results = mapped_item (pair post_op_attributes (pair hyper (pair hyper (pair hyper (pair hyper (pair hyper (pair hyper word)))))))
    (λ p. record { attributes = p.0; total_bytes = p.1.0; free_bytes = p.1.1.0; available_bytes = p.1.1.1.0; total_files = p.1.1.1.1.0; free_files = p.1.1.1.1.1.0; available_files = p.1.1.1.1.1.1.0; stays_for = p.1.1.1.1.1.1.1 })
    (λ r. (r.attributes, (r.total_bytes, (r.free_bytes, (r.available_bytes, (r.total_files, (r.free_files, (r.available_files, r.stays_for))))))))

-- FSINFO3resok: the most and the best number of bytes of a READ and a WRITE, and of what they
-- should be multiples, and the best of a listing
pub record InformationResults : Type 0 where
  pub attributes : Option Fattr
  pub read_most : ℕ
  pub read_best : ℕ
  pub read_multiple : ℕ
  pub write_most : ℕ
  pub write_best : ℕ
  pub write_multiple : ℕ
  pub list_best : ℕ
  pub file_most : ℕ
  pub time_delta : Time
  pub properties : ℕ

unfoldable pub information_results : Item InformationResults
information_results = mapped_item (pair post_op_attributes (pair word (pair word (pair word (pair word (pair word (pair word (pair word (pair hyper (pair time word))))))))))
    (λ p. record { attributes = p.0; read_most = p.1.0; read_best = p.1.1.0; read_multiple = p.1.1.1.0; write_most = p.1.1.1.1.0; write_best = p.1.1.1.1.1.0; write_multiple = p.1.1.1.1.1.1.0; list_best = p.1.1.1.1.1.1.1.0; file_most = p.1.1.1.1.1.1.1.1.0; time_delta = p.1.1.1.1.1.1.1.1.1.0; properties = p.1.1.1.1.1.1.1.1.1.1 })
    (λ r. (r.attributes, (r.read_most, (r.read_best, (r.read_multiple, (r.write_most, (r.write_best, (r.write_multiple, (r.list_best, (r.file_most, (r.time_delta, r.properties)))))))))))

-- PATHCONF3resok
pub record ConfigurationResults : Type 0 where
  pub attributes : Option Fattr
  pub links_most : ℕ
  pub name_most : ℕ
  pub refuses_longer : Bool
  pub keeps_owners : Bool
  pub ignores_case : Bool
  pub keeps_case : Bool

unfoldable pub configuration_results : Item ConfigurationResults
configuration_results = mapped_item (pair post_op_attributes (pair word (pair word (pair boolean (pair boolean (pair boolean boolean))))))
    (λ p. record { attributes = p.0; links_most = p.1.0; name_most = p.1.1.0; refuses_longer = p.1.1.1.0; keeps_owners = p.1.1.1.1.0; ignores_case = p.1.1.1.1.1.0; keeps_case = p.1.1.1.1.1.1 })
    (λ r. (r.attributes, (r.links_most, (r.name_most, (r.refuses_longer, (r.keeps_owners, (r.ignores_case, r.keeps_case)))))))

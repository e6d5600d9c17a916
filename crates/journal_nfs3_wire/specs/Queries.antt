-- Queries: procedures that only read, and their arguments as items (RFC 1813, sections
-- 3.3.4 and 3.3.16 to 3.3.20).
use Rattle.std.specs.Prelude.{◌≡◌, refl, ℕ, List, [], ◌∷◌, Option, Some, None}
use Rattle.journal_xdr.specs.Items.{Item, pair, mapped_item, variant}
use Rattle.journal_xdr.specs.Basic.{word, hyper, fixed, listed}
use Rattle.journal_xdr.specs.BasicLaws.{listed_back}
use Rattle.journal_nfs3_wire.specs.Arguments.{handle}
use Rattle.journal_nfs3_wire.specs.declared.query.QueryProcedure.{QueryProcedure}
use Rattle.journal_nfs3_wire.specs.declared.query.QueryProcedure.TheVariants as query_procedure
use Rattle.journal_nfs3_wire.specs.declared.query.PageArguments as code_page
use Rattle.journal_nfs3_wire.specs.declared.query.PagePlusArguments as code_page_plus
use Rattle.journal_nfs3_wire.specs.declared.query.Query as code_query
use Rattle.journal_nfs3_wire.specs.declared.query.Query.TheVariants as code_queries

abbrev pub query_procedures : List (ℕ × QueryProcedure)
query_procedures =
    (4, query_procedure.Access) ∷ (16, query_procedure.ReadDirectory) ∷ (17, query_procedure.ReadDirectoryPlus) ∷ (18, query_procedure.FileSystemStatus) ∷ (19, query_procedure.FileSystemInformation) ∷ (20, query_procedure.PathConfiguration) ∷ []

abbrev pub query_procedure_of : ℕ → Option QueryProcedure
query_procedure_of n = listed query_procedures n

abbrev pub query_procedure_number : QueryProcedure → ℕ
query_procedure_number query_procedure.Access = 4
query_procedure_number query_procedure.ReadDirectory = 16
query_procedure_number query_procedure.ReadDirectoryPlus = 17
query_procedure_number query_procedure.FileSystemStatus = 18
query_procedure_number query_procedure.FileSystemInformation = 19
query_procedure_number query_procedure.PathConfiguration = 20

pub query_procedure_is : (p : QueryProcedure) → query_procedure_of (query_procedure_number p) ≡ Some p
query_procedure_is query_procedure.Access = refl
query_procedure_is query_procedure.ReadDirectory = refl
query_procedure_is query_procedure.ReadDirectoryPlus = refl
query_procedure_is query_procedure.FileSystemStatus = refl
query_procedure_is query_procedure.FileSystemInformation = refl
query_procedure_is query_procedure.PathConfiguration = refl

pub query_procedure_back : (n : ℕ) (p : QueryProcedure) → query_procedure_of n ≡ Some p → query_procedure_number p ≡ n
query_procedure_back = listed_back query_procedure_number query_procedures (refl, (refl, (refl, (refl, (refl, (refl, tt))))))

-- ---- arguments

-- READDIR3args: the lines after a cookie, in results of at most count bytes after their status
pub record Page : Type 0 where
  pub directory : List ℕ
  pub cookie : ℕ
  pub verifier : List ℕ
  pub count : ℕ

unfoldable pub page : Item Page
page = mapped_item (pair handle (pair hyper (pair (fixed 8) word)))
    (λ p. record { directory = p.0; cookie = p.1.0; verifier = p.1.1.0; count = p.1.1.1 })
    (λ a. (a.directory, (a.cookie, (a.verifier, a.count))))

-- READDIRPLUS3args: the same, with at most names_count bytes of numbers, names and cookies
pub record PagePlus : Type 0 where
  pub directory : List ℕ
  pub cookie : ℕ
  pub verifier : List ℕ
  pub names_count : ℕ
  pub count : ℕ

unfoldable pub page_plus : Item PagePlus
page_plus = mapped_item (pair handle (pair hyper (pair (fixed 8) (pair word word))))
    (λ p. record { directory = p.0; cookie = p.1.0; verifier = p.1.1.0; names_count = p.1.1.1.0; count = p.1.1.1.1 })
    (λ a. (a.directory, (a.cookie, (a.verifier, (a.names_count, a.count)))))

-- A call that only reads
pub data Query : Type 0 where
  Access : List ℕ → (asked : ℕ) → Query
  ReadDirectory : Page → Query
  ReadDirectoryPlus : PagePlus → Query
  FileSystemStatus : List ℕ → Query
  FileSystemInformation : List ℕ → Query
  PathConfiguration : List ℕ → Query

abbrev pub access_part : Query → Option (List ℕ × ℕ)
access_part (Access h asked) = Some (h, asked)
access_part _ = None

abbrev pub read_directory_part : Query → Option Page
read_directory_part (ReadDirectory p) = Some p
read_directory_part _ = None

abbrev pub read_directory_plus_part : Query → Option PagePlus
read_directory_plus_part (ReadDirectoryPlus p) = Some p
read_directory_plus_part _ = None

abbrev pub status_part : Query → Option (List ℕ)
status_part (FileSystemStatus h) = Some h
status_part _ = None

abbrev pub information_part : Query → Option (List ℕ)
information_part (FileSystemInformation h) = Some h
information_part _ = None

abbrev pub configuration_part : Query → Option (List ℕ)
configuration_part (PathConfiguration h) = Some h
configuration_part _ = None

unfoldable pub query_arguments : QueryProcedure → Item Query
query_arguments query_procedure.Access = variant (pair handle word) (λ p. Access p.0 p.1) access_part
query_arguments query_procedure.ReadDirectory = variant page (λ p. ReadDirectory p) read_directory_part
query_arguments query_procedure.ReadDirectoryPlus = variant page_plus (λ p. ReadDirectoryPlus p) read_directory_plus_part
query_arguments query_procedure.FileSystemStatus = variant handle (λ h. FileSystemStatus h) status_part
query_arguments query_procedure.FileSystemInformation = variant handle (λ h. FileSystemInformation h) information_part
query_arguments query_procedure.PathConfiguration = variant handle (λ h. PathConfiguration h) configuration_part

-- ---- what the code's values stand for, whatever memory they are lent

abbrev pub page_of : code_page.PageArguments → Page
page_of a = record { directory = a.handle.now; cookie = a.cookie; verifier = a.verifier.now; count = a.count }

abbrev pub page_plus_of : code_page_plus.PagePlusArguments → PagePlus
page_plus_of a = record { directory = a.handle.now; cookie = a.cookie; verifier = a.verifier.now; names_count = a.names_count; count = a.count }

abbrev pub query_of : code_query.Query → Query
query_of (code_queries.Access h asked) = Access h.now asked
query_of (code_queries.ReadDirectory p) = ReadDirectory (page_of p)
query_of (code_queries.ReadDirectoryPlus p) = ReadDirectoryPlus (page_plus_of p)
query_of (code_queries.FileSystemStatus h) = FileSystemStatus h.now
query_of (code_queries.FileSystemInformation h) = FileSystemInformation h.now
query_of (code_queries.PathConfiguration h) = PathConfiguration h.now

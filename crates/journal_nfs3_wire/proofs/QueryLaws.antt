-- The laws of the items of queries.
use Rattle.std.proofs.Common.{◌≡◌, ℕ, refl, Option, Some, List}
use Rattle.journal_xdr.specs.Items.{Item, IsGrammar}
use Rattle.journal_xdr.specs.ItemLaws.{pair_laws, made_laws, some_is, variant_laws}
use Rattle.journal_xdr.specs.BasicLaws.{word_laws, hyper_laws, boolean_laws, fixed_laws, opaque_laws, string_laws}
use Rattle.journal_xdr.specs.ListLaws.{list_laws}
use Rattle.journal_nfs3_wire.specs.declared.query.QueryProcedure.{QueryProcedure}
use Rattle.journal_nfs3_wire.specs.declared.query.QueryProcedure.TheVariants as query_procedure
use Rattle.journal_nfs3_wire.specs.Queries.{Page, page, PagePlus, page_plus, Query, Access, ReadDirectory, ReadDirectoryPlus, FileSystemStatus, FileSystemInformation, PathConfiguration, access_part, read_directory_part, read_directory_plus_part, status_part, information_part, configuration_part, query_arguments}
use Rattle.journal_nfs3_wire.specs.QueryResults.{entry, access_results, page_results, status_results, information_results, configuration_results}
use Rattle.journal_nfs3_wire.proofs.ArgumentLaws.{time_laws}
use Rattle.journal_nfs3_wire.proofs.ResultLaws.{after_laws}

page_laws : IsGrammar page
unfolding page
page_laws = made_laws _ _ _ (pair_laws _ _ (opaque_laws 64) (pair_laws _ _ hyper_laws (pair_laws _ _ (fixed_laws 8) word_laws))) (λ p. refl) (λ a. refl)

page_plus_laws : IsGrammar page_plus
unfolding page_plus
page_plus_laws = made_laws _ _ _ (pair_laws _ _ (opaque_laws 64) (pair_laws _ _ hyper_laws (pair_laws _ _ (fixed_laws 8) (pair_laws _ _ word_laws word_laws)))) (λ p. refl) (λ a. refl)

access_is : (v : Query) (p : List ℕ × ℕ) → access_part v ≡ Some p → Access p.0 p.1 ≡ v
access_is (Access h asked) p e = let is = some_is (h, asked) p e in rw (← is) refl
access_is _ p e = absurd cc

read_directory_is : (v : Query) (p : Page) → read_directory_part v ≡ Some p → ReadDirectory p ≡ v
read_directory_is (ReadDirectory q) p e = cc
read_directory_is _ p e = absurd cc

read_directory_plus_is : (v : Query) (p : PagePlus) → read_directory_plus_part v ≡ Some p → ReadDirectoryPlus p ≡ v
read_directory_plus_is (ReadDirectoryPlus q) p e = cc
read_directory_plus_is _ p e = absurd cc

status_is : (v : Query) (h : List ℕ) → status_part v ≡ Some h → FileSystemStatus h ≡ v
status_is (FileSystemStatus k) h e = cc
status_is _ h e = absurd cc

information_is : (v : Query) (h : List ℕ) → information_part v ≡ Some h → FileSystemInformation h ≡ v
information_is (FileSystemInformation k) h e = cc
information_is _ h e = absurd cc

configuration_is : (v : Query) (h : List ℕ) → configuration_part v ≡ Some h → PathConfiguration h ≡ v
configuration_is (PathConfiguration k) h e = cc
configuration_is _ h e = absurd cc

pub query_arguments_laws : (p : QueryProcedure) → IsGrammar (query_arguments p)
unfolding query_arguments
query_arguments_laws query_procedure.Access = variant_laws _ _ _ (pair_laws _ _ (opaque_laws 64) word_laws) (λ x. refl) access_is
query_arguments_laws query_procedure.ReadDirectory = variant_laws _ _ _ page_laws (λ x. refl) read_directory_is
query_arguments_laws query_procedure.ReadDirectoryPlus = variant_laws _ _ _ page_plus_laws (λ x. refl) read_directory_plus_is
query_arguments_laws query_procedure.FileSystemStatus = variant_laws _ _ _ (opaque_laws 64) (λ x. refl) status_is
query_arguments_laws query_procedure.FileSystemInformation = variant_laws _ _ _ (opaque_laws 64) (λ x. refl) information_is
query_arguments_laws query_procedure.PathConfiguration = variant_laws _ _ _ (opaque_laws 64) (λ x. refl) configuration_is

-- ---- results

pub entry_laws : IsGrammar entry
unfolding entry
entry_laws = made_laws _ _ _ (pair_laws _ _ hyper_laws (pair_laws _ _ (string_laws 4294967295) hyper_laws)) (λ p. refl) (λ e. refl)

pub access_results_laws : IsGrammar access_results
unfolding access_results
access_results_laws = made_laws _ _ _ (pair_laws _ _ after_laws word_laws) (λ p. refl) (λ r. refl)

pub page_results_laws : {E : Type 0} (element : Item E) → IsGrammar element → IsGrammar (page_results element)
unfolding page_results
page_results_laws element laws = made_laws _ _ _ (pair_laws _ _ after_laws (pair_laws _ _ (fixed_laws 8) (pair_laws _ _ (list_laws element laws) boolean_laws))) (λ p. refl) (λ r. refl)

pub status_results_laws : IsGrammar status_results
unfolding status_results
status_results_laws =
    let h = hyper_laws in
    made_laws _ _ _ (pair_laws _ _ after_laws (pair_laws _ _ h (pair_laws _ _ h (pair_laws _ _ h (pair_laws _ _ h (pair_laws _ _ h (pair_laws _ _ h word_laws))))))) (λ p. refl) (λ r. refl)

pub information_results_laws : IsGrammar information_results
unfolding information_results
information_results_laws =
    let w = word_laws in
    made_laws _ _ _ (pair_laws _ _ after_laws (pair_laws _ _ w (pair_laws _ _ w (pair_laws _ _ w (pair_laws _ _ w (pair_laws _ _ w (pair_laws _ _ w (pair_laws _ _ w (pair_laws _ _ hyper_laws (pair_laws _ _ time_laws w)))))))))) (λ p. refl) (λ r. refl)

pub configuration_results_laws : IsGrammar configuration_results
unfolding configuration_results
configuration_results_laws =
    let b = boolean_laws in
    made_laws _ _ _ (pair_laws _ _ after_laws (pair_laws _ _ word_laws (pair_laws _ _ word_laws (pair_laws _ _ b (pair_laws _ _ b (pair_laws _ _ b b)))))) (λ p. refl) (λ r. refl)

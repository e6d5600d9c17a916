-- The laws of the items of results that handles of 16 bytes are in.
use Rattle.std.proofs.Common.{refl, sym}
use Rattle.journal_xdr.specs.Items.{IsGrammar}
use Rattle.journal_xdr.specs.ItemLaws.{pair_laws, made_laws, coded_laws}
use Rattle.journal_xdr.specs.BasicLaws.{opaque_laws, string_laws, optional_laws}
use Rattle.journal_nfs3_wire.specs.QueryResults.{page_results}
use Rattle.journal_nfs3_wire.specs.Results.{post_op_attributes, change, outcome}
use Rattle.journal_nfs3_wire.specs.Whole.{whole}
use Rattle.journal_nfs3_wire.proofs.QueryLaws.{entry_laws, page_results_laws}
use Rattle.journal_nfs3_wire.proofs.ResultLaws.{after_laws, change_laws, outcome_laws}
use Rattle.journal_nfs3_wire.proofs.WholeLaws.{whole_is}
use Rattle.journal_treewire.specs.Handles.{disk_handle}
use Rattle.journal_treewire.specs.Results.{given_handle, found_results, link_results, made_results, two_changes, entry_plus}
use Rattle.journal_treewire.proofs.DirectoryLaws.{disk_handle_laws}

given_handle_laws : IsGrammar given_handle
unfolding given_handle
given_handle_laws = coded_laws _ (whole disk_handle) disk_handle.spelling (opaque_laws 64) (λ bytes h has e. let s = whole_is disk_handle disk_handle_laws bytes h e in sym s.is)

found_results_laws : IsGrammar found_results
unfolding found_results
found_results_laws = made_laws _ _ _ (pair_laws _ _ given_handle_laws (pair_laws _ _ after_laws after_laws)) (λ p. refl) (λ r. refl)

link_results_laws : IsGrammar link_results
unfolding link_results
link_results_laws = made_laws _ _ _ (pair_laws _ _ after_laws (string_laws 4294967295)) (λ p. refl) (λ r. refl)

made_results_laws : IsGrammar made_results
unfolding made_results
made_results_laws = made_laws _ _ _ (pair_laws _ _ (optional_laws given_handle given_handle_laws) (pair_laws _ _ after_laws change_laws)) (λ p. refl) (λ r. refl)

two_changes_laws : IsGrammar two_changes
unfolding two_changes
two_changes_laws = made_laws _ _ _ (pair_laws _ _ change_laws change_laws) (λ p. refl) (λ c. refl)

entry_plus_laws : IsGrammar entry_plus
unfolding entry_plus
entry_plus_laws = made_laws _ _ _ (pair_laws _ _ entry_laws (pair_laws _ _ after_laws (optional_laws given_handle given_handle_laws))) (λ p. refl) (λ e. refl)

pub found_laws : IsGrammar (outcome found_results post_op_attributes)
found_laws = outcome_laws found_results post_op_attributes found_results_laws after_laws

pub link_laws : IsGrammar (outcome link_results post_op_attributes)
link_laws = outcome_laws link_results post_op_attributes link_results_laws after_laws

pub made_results_outcome_laws : IsGrammar (outcome made_results change)
made_results_outcome_laws = outcome_laws made_results change made_results_laws change_laws

pub renamed_laws : IsGrammar (outcome two_changes two_changes)
renamed_laws = outcome_laws two_changes two_changes two_changes_laws two_changes_laws

pub plus_laws : IsGrammar (outcome (page_results entry_plus) post_op_attributes)
plus_laws = outcome_laws (page_results entry_plus) post_op_attributes (page_results_laws entry_plus entry_plus_laws) after_laws

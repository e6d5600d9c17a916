use Rattle.journal_nfs3_wire.proofs.QueryLaws.{query_arguments_laws, entry_laws, access_results_laws, page_results_laws, status_results_laws, information_results_laws, configuration_results_laws}
use Rattle.journal_nfs3_wire.proofs.laws.queries_are_spellings.Goals as goal

pub returns : goal.returns
returns g c = record {
  arguments = query_arguments_laws;
  line = entry_laws;
  access = access_results_laws;
  listing = λ laws. page_results_laws g.E.HasItem.item laws;
  status = status_results_laws;
  information = information_results_laws;
  configuration = configuration_results_laws;
}

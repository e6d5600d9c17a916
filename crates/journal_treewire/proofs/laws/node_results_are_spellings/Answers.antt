use Rattle.journal_treewire.proofs.ResultLaws.{found_laws, link_laws, made_results_outcome_laws, renamed_laws, plus_laws}
use Rattle.journal_treewire.proofs.laws.node_results_are_spellings.Goals as goal

pub returns : goal.returns
returns c = record { found = found_laws; text = link_laws; made = made_results_outcome_laws; renamed = renamed_laws; listing = plus_laws }

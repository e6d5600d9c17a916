use Rattle.journal_tree.proofs.Chains.{lists-all, lists-places}
use Rattle.journal_tree.proofs.law.listings_miss_nothing.Goals as goal

pub returns : goal.returns
returns c = record { lines = lists-all; places = lists-places }

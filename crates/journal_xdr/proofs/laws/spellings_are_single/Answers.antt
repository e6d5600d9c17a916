use Rattle.journal_xdr.specs.ItemLaws.{one_spelling}
use Rattle.journal_xdr.proofs.laws.spellings_are_single.Goals as goal

pub returns : goal.returns
returns g c = one_spelling g.A.HasItem.item

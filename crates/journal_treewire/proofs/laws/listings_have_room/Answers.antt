use Rattle.journal_treewire.proofs.ListLengths.{listings-fit, plus-listings-fit, plus-names-fit}
use Rattle.journal_treewire.proofs.laws.listings_have_room.Goals as goal

pub returns : goal.returns
returns c = record { plain = listings-fit; plus = plus-listings-fit; names = plus-names-fit }

use Rattle.journal_treewire.proofs.Bounds.{parts-are-short, texts-are-short, listings-are-few, plus-listings-are-few}
use Rattle.journal_treewire.proofs.laws.answers_are_bounded.Goals as goal

pub returns : goal.returns
returns c = record { parts = parts-are-short; texts = texts-are-short; plain = listings-are-few; plus = plus-listings-are-few }

use Rattle.std.proofs.Common.{◌≡◌, ◌<◌, ◌≤◌, ◌++◌, List, ℕ, length}
use Rattle.journal_rpc.specs.Stream.{after, waiting_limit, ExtendsStream}
use Rattle.journal_rpc.specs.declared.part.Part.TheVariants.{TooLong}
use Rattle.journal_rpc.proofs.records.Records.take_in.Given as goal

abbrev pub invariant-loop-self : goal.invariant-loop-self
invariant-loop-self l = record {
  told : (done : List ℕ) × (l.piece ≡ done ++ l.rest) × (l.self ≡ after l.fn.self done);
  few : length l.fn.self.records ≤ waiting_limit → length l.self.records ≤ waiting_limit;
  long : l.self.part ≡ TooLong → length l.fn.self.records < waiting_limit → length l.self.records < waiting_limit;
  grown : ExtendsStream l.fn.self l.self;
}

abbrev pub decreases-loop-self : goal.decreases-loop-self
decreases-loop-self l = length l.rest

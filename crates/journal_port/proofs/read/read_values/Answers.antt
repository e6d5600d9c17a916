use Rattle.std.proofs.Common.{IsTrue}
use Rattle.std.proofs.lemmas.List.Sorted.{All-permutation, IsPermutation-sym}
use Rattle.journal_world.specs.Addresses.{slot_of}
use Rattle.journal_twophase.specs.Transactions.{holds}
use Rattle.journal_port.proofs.Keeping.{trusted_later}
use Rattle.journal_port.proofs.read.read_values.Goals as goal

pub read_each-requires-clause-held : goal.read_each-requires-clause-held
read_each-requires-clause-held g c =
    All-permutation (λ a. IsTrue (holds c.take_slots.new.txn.held (slot_of g.J.Naming.layout a))) c.args.sorted.now c.args.addrs.now (IsPermutation-sym c.args.addrs.now c.args.sorted.now c.requires.permutation) c.in_ok-take_slots.ensures.held

pub returns-clause-reads : goal.returns-clause-reads
returns-clause-reads g c trusted = c.in_ok-values.ensures.reads (trusted_later c.args.txn.now.seen c.take_slots.new.txn.seen c.take_slots.ensures.later trusted)

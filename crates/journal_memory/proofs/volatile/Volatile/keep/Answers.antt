use Rattle.journal_memory.proofs.volatile.Volatile.keep.Goals as goal

pub returns : goal.returns
returns g c = record {
  event =
      record { others = c.keep_copies.ensures; kept = c.prove_invariant.ensures };
}

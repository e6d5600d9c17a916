use Rattle.journal_memory.proofs.volatile.Volatile.touch.Goals as goal

pub returns : goal.returns
returns g c = record {
  event =
      record { others = c.touch_copy.ensures; kept = c.prove_invariant.ensures };
}

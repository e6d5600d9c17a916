use Rattle.journal_parts.proofs.Between.{call_fault}
use Rattle.journal_parts.proofs.durable.Durable.fetch.Goals as goal

pub returns-in-Ok-clause-event : goal.returns-in-Ok-clause-event
returns-in-Ok-clause-event g c = record {
  named = c.in-Ok.ensures.named;
  front = c.in-Ok.ensures.front;
  commits = c.in-Ok.ensures.commits;
  objects = c.prove_fetched.ensures;
  fine = c.in-Ok.ensures.fine;
  reads = c.fetch_blocks.ensures.reads;
  others = c.fetch_blocks.ensures.others;
  kept = c.prove_invariant.ensures;
  crash = c.fetch_blocks.ensures.crash;
}

pub returns-in-Err-clause-event : goal.returns-in-Err-clause-event
returns-in-Err-clause-event g c = record {
  refusal = c.in-Err.ensures.refusal;
  reads = c.fetch_blocks.ensures.reads;
  others = c.fetch_blocks.ensures.others;
  kept = c.prove_invariant-in-Err.ensures;
  crash = c.fetch_blocks.ensures.crash;
}

pub returns-in-Err-clause-fault : goal.returns-in-Err-clause-fault
returns-in-Err-clause-fault g c = (call_fault c.args.self.now c.fetch_blocks.new.self c.in-Err.why c.in-Err.ensures.refusal).0

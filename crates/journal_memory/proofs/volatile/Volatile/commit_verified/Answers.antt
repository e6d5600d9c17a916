use Rattle.std.proofs.Common.{subst, rules}
use mathlib.Core.List.{IsPrefix}
use Rattle.journal_memory.specs.Fetches.{FetchedState}
use Rattle.journal_memory.specs.Volatiles.{VolatileState, IsFrontRefusal}
use Rattle.journal_memory.proofs.Committing.{extends_on}
use Rattle.journal_memory.proofs.Unready.{shows_front}
use Rattle.journal_memory.proofs.volatile.Volatile.commit_verified.Goals as goal

pub returns-in-Err-clause-commit : goal.returns-in-Err-clause-commit
returns-in-Err-clause-commit g c = record {
  committed = search rules;
  receipt = search rules;
  can = search rules;
  agrees = search rules;
  missing = search rules;
  below = search rules;
  some = search rules;
  waits = search rules;
  refusal = search rules;
  same = search rules;
  extends = extends_on c.args.session.now c.admit.new.session c.see.new.self c.admit.ensures.session c.see.ensures.extends;
  longer =
      shows_front c.args.self.now.ledger.history c.args.fetched.now.front c.see.new.self c.in-Err.why
      (subst (λ (v : VolatileState). IsFrontRefusal v.ledger.history c.args.fetched.now.front c.in-Err.why) c.admit.ensures.same c.in-Err.ensures.refusal)
      (subst (λ (f : FetchedState). IsPrefix f.front c.see.new.self.seen) c.fetched.view_is c.see.ensures.all);
}

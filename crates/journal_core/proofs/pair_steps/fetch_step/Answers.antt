use Rattle.std.proofs.Common.{◌≡◌, ◌∙◌, List, ℕ, false, map, refl, ap, sym, subst}
use Rattle.journal_world.specs.declared.refusal.Refusal.{Refusal}
use Rattle.journal_world.specs.Histories.{Entry}
use Rattle.journal_block.specs.declared.update.Update.{Update}
use Rattle.journal_memory.specs.Causes.{CauseState}
use Rattle.journal_memory.specs.Volatiles.{VolatileState}
use Rattle.journal_parts.specs.Durables.{DurableState, IsCallRefusal, is_faulted}
use Rattle.journal_parts.specs.CoreParts.{IsPair, core_of}
use Rattle.journal_parts.specs.Holds.{FetchesBlocks, RefusesFetch as RefusesFetchOf}
use Rattle.journal_core.specs.Interleavings.{RefusesFetch}
use Rattle.journal_parts.proofs.CallsOfLogs.{stays_read}
use Rattle.journal_parts.proofs.Faults.{failed}
use Rattle.journal_core.proofs.Joining.{pair_fetched, pair_failed, call_faulted}
use Rattle.journal_core.proofs.Events.{fetches_blocks, fetch_refused}
use Rattle.journal_core.proofs.pair_steps.fetch_step.Goals as goal

pub returns-in-Ok : goal.returns-in-Ok
returns-in-Ok g c =
    let n = g.J.Naming.layout in
    let v = c.args.volatile.now in
    let d = c.args.durable.now in
    let e = c.fetch.new.self in
    let numbers : List ℕ = map (λ (u : Update). u.block) c.args.updates.items in
    let was = c.requires.pair in
    let on = c.requires.running in
    let it : FetchesBlocks n d numbers c.in-Ok.fetched e = c.in-Ok.ensures.event in
    let fine : is_faulted e ≡ false = it.fine on.1 in
    let pair : IsPair n v e = pair_fetched n v d was on e it.kept it.others it.reads fine in
    record {
      front = it.front ∙ sym (ap (λ (x : DurableState). x.front) it.others);
      commits = it.commits ∙ sym (ap (λ (x : DurableState). x.logged) it.others);
      named = it.named;
      volatile = refl;
      failed = tt;
      refusal = tt;
      reads = it.reads;
      others = it.others;
      pair = pair;
      crash = it.crash;
      event = fetches_blocks n v d was on e it.reads it.others it.crash numbers c.in-Ok.fetched it.named it.front it.commits it.objects fine pair;
    }

pub returns-in-Err : goal.returns-in-Err
returns-in-Err g c =
    let n = g.J.Naming.layout in
    let v = c.args.volatile.now in
    let d = c.args.durable.now in
    let e = c.fetch.new.self in
    let w = c.note_fault-why.new.volatile in
    let fault = c.in-Err.fault in
    let was = c.requires.pair in
    let on = c.requires.running in
    let it : RefusesFetchOf n d fault e = c.in-Err.ensures.event in
    let faulted = call_faulted n v d was on e fault it.refusal in
    let pair : IsPair n (failed v) e = pair_failed n v d was on e it.kept faulted.1 (stays_read d.objects e.objects it.reads) faulted.0 in
    record {
      front = tt;
      commits = tt;
      named = tt;
      volatile = tt;
      failed = c.note_fault-why.ensures.event.noted;
      refusal = subst (IsCallRefusal d e) (sym c.note_fault-why.ensures.refusal) it.refusal;
      reads = it.reads;
      others = it.others;
      pair = subst (λ (x : VolatileState). IsPair n x e) (sym c.note_fault-why.ensures.event.noted) pair;
      crash = it.crash;
      event = subst (λ (x : VolatileState). RefusesFetch (core_of v d) c.note_fault-why.result (core_of x e)) (sym c.note_fault-why.ensures.event.noted)
          (subst (λ (x : Refusal CauseState). RefusesFetch (core_of v d) x (core_of (failed v) e)) (sym c.note_fault-why.ensures.refusal)
          (fetch_refused n v d was on e it.reads it.others it.crash fault it.refusal pair));
    }

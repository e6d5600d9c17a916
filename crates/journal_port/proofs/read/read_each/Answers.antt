use Rattle.std.proofs.Common.{◌≡◌, ◌+◌, ◌++◌, ◌∷◌, [], length, take, sym, ap, subst, ◌∙◌, length-append}
use Rattle.std.specs.List.{zip}
use Rattle.std.proofs.lemmas.List.{get_or_default}
use Rattle.std.proofs.lemmas.List.Elements.{Contains-get_or}
use Rattle.journal_world.proofs.Prefixes.{IsPrefix-trans}
use Rattle.journal_port.specs.Reads.{AreRead}
use Rattle.journal_port.proofs.Keeping.{trusted_later, read_next}
use Rattle.journal_port.proofs.Reading.{Held-stays, read_refused}
use Rattle.journal_port.proofs.read.read_each.Goals as goal

pub loop-addr-preserved : goal.loop-addr-preserved
loop-addr-preserved g c =
    let items : c.push.new.self.items ≡ c.loop-addr.values.items ++ c.in-Ok.value ∷ [] = c.in_ok-push-in-Ok.ensures.items in (
      c.in-Ok.ensures.writes,
      IsPrefix-trans _ _ _ c.loop-addr.invariant.1 c.in-Ok.ensures.later,
      Held-stays g.J.Naming.layout c.args.addrs.now c.loop-addr.addr-index _ c.args.txn.now.held c.loop-addr.txn.held _ c.loop-addr-test.true (get_or_default c.args.addrs.now c.loop-addr.addr-index _ _ c.loop-addr-test.true) c.requires.held c.loop-addr.invariant.2 c.in-Ok.ensures.held,
      ap length items ∙ length-append c.loop-addr.values.items (c.in-Ok.value ∷ []) ∙ ap (λ n. n + 1) c.loop-addr.invariant.3,
      λ trusted.
          subst (λ vs. AreRead c.read_one.new.txn.reads (zip (take (c.loop-addr.addr-index + 1) c.args.addrs.now) vs)) (sym items)
          (read_next c.args.addrs.now c.loop-addr.values.items c.loop-addr.addr-index _ c.in-Ok.value c.loop-addr.txn.reads c.read_one.new.txn.reads c.loop-addr-test.true
          (get_or_default c.args.addrs.now c.loop-addr.addr-index _ _ c.loop-addr-test.true) c.loop-addr.invariant.3 (c.loop-addr.invariant.4 trusted)
          (c.in-Ok.ensures.kept (trusted_later c.args.txn.now.seen c.loop-addr.txn.seen c.loop-addr.invariant.1 trusted)) c.in-Ok.ensures.reads),
    )

pub returns-in-Err-clause-refusal : goal.returns-in-Err-clause-refusal
returns-in-Err-clause-refusal g c = read_refused g.J.Naming.layout c.args.addrs.now _ c.in-Err.why (Contains-get_or c.args.addrs.now c.loop-addr.addr-index _ c.loop-addr-test.true) c.in-Err.ensures.refusal

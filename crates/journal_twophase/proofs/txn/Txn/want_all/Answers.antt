use Rattle.std.proofs.Common.{is_ok, rules}
use Rattle.std.proofs.lemmas.List.Elements.{Contains-get_or}
use Rattle.journal_twophase.specs.declared.prefetch.Wanted.{Wanted}
use Rattle.journal_twophase.specs.Prefetches.{IsNew, IsReady}
use Rattle.journal_twophase.proofs.Prefetching.{holds_one, all_ready_more, all_pushed, took_held, took_others, new_one}
use Rattle.journal_twophase.proofs.txn.Txn.want_all.Goals as goal

pub loop-addr-preserved : goal.loop-addr-preserved
loop-addr-preserved g c =
    let layout = g.J.Naming.layout in
    let all = c.loop-addr.invariant in
    let asked = Contains-get_or c.args.addrs.now c.loop-addr.addr-index _ c.loop-addr-test.true in
    let took = took_held layout _ c.loop-addr.self c.want.new.self c.want.ensures.took in
    record {
      all_new = all_pushed (λ (w : Wanted). IsNew c.args.addrs.now c.args.found.now c.args.self.now.writes w.addr) (is_ok c.push.result) c.loop-addr.wanted.items c.push.new.self.items c.in-Some.one c.push.ensures.items
          (new_one c.args.addrs.now c.args.found.now c.args.self.now c.loop-addr.self _ c.in-Some.one c.in-Some.ensures.addr all.others asked (c.is_new.ensures.absent (search rules)) (c.is_new.ensures.unwritten (search rules)))
          all.all_new;
      ready = all_pushed (IsReady layout c.want.new.self.held) (is_ok c.push.result) c.loop-addr.wanted.items c.push.new.self.items c.in-Some.one c.push.ensures.items c.in-Some.ensures.ready
          (all_ready_more layout _ c.loop-addr.self.held c.want.new.self.held c.loop-addr.wanted.items took all.ready);
      holds = holds_one layout c.args.addrs.now _ c.args.self.now.held c.loop-addr.self.held c.want.new.self.held all.holds asked took;
      others = took_others layout _ c.args.self.now c.loop-addr.self c.want.new.self all.others c.want.ensures.took;
    }

pub returns-in_default-want-clause-ready : goal.returns-in_default-want-clause-ready
returns-in_default-want-clause-ready g c =
    all_ready_more g.J.Naming.layout _ c.loop-addr.self.held c.want.new.self.held c.loop-addr.wanted.items
    (took_held g.J.Naming.layout _ c.loop-addr.self c.want.new.self c.want.ensures.took) c.loop-addr.invariant.ready

pub returns-in_default-want-clause-holds : goal.returns-in_default-want-clause-holds
returns-in_default-want-clause-holds g c =
    holds_one g.J.Naming.layout c.args.addrs.now _ c.args.self.now.held c.loop-addr.self.held c.want.new.self.held c.loop-addr.invariant.holds
    (Contains-get_or c.args.addrs.now c.loop-addr.addr-index _ c.loop-addr-test.true) (took_held g.J.Naming.layout _ c.loop-addr.self c.want.new.self c.want.ensures.took)

pub returns-then-is_err-clause-all_new : goal.returns-then-is_err-clause-all_new
returns-then-is_err-clause-all_new g c =
    let all = c.loop-addr.invariant in
    let asked = Contains-get_or c.args.addrs.now c.loop-addr.addr-index _ c.loop-addr-test.true in
    all_pushed (λ (w : Wanted). IsNew c.args.addrs.now c.args.found.now c.args.self.now.writes w.addr) (is_ok c.push.result) c.loop-addr.wanted.items c.push.new.self.items c.in-Some.one c.push.ensures.items
    (new_one c.args.addrs.now c.args.found.now c.args.self.now c.loop-addr.self _ c.in-Some.one c.in-Some.ensures.addr all.others asked (c.is_new.ensures.absent (search rules)) (c.is_new.ensures.unwritten (search rules)))
    all.all_new

pub returns-then-is_err-clause-ready : goal.returns-then-is_err-clause-ready
returns-then-is_err-clause-ready g c =
    let layout = g.J.Naming.layout in
    all_pushed (IsReady layout c.want.new.self.held) (is_ok c.push.result) c.loop-addr.wanted.items c.push.new.self.items c.in-Some.one c.push.ensures.items c.in-Some.ensures.ready
    (all_ready_more layout _ c.loop-addr.self.held c.want.new.self.held c.loop-addr.wanted.items (took_held layout _ c.loop-addr.self c.want.new.self c.want.ensures.took) c.loop-addr.invariant.ready)

pub returns-then-is_err-clause-holds : goal.returns-then-is_err-clause-holds
returns-then-is_err-clause-holds g c =
    holds_one g.J.Naming.layout c.args.addrs.now _ c.args.self.now.held c.loop-addr.self.held c.want.new.self.held c.loop-addr.invariant.holds
    (Contains-get_or c.args.addrs.now c.loop-addr.addr-index _ c.loop-addr-test.true) (took_held g.J.Naming.layout _ c.loop-addr.self c.want.new.self c.want.ensures.took)

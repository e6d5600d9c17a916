use Rattle.std.proofs.Common.{◌≡◌, ◌∷◌, List, ap, length, inl, inr, refl, subst, sym, true, arith}
use Rattle.std.specs.Vec.Iter.{into_iter_items}
use Rattle.journal_world.specs.Maps.{Pair}
use Rattle.journal_twophase.specs.declared.prefetch.Wanted.{Wanted}
use Rattle.journal_twophase.specs.Prefetches.{IsReady, IsWanted}
use Rattle.journal_twophase.proofs.Prefetching.{learns_more, all_pushed, rest_of}
use Rattle.journal_twophase.proofs.txn.Txn.read_wanted.Goals as goal

pub loop-one-preserved : goal.loop-one-preserved
loop-one-preserved g c =
    let all = c.loop-one.invariant in
    let one : Wanted = c.in-Some.one in
    let rest = into_iter_items c.next.new.self in
    let steps : into_iter_items c.loop-one.one-iterator ≡ one ∷ rest = c.in-Some.ensures.steps.0 in
    let pushed = c.push_reserved.ensures in
    record {
      next = tt;
      finite = tt;
      learns = learns_more g.J.Naming.layout c.args.self.now c.loop-one.self c.read_under.new.self c.loop-one.read.items c.push_reserved.new.self.items one.addr c.in-Some-read_under.value all.learns
          c.in-Some-read_under.ensures.learns c.in-Some-read_under.ensures.object pushed.items;
      ready = rest_of (IsReady g.J.Naming.layout c.args.self.now.held) one _ rest steps all.ready;
      wanted = all_pushed (λ (p : Pair). IsWanted c.args.wanted.items p.0) true c.loop-one.read.items c.push_reserved.new.self.items (one.addr, c.in-Some-read_under.value) pushed.items
          (all.rest one.addr (subst (λ (ws : List Wanted). IsWanted ws one.addr) (sym steps) (inl refl))) all.wanted;
      rest = λ a is. all.rest a (subst (λ (ws : List Wanted). IsWanted ws a) (sym steps) (inr is));
      room = omega (arith, ap length steps, pushed.len, pushed.capacity, all.room);
    }

use Rattle.std.proofs.Common.{◌≡◌, All}
use Rattle.journal_twophase.specs.Prefetches.{IsNew, IsReady, HoldsMore}
use Rattle.journal_twophase.proofs.txn.Txn.want_all.Given as goal

abbrev pub invariant-loop-addr : goal.invariant-loop-addr
invariant-loop-addr g l = record {
  all_new : All (λ one. IsNew l.addrs l.found l.fn.self.writes one.addr) l.wanted.items;
  ready : All (IsReady g.J.Naming.layout l.self.held) l.wanted.items;
  holds : HoldsMore g.J.Naming.layout l.addrs l.fn.self.held l.self.held;
  others : l.self ≡ record l.fn.self { held = l.self.held };
}

use Rattle.std.proofs.Common.{◌+◌, ◌≤◌, All, length, vec_len, vec_capacity}
use Rattle.std.specs.Vec.Iter.{into_iter_items}
use Rattle.journal_world.specs.declared.address.Addr.{Addr}
use Rattle.journal_twophase.specs.Prefetches.{IsReady, IsWanted, LearnsAll}
use Rattle.journal_twophase.proofs.txn.Txn.read_wanted.Given as goal

abbrev pub invariant-loop-one : goal.invariant-loop-one
invariant-loop-one g l = record {
  next : (goal.iterator-loop-one g).can_next l.one-iterator;
  finite : (goal.iterator-loop-one g).is_finite l.one-iterator;
  learns : LearnsAll g.J.Naming.layout l.fn.self l.read.items l.self;
  ready : All (IsReady g.J.Naming.layout l.fn.self.held) (into_iter_items l.one-iterator);
  wanted : All (λ p. IsWanted l.fn.wanted.items p.0) l.read.items;
  rest : (a : Addr) → IsWanted (into_iter_items l.one-iterator) a → IsWanted l.fn.wanted.items a;
  room : vec_len l.read + length (into_iter_items l.one-iterator) ≤ vec_capacity l.read;
}

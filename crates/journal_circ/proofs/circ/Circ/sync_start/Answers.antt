use Rattle.std.proofs.Common.{◌≡◌, ◌-◌, drop, refl, subst, IsTrue}
use Rattle.journal_circ.specs.Log.{label_of}
use Rattle.journal_circ.specs.Ring.{Ring, log_of, SameBlocksTo}
use Rattle.journal_circ.proofs.Barriers.{start_is_synced}
use Rattle.journal_circ.proofs.Steps.{ring, stepped_at, not_synced, freed, log_freed, blocks_freed}
use Rattle.journal_circ.proofs.circ.Circ.sync_start.Goals as goal

pub returns-in_err-barrier-clause-crash : goal.returns-in_err-barrier-clause-crash
returns-in_err-barrier-clause-crash g c =
    stepped_at c.self.view_is (not_synced _ _ _ c.self.invariant c.barrier.ensures.keeps c.in_err-barrier.ensures.not_synced c.in_err-barrier.ensures.err)

pub invariant_of-self-2 : goal.invariant_of-self-2
invariant_of-self-2 g c = start_is_synced _ _ _ c.self.invariant c.barrier.ensures.keeps c.in_ok-barrier.ensures.ok.0 c.in_ok-barrier.ensures.synced

pub returns-clause-crash : goal.returns-clause-crash
returns-clause-crash g c =
    stepped_at c.self.view_is (freed _ _ _ _ c.self.invariant (invariant_of-self-2 g c) c.barrier.ensures.keeps c.in_ok-barrier.ensures.synced refl refl refl)

pub returns-clause-log : goal.returns-clause-log
returns-clause-log g c =
    let s = c.self.inside in
    let now : Ring = ring (g.D.BlockDisk.state c.barrier.new.self.disk) s.header s.tags (label_of s.start_block) s.sealed (record s.extent { start = s.extent.freed }) s.next c.barrier.new.self.faulted in
    subst (λ (r : Ring). IsTrue r.disk.honest → log_of now ≡ drop (r.extent.freed - r.extent.start) (log_of r)) c.self.view_is
    (log_freed _ _ _ _ c.self.invariant (invariant_of-self-2 g c) c.barrier.ensures.keeps c.in_ok-barrier.ensures.synced refl refl)

pub returns-clause-blocks : goal.returns-clause-blocks
returns-clause-blocks g c =
    let s = c.self.inside in
    let now : Ring = ring (g.D.BlockDisk.state c.barrier.new.self.disk) s.header s.tags (label_of s.start_block) s.sealed (record s.extent { start = s.extent.freed }) s.next c.barrier.new.self.faulted in
    subst (λ (r : Ring). IsTrue r.disk.honest → SameBlocksTo r now) c.self.view_is
    (blocks_freed _ _ _ _ c.self.invariant (invariant_of-self-2 g c) c.barrier.ensures.keeps c.in_ok-barrier.ensures.synced refl refl)

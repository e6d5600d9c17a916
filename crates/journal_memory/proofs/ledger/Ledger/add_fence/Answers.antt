use Rattle.std.proofs.Common.{ℕ, ◌≡◌, ◌++◌, ◌∷◌, ◌∙◌, [], List, length, ap, sym, subst}
use Rattle.journal_world.specs.Histories.Entry.{fence}
use Rattle.journal_history.specs.Counts.{raised}
use Rattle.journal_memory.specs.declared.fenced_sessions.Run.{Run}
use Rattle.journal_memory.specs.Sessions.{NotesFence}
use Rattle.journal_memory.specs.Ledgers.{IsLedger}
use Rattle.journal_memory.proofs.Counting.{ledger_same}
use Rattle.journal_memory.proofs.Fencing.{ledger_fenced}
use Rattle.journal_memory.proofs.ledger.Ledger.add_fence.Goals as goal

pub invariant_of-self-in-Err : goal.invariant_of-self-in-Err
invariant_of-self-in-Err g c =
    ledger_same g.J.Naming.layout c.self.inside.fenced.runs c.self.inside.sessions c.self.inside.slots c.self.inside.lengths
    (record { history = c.self.inside.writer; cut = c.self.inside.cut; next = c.self.inside.next; closed = c.self.inside.closed }) c.self.invariant
    c.reserve.new.self.runs c.fence.new.self c.reserve.ensures.same c.in-Err.ensures.unchanged

pub invariant_of-self-2 : goal.invariant_of-self-2
invariant_of-self-2 g c =
    let entries : c.new-len.result ≡ length c.self.inside.writer = c.new-len.ensures ∙ c.len.ensures.length in
    let added : c.fence.new.self ≡ c.self.inside.writer ++ fence c.args.target ∷ [] =
    c.in_default.ensures.added ∙ ap (λ (s : ℕ). c.self.inside.writer ++ fence s ∷ []) c.get.ensures in
    subst (λ (sessions : List ℕ). IsLedger g.J.Naming.layout c.insert.new.self.runs sessions c.self.inside.slots c.add_non_commit.new.self
    (record { history = c.fence.new.self; cut = c.self.inside.cut; next = c.past-self-inside.result; closed = c.self.inside.closed })) (sym (c.raise.ensures ∙ ap (raised c.self.inside.sessions) (c.get-2.ensures ∙ c.following.ensures)))
    (ledger_fenced g.J.Naming.layout c.self.inside.fenced.runs c.insert.new.self.runs c.self.inside.sessions c.self.inside.slots c.self.inside.lengths c.add_non_commit.new.self
    (record { history = c.self.inside.writer; cut = c.self.inside.cut; next = c.self.inside.next; closed = c.self.inside.closed })
    c.fence.new.self c.new-len.result c.past-self-inside.result c.args.target c.self.invariant added entries
    c.past-self-inside.ensures (subst (λ (runs : List Run). NotesFence c.args.target runs c.insert.new.self.runs) c.reserve.ensures.same c.insert.ensures) c.add_non_commit.ensures)

use Rattle.std.proofs.Common.{ℕ, ◌≡◌, ◌≤◌, ◌⊎◌, ◌++◌, ◌∷◌, [], List, length, refl, ap, sym, subst, ◌∙◌, arith}
use Rattle.std.proofs.lemmas.Bool.{eqb-true, eqb-false}
use Rattle.journal_world.specs.Histories.{Entry, count, floor}
use Rattle.journal_world.specs.Histories.Entry.{stable}
use Rattle.journal_world.proofs.Marks.{count-mark}
use Rattle.journal_memory.specs.declared.marked_lengths.MarkedLengths.{MarkedLengths}
use Rattle.journal_memory.specs.MarkedLengths.{KeepsMarkedLengths}
use Rattle.journal_memory.specs.Ledgers.{LedgerState, IsLedger}
use Rattle.journal_memory.proofs.Covering.{keeps_mark_all, keeps_mark_cut}
use Rattle.journal_memory.proofs.Counting.{ledger_marked}
use Rattle.journal_memory.proofs.ledger.Ledger.mark.Goals.{then-eq, else-eq}
use Rattle.journal_memory.proofs.ledger.Ledger.mark.Goals as goal

pub invariant_of-self-2 : goal.invariant_of-self-2
invariant_of-self-2 g c =
    let added : c.publish_floor.new.self ≡ c.self.inside.writer ++ stable c.args.n ∷ [] = c.publish_floor.ensures ∙ c.in_default.ensures.added in
    let rises : floor c.self.inside.writer ≤ c.args.n = subst (λ (s : LedgerState). floor s.history ≤ c.args.n) (sym c.self.view_is) c.requires.rises in
    let kept : (now : MarkedLengths) → KeepsMarkedLengths now (c.self.inside.writer ++ stable c.args.n ∷ []) c.args.n
    → IsLedger g.J.Naming.layout c.self.inside.fenced.runs c.self.inside.sessions c.self.inside.slots now (record { history = c.publish_floor.new.self; cut = c.args.n; next = c.self.inside.next; closed = c.self.inside.closed }) =
    λ now covers. subst (λ (h : List Entry). IsLedger g.J.Naming.layout c.self.inside.fenced.runs c.self.inside.sessions c.self.inside.slots now (record { history = h; cut = c.args.n; next = c.self.inside.next; closed = c.self.inside.closed })) (sym added)
    (ledger_marked g.J.Naming.layout _ _ _ _ _ c.self.invariant c.args.n now covers) in
    elim c.if-eq.branch [
      | then-eq w ↦ let b = w.if-eq in
          rw w.self-inside-is
          (kept (record { marked = w.new-self-inside.result; cut = w.new-self-inside.result })
          (keeps_mark_all c.self.inside.lengths c.self.inside.writer c.self.inside.cut c.self.invariant.fronts c.args.n rises
          (record { marked = w.new-self-inside.result; cut = w.new-self-inside.result }) refl
          (w.new-self-inside.ensures ∙ w.len-then-eq.ensures.length ∙ ap length added)
          (omega (arith, eqb-true c.args.n c.count.result (sym b.ensures), c.count.ensures, ap count added, count-mark c.self.inside.writer c.args.n))))
      | else-eq w ↦ let b = w.if-eq in
          rw w.self-inside-is
          (kept (record { marked = c.self.inside.lengths.cut; cut = c.self.inside.lengths.cut })
          (keeps_mark_cut c.self.inside.lengths c.self.inside.writer c.self.inside.cut c.self.invariant.fronts c.args.n rises
          (record { marked = c.self.inside.lengths.cut; cut = c.self.inside.lengths.cut }) refl refl
          (subst (λ (s : LedgerState). c.args.n ≤ count s.history) (sym c.self.view_is) c.requires.made)
          (λ all. absurd (omega (arith, eqb-false c.args.n c.count.result (sym b.ensures), all, c.count.ensures, ap count added, count-mark c.self.inside.writer c.args.n)))
          (subst (λ (s : LedgerState). (c.args.n ≡ s.cut) ⊎ (c.args.n ≡ count s.history)) (sym c.self.view_is) c.requires.due)))
    ]

use Rattle.std.proofs.Common.{◌≡◌, ◌≤◌, ◌↔◌, ◌∙◌, IsTrue, length, rules, sym, subst, arith}
use mathlib.Core.List.{IsPrefix}
use Rattle.journal_world.specs.Histories.{count, floor}
use Rattle.journal_memory.specs.Ledgers.{LedgerState}
use Rattle.journal_memory.proofs.Covering.{covers_seen}
use Rattle.journal_memory.proofs.ledger.Ledger.has_marked.Goals as goal

pub returns : goal.returns
returns g c =
    let short : IsTrue c.le.result ↔ (c.new.result ≤ c.self.inside.lengths.marked) = search rules in
    let entries : c.new.result ≡ length c.args.session.now.seen = c.new.ensures ∙ c.seen.ensures.length in
    let both = covers_seen c.self.inside.writer c.args.session.now.seen _ c.self.inside.lengths.marked c.self.invariant.fronts.marked
    (subst (λ (s : LedgerState). IsPrefix c.args.session.now.seen s.history) (sym c.self.view_is) c.requires) in
    subst (λ (s : LedgerState). IsTrue c.le.result ↔ (count c.args.session.now.seen ≤ floor s.history)) c.self.view_is
    (λ yes. both.0 (omega (arith, entries, short.0 yes)), λ few. short.1 (omega (arith, entries, both.1 few)))

use Rattle.std.proofs.Common.{◌≡◌, ◌≤◌, IsTrue, List, length, refl, sym, subst, ◌∙◌}
use Rattle.std.specs.List.{zip}
use mathlib.Core.List.{IsPrefix}
use Rattle.journal_world.specs.declared.refusal.Refusal.TheVariants.{NoMemory}
use Rattle.journal_world.specs.Maps.{Pair, Agrees}
use Rattle.journal_world.specs.Histories.{Entry, is_trusted, latest}
use Rattle.journal_world.proofs.Prefixes.{IsPrefix-length}
use Rattle.journal_twophase.specs.Transactions.{TxnState}
use Rattle.journal_port.specs.Reads.{AreRead}
use Rattle.journal_port.proofs.Ending.{OnlyExtends-refl, OnlyExtends-trans}
use Rattle.journal_port.proofs.Keeping.{trusted_before, read_agrees}
use Rattle.journal_port.proofs.read.read.Goals as goal

pub returns-in_default : goal.returns-in_default
returns-in_default g c = (OnlyExtends-refl c.args.session.now, (NoMemory, refl, tt))

pub returns-in-Ok-values : goal.returns-in-Ok-values
returns-in-Ok-values g c =
    let pairs : List Pair = zip c.args.addrs.now c.in-Ok-values.values.items in
    let begun : List Entry = c.begin-txn.new.session.seen in
    let read : IsTrue (is_trusted begun) → AreRead c.read_values-values.new.txn.reads pairs =
    subst (λ (t : TxnState). IsTrue (is_trusted t.seen) → AreRead c.read_values-values.new.txn.reads pairs) c.begin-txn.ensures.begun c.in-Ok-values.ensures.reads in
    let pre : IsPrefix c.begin-txn.new.session.seen c.read_values-values.new.txn.seen = subst (λ (t : TxnState). IsPrefix t.seen c.read_values-values.new.txn.seen) c.begin-txn.ensures.begun c.in-Ok-values.ensures.later in
    let le : length c.begin-txn.new.session.seen ≤ length c.front.result.now = subst (λ (h : List Entry). length c.begin-txn.new.session.seen ≤ length h) (sym c.front.ensures.seen) (IsPrefix-length _ _ pre) in
    let seen : c.see.new.self.seen ≡ c.read_values-values.new.txn.seen = c.see.ensures.whole le ∙ c.front.ensures.seen in (
      OnlyExtends-trans _ _ _ c.begin-txn.ensures.session c.see.ensures.extends,
      record {
        counted = c.in-Ok-values.ensures.counted;
        agrees = subst (λ (h : List Entry). IsTrue (is_trusted h) → Agrees (latest h) pairs) (sym seen)
            (λ trusted. read_agrees (latest c.read_values-values.new.txn.seen) c.read_values-values.new.txn.reads pairs (c.front.ensures.agrees trusted)
            (read (trusted_before begun c.read_values-values.new.txn.seen c.seen-seen.ensures.begun pre trusted)));
      },
    )

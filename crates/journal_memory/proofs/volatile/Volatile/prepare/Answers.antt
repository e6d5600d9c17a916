use Rattle.std.proofs.Common.{◌≡◌, ◌∙◌, ℕ, true, List, IsTrue, IfOk, inl, inr, length, IfErr, ap, sym, subst, arith, rules}
use Rattle.std.proofs.lemmas.Bool.{false≢true}
use Rattle.journal_world.specs.Addresses.{Shape}
use Rattle.journal_world.specs.Files.{shape}
use Rattle.journal_world.specs.Maps.{are_objects}
use Rattle.journal_world.specs.Histories.{latest}
use Rattle.journal_block.specs.declared.update.Update.{Update}
use Rattle.journal_tail.specs.ObjectTails.{known_updates, missing_blocks, tail_base, updates_with, OverwritesKnown, TakesPrepared, IfReady, IfMissing}
use Rattle.journal_tail.specs.Writes.{IsPrepared}
use Rattle.journal_memory.specs.Updates.{AreObjectsOf}
use Rattle.journal_memory.specs.Volatiles.{VolatileState, outset_of}
use Rattle.journal_memory.specs.Outsets.{IsPreparingRefusal}
use Rattle.journal_memory.proofs.Fetching.{answered_below}
use Rattle.journal_memory.proofs.Unready.{few_blocks, prepares_not, raised_written}
use Rattle.journal_memory.proofs.volatile.Volatile.prepare.Goals.{then-len-via-then-len, then-len-via-else-len+then-number-ge-MAX_HISTORY_LENGTH}
use Rattle.journal_memory.proofs.volatile.Volatile.prepare.Goals as goal

pub prepare-prepared-requires : goal.prepare-prepared-requires
prepare-prepared-requires g c = ap (λ (s : Shape). s.blocks) c.get.ensures ∙ sym c.self.invariant.size

pub returns-then-len-clause-refusal : goal.returns-then-len-clause-refusal
returns-then-len-clause-refusal g c =
    let objects : IsTrue (are_objects (shape c.get.result.now) c.args.writes.now) = subst (λ (s : Shape). IsTrue (are_objects s c.args.writes.now)) (sym c.get.ensures) c.requires.objects in (
      few_blocks (shape c.get.result.now) (record { ledger = c.self.inside.ledger; tail = c.self.inside.tail; faulted = c.self.inside.faulted }) c.args.blocks.now c.args.writes.now objects c.prepare-prepared.result c.prepare-prepared.ensures.ok
          c.prepare-prepared.ensures.refusal (λ is. false≢true (c.if-is_too_large.ensures.1 is)),
      elim c.then-len.branch [
        | then-len-via-then-len w ↦ let h = w.if-len in let same = ap (λ (v : VolatileState). length v.ledger.history) c.self.view_is in
            inl (omega (arith, h.true, c.len.ensures.length, same))
        | then-len-via-else-len+then-number-ge-MAX_HISTORY_LENGTH w ↦ let h = w.if-number-ge-MAX_HISTORY_LENGTH in inr (inl (omega (arith, h.true, w.number.ensures)))
      ],
      c.none.ensures,
    )

pub returns-clause-ready : goal.returns-clause-ready
returns-clause-ready g c =
    subst (λ (s : Shape). IfOk c.raise.result (IfReady (TakesPrepared s c.prepare-prepared.new.self c.args.writes.now))) c.get.ensures (search rules)

pub returns-clause-prepared : goal.returns-clause-prepared
returns-clause-prepared g c =
    subst (λ (s : Shape). IfOk c.raise.result (IfReady (λ (prepared : List Update). IsPrepared true (tail_base s c.args.blocks.now c.prepare-prepared.new.self)
    (updates_with s c.prepare-prepared.new.self c.args.writes.now prepared) c.args.writes.now))) c.get.ensures (search rules)

pub returns-clause-written : goal.returns-clause-written
returns-clause-written g c = λ trusted.
    raised_written g.J.Naming.layout (latest c.args.self.now.ledger.history) c.args.writes.now c.args.blocks.now c.self.inside.tail c.prepare-prepared.new.self
    c.prepare-prepared.ensures.same
    (subst (λ (v : VolatileState). AreObjectsOf g.J.Naming.layout (latest c.args.self.now.ledger.history) (known_updates c.args.blocks.now v.tail)) (sym c.self.view_is) (c.requires.latest trusted))
    c.prepare-prepared.result c.raise.result c.raise.ensures.only_ok
    (subst (λ (s : Shape). IfOk c.prepare-prepared.result (IfReady (λ (prepared : List Update). OverwritesKnown s (known_updates c.args.blocks.now c.prepare-prepared.new.self)
    (updates_with s c.prepare-prepared.new.self c.args.writes.now prepared) c.args.writes.now))) c.get.ensures c.prepare-prepared.ensures.overwrites)

pub returns-clause-missing : goal.returns-clause-missing
returns-clause-missing g c =
    subst (λ (s : Shape). IfOk c.raise.result (IfMissing (λ (bs : List ℕ). bs ≡ missing_blocks s (known_updates c.args.blocks.now c.args.self.now.tail) c.args.writes.now))) c.get.ensures (search rules)

pub returns-clause-below : goal.returns-clause-below
returns-clause-below g c =
    answered_below g.J.Naming.layout (known_updates c.args.blocks.now c.args.self.now.tail) c.args.writes.now c.requires.objects c.raise.result (returns-clause-missing g c)

pub returns-clause-refusal : goal.returns-clause-refusal
returns-clause-refusal g c =
    let objects : IsTrue (are_objects (shape c.get.result.now) c.args.writes.now) = subst (λ (s : Shape). IsTrue (are_objects s c.args.writes.now)) (sym c.get.ensures) c.requires.objects in
    subst (λ (v : VolatileState). IfErr c.raise.result (IsPreparingRefusal (outset_of v) c.args.session.now c.args.writes.now)) c.self.view_is
    (prepares_not (shape c.get.result.now) (record { ledger = c.self.inside.ledger; tail = c.self.inside.tail; faulted = c.self.inside.faulted }) c.args.blocks.now c.args.writes.now objects c.args.session.now
    (omega (arith, c.if-len.false, c.len.ensures.length)) (omega (arith, c.if-number-ge-MAX_HISTORY_LENGTH.false, c.number.ensures))
    c.prepare-prepared.result c.raise.result c.raise.ensures.ok c.raise.ensures.err c.prepare-prepared.ensures.refusal)

-- What is held agrees with the history whatever a step answers that looked first.
use Rattle.std.proofs.Common.{◌≡◌, List, Result, Ok, Err, IfOk, OnErr, ap, sym, subst}
use Rattle.journal_world.specs.declared.refusal.Refusal.{Refusal}
use Rattle.journal_world.specs.Addresses.{Shape}
use Rattle.journal_world.specs.Histories.{Entry}
use Rattle.journal_history.specs.Tokens.{SessionState, OnlyExtends}
use Rattle.journal_lockmap.specs.Numbers.{HeldState}
use Rattle.journal_memory.specs.Causes.{CauseState}
use Rattle.journal_memory.specs.SlotCounts.{AgreeWith}
use Rattle.journal_memory.specs.declared.volatile_commit.CommitStep.{CommitStep}
use Rattle.journal_memory.specs.declared.volatile_commit.CommitStep.TheVariants.{Done, Missing}
use Rattle.journal_memory.specs.Volatiles.{VolatileState}
use Rattle.journal_memory.specs.VolatileCommits.{IfDone, IfMissing, with_room}

-- neither the history nor what is held changed
pub agree_still : (layout : Shape) (old new : List Entry) (before after : List HeldState) → AgreeWith layout old before → new ≡ old → after ≡ before → AgreeWith layout new after
agree_still layout old new before after agree same held =
    subst (λ (h : List Entry). AgreeWith layout h after) (sym same) (subst (AgreeWith layout old) (sym held) agree)

-- a commit in memory
pub agree_after : {T : Type 0} (layout : Shape) (r : Result (CommitStep T) (Refusal CauseState)) (old new : VolatileState) (before after : List HeldState) (s t : SessionState)
    → AgreeWith layout old.ledger.history before → IfOk r (IfDone (λ receipt. AgreeWith layout new.ledger.history after))
    → IfOk r (IfMissing (λ blocks. (new ≡ with_room old new.tail.log.room) × OnlyExtends s t)) → IfOk r (IfMissing (λ blocks. after ≡ before))
    → OnErr r (new ≡ with_room old new.tail.log.room) → OnErr r (after ≡ before) → AgreeWith layout new.ledger.history after
agree_after layout (Ok (Done receipt)) old new before after s t agree done waits missing same held = done
agree_after layout (Ok (Missing blocks)) old new before after s t agree done waits missing same held =
    agree_still layout old.ledger.history new.ledger.history before after agree (ap (λ (v : VolatileState). v.ledger.history) waits.0) missing
agree_after layout (Err why) old new before after s t agree done waits missing same held =
    agree_still layout old.ledger.history new.ledger.history before after agree (ap (λ (v : VolatileState). v.ledger.history) same) held

-- What is held agrees with the history whatever a commit of the core answers.
use Rattle.std.proofs.Common.{◌≡◌, List, Result, Ok, Err, OnOk, OnErr, ap}
use Rattle.journal_world.specs.Addresses.{Shape}
use Rattle.journal_lockmap.specs.Numbers.{HeldState}
use Rattle.journal_memory.specs.SlotCounts.{AgreeWith}
use Rattle.journal_parts.specs.CoreStates.{CoreState}
use Rattle.journal_memory.proofs.Verifying.{agree_still}

-- a commit of the core
pub agree_committed : {T E : Type 0} (layout : Shape) (r : Result T E) (old new : CoreState) (before after : List HeldState) → AgreeWith layout old.history before → OnOk r (AgreeWith layout new.history after)
    → OnErr r (new ≡ record old { objects = new.objects }) → OnErr r (after ≡ before) → AgreeWith layout new.history after
agree_committed layout (Ok value) old new before after agree done same held = done
agree_committed layout (Err why) old new before after agree done same held =
    agree_still layout old.history new.history before after agree (ap (λ (c : CoreState). c.history) same) held

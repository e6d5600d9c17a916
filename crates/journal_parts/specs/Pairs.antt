-- The durable and the volatile part together: their tie, and the effect of a hold of both.
use Rattle.std.specs.Prelude.{ℕ, ◌≡◌, ◌⊎◌, ◌<◌, ◌≤◌, ◌++◌, ◌∷◌, [], length, All}
use mathlib.Core.List.{IsPrefix}
use Rattle.journal_world.specs.declared.refusal.Refusal.{Refusal}
use Rattle.journal_world.specs.declared.refusal.Refusal.TheVariants.{NoMemory, Stale}
use Rattle.journal_world.specs.Histories.{count, floor}
use Rattle.journal_world.specs.Histories.Entry.{stable}
use Rattle.journal_memlog.specs.Logs.{next_position, tail_of}
use Rattle.journal_wal.specs.Wal.{with_room}
use Rattle.journal_wal.specs.Groups.{FitsGroup}
use Rattle.journal_tail.specs.Tails.{cut_points, cut_after}
use Rattle.journal_objlog.specs.ObjectLogs.{end_of, IsCutLogged}
use Rattle.journal_memory.specs.declared.refusal_number.RefusalNumber.TheVariants.{J9}
use Rattle.journal_parts.specs.declared.step.LogStep.{LogStep}
use Rattle.journal_parts.specs.declared.step.LogStep.TheVariants.{Idle, Cut, Marked}
use Rattle.journal_memory.specs.Causes.{CauseState, IsExplained}
use Rattle.journal_memory.specs.Ledgers.{IsMarkRefusal}
use Rattle.journal_parts.specs.Durables.{DurableState, TakesCut, IsRoomRefusal}
use Rattle.journal_memory.specs.Volatiles.{VolatileState, IsFrontRefusal}

-- The facts that neither part can keep by itself. Each is tested where a step needs it, and a pair
-- that is tied passes
pub record Tied (v : VolatileState) (d : DurableState) : Type 0 where
  -- the history goes on where the durable part's front ends
  pub begins : IsPrefix d.front v.ledger.history
  pub marked : floor v.ledger.history ≡ d.marked
  -- all that memory has dropped is logged
  pub trimmed : v.tail.trimmed ≤ d.logged
  pub cut : v.ledger.cut ≡ d.coming
  -- the next group begins after the last
  pub position : v.tail.log.cut ≡ next_position d.objects.log
  pub logged : All (λ c. c.end ≤ end_of d.objects → c.commits ≤ d.logged) (cut_points v.tail)

-- A hold of both that needs no device call is due

-- All that was cut is logged, and it is not marked yet
pub record IsMarkDue (v : VolatileState) (d : DurableState) : Type 0 where
  pub cut : v.ledger.cut ≡ d.logged
  pub more : floor v.ledger.history < d.logged

-- All that was cut is logged, and the log has a place for the tail
pub record IsCutDue (v : VolatileState) (d : DurableState) : Type 0 where
  pub logged : v.ledger.cut ≤ d.logged
  pub fits : FitsGroup d.objects (length (tail_of v.tail.log))

-- Nothing that commits wrote awaits logging, and not all of them are marked
pub record IsRestDue (v : VolatileState) (d : DurableState) : Type 0 where
  pub logged : v.ledger.cut ≤ d.logged
  pub rest : IsCutLogged d.objects
  pub tail : tail_of v.tail.log ≡ []
  pub more : floor v.ledger.history < count v.ledger.history

-- none of the three
pub record IsNothingDue (v : VolatileState) (d : DurableState) : Type 0 where
  pub mark : IsMarkDue v d → ⊥
  pub cut : IsCutDue v d → ⊥
  pub rest : IsRestDue v d → ⊥

-- The tail became the group in flight
pub record CutsBoth (v : VolatileState) (d : DurableState) (w : VolatileState) (e : DurableState) : Type 0 where
  pub due : IsCutDue v d
  pub volatile : w ≡ record v { ledger = record v.ledger { cut = count v.ledger.history }; tail = cut_after v.tail (count v.ledger.history) }
  pub group : TakesCut v.ledger.history (tail_of v.tail.log) d e

-- All logged commits were marked, in the history and beside the log
pub record MarksBoth (v : VolatileState) (d : DurableState) (w : VolatileState) (e : DurableState) : Type 0 where
  pub due : IsMarkDue v d
  pub volatile : w ≡ record v { ledger = record v.ledger { history = v.ledger.history ++ stable d.logged ∷ []; cut = d.logged } }
  pub durable : e ≡ record d { front = v.ledger.history ++ stable d.logged ∷ []; marked = d.logged }

-- All commits were marked, in the history and beside the log: those since the last cut wrote
-- nothing
pub record MarksAll (v : VolatileState) (d : DurableState) (w : VolatileState) (e : DurableState) : Type 0 where
  pub due : IsRestDue v d
  pub volatile : w ≡ record v {
    ledger = record v.ledger { history = v.ledger.history ++ stable (count v.ledger.history) ∷ []; cut = count v.ledger.history };
  }
  pub durable : e ≡ record d {
    front = v.ledger.history ++ stable (count v.ledger.history) ∷ [];
    marked = count v.ledger.history;
    logged = count v.ledger.history;
    coming = count v.ledger.history;
  }

-- the work that was done where no device call was due, by the answer: the first of the three that
-- was due
abbrev pub DoesWhatIsDue : VolatileState → DurableState → LogStep → VolatileState → DurableState → Type 0
DoesWhatIsDue v d Idle w e = IsNothingDue v d × (w ≡ v) × (e ≡ d)
DoesWhatIsDue v d Cut w e = (IsMarkDue v d → ⊥) × CutsBoth v d w e
DoesWhatIsDue v d (Marked n) w e =
    ((n ≡ d.logged) × MarksBoth v d w e) ⊎ ((n ≡ count v.ledger.history) × (IsMarkDue v d → ⊥) × MarksAll v d w e)
DoesWhatIsDue v d other w e = ⊥

-- J9: the history has a mark above n, as this cause has it
abbrev pub IsMarkedAbove : VolatileState → ℕ → Refusal CauseState → Type 0
IsMarkedAbove v n (Stale cause) = IsExplained J9 v.ledger.history cause × (n < floor v.ledger.history)
IsMarkedAbove v n other = ⊥

-- why a hold of both is refused: the durable part's front is the longer, or its mark is the lower
abbrev pub IsUntied : VolatileState → DurableState → ℕ → Refusal CauseState → Type 0
IsUntied v d n refusal = IsFrontRefusal v.ledger.history d.front refusal ⊎ IsMarkedAbove v n refusal

-- why the tail is not cut
abbrev pub IsCutRefusal : VolatileState → DurableState → Refusal CauseState → Type 0
IsCutRefusal v d refusal =
    IsUntied v d d.marked refusal
    ⊎ IsRoomRefusal d (length (tail_of v.tail.log)) refusal
    ⊎ (IsCutDue v d × (refusal ≡ NoMemory))

-- why what is logged is not marked
abbrev pub IsMarkingRefusal : VolatileState → DurableState → Refusal CauseState → Type 0
IsMarkingRefusal v d refusal = IsUntied v d d.logged refusal ⊎ (IsMarkDue v d × IsMarkRefusal v.ledger.history refusal)

-- why the commits that wrote nothing are not marked
abbrev pub IsRestRefusal : VolatileState → DurableState → Refusal CauseState → Type 0
IsRestRefusal v d refusal = IsFrontRefusal v.ledger.history d.front refusal ⊎ (IsRestDue v d × IsMarkRefusal v.ledger.history refusal)

-- why what is due is not done, and what is left of the durable part
abbrev pub IsDueRefusal : VolatileState → DurableState → Refusal CauseState → DurableState → Type 0
IsDueRefusal v d refusal e =
    (IsMarkingRefusal v d refusal × (e ≡ d))
    ⊎ ((IsMarkDue v d → ⊥) × IsCutRefusal v d refusal × (e ≡ record d { objects = with_room d.objects e.objects.log.room }))
    ⊎ ((IsMarkDue v d → ⊥) × IsRestRefusal v d refusal × (e ≡ d))

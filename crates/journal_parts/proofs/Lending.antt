-- What lending the disk answers, as one event.
use Rattle.std.proofs.Common.{◌≡◌, inl, inr, IsTrue, Result, Ok, Err, IfOk, IfErr, OnOk, IsErrAnd, sym, subst}
use Rattle.journal_world.specs.declared.refusal.Refusal.{Refusal}
use Rattle.journal_world.specs.Histories.{is_trusted}
use Rattle.journal_disk.specs.Images.{EveryImage}
use Rattle.journal_history.specs.Tokens.{SessionState, OnlyExtends}
use Rattle.journal_memory.specs.Causes.{CauseState}
use Rattle.journal_memory.specs.Ledgers.{IsStaleRefusal}
use Rattle.journal_parts.specs.Durables.{DurableState, disk_of}
use Rattle.journal_memory.specs.Volatiles.{VolatileState}
use Rattle.journal_parts.specs.Pairs.{Tied, IsUntied}
use Rattle.journal_parts.specs.Cores.{Leaves}
use Rattle.journal_parts.specs.Holds.{AnswersDisk}

-- the disk, lent under both
module _ {A : Type 0} (v : VolatileState) (d : DurableState) (s after : SessionState) where
  pub disk_lent : (r : Result A (Refusal CauseState)) → after.seen ≡ v.ledger.history → OnlyExtends s after → OnOk r (is_trusted v.ledger.history ≡ (disk_of d).honest)
      → (IsTrue (disk_of d).honest → IfOk r (λ _. EveryImage (disk_of d).past (Leaves v.ledger.history))) → IfErr r (IsUntied v d d.marked) → (Tied v d → IfErr r (λ _. ⊥))
      → AnswersDisk v d s r after
  disk_lent (Ok disk) shown extends trusted images refusal only = record { shown = shown; extends = extends; trusted = trusted; images = images }
  disk_lent (Err why) shown extends trusted images refusal only = record { refusal = inr (refusal, only); extends = extends }

  pub disk_unshown : (r : Result A (Refusal CauseState)) (why : Refusal CauseState) → IsErrAnd r (λ (e : Refusal CauseState). e ≡ why) → IsStaleRefusal v.ledger.history why → OnlyExtends s after
      → AnswersDisk v d s r after
  disk_unshown (Ok disk) why is stale extends = absurd is
  disk_unshown (Err e) why is stale extends = record { refusal = inl (subst (IsStaleRefusal v.ledger.history) (sym is) stale); extends = extends }

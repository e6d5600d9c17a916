-- The numbers of why nothing was done.
use Rattle.std.specs.Prelude.{◌≡◌, refl, ℕ, List, [], ◌∷◌, Option, Some}
use Rattle.journal_xdr.specs.Basic.{listed}
use Rattle.journal_xdr.specs.BasicLaws.{listed_back}
use Rattle.journal_world.specs.declared.refusal.Refusal.{Refusal}
use Rattle.journal_world.specs.declared.refusal.Refusal.TheVariants as journal
use Rattle.journal_records.specs.declared.refused.Refused.{Refused}
use Rattle.journal_records.specs.declared.refused.Refused.TheVariants.{NoMemory, BadAddress, BadSize, TooLarge, Busy, DeviceFailed, BadLog, BadSuper, Stale, Stranger, Worn, Full, Closed, Fenced, Conflict, UnknownOperation, Malformed, TooLong, OtherVersion, Forbidden, ReadOnly}

-- the same reason as the journal's refusal
abbrev pub refused_as : {C : Type 0} → Refusal C → Refused
refused_as journal.NoMemory = NoMemory
refused_as journal.BadAddress = BadAddress
refused_as journal.BadSize = BadSize
refused_as journal.TooLarge = TooLarge
refused_as journal.Busy = Busy
refused_as (journal.DeviceFailed cause) = DeviceFailed
refused_as journal.BadLog = BadLog
refused_as journal.BadSuper = BadSuper
refused_as (journal.Stale cause) = Stale
refused_as (journal.Stranger cause) = Stranger
refused_as (journal.Worn cause) = Worn
refused_as (journal.Full cause) = Full
refused_as (journal.Closed cause) = Closed
refused_as journal.Fenced = Fenced

-- 1 to 14 as the journal numbers its refusals, and the port's own from 64 on. 65 is a commit in the
-- history, so it is none of these
abbrev pub reasons : List (ℕ × Refused)
reasons = (1, NoMemory) ∷ (2, BadAddress) ∷ (3, BadSize) ∷ (4, TooLarge) ∷ (5, Busy) ∷ (6, DeviceFailed) ∷ (7, BadLog) ∷ (8, BadSuper) ∷ (9, Stale) ∷ (10, Stranger) ∷ (11, Worn) ∷ (12, Full) ∷ (13, Closed) ∷ (14, Fenced)
    ∷ (64, Conflict) ∷ (66, UnknownOperation) ∷ (67, Malformed) ∷ (68, TooLong) ∷ (69, OtherVersion) ∷ (70, Forbidden) ∷ (71, ReadOnly) ∷ []

abbrev pub refused_of : ℕ → Option Refused
refused_of n = listed reasons n

abbrev pub refused_number : Refused → ℕ
refused_number NoMemory = 1
refused_number BadAddress = 2
refused_number BadSize = 3
refused_number TooLarge = 4
refused_number Busy = 5
refused_number DeviceFailed = 6
refused_number BadLog = 7
refused_number BadSuper = 8
refused_number Stale = 9
refused_number Stranger = 10
refused_number Worn = 11
refused_number Full = 12
refused_number Closed = 13
refused_number Fenced = 14
refused_number Conflict = 64
refused_number UnknownOperation = 66
refused_number Malformed = 67
refused_number TooLong = 68
refused_number OtherVersion = 69
refused_number Forbidden = 70
refused_number ReadOnly = 71

pub refused_is : (r : Refused) → refused_of (refused_number r) ≡ Some r
refused_is NoMemory = refl
refused_is BadAddress = refl
refused_is BadSize = refl
refused_is TooLarge = refl
refused_is Busy = refl
refused_is DeviceFailed = refl
refused_is BadLog = refl
refused_is BadSuper = refl
refused_is Stale = refl
refused_is Stranger = refl
refused_is Worn = refl
refused_is Full = refl
refused_is Closed = refl
refused_is Fenced = refl
refused_is Conflict = refl
refused_is UnknownOperation = refl
refused_is Malformed = refl
refused_is TooLong = refl
refused_is OtherVersion = refl
refused_is Forbidden = refl
refused_is ReadOnly = refl

pub refused_back : (n : ℕ) (r : Refused) → refused_of n ≡ Some r → refused_number r ≡ n
refused_back = listed_back refused_number reasons
    (refl, (refl, (refl, (refl, (refl, (refl, (refl, (refl, (refl, (refl, (refl, (refl, (refl, (refl, (refl, (refl, (refl, (refl, (refl, (refl, (refl, tt)))))))))))))))))))))

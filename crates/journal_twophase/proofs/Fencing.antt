-- A session that is refused since it is fenced has seen its fence.
use Rattle.std.proofs.Common.{Result, Ok, Err, IfErr, List}
use Rattle.journal_world.specs.declared.refusal.Refusal.{Refusal}
use Rattle.journal_world.specs.declared.refusal.Refusal.TheVariants.{NoMemory, BadAddress, BadSize, TooLarge, Busy, DeviceFailed, BadLog, BadSuper, Stale, Stranger, Worn, Full, Closed, Fenced}
use Rattle.journal_world.specs.Histories.{Entry}
use Rattle.journal_history.specs.Tokens.{SessionState}
use Rattle.journal_memory.specs.Causes.{CauseState}
use Rattle.journal_memory.specs.Ledgers.{ShowsLonger}
use Rattle.journal_twophase.specs.Commits.{ShowsFence}

shows : (history : List Entry) (s : SessionState) (why : Refusal CauseState) → ShowsLonger history s why → ShowsFence s why
shows history s Fenced longer = longer
shows history s NoMemory longer = tt
shows history s BadAddress longer = tt
shows history s BadSize longer = tt
shows history s TooLarge longer = tt
shows history s Busy longer = tt
shows history s (DeviceFailed cause) longer = tt
shows history s BadLog longer = tt
shows history s BadSuper longer = tt
shows history s (Stale cause) longer = tt
shows history s (Stranger cause) longer = tt
shows history s (Worn cause) longer = tt
shows history s (Full cause) longer = tt
shows history s (Closed cause) longer = tt

pub shows_fence : {T : Type 0} (history : List Entry) (s : SessionState) (r : Result T (Refusal CauseState)) → IfErr r (ShowsLonger history s) → IfErr r (ShowsFence s)
shows_fence history s (Ok value) longer = tt
shows_fence history s (Err why) longer = shows history s why longer

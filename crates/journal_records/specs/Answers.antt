-- How answers are spelled.
use Rattle.std.specs.Prelude.{ℕ, ◌==◌, if◌then◌else◌, List, Option, Some, None}
use Rattle.journal_xdr.specs.Items.{Item, ◌>>=◌, pair, coded, mapped_item, tagged, only, variant}
use Rattle.journal_xdr.specs.Basic.{word, hyper}
use Rattle.journal_world.specs.declared.layout.TheConstants.{REGIONS}
use Rattle.journal_records.specs.declared.limits.TheConstants.{ADDRESSES, BITS, COUNTERS}
use Rattle.journal_records.specs.declared.greeting.ObjectRegion.{ObjectRegion}
use Rattle.journal_records.specs.declared.greeting.Opening as code_opening
use Rattle.journal_records.specs.declared.greeting.Version.{Version}
use Rattle.journal_records.specs.declared.greeting.Version.TheVariants.{One, Two}
use Rattle.journal_records.specs.declared.answer.Counter.{Counter}
use Rattle.journal_records.specs.declared.operation.Operation.{Operation}
use Rattle.journal_records.specs.declared.operation.Operation.TheVariants as operations
use Rattle.journal_records.specs.declared.refused.Refused as reason
use Rattle.journal_records.specs.declared.answer.Answer as code_answer
use Rattle.journal_records.specs.declared.answer.Answer.TheVariants as code
use Rattle.journal_records.specs.Operations.{operation, version}
use Rattle.journal_records.specs.Statuses.{refused_of, refused_number}
use Rattle.journal_records.specs.Arrays.{array}
use Rattle.journal_records.specs.Requests.{value}

-- The answers
pub data Told : Type 0 where
  Hello : (blocks : ℕ) → Told
  Opening : (blocks number slots most_blocks : ℕ) → List ObjectRegion → Told
  Committed : (place commits : ℕ) → Told
  Values : List (List ℕ) → Told
  Flushed : (stable : ℕ) → Told
  Stat : (commits stable : ℕ) → Told
  Stopping : Told
  Counters : List Counter → Told
  Bits : List ℕ → Told
  Unsure : (place commits : ℕ) → Told
  Refused : reason.Refused → Told

abbrev pub told_opening : code_opening.Opening → Told
told_opening o = Opening o.blocks o.number o.slots o.most_blocks o.regions.items

abbrev pub told_of : code_answer.Answer → Told
told_of (code.Hello blocks) = Hello blocks
told_of (code.Opening opening) = told_opening opening
told_of (code.Committed place commits) = Committed place commits
told_of (code.Values values) = Values values.items
told_of (code.Flushed stable) = Flushed stable
told_of (code.Stat commits stable) = Stat commits stable
told_of code.Stopping = Stopping
told_of (code.Counters counters) = Counters counters.items
told_of (code.Bits bits) = Bits bits.items
told_of (code.Unsure place commits) = Unsure place commits
told_of (code.Refused why) = Refused why

-- the first word of an answer: 0 if it was done, 65 for a commit that is in the history and not
-- known to be stable, and else why nothing was done
pub data Status : Type 0 where
  Done : Status
  NotSure : Status
  NotDone : reason.Refused → Status

abbrev pub status_of : ℕ → Option Status
status_of n = if n == 0 then Some Done else (if n == 65 then Some NotSure else (refused_of n >>= λ why. Some (NotDone why)))

abbrev pub status_number : Status → ℕ
status_number Done = 0
status_number NotSure = 65
status_number (NotDone why) = refused_number why

abbrev pub status : Item Status
status = coded word status_of status_number

-- a region: its first block, and how many bits an object has
unfoldable pub region : Item ObjectRegion
region = mapped_item (pair hyper word) (λ p. record { first = p.0; bits = p.1 }) (λ r. (r.first, r.bits))

-- a counter: its name and its value
unfoldable pub counter : Item Counter
counter = mapped_item (pair word hyper) (λ p. record { name = p.0; value = p.1 }) (λ c. (c.name, c.value))

abbrev pub hello_part : Told → Option ℕ
hello_part (Hello blocks) = Some blocks
hello_part _ = None

abbrev pub opening_part : Told → Option (ℕ × (ℕ × (ℕ × (ℕ × List ObjectRegion))))
opening_part (Opening blocks number slots most_blocks regions) = Some (blocks, (number, (slots, (most_blocks, regions))))
opening_part _ = None

abbrev pub committed_part : Told → Option (ℕ × ℕ)
committed_part (Committed place commits) = Some (place, commits)
committed_part _ = None

abbrev pub values_part : Told → Option (List (List ℕ))
values_part (Values values) = Some values
values_part _ = None

abbrev pub flushed_part : Told → Option ℕ
flushed_part (Flushed stable) = Some stable
flushed_part _ = None

abbrev pub stat_part : Told → Option (ℕ × ℕ)
stat_part (Stat commits stable) = Some (commits, stable)
stat_part _ = None

abbrev pub unsure_part : Told → Option (ℕ × ℕ)
unsure_part (Unsure place commits) = Some (place, commits)
unsure_part _ = None

abbrev pub counters_part : Told → Option (List Counter)
counters_part (Counters counters) = Some counters
counters_part _ = None

abbrev pub bits_part : Told → Option (List ℕ)
bits_part (Bits bits) = Some bits
bits_part _ = None

-- an opening: the blocks, its number, the slots, the most blocks of a transaction, the regions
unfoldable pub opening : Item Told
opening = variant (pair hyper (pair hyper (pair word (pair word (array REGIONS region))))) (λ p. Opening p.0 p.1.0 p.1.1.0 p.1.1.1.0 p.1.1.1.1) opening_part

-- the item after the version of the answer to a hello
abbrev pub greeting_arm : Version → Item Told
greeting_arm One = variant hyper (λ blocks. Hello blocks) hello_part
greeting_arm Two = opening

abbrev pub version_told : Told → Version
version_told (Opening blocks number slots most_blocks regions) = Two
version_told _ = One

unfoldable pub greeting : Item Told
greeting = tagged version greeting_arm version_told

-- it answers a hello
abbrev pub IsGreeting : Told → Type 0
IsGreeting (Hello blocks) = Unit {0}
IsGreeting (Opening blocks number slots most_blocks regions) = Unit {0}
IsGreeting other = ⊥

-- the item after the status that it was done and the number of its operation
abbrev pub done_arm : Operation → Item Told
done_arm operations.Hello = greeting
done_arm operations.Commit = variant (pair hyper hyper) (λ p. Committed p.0 p.1) committed_part
done_arm operations.Read = variant (array ADDRESSES value) (λ values. Values values) values_part
done_arm operations.Flush = variant hyper (λ stable. Flushed stable) flushed_part
done_arm operations.Stat = variant (pair hyper hyper) (λ p. Stat p.0 p.1) stat_part
done_arm operations.Stop = only Stopping
done_arm operations.Counters = variant (array COUNTERS counter) (λ counters. Counters counters) counters_part
done_arm operations.Scan = variant (array BITS word) (λ bits. Bits bits) bits_part

abbrev pub operation_told : Told → Operation
operation_told (Hello blocks) = operations.Hello
operation_told (Opening blocks number slots most_blocks regions) = operations.Hello
operation_told (Committed place commits) = operations.Commit
operation_told (Values values) = operations.Read
operation_told (Flushed stable) = operations.Flush
operation_told (Stat commits stable) = operations.Stat
operation_told (Counters counters) = operations.Counters
operation_told (Bits bits) = operations.Scan
operation_told _ = operations.Stop

unfoldable pub done : Item Told
done = tagged operation done_arm operation_told

abbrev pub answer_arm : Status → Item Told
answer_arm Done = done
answer_arm NotSure = variant (pair hyper hyper) (λ p. Unsure p.0 p.1) unsure_part
answer_arm (NotDone why) = only (Refused why)

abbrev pub status_told : Told → Status
status_told (Unsure place commits) = NotSure
status_told (Refused why) = NotDone why
status_told _ = Done

unfoldable pub answer : Item Told
answer = tagged status answer_arm status_told

-- it was done
abbrev pub IsDone : Told → Type 0
IsDone (Unsure place commits) = ⊥
IsDone (Refused why) = ⊥
IsDone other = Unit {0}

-- How requests are spelled.
use Rattle.std.specs.Prelude.{ℕ, Bool, List, Option, Some, None}
use Rattle.journal_world.specs.declared.address.Addr.{Addr}
use Rattle.journal_xdr.specs.Items.{Item, pair, mapped_item, tagged, only, variant}
use Rattle.journal_xdr.specs.Basic.{word, hyper, boolean, opaque}
use Rattle.journal_records.specs.declared.limits.TheConstants.{PARTS, ADDRESSES, VALUE_BYTES}
use Rattle.journal_records.specs.declared.operation.Operation.{Operation}
use Rattle.journal_records.specs.declared.operation.Operation.TheVariants as operations
use Rattle.journal_records.specs.declared.request.Part.{Part}
use Rattle.journal_records.specs.declared.request.Request as code_request
use Rattle.journal_records.specs.declared.request.Request.TheVariants as code
use Rattle.journal_records.specs.Operations.{operation, action}
use Rattle.journal_records.specs.Arrays.{array}

-- The requests
pub data Message : Type 0 where
  Hello : (version : ℕ) → Message
  Commit : (parts : List Part) → (waits : Bool) → Message
  Read : (addresses : List Addr) → Message
  Flush : Message
  Stat : Message
  Stop : Message
  Counters : Message
  Scan : (block first : ℕ) → (value : Bool) → (most : ℕ) → Message

abbrev pub message_of : code_request.Request → Message
message_of (code.Hello version) = Hello version
message_of (code.Commit parts waits) = Commit parts.items waits
message_of (code.Read addresses) = Read addresses.items
message_of code.Flush = Flush
message_of code.Stat = Stat
message_of code.Stop = Stop
message_of code.Counters = Counters
message_of (code.Scan block first value most) = Scan block first value most

-- an object's bytes
unfoldable pub value : Item (List ℕ)
value = opaque VALUE_BYTES

-- an address: the block, and the first bit in it
unfoldable pub address : Item Addr
address = mapped_item (pair hyper word) (λ p. record { block = p.0; off = p.1 }) (λ a. (a.block, a.off))

-- a part of a transaction: its action, its address and its value
unfoldable pub part : Item Part
part = mapped_item (pair action (pair address value)) (λ p. record { action = p.0; addr = p.1.0; value = p.1.1 }) (λ p. (p.action, (p.addr, p.value)))

abbrev pub hello_part : Message → Option ℕ
hello_part (Hello version) = Some version
hello_part _ = None

abbrev pub commit_part : Message → Option (Bool × List Part)
commit_part (Commit parts waits) = Some (waits, parts)
commit_part _ = None

abbrev pub read_part : Message → Option (List Addr)
read_part (Read addresses) = Some addresses
read_part _ = None

abbrev pub scan_part : Message → Option (ℕ × (ℕ × (Bool × ℕ)))
scan_part (Scan block first wanted most) = Some (block, (first, (wanted, most)))
scan_part _ = None

-- the item after the operation's number: of a hello the client's version, of a transaction a flag
-- that it waits and its parts, of a request to read the addresses, of a scan the block, the first
-- bit, the value and how many bits are wanted
abbrev pub request_arm : Operation → Item Message
request_arm operations.Hello = variant word (λ version. Hello version) hello_part
request_arm operations.Commit = variant (pair boolean (array PARTS part)) (λ p. Commit p.1 p.0) commit_part
request_arm operations.Read = variant (array ADDRESSES address) (λ addresses. Read addresses) read_part
request_arm operations.Flush = only Flush
request_arm operations.Stat = only Stat
request_arm operations.Stop = only Stop
request_arm operations.Counters = only Counters
request_arm operations.Scan = variant (pair hyper (pair word (pair boolean word))) (λ p. Scan p.0 p.1.0 p.1.1.0 p.1.1.1) scan_part

abbrev pub operation_asked : Message → Operation
operation_asked (Hello version) = operations.Hello
operation_asked (Commit parts waits) = operations.Commit
operation_asked (Read addresses) = operations.Read
operation_asked Flush = operations.Flush
operation_asked Stat = operations.Stat
operation_asked Stop = operations.Stop
operation_asked Counters = operations.Counters
operation_asked (Scan block first wanted most) = operations.Scan

unfoldable pub request : Item Message
request = tagged operation request_arm operation_asked

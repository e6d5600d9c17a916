-- The limits of what records hold.
use Rattle.std.specs.Prelude.{refl, ℕ, Bool, true, nat_le, IsTrue, List, length}
use Rattle.journal_world.specs.declared.address.Addr.{Addr}
use Rattle.journal_xdr.specs.Basic.{opaque}
use Rattle.journal_xdr.specs.Basic.{word}
use Rattle.journal_world.specs.declared.layout.TheConstants.{REGIONS}
use Rattle.journal_records.specs.declared.limits.TheConstants.{PARTS, ADDRESSES, VALUE_BYTES, BITS, COUNTERS}
use Rattle.journal_records.specs.declared.answer.Counter.{Counter}
use Rattle.journal_records.specs.declared.greeting.ObjectRegion.{ObjectRegion}
use Rattle.journal_records.specs.declared.request.Part.{Part}
use Rattle.journal_records.specs.Arrays.{AreFew}
use Rattle.journal_records.specs.Requests.{value, address, part, Message}
use Rattle.journal_records.specs.Requests as asked
use Rattle.journal_records.specs.Answers.{Told, region, counter}
use Rattle.journal_records.specs.Answers as told

abbrev pub is_short_address : Addr → Bool
is_short_address a = true

abbrev pub is_short_value : List ℕ → Bool
is_short_value bytes = nat_le (length bytes) VALUE_BYTES

abbrev pub is_short_part : Part → Bool
is_short_part p = is_short_value p.value

abbrev pub is_short_region : ObjectRegion → Bool
is_short_region r = true

abbrev pub is_short_counter : Counter → Bool
is_short_counter c = true

abbrev pub is_short_bit : ℕ → Bool
is_short_bit n = true

-- the values of items are short
pub address_short : (a : Addr) → address.Has a → IsTrue (is_short_address a)
address_short a has = refl

pub value_short : (bytes : List ℕ) → value.Has bytes → IsTrue (is_short_value bytes)
unfolding value opaque
value_short bytes has = has.0.1

pub part_short : (p : Part) → part.Has p → IsTrue (is_short_part p)
unfolding part
part_short p has = value_short p.value has.1.1

pub region_short : (r : ObjectRegion) → region.Has r → IsTrue (is_short_region r)
region_short r has = refl

pub counter_short : (c : Counter) → counter.Has c → IsTrue (is_short_counter c)
counter_short c has = refl

pub bit_short : (n : ℕ) → word.Has n → IsTrue (is_short_bit n)
bit_short n has = refl

-- a request within the limits of its list and of its values
abbrev pub IsAskable : Message → Type 0
IsAskable (asked.Commit parts waits) = AreFew PARTS is_short_part parts
IsAskable (asked.Read addresses) = AreFew ADDRESSES is_short_address addresses
IsAskable other = Unit {0}

-- an answer within them
abbrev pub IsTellable : Told → Type 0
IsTellable (told.Values values) = AreFew ADDRESSES is_short_value values
IsTellable (told.Opening blocks number slots most_blocks regions) = AreFew REGIONS is_short_region regions
IsTellable (told.Counters counters) = AreFew COUNTERS is_short_counter counters
IsTellable (told.Bits bits) = AreFew BITS is_short_bit bits
IsTellable other = Unit {0}

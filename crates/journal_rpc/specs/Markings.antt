-- The markings of records.
use Rattle.std.specs.Prelude.{ℕ, ◌+◌, ◌<◌, ◌^◌}
use Rattle.journal_rpc.specs.declared.marking.Marking.{Marking}

-- the most bytes of a record of remote procedure calls, its fragments together
abbrev pub record_limit : ℕ
record_limit = 16384

-- that of remote procedure calls (RFC 5531, section 11): the top bit marks the last fragment
abbrev pub record_marking : Marking
record_marking = record { most_bytes = record_limit; last = 2 ^ 31 }

-- records that are each after their length
abbrev pub whole_records : ℕ → Marking
whole_records most_bytes = record { most_bytes = most_bytes; last = 0 }

-- a header has room for the last fragment of a record
abbrev pub HasRoom : Marking → Type 0
HasRoom m = m.last + m.most_bytes < 2 ^ 32

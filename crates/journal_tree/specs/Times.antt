-- Times, and how the time of a change grows.
use Rattle.std.specs.Prelude.{ℕ, ◌≡◌, ◌<◌, ◌+◌, ◌⊎◌, ◌==◌, ◌&&◌, ◌||◌, nat_lt, Bool, if◌then◌else◌}
use Rattle.journal_tree.specs.declared.time.TheConstants.{NANOS, LAST_SECOND}
use Rattle.journal_tree.specs.declared.time.Time.{Time}
use Rattle.journal_tree.specs.declared.reply.Attributes.{Attributes}

-- One time is before another
abbrev pub IsBefore : Time → Time → Type 0
IsBefore t u = (t.secs < u.secs) ⊎ ((t.secs ≡ u.secs) × (t.nanos < u.nanos))

-- the greatest time
abbrev pub LAST_TIME : Time
LAST_TIME = record { secs = 4294967295; nanos = 999999999 }

-- A time of a node: 32 bits of seconds, and nanoseconds below a full second
abbrev pub IsTime : Time → Type 0
IsTime t = (t.secs < 4294967296) × (t.nanos < NANOS)

abbrev pub is_before : Time → Time → Bool
is_before t u = nat_lt t.secs u.secs || (t.secs == u.secs && nat_lt t.nanos u.nanos)

abbrev pub is_same_time : Time → Time → Bool
is_same_time t u = t.secs == u.secs && t.nanos == u.nanos

-- the time one nanosecond later. After the greatest there is none, and it stays
abbrev pub following : Time → Time
following t =
    if nat_lt (t.nanos + 1) NANOS then record { secs = t.secs; nanos = t.nanos + 1 }
    else if nat_lt t.secs LAST_SECOND then record { secs = t.secs + 1; nanos = 0 }
    else t

-- the time of a change that is made at this moment by the clock: it is after that of the last
-- change, also where the clock stands or went back
abbrev pub time_of_change : Time → Time → Time
time_of_change last now = if is_before last now then now else following last

-- the same of a change of a directory's names: it is not the mtime that the directory shows either
abbrev pub time_of_names : Attributes → Time → Time
time_of_names a now =
    let t = time_of_change a.ctime now in
    if is_same_time t a.mtime then following t else t

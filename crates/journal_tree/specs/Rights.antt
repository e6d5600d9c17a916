-- What a caller may do to a node, by its mode (POSIX) and by RFC 1813, section 4.4.
use Rattle.std.specs.Prelude.{ℕ, ◌+◌, ◌-◌, ◌/◌, ◌%◌, ◌==◌, Bool, not, ◌&&◌, ◌||◌, if◌then◌else◌}
use Rattle.journal_tree.specs.declared.reply.Attributes.{Attributes}
use Rattle.journal_tree.specs.declared.caller.Caller.{Caller}
use Rattle.journal_tree.specs.Callers.{is_root, is_member}

-- the bits of a mode: the rights of all others, and those that stand above the nine
abbrev pub READ_BIT : ℕ
READ_BIT = 4

abbrev pub WRITE_BIT : ℕ
WRITE_BIT = 2

abbrev pub EXECUTE_BIT : ℕ
EXECUTE_BIT = 1

abbrev pub GROUP_EXECUTE_BIT : ℕ
GROUP_EXECUTE_BIT = 8

abbrev pub OWNER_EXECUTE_BIT : ℕ
OWNER_EXECUTE_BIT = 64

abbrev pub STICKY_BIT : ℕ
STICKY_BIT = 512

abbrev pub SET_GROUP_BIT : ℕ
SET_GROUP_BIT = 1024

abbrev pub SET_USER_BIT : ℕ
SET_USER_BIT = 2048

abbrev pub has_bit : ℕ → ℕ → Bool
has_bit mode bit = mode / bit % 2 == 1

abbrev pub without_bit : ℕ → ℕ → ℕ
without_bit mode bit = if has_bit mode bit then mode - bit else mode

abbrev pub with_bit : ℕ → ℕ → ℕ
with_bit mode bit = if has_bit mode bit then mode else mode + bit

abbrev pub is_owner : Caller → Attributes → Bool
is_owner c a = c.user == a.owner

-- the mode shifted, so that its lowest three bits are those that hold for the caller: the owner's,
-- else the group's where he is in it, else those of all others
abbrev pub bits_for : Caller → Attributes → ℕ
bits_for c a = if is_owner c a then a.mode / 64 else if is_member c a.group then a.mode / 8 else a.mode

-- root may read and write whatever the mode is
abbrev pub may_read : Caller → Attributes → Bool
may_read c a = is_root c || has_bit (bits_for c a) READ_BIT

abbrev pub may_write : Caller → Attributes → Bool
may_write c a = is_root c || has_bit (bits_for c a) WRITE_BIT

-- a directory is searched for a name
abbrev pub may_search : Caller → Attributes → Bool
may_search c a = is_root c || has_bit (bits_for c a) EXECUTE_BIT

-- root runs a file that anybody may run
abbrev pub may_run : Caller → Attributes → Bool
may_run c a =
    if is_root c then has_bit a.mode OWNER_EXECUTE_BIT || has_bit a.mode GROUP_EXECUTE_BIT || has_bit a.mode EXECUTE_BIT
    else has_bit (bits_for c a) EXECUTE_BIT

-- READ and WRITE of a file's bytes. Its owner may both, whatever the mode is, because a client
-- looks at the mode when it opens a file, and may close that way behind it. And who may run a file
-- may READ it, because a client runs a file by reading it
abbrev pub may_fetch : Caller → Attributes → Bool
may_fetch c a = is_owner c a || may_read c a || may_run c a

abbrev pub may_store : Caller → Attributes → Bool
may_store c a = is_owner c a || may_write c a

-- whether he may put names into a directory and take them out of it
abbrev pub may_rename : Caller → Attributes → Bool
may_rename c d = may_write c d && may_search c d

-- out of a sticky directory d, he takes what is his own, or all if the directory is his
abbrev pub may_take : Caller → Attributes → Attributes → Bool
may_take c d a = not (has_bit d.mode STICKY_BIT) || is_root c || is_owner c a || is_owner c d

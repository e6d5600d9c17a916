-- Who calls.
use Rattle.std.specs.Prelude.{ℕ, ◌==◌, Bool, ◌||◌, if◌then◌else◌, map, replicate}
use Rattle.std.specs.List.{list_any}
use Rattle.journal_tree.specs.declared.limits.TheConstants.{NOBODY}
use Rattle.journal_tree.specs.declared.caller.TheConstants.{GROUPS}
use Rattle.journal_tree.specs.declared.caller.Caller.{Caller}

-- What a call says of its caller (RFC 5531): nothing, by AUTH_NONE, or user and groups, by AUTH_SYS
pub data Credential : Type 0 where
  no_credential : Credential
  system : Caller → Credential

abbrev pub nobody : Caller
nobody = record { user = NOBODY; group = NOBODY; groups = replicate GROUPS NOBODY }

-- root's number becomes nobody's
abbrev pub squashed_number : ℕ → ℕ
squashed_number n = if n == 0 then NOBODY else n

abbrev pub squashed : Caller → Caller
squashed c = record { user = squashed_number c.user; group = squashed_number c.group; groups = map squashed_number c.groups }

-- the caller by whom the rights are told, where root is squashed, or is root
abbrev pub caller_of : Bool → Credential → Caller
caller_of squash no_credential = nobody
caller_of squash (system c) = if squash then squashed c else c

abbrev pub is_root : Caller → Bool
is_root c = c.user == 0

-- whether a group is the caller's own, or one that he is in
abbrev pub is_member : Caller → ℕ → Bool
is_member c group = c.group == group || list_any (λ g. g == group) c.groups

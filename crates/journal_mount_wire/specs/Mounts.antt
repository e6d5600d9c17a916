-- The answers of MOUNT (RFC 1813, appendix I).
use Rattle.std.specs.Prelude.{ℕ, Bool, true, false, ◌||◌, List, [], ◌∷◌, ◌++◌}
use Rattle.std.specs.Str.{bytes_eq}
use Rattle.journal_xdr.specs.Items.{Item, pair, mapped_item}
use Rattle.journal_xdr.specs.Basic.{word, opaque, string}
use Rattle.journal_xdr.specs.Lists.{array, list}
use Rattle.journal_mount_wire.specs.Arguments.{MountCall, Null, Mount, Dump, Unmount, UnmountAll, Export, path}

-- exportnode: a path, and the groups that may mount it, which are all where none is named
pub record Exported : Type 0 where
  pub directory : List ℕ
  pub groups : List (List ℕ)

-- a group's name has at most 255 bytes
unfoldable pub export : Item Exported
export = mapped_item (pair path (list (string 255))) (λ p. record { directory = p.0; groups = p.1 }) (λ e. (e.directory, e.groups))

-- /files, which everybody may mount
abbrev pub slash_files : List ℕ
slash_files = 47 ∷ 102 ∷ 105 ∷ 108 ∷ 101 ∷ 115 ∷ []

abbrev pub files_export : Exported
files_export = record { directory = slash_files; groups = [] }

-- the paths that can be mounted: / and /files, each also with a / behind it
abbrev pub is_exported : List ℕ → Bool
is_exported p = bytes_eq p (47 ∷ []) || bytes_eq p (47 ∷ 47 ∷ []) || bytes_eq p slash_files || bytes_eq p (slash_files ++ 47 ∷ [])

-- fhandle3: the bytes of a handle, at most 64
abbrev pub given : Item (List ℕ)
given = opaque 64

-- MNT: OK 0, the root's handle, and the flavors of credentials 1 and 0; or NOENT 2
abbrev pub mounted_text : List ℕ → Bool → List ℕ
mounted_text root true = word.spelling 0 ++ given.spelling root ++ (array 4294967295 word).spelling (1 ∷ 0 ∷ [])
mounted_text root false = word.spelling 2

-- The answer to a call, where the root has a handle of these bytes. Nothing is kept of a mount: so
-- DUMP lists none, and UMNT and UMNTALL do nothing
abbrev pub mount_text : List ℕ → MountCall → List ℕ
mount_text root Null = []
mount_text root (Mount p) = mounted_text root (is_exported p)
mount_text root Dump = (list export).spelling []
mount_text root (Unmount p) = []
mount_text root UnmountAll = []
mount_text root Export = (list export).spelling (files_export ∷ [])

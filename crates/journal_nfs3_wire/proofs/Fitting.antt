-- Values whose numbers are in range are in the grammar.
use Rattle.std.proofs.Common.{◌≡◌, ℕ, ◌<◌, ◌^◌, Bool, true, false, cond, List, length, Option, Some, None, Ok, Err, refl, arith, lit<}
use Rattle.std.specs.Prelude.{◌==◌}
use Rattle.std.proofs.lemmas.Bool.{le-leb}
use Rattle.journal_xdr.specs.Items.{Item}
use Rattle.journal_xdr.specs.Basic.{word, hyper, boolean, fixed, opaque, optional}
use Rattle.journal_inode.specs.declared.node.Time.{Time}
use Rattle.journal_inode.specs.declared.version.FormatVersion.{FormatVersion}
use Rattle.journal_inode.specs.declared.version.FormatVersion.TheVariants.{One, Two}
use Rattle.journal_file_types.specs.declared.reply.Attributes.{Attributes}
use Rattle.journal_nfs3_wire.specs.Arguments.{time}
use Rattle.journal_nfs3_wire.specs.declared.results.NfsError.{NfsError}
use Rattle.journal_nfs3_wire.specs.declared.results.NfsError.TheVariants.{NotOwner, NoEntry, Io, NoAccess, Exists, NotDirectory, IsDirectory, Invalid, TooBig, NoSpace, ReadOnly, NameTooLong, NotEmpty, Stale, BadHandle, NotSync, NotSupported, TooSmall, ServerFault, Jukebox}
use Rattle.journal_nfs3_wire.specs.Handles.{FileHandle, file_handle}
use Rattle.journal_nfs3_wire.specs.Results.{status, outcome, given_handle, Fattr, fattr, Before, before, change}
use Rattle.journal_nfs3_wire.specs.Profile.{used_bytes, fattr_of, before_of, no_change}
use Rattle.journal_nfs3_wire.proofs.WholeLaws.{is_whole}
use Rattle.journal_nfs3_wire.proofs.ResultLaws.{file_handle_laws}

time_has : (t : Time) → t.secs < 2 ^ 32 → t.nanos < 2 ^ 32 → time.Has t
unfolding time word
time_has t s n = (s, n)

below : (b : Bool) (x y limit : ℕ) → x < limit → y < limit → cond b x y < limit
below true x y limit hx hy = hx
below false x y limit hx hy = hy

-- what the blocks of a file have is far below the greatest number of 8 bytes
used_few : (version : FormatVersion) (size : ℕ) → used_bytes version size < 2 ^ 64
used_few One size = lit< tt
used_few Two size = omega arith

pub fattr_has : (version : FormatVersion) (a : Attributes) → a.number < 2 ^ 32 → a.size < 2 ^ 64 → a.mtime.secs < 2 ^ 32 → a.mtime.nanos < 2 ^ 32 → fattr.Has (fattr_of version a)
unfolding fattr word hyper
fattr_has version a number size secs nanos =
    let t : time.Has a.mtime = time_has a.mtime secs nanos in (
      below (a.number == 1) 2 1 _ (omega arith) (omega arith),
      (
        below (a.number == 1) 493 420 _ (omega arith) (omega arith),
        (
          below (a.number == 1) 2 1 _ (omega arith) (omega arith),
          (omega arith, (omega arith, (size, (below (a.number == 1) 0 _ _ (omega arith) (used_few version a.size), ((omega arith, omega arith), (omega arith, (omega arith, (t, (t, t))))))))),
        ),
      ),
    )

pub before_has : (a : Attributes) → a.size < 2 ^ 64 → a.mtime.secs < 2 ^ 32 → a.mtime.nanos < 2 ^ 32 → before.Has (before_of a)
unfolding before hyper
before_has a size secs nanos = let t : time.Has a.mtime = time_has a.mtime secs nanos in (size, (t, t))

pub boolean_has : (b : Bool) → boolean.Has b
unfolding boolean word
boolean_has true = (omega arith, refl)
boolean_has false = (omega arith, refl)

pub some_has : {T : Type 0} (a : Item T) (v : T) → a.Has v → (optional a).Has (Some v)
some_has a v h = (boolean_has true, h)

pub none_has : {T : Type 0} (a : Item T) → (optional a).Has None
none_has a = (boolean_has false, refl)

pub change_has : (b : Before) (f : Fattr) → before.Has b → fattr.Has f → change.Has (record { before = Some b; after = Some f })
unfolding change
change_has b f hb hf = (some_has before b hb, some_has fattr f hf)

pub no_change_has : change.Has no_change
unfolding change
no_change_has = (none_has before, none_has fattr)

file_handle_has : (h : FileHandle) → h.number < 2 ^ 32 → h.generation < 2 ^ 32 → file_handle.Has h
unfolding file_handle word
file_handle_has h n g = ((omega arith, refl), (n, g))

short_has : (h : FileHandle) → (opaque 64).Has (file_handle.spelling h)
unfolding file_handle word opaque fixed
short_has h = ((omega arith, refl), refl)

pub handle_has : (h : FileHandle) → h.number < 2 ^ 32 → h.generation < 2 ^ 32 → given_handle.Has h
unfolding given_handle
handle_has h n g = (short_has h, is_whole file_handle file_handle_laws (file_handle.spelling h) h (record { has = file_handle_has h n g; is = refl }))

pub bytes_has : (v : List ℕ) → length v < 2 ^ 32 → (opaque 4294967295).Has v
unfolding opaque fixed word
bytes_has v h = ((h, le-leb _ _ (omega (arith, h))), refl)

pub verifier_has : (v : List ℕ) → length v ≡ 8 → (fixed 8).Has v
unfolding fixed
verifier_has v h = h

-- ---- outcomes

status_has : (s : Option NfsError) → status.Has s
unfolding word
status_has None = (omega arith, refl)
status_has (Some NotOwner) = (omega arith, refl)
status_has (Some NoEntry) = (omega arith, refl)
status_has (Some Io) = (omega arith, refl)
status_has (Some NoAccess) = (omega arith, refl)
status_has (Some Exists) = (omega arith, refl)
status_has (Some NotDirectory) = (omega arith, refl)
status_has (Some IsDirectory) = (omega arith, refl)
status_has (Some Invalid) = (omega arith, refl)
status_has (Some TooBig) = (omega arith, refl)
status_has (Some NoSpace) = (omega arith, refl)
status_has (Some ReadOnly) = (omega arith, refl)
status_has (Some NameTooLong) = (omega arith, refl)
status_has (Some NotEmpty) = (omega arith, refl)
status_has (Some Stale) = (omega arith, refl)
status_has (Some BadHandle) = (omega arith, refl)
status_has (Some NotSync) = (omega arith, refl)
status_has (Some NotSupported) = (omega arith, refl)
status_has (Some TooSmall) = (omega arith, refl)
status_has (Some ServerFault) = (omega arith, refl)
status_has (Some Jukebox) = (omega arith, refl)

pub ok_has : {A B : Type 0} (ok : Item A) (refused : Item B) (v : A) → ok.Has v → (outcome ok refused).Has (Ok v)
ok_has ok refused v h = (status_has None, h)

pub err_has : {A B : Type 0} (ok : Item A) (refused : Item B) (why : NfsError) (b : B) → refused.Has b → (outcome ok refused).Has (Err (why, b))
err_has ok refused why b h = (status_has (Some why), (refl, h))

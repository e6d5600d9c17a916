-- The entries of a listing, as items (RFC 1813, sections 3.3.16 and 3.3.17).
use Rattle.std.specs.Prelude.{ℕ, ◌+◌, ◌-◌, ◌/◌, ◌%◌, ◌==◌, if◌then◌else◌, List, [], ◌∷◌, Option, Some}
use Rattle.journal_xdr.specs.Items.{Item, pair, mapped_item}
use Rattle.journal_xdr.specs.Basic.{optional}
use Rattle.journal_inode.specs.declared.version.FormatVersion.{FormatVersion}
use Rattle.journal_nfs3_wire.specs.Handles.{FileHandle}
use Rattle.journal_nfs3_wire.specs.Results.{Fattr, given_handle, post_op_attributes}
use Rattle.journal_nfs3_wire.specs.QueryResults.{Entry, entry}
use Rattle.journal_nfs3_wire.specs.Profile.{fattr_of}
use Rattle.journal_mount3.specs.declared.page.Entry as code_entry

-- entryplus3
pub record EntryPlus : Type 0 where
  pub entry : Entry
  pub attributes : Option Fattr
  pub object : Option FileHandle

unfoldable pub entry_plus : Item EntryPlus
entry_plus = mapped_item (pair entry (pair post_op_attributes (optional given_handle)))
    (λ p. record { entry = p.0; attributes = p.1.0; object = p.1.1 })
    (λ e. (e.entry, (e.attributes, e.object)))

-- the name of a file: f and three decimal digits
abbrev pub file_name : ℕ → List ℕ
file_name number = 102 ∷ (48 + number / 100 % 10) ∷ (48 + number / 10 % 10) ∷ (48 + number % 10) ∷ []

-- The name of an entry: . has cookie 1, .. has 2, and each file one more than its number
abbrev pub entry_name : ℕ → List ℕ
entry_name cookie = if cookie == 1 then 46 ∷ [] else if cookie == 2 then 46 ∷ 46 ∷ [] else file_name (cookie - 1)

-- what the code's entries stand for
abbrev pub entry_of : code_entry.Entry → Entry
entry_of e = record { fileid = e.attributes.number; called = entry_name e.cookie; cookie = e.cookie }

abbrev pub entry_plus_of : FormatVersion → code_entry.Entry → EntryPlus
entry_plus_of version e = record {
  entry = entry_of e;
  attributes = Some (fattr_of version e.attributes);
  object = Some (record { number = e.attributes.number; generation = e.generation });
}

-- The meaning of the code's attributes.
use Rattle.std.specs.Prelude.{Some}
use Rattle.journal_nfs3_wire.specs.declared.attributes.FileAttributes.{FileAttributes}
use Rattle.journal_nfs3_wire.specs.declared.attributes.EarlierAttributes.{EarlierAttributes}
use Rattle.journal_nfs3_wire.specs.Results.{Fattr, Before, Change}

abbrev pub attributes_told : FileAttributes → Fattr
attributes_told a = record {
  kind = a.kind;
  mode = a.mode;
  links = a.links;
  uid = a.uid;
  gid = a.gid;
  size = a.size;
  used = a.used;
  device = (0, 0);
  fsid = a.fsid;
  fileid = a.fileid;
  atime = a.atime;
  mtime = a.mtime;
  ctime = a.ctime;
}

abbrev pub before_told : EarlierAttributes → Before
before_told a = record { size = a.size; mtime = a.mtime; ctime = a.ctime }

abbrev pub change_told : EarlierAttributes → FileAttributes → Change
change_told b a = record { before = Some (before_told b); after = Some (attributes_told a) }

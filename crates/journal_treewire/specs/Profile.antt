-- The results for the replies of the definitions.
use Rattle.std.specs.Prelude.{ℕ, ◌+◌, ◌*◌, ◌/◌, Bool, min, replicate, List, [], ◌∷◌, length, map, option_map, Some}
use Rattle.journal_tree.specs.declared.limits.TheConstants.{BLOCK_BYTES, MOST_BYTES}
use Rattle.journal_tree.specs.declared.reply.Kind.{Kind}
use Rattle.journal_tree.specs.declared.reply.Kind.TheVariants as kinds
use Rattle.journal_tree.specs.declared.reply.Told.{Told}
use Rattle.journal_tree.specs.declared.reply.Changed.{Changed as TreeChanged}
use Rattle.journal_tree.specs.declared.reply.Found.{Found as TreeFound}
use Rattle.journal_tree.specs.declared.reply.Made.{Made as TreeMade}
use Rattle.journal_tree.specs.declared.reply.Renamed.{Renamed as TreeRenamed}
use Rattle.journal_tree.specs.declared.reply.Space.{Space}
use Rattle.journal_tree.specs.Attributes.{Access as TreeAccess}
use Rattle.journal_tree.specs.Contents.{Portion}
use Rattle.journal_tree.specs.Facts.{Facts, NameFacts}
use Rattle.journal_tree.specs.Listing.{Item, Line, Listed, ListedPlus}
use Rattle.journal_tree.specs.Names.{LinkText}
use Rattle.journal_nfs3_wire.specs.declared.arguments.StableHow.{StableHow}
use Rattle.journal_nfs3_wire.specs.Results.{Fattr, Before, Change, ReadResults, WriteResults, CommitResults}
use Rattle.journal_nfs3_wire.specs.QueryResults.{Entry, AccessResults, PageResults, StatusResults, InformationResults, ConfigurationResults}
use Rattle.journal_nfs3_wire.specs.Profile.{no_change, stability_told}
use Rattle.journal_treewire.specs.Handles.{DiskHandle}
use Rattle.journal_treewire.specs.Results.{FoundResults, LinkResults, MadeResults, TwoChanges, EntryPlus}
use Rattle.journal_treewire.specs.Values.{time_out}

-- ---- a node

-- ftype3
abbrev pub type_of : Kind → ℕ
type_of kinds.Directory = 2
type_of kinds.File = 1
type_of kinds.Link = 5

-- the bytes of the blocks that a node of this size may have. No node has more than the most
abbrev pub used_of : ℕ → ℕ
used_of size = BLOCK_BYTES * ((min size MOST_BYTES + 4095) / BLOCK_BYTES)

-- The attributes of a node. The file system has the disk's own number. The directories in a
-- directory are not counted, of which one link is the sign. There is no time of the last access,
-- and mtime is in its place
abbrev pub fattr_of : ℕ → Told → Fattr
fattr_of disk t = record {
  kind = type_of t.kind;
  mode = t.attributes.mode;
  links = 1;
  uid = t.attributes.owner;
  gid = t.attributes.group;
  size = t.size;
  used = used_of t.size;
  device = (0, 0);
  fsid = disk;
  fileid = t.number;
  atime = time_out t.attributes.mtime;
  mtime = time_out t.attributes.mtime;
  ctime = time_out t.attributes.ctime;
}

abbrev pub before_of : Told → Before
before_of t = record { size = t.size; mtime = time_out t.attributes.mtime; ctime = time_out t.attributes.ctime }

abbrev pub change_of : ℕ → TreeChanged → Change
change_of disk c = record { before = Some (before_of c.before); after = Some (fattr_of disk c.after) }

abbrev pub handle_of : ℕ → ℕ → ℕ → DiskHandle
handle_of disk number generation = record { disk = disk; handle = record { number = number; generation = generation } }

-- ---- the replies

abbrev pub found_of : ℕ → TreeFound → FoundResults
found_of disk f = record { object = handle_of disk f.node.number f.generation; attributes = Some (fattr_of disk f.node); directory = Some (fattr_of disk f.directory) }

abbrev pub access_of : ℕ → TreeAccess → AccessResults
access_of disk a = record { attributes = Some (fattr_of disk a.node); granted = a.rights }

abbrev pub link_of : ℕ → LinkText → LinkResults
link_of disk l = record { attributes = Some (fattr_of disk l.node); text = l.text }

abbrev pub read_of : ℕ → Portion → ReadResults
read_of disk p = record { attributes = Some (fattr_of disk p.file); count = length p.bytes; is_end = p.is_end; bytes = p.bytes }

-- a write that waited is as stable as can be
abbrev pub write_of : ℕ → ℕ → StableHow → List ℕ → TreeChanged → WriteResults
write_of disk count how verifier c = record { change = change_of disk c; count = count; committed = stability_told how; verifier = verifier }

abbrev pub made_of : ℕ → TreeMade → MadeResults
made_of disk m = record { object = Some (handle_of disk m.node.number m.generation); attributes = Some (fattr_of disk m.node); directory = change_of disk m.directory }

abbrev pub renamed_of : ℕ → TreeRenamed → TwoChanges
renamed_of disk r = record { source = change_of disk r.source; goal = change_of disk r.goal }

-- two changes of which nothing is described
abbrev pub no_changes : TwoChanges
no_changes = record { source = no_change; goal = no_change }

-- No cookie ends, so that each has the same verifier
abbrev pub cookie_verifier : List ℕ
cookie_verifier = replicate 8 0

abbrev pub entry_of : Item → Entry
entry_of i = record { fileid = i.number; called = i.name; cookie = i.cookie }

abbrev pub page_of : {E : Type 0} → ℕ → Told → List E → Bool → PageResults E
page_of disk directory entries is_end = record { attributes = Some (fattr_of disk directory); verifier = cookie_verifier; entries = entries; is_end = is_end }

abbrev pub list_of : ℕ → Listed → PageResults Entry
list_of disk l = page_of disk l.directory (map entry_of l.page.items) l.page.is_end

-- a line with the attributes and the handle of its node
abbrev pub entry_plus_of : ℕ → Item → Line → EntryPlus
entry_plus_of disk i l = record { entry = entry_of i; attributes = option_map (fattr_of disk) l.node; object = Some (handle_of disk i.number l.generation) }

abbrev pub entries_plus : ℕ → List Item → List Line → List EntryPlus
entries_plus disk [] lines = []
entries_plus disk (i ∷ items) [] = []
entries_plus disk (i ∷ items) (l ∷ lines) = entry_plus_of disk i l ∷ entries_plus disk items lines

abbrev pub list_plus_of : ℕ → ListedPlus → PageResults EntryPlus
list_plus_of disk l = page_of disk l.directory (entries_plus disk l.page.items l.lines) l.page.is_end

-- The bytes and the numbers that are free are anybody's, and may be others at once
abbrev pub status_of : ℕ → Space → StatusResults
status_of disk s = record {
  attributes = Some (fattr_of disk s.node);
  total_bytes = s.total_bytes;
  free_bytes = s.free_bytes;
  available_bytes = s.free_bytes;
  total_files = s.total_nodes;
  free_files = s.free_nodes;
  available_files = s.free_nodes;
  stays_for = 0;
}

-- a number of 4 bytes. Greater ones count as the greatest
abbrev pub word_of : ℕ → ℕ
word_of n = min n 4294967295

abbrev pub information_of : ℕ → Facts → InformationResults
information_of disk f = record {
  attributes = Some (fattr_of disk f.node);
  read_most = f.transfer;
  read_best = f.transfer;
  read_multiple = word_of f.multiple;
  write_most = f.transfer;
  write_best = f.transfer;
  write_multiple = word_of f.multiple;
  list_best = f.transfer;
  file_most = f.file;
  time_delta = record { secs = f.step_secs; nanos = f.step_nanos };
  properties = f.properties;
}

abbrev pub configuration_of : ℕ → NameFacts → ConfigurationResults
configuration_of disk f = record {
  attributes = Some (fattr_of disk f.node);
  links_most = f.links;
  name_most = word_of f.name;
  refuses_longer = f.refuses_long;
  keeps_owners = f.owner_restricted;
  ignores_case = f.ignores_case;
  keeps_case = f.keeps_case;
}

abbrev pub commit_of : ℕ → List ℕ → TreeChanged → CommitResults
commit_of disk verifier c = record { change = change_of disk c; verifier = verifier }

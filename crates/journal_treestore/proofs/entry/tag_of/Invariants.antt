use Rattle.std.proofs.Common.{◌≡◌, drop}
use Rattle.journal_treestore.specs.Entries.{tag_from, tag_of}
use Rattle.journal_treestore.proofs.entry.tag_of.Given as goal

-- the tag of the rest, from what was reached, is that of the name
abbrev pub invariant-loop-byte : goal.invariant-loop-byte
invariant-loop-byte l = tag_from l.tag (drop l.byte-index l.name) ≡ tag_of l.name

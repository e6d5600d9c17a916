-- The replies of FSSTAT, FSINFO, PATHCONF and COMMIT.
use Rattle.std.specs.Prelude.{ℕ, ◌*◌, ◌-◌, nat_lt, if◌then◌else◌, true, false, Result, Ok, Err}
use Rattle.journal_tree.specs.declared.limits.TheConstants.{BLOCK_BYTES, MOST_BYTES, MOST_NAME, TRANSFER_BYTES}
use Rattle.journal_tree.specs.declared.reply.Changed.{Changed}
use Rattle.journal_tree.specs.declared.reply.Free.{Free}
use Rattle.journal_tree.specs.declared.reply.Kind.{Kind}
use Rattle.journal_tree.specs.declared.reply.Kind.TheVariants.{Directory, File, Link}
use Rattle.journal_tree.specs.declared.reply.Space.{Space}
use Rattle.journal_tree.specs.declared.reply.Told.{Told}
use Rattle.journal_tree.specs.declared.status.Status.{Status}
use Rattle.journal_tree.specs.declared.status.Status.TheVariants.{Invalid}
use Rattle.journal_tree.specs.Facts.{PROPERTIES, Facts, NameFacts}
use Rattle.journal_treestore.specs.declared.inode.Head.{Head}
use Rattle.journal_treecalls.specs.declared.facts.FactsReply.{FactsReply}
use Rattle.journal_treecalls.specs.declared.facts.NameFactsReply.{NameFactsReply}
use Rattle.journal_treecalls.specs.Targets.{told_of}

abbrev pub at_most : ℕ → ℕ → ℕ
at_most n most = if nat_lt most n then most else n

-- what may be free is at most what there is
abbrev pub bounded_free : ℕ → ℕ → Free → Free
bounded_free blocks numbers free = record { blocks = at_most free.blocks blocks; numbers = at_most free.numbers (numbers - 1) }

abbrev pub space_of : Told → ℕ → ℕ → Free → Space
space_of node blocks numbers free = record {
  node = node;
  total_bytes = BLOCK_BYTES * blocks;
  free_bytes = BLOCK_BYTES * (bounded_free blocks numbers free).blocks;
  total_nodes = numbers - 1;
  free_nodes = (bounded_free blocks numbers free).numbers;
}

abbrev pub facts_of : ℕ → Head → FactsReply
facts_of n head = record {
  node = told_of n head;
  transfer = TRANSFER_BYTES;
  multiple = BLOCK_BYTES;
  file = MOST_BYTES;
  step_secs = 0;
  step_nanos = 1;
  properties = PROPERTIES;
}

abbrev pub facts_told : Result FactsReply Status → Result Facts Status
facts_told (Ok r) = Ok (record {
  node = r.node;
  transfer = r.transfer;
  multiple = r.multiple;
  file = r.file;
  step_secs = r.step_secs;
  step_nanos = r.step_nanos;
  properties = r.properties;
})
facts_told (Err status) = Err status

abbrev pub name_facts_of : ℕ → Head → NameFactsReply
name_facts_of n head = record {
  node = told_of n head;
  links = 1;
  name = MOST_NAME;
  refuses_long = true;
  owner_restricted = true;
  ignores_case = false;
  keeps_case = true;
}

abbrev pub name_facts_told : Result NameFactsReply Status → Result NameFacts Status
name_facts_told (Ok r) = Ok (record {
  node = r.node;
  links = r.links;
  name = r.name;
  refuses_long = r.refuses_long;
  owner_restricted = r.owner_restricted;
  ignores_case = r.ignores_case;
  keeps_case = r.keeps_case;
})
name_facts_told (Err status) = Err status

-- COMMIT's, by the kind of the node
abbrev pub committed_by : Kind → ℕ → Head → Result Changed Status
committed_by Directory n head = Err Invalid
committed_by Link n head = Err Invalid
committed_by File n head = Ok (record { before = told_of n head; after = told_of n head })

abbrev pub committed_of : ℕ → Head → Result Changed Status
committed_of n head = committed_by head.kind n head

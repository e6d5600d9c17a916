-- The tree after a change.
use Rattle.std.specs.Prelude.{ℕ, ◌+◌, ◌*◌, ◌/◌, nat_lt, if◌then◌else◌, Some, None, option_map}
use Rattle.journal_tree.specs.declared.limits.TheConstants.{BLOCK_PLACES}
use Rattle.journal_tree.specs.declared.time.Time.{Time}
use Rattle.journal_tree.specs.declared.reply.Attributes.{Attributes}
use Rattle.journal_tree.specs.Trees.{Body, Node, Tree, with_slot, with_node}
use Rattle.journal_tree.specs.Trees.Body.{directory, file, link}
use Rattle.journal_tree.specs.Times.{time_of_names}

-- both times are this one
abbrev pub with_times : Attributes → Time → Attributes
with_times a t = record { mode = a.mode; owner = a.owner; group = a.group; mtime = t; ctime = t; verifier = None }

-- a directory whose names change at this moment
abbrev pub touched : Time → Node → Node
touched now x = record { attributes = with_times x.attributes (time_of_names x.attributes now); home = x.home; body = x.body }

abbrev pub touch : Tree → ℕ → Time → Tree
touch T d now = with_node T d (option_map (touched now) (T.at d).node)

-- a directory grows by whole blocks until it has a place, and never shrinks
abbrev pub grown : ℕ → ℕ → ℕ
grown place places = if nat_lt place places then places else BLOCK_PLACES * (place / BLOCK_PLACES + 1)

abbrev pub grown_body : ℕ → Body → Body
grown_body place (directory places) = directory (grown place places)
grown_body place (file bytes) = file bytes
grown_body place (link text) = link text

-- a directory in which a name is put at a place
abbrev pub opened : ℕ → Time → Node → Node
opened place now x = record { attributes = with_times x.attributes (time_of_names x.attributes now); home = x.home; body = grown_body place x.body }

abbrev pub touch_place : Tree → ℕ → ℕ → Time → Tree
touch_place T d place now = with_node T d (option_map (opened place now) (T.at d).node)

-- a node at a number that has none, under a new generation
abbrev pub planted : Tree → ℕ → Node → Tree
planted T n x = with_slot T n (record { generation = (T.at n).generation + 1; node = Some x })

-- the node of a number goes, and its name out of the directory. The number keeps its generation
abbrev pub cut : Tree → ℕ → ℕ → Time → Tree
cut T d n now = touch (with_node T n None) d now

-- FSSTAT, FSINFO and PATHCONF.
use Rattle.std.specs.Prelude.{ℕ, ◌*◌, ◌-◌, ◌≤◌, Ok, Bool, true, false}
use Rattle.journal_tree.specs.declared.limits.TheConstants.{BLOCK_BYTES, MOST_BYTES, MOST_NAME, TRANSFER_BYTES}
use Rattle.journal_tree.specs.declared.reply.Told.{Told}
use Rattle.journal_tree.specs.declared.reply.Free.{Free}
use Rattle.journal_tree.specs.declared.reply.Space.{Space}
use Rattle.journal_tree.specs.Trees.{Tree}
use Rattle.journal_tree.specs.Calls.{Outcome, Target, told, on_node}

-- What is told as free is at most what there is. It is no more than a hint, because others may take
-- it before the next call
pub record IsFree (T : Tree) (free : Free) : Type 0 where
  pub blocks : free.blocks ≤ T.blocks
  pub numbers : free.numbers ≤ T.numbers - 1

abbrev pub fsstat_case : Free → Tree → Target → Outcome Space
fsstat_case free T t = on_node T t (λ n x. (
  Ok (record {
    node = told n x;
    total_bytes = BLOCK_BYTES * T.blocks;
    free_bytes = BLOCK_BYTES * free.blocks;
    total_nodes = T.numbers - 1;
    free_nodes = free.numbers;
  }),
  T,
))

-- What FSINFO tells: the most bytes of a READ, of a WRITE and of a READDIR that are asked for at
-- best, of which number they are best a multiple, the most bytes of a file, the seconds and the
-- nanoseconds from one time to the next, and what files can be
pub record Facts : Type 0 where
  pub node : Told
  pub transfer : ℕ
  pub multiple : ℕ
  pub file : ℕ
  pub step_secs : ℕ
  pub step_nanos : ℕ
  pub properties : ℕ

-- there are symbolic links, all nodes have the same facts of PATHCONF, and a client may set times
abbrev pub PROPERTIES : ℕ
PROPERTIES = 26

abbrev pub fsinfo_case : Tree → Target → Outcome Facts
fsinfo_case T t = on_node T t (λ n x. (
  Ok (record {
    node = told n x;
    transfer = TRANSFER_BYTES;
    multiple = BLOCK_BYTES;
    file = MOST_BYTES;
    step_secs = 0;
    step_nanos = 1;
    properties = PROPERTIES;
  }),
  T,
))

-- What PATHCONF tells: how many names a node may have, the most bytes of a name, whether a longer
-- one is refused and not cut, whether only root changes an owner, whether names that differ in case
-- alone are one, and whether their case is kept
pub record NameFacts : Type 0 where
  pub node : Told
  pub links : ℕ
  pub name : ℕ
  pub refuses_long : Bool
  pub owner_restricted : Bool
  pub ignores_case : Bool
  pub keeps_case : Bool

abbrev pub pathconf_case : Tree → Target → Outcome NameFacts
pathconf_case T t = on_node T t (λ n x. (
  Ok (record {
    node = told n x;
    links = 1;
    name = MOST_NAME;
    refuses_long = true;
    owner_restricted = true;
    ignores_case = false;
    keeps_case = true;
  }),
  T,
))

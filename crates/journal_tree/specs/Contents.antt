-- READ, WRITE and COMMIT: of each the cases in their order, the first that holds is answered.
use Rattle.std.specs.Prelude.{ℕ, ◌+◌, max, min, Bool, not, ◌==◌, nat_le, nat_lt, if◌then◌else◌, List, ◌++◌, length, take, drop, replicate, slice_range, None, Ok}
use Rattle.journal_tree.specs.declared.limits.TheConstants.{MOST_BYTES, TRANSFER_BYTES}
use Rattle.journal_tree.specs.declared.time.Time.{Time}
use Rattle.journal_tree.specs.declared.reply.Attributes.{Attributes}
use Rattle.journal_tree.specs.declared.reply.Told.{Told}
use Rattle.journal_tree.specs.declared.reply.Changed.{Changed}
use Rattle.journal_tree.specs.declared.status.Status.TheVariants.{Invalid, TooBig, NoSpace}
use Rattle.journal_tree.specs.Trees.{Body, Node, Tree}
use Rattle.journal_tree.specs.Trees.Body.{directory, file, link}
use Rattle.journal_tree.specs.Times.{time_of_change}
use Rattle.journal_tree.specs.declared.caller.Caller.{Caller}
use Rattle.journal_tree.specs.Callers.{is_root}
use Rattle.journal_tree.specs.Rights.{may_fetch, may_store}
use Rattle.journal_tree.specs.Calls.{Outcome, refused, Target, told, on_node, allowed}
use Rattle.journal_tree.specs.Attributes.{plain_mode, changed, unchanged}

-- What READ tells: the file, bytes of it, and whether they reach its end
pub record Portion : Type 0 where
  pub file : Told
  pub bytes : List ℕ
  pub is_end : Bool

abbrev pub portion : ℕ → ℕ → ℕ → Node → List ℕ → Portion
portion offset count n x bytes =
    let reach = min (offset + min count TRANSFER_BYTES) (max offset (length bytes)) in
    record { file = told n x; bytes = slice_range bytes offset reach; is_end = nat_le (length bytes) reach }

abbrev pub read_body : Caller → ℕ → ℕ → Tree → ℕ → Node → Body → Outcome Portion
read_body c offset count T n x (directory places) = refused Invalid T
read_body c offset count T n x (link text) = refused Invalid T
read_body c offset count T n x (file bytes) = allowed T (may_fetch c x.attributes) (Ok (portion offset count n x bytes), T)

abbrev pub read_case : Caller → ℕ → ℕ → Tree → Target → Outcome Portion
read_case c offset count T t = on_node T t (λ n x. read_body c offset count T n x x.body)

-- the bytes with others over them from an offset on, and zeros between where there was a gap
abbrev pub overlaid : List ℕ → ℕ → List ℕ → List ℕ
overlaid bytes offset bs = take offset (bytes ++ replicate offset 0) ++ bs ++ drop (offset + length bs) bytes

-- a file that somebody who is not root writes is no longer run as another
abbrev pub written_mode : Caller → ℕ → ℕ
written_mode c mode = if is_root c then mode else plain_mode mode

abbrev pub written_attributes : Caller → Attributes → Time → Attributes
written_attributes c a now = record {
  mode = written_mode c a.mode;
  owner = a.owner;
  group = a.group;
  mtime = time_of_change a.ctime now;
  ctime = time_of_change a.ctime now;
  verifier = None;
}

abbrev pub written : Caller → Node → List ℕ → Time → Node
written c x bytes now = record { attributes = written_attributes c x.attributes now; home = x.home; body = file bytes }

-- `room`: the blocks that are needed are handed out
abbrev pub write_body : Caller → Bool → ℕ → ℕ → List ℕ → Time → Tree → ℕ → Node → Body → Outcome Changed
write_body c room offset count bs now T n x (directory places) = refused Invalid T
write_body c room offset count bs now T n x (link text) = refused Invalid T
write_body c room offset count bs now T n x (file bytes) =
    if not (count == length bs) then refused Invalid T
    else allowed T (may_store c x.attributes) (
    if count == 0 then unchanged T n x
    else if nat_lt MOST_BYTES (offset + count) then refused TooBig T
    else if not room then refused NoSpace T
    else changed T n x (written c x (overlaid bytes offset bs) now))

abbrev pub write_case : Caller → Bool → ℕ → ℕ → List ℕ → Time → Tree → Target → Outcome Changed
write_case c room offset count bs now T t = on_node T t (λ n x. write_body c room offset count bs now T n x x.body)

-- COMMIT asks for no right, because it changes nothing
abbrev pub commit_body : Tree → ℕ → Node → Body → Outcome Changed
commit_body T n x (directory places) = refused Invalid T
commit_body T n x (link text) = refused Invalid T
commit_body T n x (file bytes) = unchanged T n x

abbrev pub commit_case : Tree → Target → Outcome Changed
commit_case T t = on_node T t (λ n x. commit_body T n x x.body)

-- Calls one after another, of any callers.
use Rattle.std.specs.Prelude.{ℕ, ◌≡◌, List, Some}
use Rattle.journal_tree.specs.declared.time.Time.{Time}
use Rattle.journal_tree.specs.Trees.{Node, Tree, find}
use Rattle.journal_tree.specs.Times.{IsTime}
use Rattle.journal_tree.specs.declared.caller.Caller.{Caller}
use Rattle.journal_tree.specs.Op.{Call, Reply, Op}
use Rattle.journal_tree.specs.Fit.{IsCaller, IsCallable}

-- A call is answered at a moment that a clock shows
pub record Answers (T T2 : Tree) : Type 0 where
  pub call : Call
  pub caller : Caller
  pub now : Time
  pub reply : Reply
  pub is_callable : IsCallable call
  pub is_caller : IsCaller caller
  pub is_time : IsTime now
  pub op : Op call caller now T reply T2

-- Calls lead from a tree to a tree. The clock may stand or go back between them
pub data Run : Tree → Tree → Type 0 where
  done : (T : Tree) → Run T T
  next : (T U V : Tree) → Answers T U → Run U V → Run T V

-- A number has a node of one generation in two trees
pub record IsOneNode (T T2 : Tree) (n : ℕ) (x y : Node) : Type 0 where
  pub before : (T.at n).node ≡ Some x
  pub after : (T2.at n).node ≡ Some y
  pub generation : (T.at n).generation ≡ (T2.at n).generation

-- A directory has the same names for the same numbers in two trees
abbrev pub HasSameNames : Tree → Tree → ℕ → Type 0
HasSameNames T T2 d = (name : List ℕ) → find T d name ≡ find T2 d name

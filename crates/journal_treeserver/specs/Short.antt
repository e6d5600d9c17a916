-- No reply to a request is longer than one may be.
use Rattle.std.specs.Prelude.{ℕ, ◌≡◌, Bool, false, IsTrue, Some, Ok}
use Rattle.journal_world.specs.Histories.{is_trusted}
use Rattle.journal_history.specs.Tokens.{SessionState, CommitPlace}
use Rattle.journal_tree.specs.declared.caller.Caller.{Caller}
use Rattle.journal_tree.specs.declared.time.Time.{Time}
use Rattle.journal_tree.specs.Fit.{HasFit}
use Rattle.journal_tree.specs.Op.{Call, Op, Reply}
use Rattle.journal_tree.specs.Trees.{Tree}
use Rattle.journal_treefs.specs.Calls.{IsCommittedCall}
use Rattle.journal_treewire.specs.Answers.{answer_of}
use Rattle.journal_treewire.specs.Calls.{call_on}
use Rattle.journal_treewire.specs.Requests.{Requested}
use Rattle.journal_treeserver.specs.Answers.{Served, is_long, told_results, asked_of}
use Rattle.journal_treeserver.specs.Forms.{how_of}

-- The definitions answer a call that a request asks, of a tree whose nodes are within their bounds,
-- by no reply that is longer than one may be
abbrev pub NoReplyIsLong : Type 0
NoReplyIsLong =
    (disk : ℕ) (read_only : Bool) (asked : Requested) (call : Call) (caller : Caller) (now : Time) (T T2 : Tree) (r : Reply) → call_on disk asked ≡ Ok (Some call) → HasFit T → Op (asked_of read_only call) caller now T r T2
    → is_long r ≡ false

-- So where the history is trusted, the results of a call that is committed are those of its reply:
-- none becomes SERVERFAULT for its length
abbrev pub ResultsAreAnswers : Type 0
ResultsAreAnswers =
    (S : Served) (asked : Requested) (call : Call) (caller : Caller) (now : Time) (old new : SessionState) (r : Reply) (receipt : CommitPlace) → call_on S.disk asked ≡ Ok (Some call)
    → IsCommittedCall S.cut (asked_of S.read_only call) caller now old new r receipt → IsTrue (is_trusted new.seen)
    → told_results S.disk S.verifier (how_of asked) (asked_of S.read_only call) r ≡ answer_of S.disk S.verifier (how_of asked) (asked_of S.read_only call) r

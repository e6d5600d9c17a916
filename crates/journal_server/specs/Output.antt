-- Which text belongs to the calls of a connection that the nine procedures of NFS answer.
use Rattle.std.specs.Prelude.{ℕ, List}
use Rattle.journal_world.specs.Histories.{Entry}
use Rattle.journal_history.specs.Tokens.{SessionState}
use Rattle.journal_inode.specs.declared.version.FormatVersion.{FormatVersion}
use Rattle.journal_inode.specs.declared.node.Time.{Time}
use Rattle.journal_rpc.specs.Calls.{Message}
use Rattle.journal_nfs3_wire.specs.Calls.{asks}
use Rattle.journal_nfs3.specs.Answers.{AnswersAs}
use Rattle.journal_protocol.specs.Output.{IsReplyBy}
use Rattle.journal_server.specs.FileProtocols.{FileAnswering, told_by}

-- what the nine procedures of NFS answer
abbrev pub nine : FormatVersion → List ℕ → FileAnswering
nine version verifier standing now call old new text = AnswersAs version standing verifier now call.xid (asks call.asked) old new text

-- the same of these
abbrev pub IsReply : FormatVersion → (Time → Type 0) → List ℕ → List Entry → Message → SessionState → SessionState → List ℕ → Type 0
IsReply version tells verifier history call old new text = IsReplyBy (told_by (nine version verifier)) tells history call old new text

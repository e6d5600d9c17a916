-- Which reply belongs to a call of either program.
use Rattle.std.specs.Prelude.{◌≡◌, ℕ, List, Result, Ok, Err}
use Rattle.journal_history.specs.Tokens.{SessionState}
use Rattle.journal_inode.specs.declared.node.Time.{Time}
use Rattle.journal_inode.specs.declared.version.FormatVersion.{FormatVersion}
use Rattle.journal_rpc.specs.declared.replies.CallRefused.{CallRefused}
use Rattle.journal_rpc.specs.Calls.{Message}
use Rattle.journal_rpc.specs.Replies.{one_fragment, reply}
use Rattle.journal_nfs3_wire.specs.Results.{Results, results_text}
use Rattle.journal_nfs3.specs.Served.{Standing, HasNoWait}
use Rattle.journal_nfs3.specs.Answers.{ServesCall}
use Rattle.journal_mount3.specs.Calls.{Requested, nine, query, mount, asks}
use Rattle.journal_mount3.specs.Results.{QueryResults, query_text}
use Rattle.journal_mount3.specs.Mounts.{mount_text}
use Rattle.journal_mount3.specs.Roots.{results_at}
use Rattle.journal_mount3.specs.Served.{Queries}

-- the results of one of the nine procedures, as they are sent
abbrev pub nine_text : Time → Result Results CallRefused → Result (List ℕ) CallRefused
nine_text now (Ok r) = Ok (results_text (results_at now r))
nine_text now (Err why) = Err why

-- The outcome of a call: the text of its results or why it is refused, and how far it is. The
-- nine procedures are as journal_nfs3 has them, with the moment as the root's times
abbrev pub Comes : FormatVersion → ℕ → Standing → List ℕ → Time → Result Requested CallRefused → SessionState → Result (List ℕ) CallRefused → SessionState → Type 0
Comes version blocks standing verifier now (Err why) old outcome new = (outcome ≡ Err why) × (new ≡ old) × HasNoWait standing
Comes version blocks standing verifier now (Ok (nine operation)) old outcome new =
    (r : Result Results CallRefused) × ServesCall version standing verifier now (Ok operation) old r new × (outcome ≡ nine_text now r)
Comes version blocks standing verifier now (Ok (query q)) old outcome new =
    (r : QueryResults) × Queries version blocks now q old r new × (outcome ≡ Ok (query_text r)) × HasNoWait standing
Comes version blocks standing verifier now (Ok (mount call)) old outcome new = (outcome ≡ Ok (mount_text call)) × (new ≡ old) × HasNoWait standing

-- a reply as it is sent: a record of one fragment
abbrev pub sent_text : ℕ → Result (List ℕ) CallRefused → List ℕ
sent_text xid outcome = one_fragment (reply (λ text. text) xid outcome)

-- The text is the reply to the call at this moment, the session has seen that then, and so far is
-- the reply
pub record AnswersBoth (version : FormatVersion) (blocks : ℕ) (verifier : List ℕ) (standing : Standing) (now : Time) (call : Message) (old new : SessionState) (text : List ℕ) : Type 0 where
  pub outcome : Result (List ℕ) CallRefused
  pub comes : Comes version blocks standing verifier now (asks call.asked) old outcome new
  pub is_sent : text ≡ sent_text call.xid outcome

abbrev pub both_programs : FormatVersion → ℕ → List ℕ → Standing → Time → Message → SessionState → SessionState → List ℕ → Type 0
both_programs = AnswersBoth

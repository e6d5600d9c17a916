-- Which reply belongs to a call where the files are only read.
use Rattle.std.specs.Prelude.{◌≡◌, ◌++◌, ℕ, Bool, true, false, MatchBool, bit_and, List, Result, Ok, Err}
use Rattle.journal_history.specs.Tokens.{SessionState}
use Rattle.journal_inode.specs.declared.node.Time.{Time}
use Rattle.journal_inode.specs.declared.version.FormatVersion.{FormatVersion}
use Rattle.journal_rpc.specs.declared.replies.CallRefused.{CallRefused}
use Rattle.journal_rpc.specs.Calls.{Message}
use Rattle.journal_xdr.specs.Basic.{word, boolean}
use Rattle.journal_nfs3_wire.specs.Arguments.{Operation, SetAttributes, Write, Create, Remove}
use Rattle.journal_nfs3_wire.specs.Queries.{Access}
use Rattle.journal_nfs3.specs.Served.{Standing, HasNoWait}
use Rattle.journal_mount3.specs.Calls.{Requested, nine, query, asks}
use Rattle.journal_mount3.specs.Results.{QueryResults, query_text}
use Rattle.journal_mount3.specs.Served.{Queries}
use Rattle.journal_mount3.specs.Answers.{Comes, sent_text}

-- SETATTR, WRITE, CREATE and REMOVE change files
abbrev pub changes_files : Operation → Bool
changes_files (SetAttributes handle attributes guard) = true
changes_files (Write handle offset count how bytes) = true
changes_files (Create entry how) = true
changes_files (Remove entry) = true
changes_files operation = false

-- the call asks to change files
abbrev pub is_denied : Result Requested CallRefused → Bool
is_denied (Ok (nine operation)) = changes_files operation
is_denied asked = false

-- NFS3ERR_ROFS, and no attributes before or after the call (RFC 1813, section 2.6)
abbrev pub denied_text : List ℕ
denied_text = word.spelling 30 ++ boolean.spelling false ++ boolean.spelling false

-- The same call with no right asked for but READ 1 and LOOKUP 2, which change nothing
abbrev pub reading_of : Result Requested CallRefused → Result Requested CallRefused
reading_of (Ok (query (Access handle rights))) = Ok (query (Access handle (bit_and rights 3)))
reading_of asked = asked

-- nothing is done, and the reply waits for nothing
abbrev pub IsDenied : Standing → SessionState → Result (List ℕ) CallRefused → SessionState → Type 0
IsDenied standing old outcome new = (outcome ≡ Ok denied_text) × (new ≡ old) × HasNoWait standing

-- The outcome of a call: it is denied if it asks to change files. Else it is that of both programs,
-- but that ACCESS grants no right to change anything
abbrev pub ComesToReader : FormatVersion → ℕ → Standing → List ℕ → Time → Result Requested CallRefused → SessionState → Result (List ℕ) CallRefused → SessionState → Type 0
ComesToReader version blocks standing verifier now asked old outcome new =
    MatchBool (is_denied asked) (IsDenied standing old outcome new) (Comes version blocks standing verifier now (reading_of asked) old outcome new)

-- The text is the reply to the call at this moment, the session has seen that then, and so far is
-- the reply
pub record AnswersReader (version : FormatVersion) (blocks : ℕ) (verifier : List ℕ) (standing : Standing) (now : Time) (call : Message) (old new : SessionState) (text : List ℕ) : Type 0 where
  pub outcome : Result (List ℕ) CallRefused
  pub comes : ComesToReader version blocks standing verifier now (asks call.asked) old outcome new
  pub is_sent : text ≡ sent_text call.xid outcome

abbrev pub reader_programs : FormatVersion → ℕ → List ℕ → Standing → Time → Message → SessionState → SessionState → List ℕ → Type 0
reader_programs = AnswersReader

-- the text of what ACCESS grants of these rights to who only reads
abbrev pub GrantsReader : FormatVersion → ℕ → Time → List ℕ → ℕ → SessionState → List ℕ → SessionState → Type 0
GrantsReader version blocks now handle rights old text new =
    (r : QueryResults) × Queries version blocks now (Access handle (bit_and rights 3)) old r new × (text ≡ query_text r)

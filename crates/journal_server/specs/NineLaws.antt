-- The nine procedures of NFS are a protocol.
use Rattle.std.proofs.Common.{ℕ, List, Bool, Option, Some, None, Result, Ok, Err, sym, subst}
use Rattle.journal_world.specs.declared.refusal.Refusal.{Refusal}
use Rattle.journal_world.specs.declared.refusal.Refusal.TheVariants.{NoMemory}
use Rattle.journal_history.specs.Tokens.{SessionState}
use Rattle.journal_memory.specs.Causes.{CauseState}
use Rattle.journal_inode.specs.declared.version.FormatVersion.{FormatVersion}
use Rattle.journal_inode.specs.declared.node.Time.{Time}
use Rattle.journal_file_types.specs.declared.pending_wait.PendingWait.TheVariants.{Wait}
use Rattle.journal_file_types.specs.declared.fault.Fault.{Fault}
use Rattle.journal_file_types.specs.declared.fault.Fault.TheVariants.{Refused, Unsure}
use Rattle.journal_file_types.specs.declared.status.Status.{Status}
use Rattle.journal_filestore.specs.Files.{Files}
use Rattle.journal_rpc.specs.declared.replies.CallRefused.{CallRefused}
use Rattle.journal_nfs3_wire.specs.Arguments.{Operation, Null, GetAttributes, SetAttributes, Lookup, Read, Write, Create, Remove, Commit}
use Rattle.journal_nfs3_wire.specs.Handles.{FileHandle}
use Rattle.journal_nfs3_wire.specs.Results.{Results}
use Rattle.journal_nfs3_wire.specs.Calls.{asks}
use Rattle.journal_nfs3_wire.specs.declared.procedure.Procedure.{Procedure}
use Rattle.journal_nfs3_wire.specs.Profile.{refused_results}
use Rattle.journal_nfs3.specs.Served.{Standing, marked, awaiting, refusal_error, IsAnsweredAs, TellsOutcome, Performs, ServesAs}
use Rattle.journal_nfs3.specs.Answers.{ServesCall, AnswersAs, TakesPlace, sent}
use Rattle.journal_nfs3.proofs.Pendings.{answers_paid, answers_stay, takes_place}
use Rattle.journal_protocol.specs.Grows.{Grows, grows-same}
use Rattle.journal_server.specs.FileProtocols.{IsFileLawful, StandsInFor}
use Rattle.journal_server.specs.Output.{nine}

answer_grows : {A : Type 0} (version : FormatVersion) (standing : Standing) (w : Bool) (case : Files → Result A Status → Files → Type 0) (old new : SessionState) (answer : Result (Result A Status) (Fault CauseState)) → IsAnsweredAs version standing w case old new answer → Grows old new
answer_grows version standing w case old new (Ok v) d = d.made.extends
answer_grows version standing w case old new (Err (Refused why)) d = d.0.seen
answer_grows version (marked history) w case old new (Err (Unsure why)) d = d.1.2.extends
answer_grows version (awaiting wait) w case old new (Err (Unsure why)) d = absurd d

pub tells_grows : {A : Type 0} (version : FormatVersion) (standing : Standing) (handle : Option FileHandle) (w : Bool) (case : FileHandle → Files → Result A Status → Files → Type 0) (old new : SessionState) (outcome : _) → TellsOutcome version standing handle w case old new outcome → Grows old new
tells_grows version standing None w case old new outcome h = grows-same old new h.1
tells_grows version standing (Some handle) w case old new outcome h = answer_grows version standing w (case handle) old new h.0 h.1

performs_grows : {A : Type 0} (version : FormatVersion) (standing : Standing) (handle : Option FileHandle) (w : Bool) (case : FileHandle → Files → Result A Status → Files → Type 0) (as_results : _) (old new : SessionState) (r : Results) → Performs version standing handle w case as_results old r new → Grows old new
performs_grows version standing handle w case as_results old new r h = tells_grows version standing handle w case old new h.0 h.1

serves_grows : (version : FormatVersion) (standing : Standing) (verifier : List ℕ) (now : Time) (operation : Operation) (old new : SessionState) (r : Results) → ServesAs version standing verifier now operation old r new → Grows old new
serves_grows version standing verifier now Null old new r h = grows-same old new h.1
serves_grows version standing verifier now (GetAttributes k) old new r h = performs_grows version standing _ _ _ _ old new r h
serves_grows version standing verifier now (SetAttributes k a guard) old new r h = performs_grows version standing _ _ _ _ old new r h
serves_grows version standing verifier now (Lookup e) old new r h = performs_grows version standing _ _ _ _ old new r h
serves_grows version standing verifier now (Read k offset n) old new r h = performs_grows version standing _ _ _ _ old new r h
serves_grows version standing verifier now (Write k offset n how bytes) old new r h = performs_grows version standing _ _ _ _ old new r h
serves_grows version standing verifier now (Create e how) old new r h = performs_grows version standing _ _ _ _ old new r h
serves_grows version standing verifier now (Remove e) old new r h = performs_grows version standing _ _ _ _ old new r h
serves_grows version standing verifier now (Commit k offset n) old new r h = performs_grows version standing _ _ _ _ old new r h

pub call_grows : (version : FormatVersion) (standing : Standing) (verifier : List ℕ) (now : Time) (asked : Result Operation CallRefused) (old new : SessionState) (outcome : Result Results CallRefused) → ServesCall version standing verifier now asked old outcome new → Grows old new
call_grows version standing verifier now (Err why) old new outcome h = grows-same old new h.1
call_grows version standing verifier now (Ok operation) old new outcome h = serves_grows version standing verifier now operation old new h.0 h.2

-- what takes the place of a reply of the nine procedures stands in for it
pub nine_stands : (version : FormatVersion) (verifier : List ℕ) (xid : ℕ) (procedure : Procedure) (text : List ℕ) → TakesPlace xid procedure text → StandsInFor (nine version verifier) xid procedure text
nine_stands version verifier xid procedure text place now call old new receipt soon history same is a =
    let number : AnswersAs version (awaiting (Wait receipt)) verifier now xid (asks call.asked) old new soon = subst (λ (n : ℕ). AnswersAs version (awaiting (Wait receipt)) verifier now n (asks call.asked) old new soon) same a in
    subst (λ (n : ℕ). AnswersAs version (marked history) verifier now n (asks call.asked) old new text) (sym same)
    (place version verifier now (asks call.asked) old new receipt soon history is number)

pub nine_lawful : (version : FormatVersion) (verifier : List ℕ) → IsFileLawful (nine version verifier)
nine_lawful version verifier = record {
  grows = λ standing now call old new text a. call_grows version standing verifier now (asks call.asked) old new a.outcome a.comes;
  paid = λ now call old new then wait text a paid. answers_paid version verifier now call.xid (asks call.asked) old new then wait text a paid;
  stays = λ now call old new history longer text a grows. answers_stay version verifier now call.xid (asks call.asked) old new history longer text a grows;
  refusable = λ xid procedure.
      let why : Refusal CauseState = NoMemory in
      (sent xid (Ok (refused_results procedure (refusal_error why))), nine_stands version verifier xid procedure (sent xid (Ok (refused_results procedure (refusal_error why)))) (takes_place xid procedure why));
}

-- Both programs are a protocol.
use Rattle.std.proofs.Common.{◌≡◌, ℕ, ◌≤◌, List, Result, Ok, Err, refl, sym, subst}
use mathlib.Core.List.{IsPrefix}
use Rattle.journal_world.specs.declared.refusal.Refusal.{Refusal}
use Rattle.journal_world.specs.declared.refusal.Refusal.TheVariants.{NoMemory}
use Rattle.journal_world.specs.Histories.{Entry, floor}
use Rattle.journal_history.specs.Tokens.{SessionState, CommitPlace}
use Rattle.journal_memory.specs.Causes.{CauseState}
use Rattle.journal_inode.specs.declared.node.Time.{Time}
use Rattle.journal_inode.specs.declared.version.FormatVersion.{FormatVersion}
use Rattle.journal_rpc.specs.declared.replies.CallRefused.{CallRefused}
use Rattle.journal_file_types.specs.declared.pending_wait.PendingWait.{PendingWait}
use Rattle.journal_file_types.specs.declared.pending_wait.PendingWait.TheVariants.{Wait}
use Rattle.journal_filestore.specs.Done.{IsWaitOver}
use Rattle.journal_nfs3_wire.specs.declared.procedure.Procedure.{Procedure}
use Rattle.journal_nfs3_wire.specs.declared.procedure.Procedure.TheVariants as procedure
use Rattle.journal_nfs3_wire.specs.declared.results.NfsError.{NfsError}
use Rattle.journal_nfs3_wire.specs.Arguments.{Operation}
use Rattle.journal_nfs3_wire.specs.Results.{Results}
use Rattle.journal_nfs3_wire.specs.Profile.{refused_results}
use Rattle.journal_nfs3.specs.Served.{Standing, marked, awaiting, refusal_error}
use Rattle.journal_nfs3_wire.specs.Calls as nine_calls
use Rattle.journal_nfs3.specs.Answers.{IsCallOf, sent}
use Rattle.journal_nfs3.proofs.Pendings.{call_paid, call_stays, call_takes_place}
use Rattle.journal_server.specs.FileProtocols.{IsFileLawful, StandsInFor}
use Rattle.journal_protocol.specs.Grows.{grows-same}
use Rattle.journal_server.specs.NineLaws.{call_grows}
use Rattle.journal_mount3.specs.Calls.{Requested, nine, query, mount, asks}
use Rattle.journal_mount3.specs.Roots.{results_at}
use Rattle.journal_mount3.specs.Answers.{nine_text, Comes, AnswersBoth, both_programs}
use Rattle.journal_mount3.specs.Growing.{query_grows}
use Rattle.journal_mount3.specs.Routing.{asked_nine}

module _ (version : FormatVersion) (blocks : ℕ) (verifier : List ℕ) where
  pub comes_grow : (standing : Standing) (now : Time) (asked : Result Requested CallRefused) (old new : SessionState) (outcome : Result (List ℕ) CallRefused) → Comes version blocks standing verifier now asked old outcome new → IsPrefix old.seen new.seen
  comes_grow standing now (Err why) old new outcome h = grows-same old new h.1
  comes_grow standing now (Ok (nine operation)) old new outcome h = call_grows version standing verifier now (Ok operation) old new h.0 h.1
  comes_grow standing now (Ok (query q)) old new outcome h = query_grows version blocks now q old new h.0 h.1
  comes_grow standing now (Ok (mount call)) old new outcome h = grows-same old new h.1

  pub comes_paid : (now : Time) (asked : Result Requested CallRefused) (old new then : SessionState) (wait : PendingWait CommitPlace) (outcome : Result (List ℕ) CallRefused) → IsWaitOver wait then
      → Comes version blocks (awaiting wait) verifier now asked old outcome new → Comes version blocks (marked then.seen) verifier now asked old outcome new
  comes_paid now (Err why) old new then wait outcome paid h = (h.0, h.1, tt)
  comes_paid now (Ok (nine operation)) old new then wait outcome paid h = (h.0, call_paid version verifier now (Ok operation) old new then wait h.0 paid h.1, h.2)
  comes_paid now (Ok (query q)) old new then wait outcome paid h = (h.0, h.1, h.2, tt)
  comes_paid now (Ok (mount call)) old new then wait outcome paid h = (h.0, h.1, tt)

  pub comes_stay : (now : Time) (asked : Result Requested CallRefused) (old new : SessionState) (history longer : List Entry) (outcome : Result (List ℕ) CallRefused) → floor history ≤ floor longer
      → Comes version blocks (marked history) verifier now asked old outcome new → Comes version blocks (marked longer) verifier now asked old outcome new
  comes_stay now (Err why) old new history longer outcome grows h = (h.0, h.1, tt)
  comes_stay now (Ok (nine operation)) old new history longer outcome grows h = (h.0, call_stays version verifier now (Ok operation) old new history longer h.0 grows h.1, h.2)
  comes_stay now (Ok (query q)) old new history longer outcome grows h = (h.0, h.1, h.2, tt)
  comes_stay now (Ok (mount call)) old new history longer outcome grows h = (h.0, h.1, tt)

  -- a refusal tells nothing of the root
  refusal_at : (now : Time) (p : Procedure) (why : NfsError) → results_at now (refused_results p why) ≡ refused_results p why
  refusal_at now procedure.Null why = refl
  refusal_at now procedure.GetAttributes why = refl
  refusal_at now procedure.SetAttributes why = refl
  refusal_at now procedure.Lookup why = refl
  refusal_at now procedure.Read why = refl
  refusal_at now procedure.Write why = refl
  refusal_at now procedure.Create why = refl
  refusal_at now procedure.Remove why = refl
  refusal_at now procedure.Commit why = refl

  abbrev refusal : Procedure → Refusal CauseState → Result Results CallRefused
  refusal p why = Ok (refused_results p (refusal_error why))

  pub stands : (xid : ℕ) (p : Procedure) (why : Refusal CauseState) → StandsInFor (both_programs version blocks verifier) xid p (sent xid (refusal p why))
  stands xid p why now call old new receipt soon history same is a = of (nine_calls.asks call.asked) refl is
    where
      of : (asked : Result Operation CallRefused) → nine_calls.asks call.asked ≡ asked → IsCallOf p asked → AnswersBoth version blocks verifier (marked history) now call old new (sent xid (refusal p why))
      of (Err other) e k = absurd k
      of (Ok operation) e k =
          let here : asks call.asked ≡ Ok (nine operation) = asked_nine call.asked operation e in
          let come : Comes version blocks (awaiting (Wait receipt)) verifier now (Ok (nine operation)) old a.outcome new =
          subst (λ (r : Result Requested CallRefused). Comes version blocks (awaiting (Wait receipt)) verifier now r old a.outcome new) here a.comes in
          let served = call_takes_place version verifier now (Ok operation) old new receipt history p why come.0 k come.1 in
          let done : Comes version blocks (marked history) verifier now (Ok (nine operation)) old (nine_text now (refusal p why)) new = (refusal p why, served, refl) in
          record {
            outcome = nine_text now (refusal p why);
            comes = subst (λ (r : Result Requested CallRefused). Comes version blocks (marked history) verifier now r old (nine_text now (refusal p why)) new) (sym here) done;
            is_sent = rw (same, refusal_at now p (refusal_error why)) refl;
          }

  pub both_lawful : IsFileLawful (both_programs version blocks verifier)
  both_lawful = record {
    grows = λ standing now call old new text a. comes_grow standing now (asks call.asked) old new a.outcome a.comes;
    paid = λ now call old new then wait text a paid. record { outcome = a.outcome; comes = comes_paid now (asks call.asked) old new then wait a.outcome paid a.comes; is_sent = a.is_sent };
    stays = λ now call old new history longer text a grows. record { outcome = a.outcome; comes = comes_stay now (asks call.asked) old new history longer a.outcome grows a.comes; is_sent = a.is_sent };
    refusable = λ xid p.
        let why : Refusal CauseState = NoMemory in
        (sent xid (refusal p why), stands xid p why);
  }

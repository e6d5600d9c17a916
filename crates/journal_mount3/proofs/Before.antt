-- The nine procedures are answered as before.
use Rattle.std.proofs.Common.{◌≡◌, ℕ, List, Result, Ok, Err, refl, sym, ap, subst, ◌∙◌}
use Rattle.journal_history.specs.Tokens.{SessionState}
use Rattle.journal_inode.specs.declared.node.Time.{Time}
use Rattle.journal_inode.specs.declared.version.FormatVersion.{FormatVersion}
use Rattle.journal_rpc.specs.declared.replies.CallRefused.{CallRefused}
use Rattle.journal_rpc.specs.Calls.{Message}
use Rattle.journal_nfs3_wire.specs.Arguments.{Operation}
use Rattle.journal_nfs3_wire.specs.Results.{Results, Null, GetAttributes, SetAttributes, Lookup, Read, Write, Create, Remove, Commit}
use Rattle.journal_nfs3_wire.specs.Calls as nine_calls
use Rattle.journal_nfs3.specs.Served.{Standing}
use Rattle.journal_nfs3.specs.Answers.{ServesCall, AnswersAs, sent}
use Rattle.journal_mount3.specs.Calls.{Requested, nine}
use Rattle.journal_mount3.specs.Roots.{results_at, TellsNoRoot}
use Rattle.journal_mount3.specs.Answers.{nine_text, sent_text, Comes, AnswersBoth}
use Rattle.journal_mount3.specs.Routing.{asked_nine}

pub same_before : (now : Time) (r : Results) → TellsNoRoot r → results_at now r ≡ r
same_before now Null h = refl
same_before now (GetAttributes (Ok f)) h = rw h refl
same_before now (GetAttributes (Err why)) h = refl
same_before now (SetAttributes (Ok c)) h = rw h refl
same_before now (SetAttributes (Err why)) h = refl
same_before now (Lookup (Ok f)) h = absurd h
same_before now (Lookup (Err why)) h = refl
same_before now (Read r) h = refl
same_before now (Write r) h = refl
same_before now (Create (Ok f)) h = absurd h
same_before now (Create (Err why)) h = refl
same_before now (Remove (Ok f)) h = absurd h
same_before now (Remove (Err why)) h = refl
same_before now (Commit r) h = refl

pub answered_before : (version : FormatVersion) (blocks : ℕ) (verifier : List ℕ) (standing : Standing) (now : Time) (call : Message) (operation : Operation) (old new : SessionState) (text : List ℕ)
    → nine_calls.asks call.asked ≡ Ok operation → AnswersBoth version blocks verifier standing now call old new text
    → (r : Results) × AnswersAs version standing verifier now call.xid (nine_calls.asks call.asked) old new (sent call.xid (Ok r)) × (text ≡ sent call.xid (Ok (results_at now r)))
answered_before version blocks verifier standing now call operation old new text is a =
    let come : Comes version blocks standing verifier now (Ok (nine operation)) old a.outcome new =
    subst (λ (q : Result Requested CallRefused). Comes version blocks standing verifier now q old a.outcome new) (asked_nine call.asked operation is) a.comes in
    let served = come.1 in
    let results : come.0 ≡ Ok served.0 = served.1 in
    let here : ServesCall version standing verifier now (Ok operation) old (Ok served.0) new = subst (λ (q : Result Results CallRefused). ServesCall version standing verifier now (Ok operation) old q new) results served in (
      served.0,
      record {
        outcome = Ok served.0;
        comes = subst (λ (q : Result Operation CallRefused). ServesCall version standing verifier now q old (Ok served.0) new) (sym is) here;
        is_sent = refl;
      },
      a.is_sent ∙ ap (sent_text call.xid) (come.2 ∙ ap (nine_text now) results),
    )

-- The replies where files are only read are a protocol.
use Rattle.std.proofs.Common.{◌≡◌, ℕ, ◌≤◌, Bool, true, false, List, Result, Ok, Err, refl, sym, subst}
use Rattle.std.specs.Prelude.{MatchBool}
use mathlib.Core.List.{IsPrefix}
use Rattle.journal_world.specs.Histories.{Entry, floor}
use Rattle.journal_history.specs.Tokens.{SessionState, CommitPlace}
use Rattle.journal_inode.specs.declared.node.Time.{Time}
use Rattle.journal_inode.specs.declared.version.FormatVersion.{FormatVersion}
use Rattle.journal_rpc.specs.declared.replies.CallRefused.{CallRefused}
use Rattle.journal_rpc.specs.Calls.{Message}
use Rattle.journal_file_types.specs.declared.pending_wait.PendingWait.{PendingWait}
use Rattle.journal_file_types.specs.declared.pending_wait.PendingWait.TheVariants.{Wait}
use Rattle.journal_filestore.specs.Done.{IsWaitOver}
use Rattle.journal_nfs3_wire.specs.declared.procedure.Procedure.{Procedure}
use Rattle.journal_nfs3_wire.specs.Arguments.{Operation}
use Rattle.journal_nfs3.specs.Served.{Standing, marked, awaiting, HasNoWait}
use Rattle.journal_nfs3_wire.specs.Calls as nine_calls
use Rattle.journal_nfs3.specs.Answers.{IsCallOf}
use Rattle.journal_server.specs.FileProtocols.{IsFileLawful, IsAwaitedCall, StandsInFor}
use Rattle.journal_protocol.specs.Grows.{grows-same}
use Rattle.journal_mount3.specs.Calls.{Requested, nine, asks}
use Rattle.journal_mount3.specs.Answers.{Comes, AnswersBoth, both_programs}
use Rattle.journal_mount3.specs.Lawful.{comes_grow, comes_paid, comes_stay, both_lawful}
use Rattle.journal_mount3.specs.Readers.{changes_files, is_denied, reading_of, IsDenied, ComesToReader, AnswersReader, reader_programs}
use Rattle.journal_mount3.specs.Routing.{asked_nine}

-- a denial has no wait
waits_not : (receipt : CommitPlace) → HasNoWait (awaiting (Wait receipt)) → ⊥
waits_not receipt e = absurd cc

module _ (version : FormatVersion) (blocks : ℕ) (verifier : List ℕ) where
  abbrev Either : Bool → Standing → Time → Result Requested CallRefused → SessionState → Result (List ℕ) CallRefused → SessionState → Type 0
  Either denied standing now asked old outcome new = MatchBool denied (IsDenied standing old outcome new) (Comes version blocks standing verifier now asked old outcome new)

  grow : (denied : Bool) (standing : Standing) (now : Time) (asked : Result Requested CallRefused) (old new : SessionState) (outcome : Result (List ℕ) CallRefused) → Either denied standing now asked old outcome new → IsPrefix old.seen new.seen
  grow true standing now asked old new outcome h = grows-same old new h.1
  grow false standing now asked old new outcome h = comes_grow version blocks verifier standing now asked old new outcome h

  pay : (denied : Bool) (now : Time) (asked : Result Requested CallRefused) (old new then : SessionState) (wait : PendingWait CommitPlace) (outcome : Result (List ℕ) CallRefused) → IsWaitOver wait then
      → Either denied (awaiting wait) now asked old outcome new → Either denied (marked then.seen) now asked old outcome new
  pay true now asked old new then wait outcome paid h = (h.0, h.1, tt)
  pay false now asked old new then wait outcome paid h = comes_paid version blocks verifier now asked old new then wait outcome paid h

  stay : (denied : Bool) (now : Time) (asked : Result Requested CallRefused) (old new : SessionState) (history longer : List Entry) (outcome : Result (List ℕ) CallRefused) → floor history ≤ floor longer
      → Either denied (marked history) now asked old outcome new → Either denied (marked longer) now asked old outcome new
  stay true now asked old new history longer outcome grows h = (h.0, h.1, tt)
  stay false now asked old new history longer outcome grows h = comes_stay version blocks verifier now asked old new history longer outcome grows h

  -- A text that replaces a reply of both programs replaces one here: a call that waits asks for
  -- the same here, and is not denied
  pub reader_stands : (xid : ℕ) (p : Procedure) (text : List ℕ) → StandsInFor (both_programs version blocks verifier) xid p text → StandsInFor (reader_programs version blocks verifier) xid p text
  reader_stands xid p text stands now call old new receipt soon history same is a = of (nine_calls.asks call.asked) refl is
    where
      of : (asked : Result Operation CallRefused) → nine_calls.asks call.asked ≡ asked → IsCallOf p asked → AnswersReader version blocks verifier (marked history) now call old new text
      of (Err other) e k = absurd k
      of (Ok operation) e k = by (changes_files operation) refl
        where
          here : asks call.asked ≡ Ok (nine operation)
          here = asked_nine call.asked operation e

          come : Either (changes_files operation) (awaiting (Wait receipt)) now (Ok (nine operation)) old a.outcome new
          come = subst (λ (r : Result Requested CallRefused). ComesToReader version blocks (awaiting (Wait receipt)) verifier now r old a.outcome new) here a.comes

          by : (denied : Bool) → changes_files operation ≡ denied → AnswersReader version blocks verifier (marked history) now call old new text
          by true is_so = absurd (waits_not receipt (subst (λ (d : Bool). Either d (awaiting (Wait receipt)) now (Ok (nine operation)) old a.outcome new) is_so come).2)
          by false is_so =
              let plain : Comes version blocks (awaiting (Wait receipt)) verifier now (Ok (nine operation)) old a.outcome new = subst (λ (d : Bool). Either d (awaiting (Wait receipt)) now (Ok (nine operation)) old a.outcome new) is_so come in
              let both : AnswersBoth version blocks verifier (awaiting (Wait receipt)) now call old new soon = record {
                outcome = a.outcome;
                comes = subst (λ (r : Result Requested CallRefused). Comes version blocks (awaiting (Wait receipt)) verifier now r old a.outcome new) (sym here) plain;
                is_sent = a.is_sent;
              } in
              let b : AnswersBoth version blocks verifier (marked history) now call old new text = stands now call old new receipt soon history same is both in
              let done : Comes version blocks (marked history) verifier now (Ok (nine operation)) old b.outcome new = subst (λ (r : Result Requested CallRefused). Comes version blocks (marked history) verifier now r old b.outcome new) here b.comes in
              let either : Either (changes_files operation) (marked history) now (Ok (nine operation)) old b.outcome new = subst (λ (d : Bool). Either d (marked history) now (Ok (nine operation)) old b.outcome new) (sym is_so) done in
              record {
                outcome = b.outcome;
                comes = subst (λ (r : Result Requested CallRefused). ComesToReader version blocks (marked history) verifier now r old b.outcome new) (sym here) either;
                is_sent = b.is_sent;
              }

  pub reader_lawful : IsFileLawful (reader_programs version blocks verifier)
  reader_lawful = record {
    grows = λ standing now call old new text a. grow (is_denied (asks call.asked)) standing now (reading_of (asks call.asked)) old new a.outcome a.comes;
    paid = λ now call old new then wait text a paid. record { outcome = a.outcome; comes = pay (is_denied (asks call.asked)) now (reading_of (asks call.asked)) old new then wait a.outcome paid a.comes; is_sent = a.is_sent };
    stays = λ now call old new history longer text a grows. record { outcome = a.outcome; comes = stay (is_denied (asks call.asked)) now (reading_of (asks call.asked)) old new history longer a.outcome grows a.comes; is_sent = a.is_sent };
    refusable = λ xid p. let one = (both_lawful version blocks verifier).refusable xid p in (one.0, reader_stands xid p one.0 one.1);
  }

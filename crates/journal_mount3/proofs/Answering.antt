-- Replies that are made up to their commits.
use Rattle.std.proofs.Common.{◌≡◌, ℕ, List, Option, Result, Ok, Err, refl, sym, ap, subst, ◌∙◌}
use Rattle.std.specs.Prelude.{IfSome}
use Rattle.journal_world.specs.declared.refusal.Refusal.{Refusal}
use Rattle.journal_world.specs.declared.refusal.Refusal.TheVariants.{Busy, DeviceFailed, NoMemory, BadAddress, BadSize, TooLarge, BadLog, BadSuper, Stale, Stranger, Worn, Full, Closed, Fenced}
use Rattle.journal_world.specs.Histories.{Entry}
use Rattle.journal_history.specs.Tokens.{SessionState, CommitPlace}
use Rattle.journal_memory.specs.declared.refusal_number.RefusalNumber.TheVariants.{J6}
use Rattle.journal_memory.specs.Causes.{CauseState, unexplained}
use Rattle.journal_inode.specs.declared.node.Time.{Time}
use Rattle.journal_inode.specs.declared.version.FormatVersion.{FormatVersion}
use Rattle.journal_rpc.specs.declared.replies.CallRefused.{CallRefused}
use Rattle.journal_rpc.specs.Calls.{Asked, Message}
use Rattle.journal_rpc.specs.Replies.{one_fragment, reply}
use Rattle.journal_file_types.specs.declared.pending_wait.PendingWait.{PendingWait}
use Rattle.journal_file_types.specs.declared.pending_wait.PendingWait.TheVariants.{Nothing, Wait}
use Rattle.journal_nfs3.specs.declared.pending.ReplyWait.{ReplyWait}
use Rattle.journal_nfs3_wire.specs.Arguments.{Operation}
use Rattle.journal_nfs3_wire.specs.declared.procedure.Procedure.{Procedure}
use Rattle.journal_nfs3_wire.specs.declared.results.FormatResults.{FormatResults}
use Rattle.journal_nfs3_wire.specs.declared.results.NfsError.{NfsError}
use Rattle.journal_nfs3_wire.specs.Results.{Results, results_text, procedure_of_results, IsResult}
use Rattle.journal_nfs3_wire.specs.Profile.{results_of, refused_results}
use Rattle.journal_nfs3_wire.specs.Calls.{asks as asks_nine_alone}
use Rattle.journal_nfs3.specs.Served.{Standing, ServesAs, marked, awaiting, refusal_error}
use Rattle.journal_nfs3.specs.Answers.{IsCallOf, sent, pending_wait_for, procedure_for}
use Rattle.journal_nfs3.proofs.Pendings.{call_paid, call_takes_place}
use Rattle.journal_server.specs.FileProtocols.{IsAwaitedCall, StandsInFor}
use Rattle.journal_mount3.specs.declared.results.Told as code_told
use Rattle.journal_mount3.specs.declared.results.Told.TheVariants as code_tellings
use Rattle.journal_nfs3_wire.specs.Queries.{Query}
use Rattle.journal_mount_wire.specs.Arguments.{MountCall}
use Rattle.journal_mount3.specs.Calls.{Requested, nine, query, mount, asks}
use Rattle.journal_mount3.specs.Results.{QueryResults, query_text}
use Rattle.journal_mount3.specs.Mounts.{mount_text}
use Rattle.journal_mount3.specs.Served.{Queries}
use Rattle.journal_mount3.specs.Roots.{results_at}
use Rattle.journal_mount3.specs.Routing.{nine_asked}
use Rattle.journal_mount3.specs.Lawful.{stands}
use Rattle.journal_mount3.specs.Answers.{nine_text, sent_text, Comes, AnswersBoth, both_programs}
use Rattle.journal_mount3.specs.CodeViews.{reply_wait_of, IsWaitFor, told_text, texts_of}
use Rattle.journal_mount3.proofs.RootTimes.{same_procedure}

-- the wait is kept
wait_kept : (told : Result code_told.Told CallRefused) (wait : PendingWait CommitPlace) (asked : Result Operation CallRefused) → IsWaitFor told wait asked → pending_wait_for (reply_wait_of told wait) ≡ wait
wait_kept (Ok (code_tellings.Nine r)) Nothing asked h = refl
wait_kept (Ok (code_tellings.Nine r)) (Wait receipt) asked h = refl
wait_kept (Ok (code_tellings.Query version r)) wait asked h = sym h
wait_kept (Ok (code_tellings.Mount r)) wait asked h = sym h
wait_kept (Err why) wait asked h = sym h

awaited_call : (told : Result code_told.Told CallRefused) (wait : PendingWait CommitPlace) (asked : Result Operation CallRefused) → IsWaitFor told wait asked
    → IfSome (reply_wait_of told wait) (λ (a : ReplyWait CommitPlace). IsCallOf a.procedure asked)
awaited_call (Ok (code_tellings.Nine r)) Nothing asked h = tt
awaited_call (Ok (code_tellings.Nine r)) (Wait receipt) asked h = h
awaited_call (Ok (code_tellings.Query version r)) wait asked h = tt
awaited_call (Ok (code_tellings.Mount r)) wait asked h = tt
awaited_call (Err why) wait asked h = tt

pub awaits : (call : Message) (told : Result code_told.Told CallRefused) (wait : PendingWait CommitPlace) (awaited : Option (ReplyWait CommitPlace)) → IsWaitFor told wait (asks_nine_alone call.asked)
    → awaited ≡ reply_wait_of told wait → IfSome awaited (λ (a : ReplyWait CommitPlace). IsAwaitedCall a.procedure call)
awaits call told wait awaited right waits =
    subst (λ (o : Option (ReplyWait CommitPlace)). IfSome o (λ (a : ReplyWait CommitPlace). IsAwaitedCall a.procedure call)) (sym waits) (awaited_call told wait (asks_nine_alone call.asked) right)

-- a reply of what the code tells is one of its text
pub sent_seen : (xid : ℕ) (told : Result code_told.Told CallRefused) → one_fragment (reply told_text xid told) ≡ sent_text xid (texts_of told)
sent_seen xid (Ok r) = refl
sent_seen xid (Err why) = refl

module _ (version : FormatVersion) (blocks : ℕ) (verifier : List ℕ) (now : Time) (call : Message) (old new : SessionState) where
  pub answers_no_wait : (told : Result code_told.Told CallRefused) (wait : PendingWait CommitPlace) (awaited : Option (ReplyWait CommitPlace)) (text : List ℕ)
      → Comes version blocks (awaiting wait) verifier now (asks call.asked) old (texts_of told) new → IsWaitFor told wait (asks_nine_alone call.asked)
      → text ≡ sent_text call.xid (texts_of told) → awaited ≡ reply_wait_of told wait → AnswersBoth version blocks verifier (awaiting (pending_wait_for awaited)) now call old new text
  answers_no_wait told wait awaited text h right is waits = record {
    outcome = texts_of told;
    comes =
        subst (λ (o : PendingWait CommitPlace). Comes version blocks (awaiting o) verifier now (asks call.asked) old (texts_of told) new)
        (sym (ap pending_wait_for waits ∙ wait_kept told wait (asks_nine_alone call.asked) right)) h;
    is_sent = is;
  }

  loses_so : (asked : Result Requested CallRefused) (outcome : Result (List ℕ) CallRefused) (wait : PendingWait CommitPlace) (history : List Entry)
      → Comes version blocks (awaiting wait) verifier now asked old outcome new → (other : Result (List ℕ) CallRefused) × Comes version blocks (marked history) verifier now asked old other new
  loses_so (Err why) outcome wait history h = (outcome, (h.0, h.1, tt))
  loses_so (Ok (query q)) outcome wait history h = (outcome, (h.0, h.1, h.2, tt))
  loses_so (Ok (mount c)) outcome wait history h = (outcome, (h.0, h.1, tt))
  loses_so (Ok (nine operation)) outcome Nothing history h =
      let then : SessionState = record { number = 0; mine = history; seen = history } in
      (outcome, (h.0, call_paid version verifier now (Ok operation) old new then Nothing h.0 tt h.1, h.2))
  loses_so (Ok (nine operation)) outcome (Wait receipt) history h =
      let why : Refusal CauseState = NoMemory in
      let results : Result Results CallRefused = Ok (refused_results (procedure_for operation) (refusal_error why)) in
      (nine_text now results, (results, call_takes_place version verifier now (Ok operation) old new receipt history (procedure_for operation) why h.0 refl h.1, refl))

  pub loses : (outcome : Result (List ℕ) CallRefused) (wait : PendingWait CommitPlace) → Comes version blocks (awaiting wait) verifier now (asks call.asked) old outcome new
      → (history : List Entry) → (reply : List ℕ) × AnswersBoth version blocks verifier (marked history) now call old new reply
  loses outcome wait h history =
      let other = loses_so (asks call.asked) outcome wait history h in
      (sent_text call.xid other.0, record { outcome = other.0; comes = other.1; is_sent = refl })

-- ---- one of the nine procedures

module _ (version : FormatVersion) (blocks : ℕ) (verifier : List ℕ) (now : Time) (operation : Operation) (old new : SessionState) (plain : Results) (told : FormatResults) (same : results_of told.version told.results ≡ results_at now plain) where
  -- its results, with the moment as the root's times
  pub nine_comes : (wait : PendingWait CommitPlace) → ServesAs version (awaiting wait) verifier now operation old plain new → procedure_of_results plain ≡ procedure_for operation → IsResult plain
      → Comes version blocks (awaiting wait) verifier now (Ok (nine operation)) old (texts_of (Ok (code_tellings.Nine told))) new
  nine_comes wait serves procedure result = (Ok plain, (plain, refl, serves, procedure, result), ap (λ (r : Results). Ok (results_text r)) same)

  pub nine_waits : (wait : PendingWait CommitPlace) → procedure_of_results plain ≡ procedure_for operation → IsWaitFor (Ok (code_tellings.Nine told)) wait (Ok operation)
  nine_waits wait procedure = ap procedure_of_results same ∙ same_procedure now plain ∙ procedure

-- what a call that asks one of them comes to
pub asked_comes : (version : FormatVersion) (blocks : ℕ) (verifier : List ℕ) (now : Time) (asked : Result Requested CallRefused) (operation : Operation) (old new : SessionState) (standing : Standing) (outcome : Result (List ℕ) CallRefused)
    → Ok (nine operation) ≡ asked → Comes version blocks standing verifier now (Ok (nine operation)) old outcome new → Comes version blocks standing verifier now asked old outcome new
asked_comes version blocks verifier now asked operation old new standing outcome is h = subst (λ (a : Result Requested CallRefused). Comes version blocks standing verifier now a old outcome new) is h

pub asked_waits : (asked : Asked) (operation : Operation) (told : Result code_told.Told CallRefused) (wait : PendingWait CommitPlace) → Ok (nine operation) ≡ asks asked → IsWaitFor told wait (Ok operation) → IsWaitFor told wait (asks_nine_alone asked)
asked_waits asked operation told wait is h = subst (λ (a : Result Operation CallRefused). IsWaitFor told wait a) (sym (nine_asked asked operation (sym is))) h

-- ---- what a call comes to that does not ask one of them

module _ (version : FormatVersion) (blocks : ℕ) (verifier : List ℕ) (now : Time) (asked : Result Requested CallRefused) (old : SessionState) where
  abbrev ComesAtOnce : Result (List ℕ) CallRefused → SessionState → Type 0
  ComesAtOnce outcome new = Comes version blocks (awaiting Nothing) verifier now asked old outcome new

  pub refused_comes : (why : CallRefused) → Err why ≡ asked → ComesAtOnce (Err why) old
  refused_comes why is = subst (λ (a : Result Requested CallRefused). Comes version blocks (awaiting Nothing) verifier now a old (Err why) old) is (refl, refl, refl)

  pub mount_comes : (call : MountCall) (text : List ℕ) → Ok (mount call) ≡ asked → text ≡ mount_text call → ComesAtOnce (Ok text) old
  mount_comes call text is same = subst (λ (a : Result Requested CallRefused). Comes version blocks (awaiting Nothing) verifier now a old (Ok text) old) is (ap Ok same, refl, refl)

  pub query_comes : (q : Query) (r : QueryResults) (new : SessionState) → Ok (query q) ≡ asked → Queries version blocks now q old r new → ComesAtOnce (Ok (query_text r)) new
  query_comes q r new is queries = subst (λ (a : Result Requested CallRefused). Comes version blocks (awaiting Nothing) verifier now a old (Ok (query_text r)) new) is (r, queries, refl, refl)

-- ---- the reply that is sent in place of another

-- a refusal is told alike, whatever explains it
told_alike : {C : Type 0} (why : Refusal C) → (other : Refusal CauseState) × (refusal_error other ≡ refusal_error why)
told_alike Busy = (Busy, refl)
told_alike (DeviceFailed cause) = (DeviceFailed (unexplained J6), refl)
told_alike NoMemory = (NoMemory, refl)
told_alike BadAddress = (NoMemory, refl)
told_alike BadSize = (NoMemory, refl)
told_alike TooLarge = (NoMemory, refl)
told_alike BadLog = (NoMemory, refl)
told_alike BadSuper = (NoMemory, refl)
told_alike (Stale cause) = (NoMemory, refl)
told_alike (Stranger cause) = (NoMemory, refl)
told_alike (Worn cause) = (NoMemory, refl)
told_alike (Full cause) = (NoMemory, refl)
told_alike (Closed cause) = (NoMemory, refl)
told_alike Fenced = (NoMemory, refl)

pub stands_so : {C : Type 0} (version : FormatVersion) (blocks : ℕ) (verifier : List ℕ) (xid : ℕ) (p : Procedure) (why : Refusal C) (text : List ℕ) → text ≡ sent xid (Ok (refused_results p (refusal_error why)))
    → StandsInFor (both_programs version blocks verifier) xid p text
stands_so version blocks verifier xid p why text is =
    let alike = told_alike why in
    subst (StandsInFor (both_programs version blocks verifier) xid p) (sym is)
    (subst (λ (e : NfsError). StandsInFor (both_programs version blocks verifier) xid p (sent xid (Ok (refused_results p e)))) alike.1 (stands version blocks verifier xid p alike.0))

-- Replies for which a wait is owed, and what is told in place of them.
use Rattle.std.proofs.Common.{◌≡◌, ℕ, ◌≤◌, IsTrue, List, [], ◌++◌, Option, Some, None, Result, Ok, Err, OnErr, IfSome, arith, refl, sym, ap, subst, ◌∙◌}
use Rattle.journal_world.specs.declared.refusal.Refusal.{Refusal}
use Rattle.journal_world.specs.declared.refusal.Refusal.TheVariants.{NoMemory, BadAddress, BadSize, TooLarge, Busy, DeviceFailed, BadLog, BadSuper, Stale, Stranger, Worn, Full, Closed, Fenced}
use Rattle.journal_world.specs.Histories.{Entry, floor, is_trusted, at}
use Rattle.journal_history.specs.Tokens.{SessionState, OnlyExtends, IsExact, CommitPlace}
use Rattle.journal_memory.specs.declared.refusal_number.RefusalNumber.TheVariants.{J6}
use Rattle.journal_memory.specs.Causes.{CauseState, unexplained}
use Rattle.journal_inode.specs.declared.version.FormatVersion.{FormatVersion}
use Rattle.journal_inode.specs.declared.node.Time.{Time}
use Rattle.journal_inode.specs.Sound.{HasSoundFiles}
use Rattle.journal_rpc.specs.declared.replies.CallRefused.{CallRefused}
use Rattle.journal_rpc.specs.Replies.{one_fragment, reply}
use Rattle.journal_file_types.specs.declared.pending_wait.PendingWait.{PendingWait}
use Rattle.journal_file_types.specs.declared.pending_wait.PendingWait.TheVariants.{Nothing, Wait}
use Rattle.journal_filestore.specs.Done.{IsWaitOver}
use Rattle.journal_nfs3_wire.specs.declared.procedure.Procedure.{Procedure}
use Rattle.journal_nfs3_wire.specs.declared.procedure.Procedure.TheVariants as procedure
use Rattle.journal_nfs3_wire.specs.declared.results.NfsError.{NfsError}
use Rattle.journal_nfs3_wire.specs.declared.results.NfsError.TheVariants.{ServerFault}
use Rattle.journal_nfs3.specs.declared.pending.ReplyWait.{ReplyWait}
use Rattle.journal_nfs3_wire.specs.Arguments.{Operation}
use Rattle.journal_nfs3_wire.specs.Results.{Results, results_text, procedure_of_results, IsResult}
use Rattle.journal_nfs3_wire.specs.declared.results.FormatResults.{FormatResults}
use Rattle.journal_nfs3_wire.specs.Profile.{results_of, refused_results}
use Rattle.journal_nfs3.specs.Served.{refusal_error, marked, awaiting, HasNoWait}
use Rattle.journal_nfs3.specs.Answers.{procedure_for, ServesCall, sent, outcome_seen, AnswersAs, Answers, pending_wait_for, awaited_of, IsCallOf, AnswersNoWait, TakesPlace}
use Rattle.journal_nfs3_wire.proofs.ResultFacts.{null_result, get_attributes_err, set_attributes_err, lookup_err, read_err, write_err, create_err, remove_err, commit_err}
use Rattle.journal_nfs3.proofs.Standings.{serves_paid, serves_stays, serves_waited, serves_takes_place, serves_unsure}

-- ---- the results of a refusal

refused_fits : (p : Procedure) (why : NfsError) → IsResult (refused_results p why)
refused_fits procedure.Null why = null_result
refused_fits procedure.GetAttributes why = get_attributes_err why
refused_fits procedure.SetAttributes why = set_attributes_err why
refused_fits procedure.Lookup why = lookup_err why
refused_fits procedure.Read why = read_err why
refused_fits procedure.Write why = write_err why
refused_fits procedure.Create why = create_err why
refused_fits procedure.Remove why = remove_err why
refused_fits procedure.Commit why = commit_err why

refused_procedure : (p : Procedure) (why : NfsError) → procedure_of_results (refused_results p why) ≡ p
refused_procedure procedure.Null why = refl
refused_procedure procedure.GetAttributes why = refl
refused_procedure procedure.SetAttributes why = refl
refused_procedure procedure.Lookup why = refl
refused_procedure procedure.Read why = refl
refused_procedure procedure.Write why = refl
refused_procedure procedure.Create why = refl
refused_procedure procedure.Remove why = refl
refused_procedure procedure.Commit why = refl

-- a refusal is told alike, whatever explains it
told_alike : {C : Type 0} (why : Refusal C) → (other : Refusal CauseState) × (refusal_error other ≡ refusal_error why)
told_alike Busy = (Busy, refl)
told_alike (DeviceFailed cause) = (DeviceFailed (unexplained J6), refl)
told_alike NoMemory = (NoMemory, refl)
told_alike BadAddress = (NoMemory, refl)
told_alike BadSize = (NoMemory, refl)
told_alike TooLarge = (NoMemory, refl)
told_alike BadLog = (NoMemory, refl)
told_alike BadSuper = (NoMemory, refl)
told_alike (Stale cause) = (NoMemory, refl)
told_alike (Stranger cause) = (NoMemory, refl)
told_alike (Worn cause) = (NoMemory, refl)
told_alike (Full cause) = (NoMemory, refl)
told_alike (Closed cause) = (NoMemory, refl)
told_alike Fenced = (NoMemory, refl)

-- ---- what is told of a call

pub call_paid : (version : FormatVersion) (verifier : List ℕ) (now : Time) (asked : Result Operation CallRefused) (old new then : SessionState) (wait : PendingWait CommitPlace) (outcome : Result Results CallRefused) → IsWaitOver wait then
    → ServesCall version (awaiting wait) verifier now asked old outcome new → ServesCall version (marked then.seen) verifier now asked old outcome new
call_paid version verifier now (Err why) old new then wait outcome paid h = (h.0, h.1, tt)
call_paid version verifier now (Ok operation) old new then wait outcome paid h = (h.0, h.1, serves_paid version verifier now operation old new then wait h.0 paid h.2, h.3, h.4)

pub answers_paid : (version : FormatVersion) (verifier : List ℕ) (now : Time) (xid : ℕ) (asked : Result Operation CallRefused) (old new then : SessionState) (wait : PendingWait CommitPlace) (text : List ℕ)
    → AnswersAs version (awaiting wait) verifier now xid asked old new text → IsWaitOver wait then → AnswersAs version (marked then.seen) verifier now xid asked old new text
answers_paid version verifier now xid asked old new then wait text a paid =
    record { outcome = a.outcome; comes = call_paid version verifier now asked old new then wait a.outcome paid a.comes; is_sent = a.is_sent }

pub call_stays : (version : FormatVersion) (verifier : List ℕ) (now : Time) (asked : Result Operation CallRefused) (old new : SessionState) (history longer : List Entry) (outcome : Result Results CallRefused) → floor history ≤ floor longer
    → ServesCall version (marked history) verifier now asked old outcome new → ServesCall version (marked longer) verifier now asked old outcome new
call_stays version verifier now (Err why) old new history longer outcome grows h = (h.0, h.1, tt)
call_stays version verifier now (Ok operation) old new history longer outcome grows h = (h.0, h.1, serves_stays version verifier now operation old new history longer h.0 grows h.2, h.3, h.4)

pub answers_stay : (version : FormatVersion) (verifier : List ℕ) (now : Time) (xid : ℕ) (asked : Result Operation CallRefused) (old new : SessionState) (history longer : List Entry) (text : List ℕ)
    → AnswersAs version (marked history) verifier now xid asked old new text → floor history ≤ floor longer → AnswersAs version (marked longer) verifier now xid asked old new text
answers_stay version verifier now xid asked old new history longer text a grows =
    record { outcome = a.outcome; comes = call_stays version verifier now asked old new history longer a.outcome grows a.comes; is_sent = a.is_sent }

-- a refused call owes nothing
owes_none : (receipt : CommitPlace) → HasNoWait (awaiting (Wait receipt)) → ⊥
owes_none receipt e = absurd cc

pub call_takes_place : (version : FormatVersion) (verifier : List ℕ) (now : Time) (asked : Result Operation CallRefused) (old new : SessionState) (receipt : CommitPlace) (history : List Entry) (p : Procedure) (why : Refusal CauseState) (outcome : Result Results CallRefused)
    → IsCallOf p asked → ServesCall version (awaiting (Wait receipt)) verifier now asked old outcome new → ServesCall version (marked history) verifier now asked old (Ok (refused_results p (refusal_error why))) new
call_takes_place version verifier now (Err other) old new receipt history p why outcome is h = absurd is
call_takes_place version verifier now (Ok operation) old new receipt history p why outcome is h =
    subst (λ (q : Procedure). ServesCall version (marked history) verifier now (Ok operation) old (Ok (refused_results q (refusal_error why))) new) (sym is)
    (refused_results (procedure_for operation) (refusal_error why), refl, serves_takes_place version verifier now operation old new receipt history why h.0 h.2, refused_procedure _ _, refused_fits _ _)

pub takes_place : {C : Type 0} (xid : ℕ) (p : Procedure) (why : Refusal C) → TakesPlace xid p (sent xid (Ok (refused_results p (refusal_error why))))
takes_place xid p why =
    let alike = told_alike why in
    subst (λ (e : NfsError). TakesPlace xid p (sent xid (Ok (refused_results p e)))) alike.1
    (λ version verifier now asked old new receipt soon history is a.
    record { outcome = Ok (refused_results p (refusal_error alike.0)); comes = call_takes_place version verifier now asked old new receipt history p alike.0 a.outcome is a.comes; is_sent = refl })

-- ---- a session that waited for what is owed

-- a session's history has sound files after each number of commits
abbrev pub IsRuled : FormatVersion → SessionState → Type 0
IsRuled version s = IsTrue (is_trusted s.seen) → (n : ℕ) → HasSoundFiles version (at s.seen n)

call_waited : (version : FormatVersion) (verifier : List ℕ) (now : Time) (asked : Result Operation CallRefused) (old middle new : SessionState) (receipt : CommitPlace) (outcome : Result Results CallRefused) → OnlyExtends middle new → IsRuled version new
    → receipt.count ≤ floor new.seen → IsExact new → ServesCall version (awaiting (Wait receipt)) verifier now asked old outcome middle → ServesCall version (marked new.seen) verifier now asked old outcome new
call_waited version verifier now (Err why) old middle new receipt outcome more sound paid exact h = absurd (owes_none receipt h.2)
call_waited version verifier now (Ok operation) old middle new receipt outcome more sound paid exact h =
    (h.0, h.1, serves_waited version verifier now operation old middle new receipt h.0 more sound paid exact h.2, h.3, h.4)

pub answers_waited : (version : FormatVersion) (verifier : List ℕ) (now : Time) (xid : ℕ) (asked : Result Operation CallRefused) (old middle new : SessionState) (receipt : CommitPlace) (text : List ℕ) → OnlyExtends middle new → IsRuled version new
    → receipt.count ≤ floor new.seen → IsExact new → AnswersAs version (awaiting (Wait receipt)) verifier now xid asked old middle text → Answers version verifier now xid asked old new text
answers_waited version verifier now xid asked old middle new receipt text more sound paid exact a =
    record { outcome = a.outcome; comes = call_waited version verifier now asked old middle new receipt a.outcome more sound paid exact a.comes; is_sent = a.is_sent }

call_unsure : (version : FormatVersion) (verifier : List ℕ) (now : Time) (asked : Result Operation CallRefused) (old middle new : SessionState) (receipt : CommitPlace) (history : List Entry) (p : Procedure) (why : Refusal CauseState) (outcome : Result Results CallRefused)
    → OnlyExtends middle new → IsRuled version new → IsCallOf p asked → ServesCall version (awaiting (Wait receipt)) verifier now asked old outcome middle
    → ServesCall version (marked history) verifier now asked old (Ok (refused_results p (refusal_error why))) new
call_unsure version verifier now (Err other) old middle new receipt history p why outcome more sound is h = absurd is
call_unsure version verifier now (Ok operation) old middle new receipt history p why outcome more sound is h =
    subst (λ (q : Procedure). ServesCall version (marked history) verifier now (Ok operation) old (Ok (refused_results q (refusal_error why))) new) (sym is)
    (refused_results (procedure_for operation) (refusal_error why), refl, serves_unsure version verifier now operation old middle new receipt history why h.0 more sound h.2, refused_procedure _ _, refused_fits _ _)

pub answers_unsure : {C : Type 0} (version : FormatVersion) (verifier : List ℕ) (now : Time) (xid : ℕ) (asked : Result Operation CallRefused) (old middle new : SessionState) (receipt : CommitPlace) (p : Procedure) (why : Refusal C) (soon : List ℕ)
    → OnlyExtends middle new → IsRuled version new → IsCallOf p asked → AnswersAs version (awaiting (Wait receipt)) verifier now xid asked old middle soon
    → Answers version verifier now xid asked old new (sent xid (Ok (refused_results p (refusal_error why))))
answers_unsure version verifier now xid asked old middle new receipt p why soon more sound is a =
    let alike = told_alike why in
    subst (λ (e : NfsError). Answers version verifier now xid asked old new (sent xid (Ok (refused_results p e)))) alike.1
    (record { outcome = Ok (refused_results p (refusal_error alike.0)); comes = call_unsure version verifier now asked old middle new receipt new.seen p alike.0 a.outcome more sound is a.comes; is_sent = refl })

-- ---- what is owed for the reply of a call

abbrev nothing : PendingWait CommitPlace
nothing = Nothing

pub on_err : {T E P : Type 0} (r : Result T E) → P → OnErr r P
on_err (Ok v) p = tt
on_err (Err e) p = p

-- what is owed is owed with the call's procedure
module _ (version : FormatVersion) (verifier : List ℕ) (now : Time) (xid : ℕ) (old new : SessionState) where
  wait_kept : (asked : Result Operation CallRefused) (outcome : Result Results CallRefused) (wait : PendingWait CommitPlace) → ServesCall version (awaiting wait) verifier now asked old outcome new → pending_wait_for (awaited_of outcome wait) ≡ wait
  wait_kept (Err why) outcome wait h = subst (λ (o : PendingWait CommitPlace). pending_wait_for (awaited_of outcome o) ≡ o) (sym h.2) (none outcome)
    where
      none : (o : Result Results CallRefused) → pending_wait_for (awaited_of o nothing) ≡ nothing
      none (Ok r) = refl
      none (Err e) = refl
  wait_kept (Ok operation) outcome wait h = subst (λ (o : Result Results CallRefused). pending_wait_for (awaited_of o wait) ≡ wait) (sym h.1) (same wait)
    where
      same : (o : PendingWait CommitPlace) → pending_wait_for (awaited_of (Ok h.0) o) ≡ o
      same Nothing = refl
      same (Wait receipt) = refl

  of_call : (asked : Result Operation CallRefused) (outcome : Result Results CallRefused) (wait : PendingWait CommitPlace) → ServesCall version (awaiting wait) verifier now asked old outcome new
      → IfSome (awaited_of outcome wait) (λ (a : ReplyWait CommitPlace). IsCallOf a.procedure asked)
  of_call (Err why) outcome wait h = subst (λ (o : PendingWait CommitPlace). IfSome (awaited_of outcome o) (λ (a : ReplyWait CommitPlace). IsCallOf a.procedure (Err why))) (sym h.2) (none outcome)
    where
      none : (o : Result Results CallRefused) → IfSome (awaited_of o nothing) (λ (a : ReplyWait CommitPlace). IsCallOf a.procedure (Err why))
      none (Ok r) = tt
      none (Err e) = tt
  of_call (Ok operation) outcome wait h =
      subst (λ (o : Result Results CallRefused). IfSome (awaited_of o wait) (λ (a : ReplyWait CommitPlace). IsCallOf a.procedure (Ok operation))) (sym h.1) (same wait)
    where
      same : (o : PendingWait CommitPlace) → IfSome (awaited_of (Ok h.0) o) (λ (a : ReplyWait CommitPlace). IsCallOf a.procedure (Ok operation))
      same Nothing = tt
      same (Wait receipt) = h.3

  pub answers_no_wait : (asked : Result Operation CallRefused) (outcome : Result Results CallRefused) (owed : PendingWait CommitPlace) (wrote writes : List ℕ) (wait : Option (ReplyWait CommitPlace)) → ServesCall version (awaiting owed) verifier now asked old outcome new
      → writes ≡ wrote ++ sent xid outcome → wait ≡ awaited_of outcome owed → AnswersNoWait version verifier now xid asked old new wrote writes wait
  answers_no_wait asked outcome owed wrote writes wait h text is = record {
    text = sent xid outcome;
    written = text;
    answers = record {
      outcome = outcome;
      comes = subst (λ (o : PendingWait CommitPlace). ServesCall version (awaiting o) verifier now asked old outcome new) (sym (ap pending_wait_for is ∙ wait_kept asked outcome owed h)) h;
      is_sent = refl;
    };
    procedure = subst (λ (a : Option (ReplyWait CommitPlace)). IfSome a (λ (b : ReplyWait CommitPlace). IsCallOf b.procedure asked)) (sym is) (of_call asked outcome owed h);
  }

  -- a reply that was lost, of which nothing is known to be stable
  pub loses : (asked : Result Operation CallRefused) (outcome : Result Results CallRefused) (wait : PendingWait CommitPlace) → ServesCall version (awaiting wait) verifier now asked old outcome new
      → (history : List Entry) → (reply : List ℕ) × AnswersAs version (marked history) verifier now xid asked old new reply
  loses asked outcome Nothing h history =
      let then : SessionState = record { number = 0; mine = history; seen = history } in
      (sent xid outcome, record { outcome = outcome; comes = call_paid version verifier now asked old new then Nothing outcome tt h; is_sent = refl })
  loses (Err why) outcome (Wait receipt) h history = absurd (owes_none receipt h.2)
  loses (Ok operation) outcome (Wait receipt) h history =
      let results = Ok (refused_results (procedure_for operation) ServerFault) in
      (sent xid results, record { outcome = results; comes = call_takes_place version verifier now (Ok operation) old new receipt history (procedure_for operation) NoMemory outcome refl h; is_sent = refl })

-- a reply of the code's outcome is one of what it stands for
pub sent_seen : (xid : ℕ) (value : Result FormatResults CallRefused) → one_fragment (reply (λ (r : FormatResults). results_text (results_of r.version r.results)) xid value) ≡ sent xid (outcome_seen value)
sent_seen xid (Ok r) = refl
sent_seen xid (Err why) = refl

-- ---- the reply that is told in the end

module _ (version : FormatVersion) (verifier : List ℕ) (now : Time) (xid : ℕ) (asked : Result Operation CallRefused) (old middle : SessionState) (wrote writes : List ℕ) (wait : Option (ReplyWait CommitPlace)) (a : AnswersNoWait version verifier now xid asked old middle wrote writes wait) where
  -- all that is written is the reply
  all_written : (items : List ℕ) → wrote ≡ [] → items ≡ writes → items ≡ a.text
  all_written items none told = told ∙ a.written ∙ ap (λ (w : List ℕ). w ++ a.text) none

  -- nothing is owed
  pub settled_no_wait : (items : List ℕ) → wrote ≡ [] → items ≡ writes → wait ≡ None → Answers version verifier now xid asked old middle items
  settled_no_wait items none told e =
      subst (Answers version verifier now xid asked old middle) (sym (all_written items none told))
      (answers_paid version verifier now xid asked old middle middle Nothing a.text
      (subst (λ (o : Option (ReplyWait CommitPlace)). AnswersAs version (awaiting (pending_wait_for o)) verifier now xid asked old middle a.text) e a.answers) tt)

  module _ (new : SessionState) (awaited : ReplyWait CommitPlace) (e : wait ≡ Some awaited) (more : OnlyExtends middle new) (sound : IsRuled version new) where
    owing_it : AnswersAs version (awaiting (Wait awaited.receipt)) verifier now xid asked old middle a.text
    owing_it = subst (λ (o : Option (ReplyWait CommitPlace)). AnswersAs version (awaiting (pending_wait_for o)) verifier now xid asked old middle a.text) e a.answers

    -- a mark covers the receipt
    pub waited_no_wait : (items : List ℕ) → wrote ≡ [] → items ≡ writes → (stable : ℕ) → awaited.receipt.count ≤ stable → stable ≤ floor new.seen → IsExact new → Answers version verifier now xid asked old new items
    waited_no_wait items none told stable covers marks exact =
        subst (Answers version verifier now xid asked old new) (sym (all_written items none told))
        (answers_waited version verifier now xid asked old middle new awaited.receipt a.text more sound (omega (arith, covers, marks)) exact owing_it)

    -- the wait was refused
    pub unsure_no_wait : {C : Type 0} (why : Refusal C) → Answers version verifier now xid asked old new (sent xid (Ok (refused_results awaited.procedure (refusal_error why))))
    unsure_no_wait why =
        answers_unsure version verifier now xid asked old middle new awaited.receipt awaited.procedure why a.text more sound
        (subst (λ (o : Option (ReplyWait CommitPlace)). IfSome o (λ (b : ReplyWait CommitPlace). IsCallOf b.procedure asked)) e a.procedure) owing_it

    -- told by a reply, if memory is there for it
    pub unsure_told : {C : Type 0} (why : Refusal C) (items before after : List ℕ) → before ≡ [] → after ≡ before ++ sent xid (Ok (refused_results awaited.procedure (refusal_error why))) → items ≡ after → Answers version verifier now xid asked old new items
    unsure_told why items before after none is told =
        subst (Answers version verifier now xid asked old new) (sym (told ∙ is ∙ ap (λ (w : List ℕ). w ++ sent xid (Ok (refused_results awaited.procedure (refusal_error why)))) none)) (unsure_no_wait why)

    -- that reply is lost
    pub unsure_lost : {C T E : Type 0} (why : Refusal C) (r : Result T E) → OnErr r ((reply : List ℕ) × Answers version verifier now xid asked old new reply)
    unsure_lost why (Ok v) = tt
    unsure_lost why (Err x) = (sent xid (Ok (refused_results awaited.procedure (refusal_error why))), unsure_no_wait why)

-- What a step answers and leaves, as one event.
use Rattle.std.proofs.Common.{◌≡◌, ◌+◌, ℕ, false, List, [], map, IsTrue, refl, sym, ap, subst, ◌∙◌, Result, Ok, Err, OnOk, OnErr, IfOk, IfErr, IsErrAnd}
use mathlib.Core.List.{IsPrefix}
use Rattle.journal_world.specs.declared.refusal.Refusal.{Refusal}
use Rattle.journal_world.specs.declared.refusal.Refusal.TheVariants.{NoMemory, BadAddress, BadSize, TooLarge, Busy, DeviceFailed, BadLog, BadSuper, Stale, Stranger, Worn, Full, Closed, Fenced}
use Rattle.journal_wal.specs.declared.step.InstallStep.{InstallStep}
use Rattle.journal_parts.specs.declared.step.LogStep.{LogStep}
use Rattle.journal_world.specs.declared.address.Addr.{Addr}
use Rattle.journal_world.specs.Addresses.{Value, Shape}
use Rattle.journal_world.specs.Maps.{Agrees, value_at, is_object}
use Rattle.journal_world.specs.Histories.{Entry, is_trusted, is_fenced, commits_of, latest}
use Rattle.journal_block.specs.declared.update.Update.{Update}
use Rattle.journal_objlog.specs.ObjectLogs.{OnlyReads as OnlyReadsLog}
use Rattle.journal_history.specs.Tokens.{SessionState, CommitPlace}
use Rattle.journal_memory.specs.Causes.{CauseState}
use Rattle.journal_parts.specs.Durables.{DurableState, IsCallRefusal, is_faulted, Crashes as CrashesDurable}
use Rattle.journal_memory.specs.Fetches.{FetchedState, IsFetched}
use Rattle.journal_memory.specs.Outsets.{Outset, MayRead}
use Rattle.journal_memory.specs.Volatiles.{VolatileState, outset_of}
use Rattle.journal_parts.specs.CoreStates.{CoreState, Crashes, IsRunning, OnlyReads}
use Rattle.journal_parts.specs.CoreParts.{IsPair, core_of}
use Rattle.journal_memory.specs.Transactions.{TransactionState, ReadResultState}
use Rattle.journal_core.specs.Steps.{LogAnswers, IsLogRefusal, InstallAnswers, IsInstallRefusal, BeginsSession, IsSessionRefusal, IsReadRefusal, IsFetchRefusal}
use Rattle.journal_core.specs.Commits.{IsCommitted, CanCommit, IsCommitRefusal}
use Rattle.journal_core.specs.Interleavings.{AnswersCommit, AnswersLog, AnswersInstall, AnswersSession, AnswersRead, FindsValue, FetchesBlocks, RefusesFetch}
use Rattle.journal_objlog.proofs.Openings.{OnlyReads-refl}
use Rattle.journal_parts.proofs.Faults.{failed}
use Rattle.journal_core.proofs.Joining.{fails_as, crashes_pair, crashes_memory, same_outset}

module _ (old new : CoreState) (crash : Crashes old new) where
  pub answers_log : (r : Result LogStep (Refusal CauseState)) → IfOk r (λ step. LogAnswers old step new)
      → OnOk r (IsRunning old × IsRunning new) → IfErr r (IsLogRefusal old new) → AnswersLog old r new
  answers_log (Ok step) did running refusal = record { did = did; running = running; crash = crash }
  answers_log (Err why) did running refusal = record { refusal = refusal; crash = crash }

  pub answers_install : (r : Result InstallStep (Refusal CauseState)) → IfOk r (λ step. InstallAnswers old step new)
      → OnOk r (IsRunning old × IsRunning new) → IfErr r (IsInstallRefusal old new) → AnswersInstall old r new
  answers_install (Ok step) did running refusal = record { did = did; running = running; crash = crash }
  answers_install (Err why) did running refusal = record { refusal = refusal; crash = crash }

  pub answers_commit : (session after : SessionState) (t : TransactionState) (r : Result CommitPlace (Refusal CauseState)) → OnOk r (CanCommit old session t)
      → OnOk r (IsCommitted t.reads t.writes session after old new) → OnOk r (IsTrue (is_trusted old.history) → Agrees (latest old.history) t.reads)
      → OnOk r (IsRunning new) → IfErr r (IsCommitRefusal old session t new) → OnErr r (new ≡ record old { objects = new.objects })
      → OnErr r (OnlyReads old.objects new.objects) → AnswersCommit old session t r new after
  answers_commit session after t (Ok place) can committed agrees running refusal same reads = record {
    can = can;
    committed = committed;
    agrees = agrees;
    running = running;
    crash = crash;
  }
  answers_commit session after t (Err why) can committed agrees running refusal same reads = record {
    refusal = refusal;
    reads = reads;
    others = same;
    crash = crash;
  }

  pub answers_session : (r : Result SessionState (Refusal CauseState)) → IfOk r (λ session. BeginsSession old session new)
      → IfErr r (IsSessionRefusal old) → OnErr r (new ≡ old) → AnswersSession old r new
  answers_session (Ok session) begins refusal same = record { begins = begins; crash = crash }
  answers_session (Err why) begins refusal same = record { refusal = refusal; same = same; crash = crash }

  -- the exit of a `?`
  pub refuses_read : (layout : Shape) (t : TransactionState) (a : Addr) (v : Value) (r : Result ReadResultState (Refusal CauseState)) (holds : Refusal CauseState → Type 0) → IsErrAnd r holds
      → IfErr r (IsReadRefusal layout old t a new) → OnlyReads old.objects new.objects → new ≡ record old { objects = new.objects }
      → AnswersRead layout old t a r v new
  refuses_read layout t a v (Ok found) holds is refusal reads others = absurd is
  refuses_read layout t a v (Err why) holds is refusal reads others = record {
    refusal = refusal;
    reads = reads;
    others = others;
    crash = crash;
  }

-- a further session of memory, as a step of the core
pub begins_session : {E : Type 0} (v w : VolatileState) (d : DurableState) (now : CoreState) (r : Result SessionState E) → core_of v d ≡ now
    → IfOk r (λ s. s ≡ record { number = v.ledger.next; mine = v.ledger.history; seen = v.ledger.history })
    → commits_of v.ledger.next v.ledger.history ≡ [] → is_fenced v.ledger.next v.ledger.history ≡ false
    → OnOk r (w ≡ record v { ledger = record v.ledger { next = v.ledger.next + 1 } }) → IfOk r (λ s. BeginsSession now s (core_of w d))
begins_session v w d now (Ok s) is made fresh free others = subst (λ (c : CoreState). BeginsSession c s (core_of w d)) is (record {
  is = made;
  fresh = fresh;
  unfenced = free;
  others = ap (λ (x : VolatileState). core_of x d) others;
})
begins_session v w d now (Err why) is made fresh free others = tt

-- a fetch, of a pair that goes on
module _ (layout : Shape) (v : VolatileState) (d : DurableState) (pair : IsPair layout v d) (running : IsRunning (core_of v d)) (e : DurableState)
    (reads : OnlyReadsLog d.objects e.objects) (others : e ≡ record d { objects = e.objects }) (crash : CrashesDurable d e) where
  pub fetches_blocks : (numbers : List ℕ) (f : FetchedState) → map (λ (u : Update). u.block) f.updates ≡ numbers → f.front ≡ d.front → f.commits ≡ d.logged
      → IsFetched layout f → is_faulted e ≡ false → IsPair layout v e → FetchesBlocks layout (core_of v d) numbers f (core_of v e)
  fetches_blocks numbers f named front commits kept fine now = record {
    named = named;
    begins = subst (λ (h : List Entry). IsPrefix h v.ledger.history) (sym front) pair.tied.begins;
    commits = commits;
    objects = kept;
    running = (running.0, fine);
    reads = record { wal = reads; tail = refl };
    others = ap (core_of v) others;
    crash = crashes_pair layout v v d e pair now crash;
  }

  fetch_fails : (why : Refusal CauseState) → IsCallRefusal d e why → IsFetchRefusal (core_of v d) (core_of (failed v) e) why
  fetch_fails (DeviceFailed cause) it = fails_as layout v d pair running e (Unit {0}) cause tt it
  fetch_fails NoMemory it = absurd it
  fetch_fails BadAddress it = absurd it
  fetch_fails BadSize it = absurd it
  fetch_fails TooLarge it = absurd it
  fetch_fails Busy it = absurd it
  fetch_fails BadLog it = absurd it
  fetch_fails BadSuper it = absurd it
  fetch_fails (Stale cause) it = absurd it
  fetch_fails (Stranger cause) it = absurd it
  fetch_fails (Worn cause) it = absurd it
  fetch_fails (Full cause) it = absurd it
  fetch_fails (Closed cause) it = absurd it
  fetch_fails Fenced it = absurd it

  pub fetch_refused : (why : Refusal CauseState) → IsCallRefusal d e why → IsPair layout (failed v) e → RefusesFetch (core_of v d) why (core_of (failed v) e)
  fetch_refused why it now = record {
    refusal = fetch_fails why it;
    reads = record { wal = reads; tail = refl };
    others = ap (core_of v) others;
    crash = crashes_pair layout v (failed v) d e pair now crash;
  }

-- a hold of memory alone, of a pair that is tied, with whatever was fetched before
module _ (layout : Shape) (v : VolatileState) (d : DurableState) (pair : IsPair layout v d) where
  pub finds_in_memory : (t : TransactionState) (a : Addr) (x : Value) → MayRead layout (outset_of v) t a
      → (IsTrue (is_trusted v.ledger.history) → x ≡ value_at (latest v.ledger.history) a) → IsTrue (is_object layout (a, x))
      → FindsValue layout (core_of v d) t a x (core_of v d)
  finds_in_memory t a x may value object = record {
    may = subst (λ (o : Outset). MayRead layout o t a) (same_outset layout v d pair) may;
    value = value;
    object = object;
    running = (may.running.0, sym pair.fault ∙ may.running.1);
    reads = record { wal = OnlyReads-refl d.objects; tail = refl };
    others = refl;
    crash = crashes_memory layout v v d pair pair;
  }

-- A call that is done, or refused.
use Rattle.std.proofs.Common.{◌≡◌, [], Option, None, sym, subst, refl, ◌∙◌}
use Rattle.std.proofs.lemmas.List.{append-nil}
use Rattle.journal_world.specs.declared.refusal.Refusal.{Refusal}
use Rattle.journal_world.specs.declared.refusal.Refusal.TheVariants as refusal
use Rattle.journal_history.specs.Tokens.{SessionState, OnlyExtends, CommitPlace}
use Rattle.journal_nfs3_wire.specs.declared.results.NfsError.{NfsError}
use Rattle.journal_nfs3_wire.specs.declared.results.NfsError.TheVariants.{ServerFault}
use Rattle.journal_tree.specs.declared.caller.Caller.{Caller}
use Rattle.journal_tree.specs.declared.time.Time.{Time}
use Rattle.journal_tree.specs.Op.{Call, Reply, is_refusal}
use Rattle.journal_treefs.specs.Calls.{IsCommittedCall}
use Rattle.journal_treewire.specs.Refusals.{refused_request}
use Rattle.journal_treewire.specs.Requests.{Requested}
use Rattle.journal_treewire.specs.Results.{Results}
use Rattle.journal_treeserver.specs.declared.awaited.Owed.{Owed}
use Rattle.journal_treeserver.specs.Forms.{how_of, form_of}
use Rattle.journal_treeserver.specs.Answers.{Served, awaiting, owed_by, told_results, journal_error, IsJournalError, wait_error, IsWaitError, Comes, done, undone}

pub journal_error_is : {C : Type 0} (why : Refusal C) → IsJournalError (journal_error why)
journal_error_is refusal.NoMemory = tt
journal_error_is refusal.BadAddress = tt
journal_error_is refusal.BadSize = tt
journal_error_is refusal.TooLarge = tt
journal_error_is refusal.Busy = tt
journal_error_is (refusal.DeviceFailed cause) = tt
journal_error_is refusal.BadLog = tt
journal_error_is refusal.BadSuper = tt
journal_error_is (refusal.Stale cause) = tt
journal_error_is (refusal.Stranger cause) = tt
journal_error_is (refusal.Worn cause) = tt
journal_error_is (refusal.Full cause) = tt
journal_error_is (refusal.Closed cause) = tt
journal_error_is refusal.Fenced = tt

-- the number that is told is one of these
pub told_error_is : {C : Type 0} (why : Refusal C) (told : NfsError) → told ≡ journal_error why → IsJournalError told
told_error_is why told is = subst IsJournalError (sym is) (journal_error_is why)

wait_error_is : {C : Type 0} (why : Refusal C) → IsWaitError (wait_error why)
wait_error_is refusal.NoMemory = tt
wait_error_is refusal.BadAddress = tt
wait_error_is refusal.BadSize = tt
wait_error_is refusal.TooLarge = tt
wait_error_is refusal.Busy = tt
wait_error_is (refusal.DeviceFailed cause) = tt
wait_error_is refusal.BadLog = tt
wait_error_is refusal.BadSuper = tt
wait_error_is (refusal.Stale cause) = tt
wait_error_is (refusal.Stranger cause) = tt
wait_error_is (refusal.Worn cause) = tt
wait_error_is (refusal.Full cause) = tt
wait_error_is (refusal.Closed cause) = tt
wait_error_is refusal.Fenced = tt

-- and that of a refused wait is one of those
pub told_wait_error_is : {C : Type 0} (why : Refusal C) (told : NfsError) → told ≡ wait_error why → IsWaitError told
told_wait_error_is why told is = subst IsWaitError (sym is) (wait_error_is why)

pub unchanged : (s : SessionState) → OnlyExtends s s
unchanged s = record { number = refl; mine = refl; seen = ([], append-nil s.seen) }

module _ (S : Served) (asked : Requested) (call : Call) (caller : Caller) (now : Time) (old new : SessionState) where
  pub performed : (r : Reply) (receipt : CommitPlace) (results : Results) (wait : Option (Owed CommitPlace)) → IsCommittedCall S.cut call caller now old new r receipt
      → wait ≡ owed_by (form_of asked) (is_refusal r) receipt → results ≡ told_results S.disk S.verifier (how_of asked) call r → Comes S (awaiting wait) asked call caller now old new results
  performed r receipt results wait made owed is = subst (Comes S (awaiting wait) asked call caller now old new) (sym is) (done r receipt made owed)

  pub was_refused : (why : NfsError) (results : Results) (wait : Option (Owed CommitPlace)) → IsJournalError why → OnlyExtends old new → wait ≡ None → results ≡ refused_request asked why
      → Comes S (awaiting wait) asked call caller now old new results
  was_refused why results wait journal extends none is = subst (Comes S (awaiting wait) asked call caller now old new) (sym is) (undone why journal extends none)

  -- nothing was drawn for it
  pub not_begun : (results told : Results) (wait : Option (Owed CommitPlace)) → new ≡ old → wait ≡ None → results ≡ told → told ≡ refused_request asked ServerFault → Comes S (awaiting wait) asked call caller now old new results
  not_begun results told wait same none is refused = was_refused ServerFault results wait tt (subst (OnlyExtends old) (sym same) (unchanged old)) none (is ∙ refused)

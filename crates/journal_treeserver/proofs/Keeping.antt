-- The results of a call that was done, which are kept.
use Rattle.std.proofs.Common.{◌≡◌, ℕ, ◌-◌, List, [], ◌++◌, length, take, drop, length-append, Bool, true, false, Option, Some, None, Result, Ok, Err, refl, sym, ap, subst, ◌∙◌, arith}
use Rattle.std.proofs.Math.Seq.{take-length, drop-append_seam}
use Rattle.std.specs.Prelude.{◌&&◌, IsOk, IsSome}
use Rattle.std.proofs.lemmas.List.{append-nil}
use Rattle.journal_world.specs.Histories.{Entry}
use Rattle.journal_history.specs.Tokens.{SessionState, CommitPlace}
use Rattle.journal_nfs3_wire.specs.Arguments as nine
use Rattle.journal_nfs3_wire.specs.declared.results.NfsError.{NfsError}
use Rattle.journal_nfs3_wire.specs.declared.results.NfsError.TheVariants as error
use Rattle.journal_tree.specs.declared.caller.Caller.{Caller}
use Rattle.journal_tree.specs.declared.reply.Handle.{Handle}
use Rattle.journal_tree.specs.declared.time.Time.{Time}
use Rattle.journal_tree.specs.Op.{Call, Reply}
use Rattle.journal_treewire.specs.Calls.{Resolved, of_handle, of_handles, call_on}
use Rattle.journal_treewire.specs.Directories as links
use Rattle.journal_treewire.specs.Handles.{handle_in}
use Rattle.journal_treewire.specs.Refusals.{refused_request}
use Rattle.journal_treewire.specs.Requests.{Requested, Requested as requested, file, directory}
use Rattle.journal_treewire.specs.Results.{Results}
use Rattle.journal_treeserver.specs.declared.awaited.Owed.{Owed}
use Rattle.journal_treestore.specs.declared.place.Cut.{Cut}
use Rattle.journal_treeserver.specs.declared.client.ClientAddress.{ClientAddress}
use Rattle.journal_treeserver.specs.declared.server.Export.{Export}
use Rattle.journal_treeserver.specs.Again.{is_done_once}
use Rattle.journal_treeserver.specs.Answers.{Served, awaiting, told_results, IsJournalError, IsWaitError, Comes, done, undone, unsure, repeated, repeated_unsure, changes, asked_of, ComesUnless, ComesTo, told, outcome_text}
use Rattle.journal_treeserver.specs.CodeViews.{served_as}
use Rattle.journal_treeserver.specs.Forms.{how_of}
use Rattle.journal_treeserver.specs.Kept.{IsSent, IsSentOnce, IsDoneIn, IsKept, refusal_in, is_of_tree, are_of_done}

-- ---- a call that is to be done once is a call

never_null : (r : Result Handle NfsError) (f : Handle → Call) → of_handle r f ≡ Ok None → ⊥
never_null (Ok h) f e = cc e
never_null (Err why) f e = cc e

never_null_of_two : (r s : Result Handle NfsError) (f : Handle → Handle → Call) → of_handles r s f ≡ Ok None → ⊥
never_null_of_two (Ok h) s f e = never_null s (f h) e
never_null_of_two (Err why) s f e = cc e

module _ (disk : ℕ) where
  once_not_null : (asked : Requested) → is_done_once asked ≡ true → call_on disk asked ≡ Ok None → ⊥
  once_not_null (file nine.Null) once e = cc once
  once_not_null (file (nine.GetAttributes h)) once e = cc once
  once_not_null (file (nine.SetAttributes h a guard)) once e = cc once
  once_not_null (file (nine.Lookup x)) once e = cc once
  once_not_null (file (nine.Read h offset count)) once e = cc once
  once_not_null (file (nine.Write h offset count how bytes)) once e = cc once
  once_not_null (file (nine.Create x how)) once e = never_null (handle_in disk x.directory) _ e
  once_not_null (file (nine.Remove x)) once e = never_null (handle_in disk x.directory) _ e
  once_not_null (file (nine.Commit h offset count)) once e = cc once
  once_not_null (requested.query q) once e = cc once
  once_not_null (directory (links.ReadLink h)) once e = cc once
  once_not_null (directory (links.MakeDirectory x a)) once e = never_null (handle_in disk x.directory) _ e
  once_not_null (directory (links.MakeLink a)) once e = never_null (handle_in disk a.entry.directory) _ e
  once_not_null (directory (links.MakeNode x d)) once e = cc once
  once_not_null (directory (links.RemoveDirectory x)) once e = never_null (handle_in disk x.directory) _ e
  once_not_null (directory (links.Rename x y)) once e = never_null_of_two (handle_in disk x.directory) (handle_in disk y.directory) _ e
  once_not_null (directory (links.Link h x)) once e = cc once

  -- where its handles name something on the disk
  once_is_call : (asked : Requested) (to : Resolved) → is_done_once asked ≡ true → call_on disk asked ≡ to → IsOk to → (call : Call) × (call_on disk asked ≡ Ok (Some call))
  once_is_call asked (Ok (Some call)) once e ok = (call, e)
  once_is_call asked (Ok None) once e ok = absurd (once_not_null asked once e)
  once_is_call asked (Err why) once e ok = absurd (cc ok)

-- ---- what is not done is not kept

refusal_is : (asked : Requested) (why : NfsError) → is_done_once asked ≡ true → refusal_in (refused_request asked why) ≡ Some why
refusal_is (file nine.Null) why once = absurd (cc once)
refusal_is (file (nine.GetAttributes h)) why once = absurd (cc once)
refusal_is (file (nine.SetAttributes h a guard)) why once = absurd (cc once)
refusal_is (file (nine.Lookup x)) why once = absurd (cc once)
refusal_is (file (nine.Read h offset count)) why once = absurd (cc once)
refusal_is (file (nine.Write h offset count how bytes)) why once = absurd (cc once)
refusal_is (file (nine.Create x how)) why once = refl
refusal_is (file (nine.Remove x)) why once = refl
refusal_is (file (nine.Commit h offset count)) why once = absurd (cc once)
refusal_is (requested.query q) why once = absurd (cc once)
refusal_is (directory (links.ReadLink h)) why once = absurd (cc once)
refusal_is (directory (links.MakeDirectory x a)) why once = refl
refusal_is (directory (links.MakeLink a)) why once = refl
refusal_is (directory (links.MakeNode x d)) why once = absurd (cc once)
refusal_is (directory (links.RemoveDirectory x)) why once = refl
refusal_is (directory (links.Rename x y)) why once = refl
refusal_is (directory (links.Link h x)) why once = absurd (cc once)

of_no_tree : (why : NfsError) → IsJournalError why → is_of_tree (Some why) ≡ false
of_no_tree error.Jukebox h = refl
of_no_tree error.Io h = refl
of_no_tree error.ServerFault h = refl
of_no_tree error.NotOwner h = absurd h
of_no_tree error.NoEntry h = absurd h
of_no_tree error.NoAccess h = absurd h
of_no_tree error.Exists h = absurd h
of_no_tree error.NotDirectory h = absurd h
of_no_tree error.IsDirectory h = absurd h
of_no_tree error.Invalid h = absurd h
of_no_tree error.TooBig h = absurd h
of_no_tree error.NoSpace h = absurd h
of_no_tree error.ReadOnly h = absurd h
of_no_tree error.NameTooLong h = absurd h
of_no_tree error.NotEmpty h = absurd h
of_no_tree error.Stale h = absurd h
of_no_tree error.BadHandle h = absurd h
of_no_tree error.NotSync h = absurd h
of_no_tree error.NotSupported h = absurd h
of_no_tree error.TooSmall h = absurd h

of_a_journal : (why : NfsError) → IsWaitError why → IsJournalError why
of_a_journal error.Io h = tt
of_a_journal error.ServerFault h = tt
of_a_journal error.Jukebox h = absurd h
of_a_journal error.NotOwner h = absurd h
of_a_journal error.NoEntry h = absurd h
of_a_journal error.NoAccess h = absurd h
of_a_journal error.Exists h = absurd h
of_a_journal error.NotDirectory h = absurd h
of_a_journal error.IsDirectory h = absurd h
of_a_journal error.Invalid h = absurd h
of_a_journal error.TooBig h = absurd h
of_a_journal error.NoSpace h = absurd h
of_a_journal error.ReadOnly h = absurd h
of_a_journal error.NameTooLong h = absurd h
of_a_journal error.NotEmpty h = absurd h
of_a_journal error.Stale h = absurd h
of_a_journal error.BadHandle h = absurd h
of_a_journal error.NotSync h = absurd h
of_a_journal error.NotSupported h = absurd h
of_a_journal error.TooSmall h = absurd h

not_kept : (wait : Option (Owed CommitPlace)) (asked : Requested) (why : NfsError) → wait ≡ None → is_done_once asked ≡ true → IsJournalError why → are_of_done wait (refused_request asked why) ≡ true → ⊥
not_kept None asked why none once journal kept =
    let so : is_of_tree (refusal_in (refused_request asked why)) ≡ false = ap is_of_tree (refusal_is asked why once) ∙ of_no_tree why journal in
    cc (so, kept)
not_kept (Some owed) asked why none once journal kept = cc none

module _ (S : Served) (wait : Option (Owed CommitPlace)) (asked : Requested) (once : is_done_once asked ≡ true) where
  -- A call is done whose results are kept
  abbrev WasDone : Caller → Call → SessionState → Results → Type 0
  WasDone caller call new results = (reply : Reply) × IsDoneIn S caller call reply new.seen × (results ≡ told_results S.disk S.verifier (how_of asked) call reply)

  comes_done : (call : Call) (caller : Caller) (now : Time) (old new : SessionState) (results : Results) → Comes S (awaiting wait) asked call caller now old new results → are_of_done wait results ≡ true
      → WasDone caller call new results
  comes_done call caller now old new results (done reply receipt made so_far) kept =
      (reply, record { moment = now; before = old; after = new; receipt = receipt; committed = made; stands = ([], append-nil new.seen) }, refl)
  comes_done call caller now old new results (undone why journal extends none) kept = absurd (not_kept wait asked why none once journal kept)
  comes_done call caller now old new results (unsure why history form reply place is journal waits made) kept = absurd cc
  comes_done call caller now old new results (repeated client reply receipt has again was stable none) kept =
      (reply, record { moment = was.moment; before = was.before; after = was.after; receipt = receipt; committed = was.committed; stands = was.stands }, refl)
  comes_done call caller now old new results (repeated_unsure why client reply receipt is has again was none) kept = absurd (not_kept wait asked why none once (of_a_journal why is) kept)

  reached_done : (writable : S.read_only ≡ false) (call : Call) (caller : Caller) (now : Time) (old new : SessionState) (results : Results) → call_on S.disk asked ≡ Ok (Some call)
      → ComesTo S (awaiting wait) asked caller now (call_on S.disk asked) old new results → are_of_done wait results ≡ true → WasDone caller (asked_of S.read_only call) new results
  reached_done writable call caller now old new results is h kept =
      let reached : ComesTo S (awaiting wait) asked caller now (Ok (Some call)) old new results = subst (λ (to : Resolved). ComesTo S (awaiting wait) asked caller now to old new results) is h in
      let comes : Comes S (awaiting wait) asked (asked_of S.read_only call) caller now old new results =
      subst (λ (b : Bool). ComesUnless (b && changes call) S (awaiting wait) asked (asked_of S.read_only call) caller now old new results) writable reached in
      comes_done (asked_of S.read_only call) caller now old new results comes kept

-- what is to be kept of a client that has an address
pub once_of : (S : Served) (record_bytes : List ℕ) (xid : ℕ) (caller : Caller) (asked : Requested) (client : Option ClientAddress) → S.client ≡ client → IsSome client → IsSent S.squash record_bytes xid caller asked
    → is_done_once asked ≡ true → S.read_only ≡ false → IsSentOnce S record_bytes xid caller asked
once_of S record_bytes xid caller asked None is some sent once writable = absurd (cc some)
once_of S record_bytes xid caller asked (Some client) is some sent once writable =
    record { sent = sent.sent; reads = sent.reads; number = sent.number; asks_so = sent.asks_so; once = once; writable = writable; client = client; has_client = is }

-- the text of such results is kept
pub keeps : (S : Served) (wait : Option (Owed CommitPlace)) (record_bytes text : List ℕ) (xid : ℕ) (caller : Caller) (asked : Requested) (now : Time) (old new : SessionState) (results : Results)
    → IsSentOnce S record_bytes xid caller asked → ComesTo S (awaiting wait) asked caller now (call_on S.disk asked) old new results → are_of_done wait results ≡ true → IsOk (call_on S.disk asked)
    → text ≡ outcome_text S.disk xid (told results) → IsKept S record_bytes text new.seen
keeps S wait record_bytes text xid caller asked now old new results sent comes kept reached is_text =
    let call = once_is_call S.disk asked (call_on S.disk asked) sent.once refl reached in
    let was = reached_done S wait asked sent.once sent.writable call.0 caller now old new results call.1 comes kept in
    record {
      xid = xid;
      caller = caller;
      asked = asked;
      sent = sent;
      call = call.0;
      is_call = call.1;
      reply = was.0;
      done = was.1;
      is_text = is_text ∙ ap (λ (r : Results). outcome_text S.disk xid (told r)) was.2;
    }

-- what was written behind other bytes
pub written-behind : (old new shown text : List ℕ) (begun : ℕ) → shown ≡ new → begun ≡ length old → new ≡ old ++ text → take (length shown - begun) (drop begun shown) ≡ text
written-behind old new shown text begun shown_is begun_is new_is =
    (λ z. take (length ((shown_is ∙ new_is) z) - begun_is z) (drop (begun_is z) ((shown_is ∙ new_is) z)))
    ∙ ap (take (length (old ++ text) - length old)) (drop-append_seam old text)
    ∙ ap (λ n. take n text) (let l = length-append old text in let e : length (old ++ text) - length old ≡ length text = omega (arith, l) in e)
    ∙ take-length text

-- also as the call was sent
pub kept_as_sent : (cut own_cut : Cut) (export own_export : Export) (record_bytes text shown : List ℕ) (front seen : List Entry) → cut ≡ own_cut → export ≡ own_export → shown ≡ text → front ≡ seen
    → IsKept (served_as own_cut own_export) record_bytes text seen → IsKept (served_as cut export) record_bytes shown front
kept_as_sent cut own_cut export own_export record_bytes text shown front seen same_cut same_export same_text same_front kept =
    subst (λ (c : Cut). IsKept (served_as c export) record_bytes shown front) (sym same_cut)
    (subst (λ (e : Export). IsKept (served_as own_cut e) record_bytes shown front) (sym same_export)
    (subst (λ (t : List ℕ). IsKept (served_as own_cut own_export) record_bytes t front) (sym same_text)
    (subst (λ (h : List Entry). IsKept (served_as own_cut own_export) record_bytes text h) (sym same_front) kept)))

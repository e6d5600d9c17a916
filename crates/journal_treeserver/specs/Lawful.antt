-- A served tree is a protocol.
use Rattle.std.proofs.Common.{◌≡◌, ℕ, ◌≤◌, true, false, List, Option, Some, None, Ok, Err, refl, sym, ap, ◌∙◌, arith}
use Rattle.std.specs.Prelude.{Bool, ◌&&◌}
use mathlib.Core.List.{IsPrefix}
use Rattle.journal_world.specs.Histories.{Entry, floor}
use Rattle.journal_history.specs.Tokens.{SessionState, CommitPlace}
use Rattle.journal_inode.specs.declared.node.Time.{Time as Moment}
use Rattle.journal_xdr.specs.ItemLaws.{some_is}
use Rattle.journal_tree.specs.declared.caller.Caller.{Caller}
use Rattle.journal_tree.specs.declared.time.Time.{Time}
use Rattle.journal_tree.specs.Op.{Call, Reply, is_refusal}
use Rattle.journal_nfs3_wire.specs.Arguments as nine
use Rattle.journal_nfs3_wire.specs.declared.arguments.StableHow.TheVariants.{Unstable, DataSync, FileSync}
use Rattle.journal_nfs3_wire.specs.declared.results.NfsError.{NfsError}
use Rattle.journal_nfs3_wire.specs.declared.results.NfsError.TheVariants.{ServerFault}
use Rattle.journal_protocol.specs.Grows.{grows-same}
use Rattle.journal_protocol.specs.Protocols.{IsLawful, IsRefusable}
use Rattle.journal_treewire.specs.Calls.{Resolved, call_on}
use Rattle.journal_treewire.specs.Directories as links
use Rattle.journal_treewire.specs.Refusals.{refused_request}
use Rattle.journal_treewire.specs.Requests.{Requested, Requested as requested, file, directory}
use Rattle.journal_treewire.specs.Results.{Results}
use Rattle.journal_treewire.specs.Values.{time_in}
use Rattle.journal_treeserver.specs.declared.awaited.AwaitedCall.{AwaitedCall}
use Rattle.journal_treeserver.specs.declared.awaited.AwaitedForm.{AwaitedForm}
use Rattle.journal_treeserver.specs.declared.awaited.Owed.{Owed}
use Rattle.journal_treeserver.specs.Asking.{Wanted, files, mount, denied, refused, asks}
use Rattle.journal_treeserver.specs.Forms.{form_of, refused_form}
use Rattle.journal_treeserver.specs.Answers.{Served, Standing, marked, awaiting, owed_by, IsCovered, IsWaitError, Comes, done, undone, unsure, repeated, repeated_unsure, changes, asked_of, ComesUnless, ComesTo, Outcome, told, outcome_text, IsOutcome, Replies, service_of, StandsInFor}

-- ---- what takes the place of results that wait

form_is : (one form : AwaitedForm) (why : NfsError) → Some one ≡ Some form → refused_form form why ≡ refused_form one why
form_is one form why e = ap (λ (f : AwaitedForm). refused_form f why) (sym (some_is one form e))

pub refused_form_is : (asked : Requested) (form : AwaitedForm) (why : NfsError) → form_of asked ≡ Some form → refused_form form why ≡ refused_request asked why
refused_form_is (file nine.Null) form why e = absurd cc
refused_form_is (file (nine.GetAttributes h)) form why e = absurd cc
refused_form_is (file (nine.SetAttributes h a guard)) form why e = form_is _ form why e
refused_form_is (file (nine.Lookup x)) form why e = absurd cc
refused_form_is (file (nine.Read h offset count)) form why e = absurd cc
refused_form_is (file (nine.Write h offset count Unstable bytes)) form why e = absurd cc
refused_form_is (file (nine.Write h offset count DataSync bytes)) form why e = form_is _ form why e
refused_form_is (file (nine.Write h offset count FileSync bytes)) form why e = form_is _ form why e
refused_form_is (file (nine.Create x how)) form why e = form_is _ form why e
refused_form_is (file (nine.Remove x)) form why e = form_is _ form why e
refused_form_is (file (nine.Commit h offset count)) form why e = form_is _ form why e
refused_form_is (requested.query q) form why e = absurd cc
refused_form_is (directory (links.ReadLink h)) form why e = absurd cc
refused_form_is (directory (links.MakeDirectory x a)) form why e = form_is _ form why e
refused_form_is (directory (links.MakeLink a)) form why e = form_is _ form why e
refused_form_is (directory (links.MakeNode x d)) form why e = absurd cc
refused_form_is (directory (links.RemoveDirectory x)) form why e = form_is _ form why e
refused_form_is (directory (links.Rename x y)) form why e = form_is _ form why e
refused_form_is (directory (links.Link h x)) form why e = absurd cc

module _ (S : Served) where
  -- ---- the session has seen all that it had seen

  comes_grow : (standing : Standing) (asked : Requested) (call : Call) (caller : Caller) (now : Time) (old new : SessionState) (r : Results) → Comes S standing asked call caller now old new r → IsPrefix old.seen new.seen
  comes_grow standing asked call caller now old new r (done reply receipt is so_far) = is.made.extends
  comes_grow standing asked call caller now old new r (undone why journal extends wait) = extends.seen
  comes_grow standing asked call caller now old new r (unsure why history form reply place is journal waits made) = made.extends
  comes_grow standing asked call caller now old new r (repeated client reply receipt has once was stable none) = was.extends.seen
  comes_grow standing asked call caller now old new r (repeated_unsure why client reply receipt is has once was none) = was.extends.seen

  unless_grow : (forbidden : Bool) (standing : Standing) (asked : Requested) (call : Call) (caller : Caller) (now : Time) (old new : SessionState) (r : Results) → ComesUnless forbidden S standing asked call caller now old new r → IsPrefix old.seen new.seen
  unless_grow true standing asked call caller now old new r h = grows-same old new h.1
  unless_grow false standing asked call caller now old new r h = comes_grow standing asked call caller now old new r h

  reached_grow : (standing : Standing) (asked : Requested) (caller : Caller) (now : Time) (to : Resolved) (old new : SessionState) (r : Results) → ComesTo S standing asked caller now to old new r → IsPrefix old.seen new.seen
  reached_grow standing asked caller now (Ok None) old new r h = grows-same old new h.1
  reached_grow standing asked caller now (Ok (Some call)) old new r h = unless_grow (S.read_only && changes call) standing asked (asked_of S.read_only call) caller now old new r h
  reached_grow standing asked caller now (Err why) old new r h = grows-same old new h.1

  outcome_grows : (standing : Standing) (now : Moment) (wanted : Wanted) (old new : SessionState) (outcome : Outcome) → IsOutcome S standing now wanted old new outcome → IsPrefix old.seen new.seen
  outcome_grows standing now (files caller asked) old new outcome h = reached_grow standing asked caller (time_in now) (call_on S.disk asked) old new h.0 h.2
  outcome_grows standing now (mount m) old new outcome h = grows-same old new h.1
  outcome_grows standing now denied old new outcome h = grows-same old new h.1
  outcome_grows standing now (refused why) old new outcome h = grows-same old new h.1

  -- ---- a reply stays the call's under greater marks

  still_covered : (history longer : List Entry) (form : Option AwaitedForm) (reply : Reply) (receipt : CommitPlace) → floor history ≤ floor longer → IsCovered form reply receipt history → IsCovered form reply receipt longer
  still_covered history longer None reply receipt more covered = tt
  still_covered history longer (Some form) reply receipt more covered = λ ok. let here = covered ok in omega (arith, here, more)

  comes_stay : (history longer : List Entry) (asked : Requested) (call : Call) (caller : Caller) (now : Time) (old new : SessionState) (r : Results) → floor history ≤ floor longer
      → Comes S (marked history) asked call caller now old new r → Comes S (marked longer) asked call caller now old new r
  comes_stay history longer asked call caller now old new r more (done reply receipt is so_far) = done reply receipt is (still_covered history longer (form_of asked) reply receipt more so_far)
  comes_stay history longer asked call caller now old new r more (undone why journal extends wait) = undone why journal extends tt
  comes_stay history longer asked call caller now old new r more (unsure why at form reply place is journal waits made) = unsure why longer form reply place refl journal waits made
  comes_stay history longer asked call caller now old new r more (repeated client reply receipt has once was stable none) = repeated client reply receipt has once was stable tt
  comes_stay history longer asked call caller now old new r more (repeated_unsure why client reply receipt is has once was none) = repeated_unsure why client reply receipt is has once was tt

  unless_stays : (forbidden : Bool) (history longer : List Entry) (asked : Requested) (call : Call) (caller : Caller) (now : Time) (old new : SessionState) (r : Results) → floor history ≤ floor longer
      → ComesUnless forbidden S (marked history) asked call caller now old new r → ComesUnless forbidden S (marked longer) asked call caller now old new r
  unless_stays true history longer asked call caller now old new r more h = h
  unless_stays false history longer asked call caller now old new r more h = comes_stay history longer asked call caller now old new r more h

  reached_stays : (history longer : List Entry) (asked : Requested) (caller : Caller) (now : Time) (to : Resolved) (old new : SessionState) (r : Results) → floor history ≤ floor longer
      → ComesTo S (marked history) asked caller now to old new r → ComesTo S (marked longer) asked caller now to old new r
  reached_stays history longer asked caller now (Ok None) old new r more h = h
  reached_stays history longer asked caller now (Ok (Some call)) old new r more h = unless_stays (S.read_only && changes call) history longer asked (asked_of S.read_only call) caller now old new r more h
  reached_stays history longer asked caller now (Err why) old new r more h = h

  outcome_stays : (history longer : List Entry) (now : Moment) (wanted : Wanted) (old new : SessionState) (outcome : Outcome) → floor history ≤ floor longer
      → IsOutcome S (marked history) now wanted old new outcome → IsOutcome S (marked longer) now wanted old new outcome
  outcome_stays history longer now (files caller asked) old new outcome more h = (h.0, h.1, reached_stays history longer asked caller (time_in now) (call_on S.disk asked) old new h.0 more h.2)
  outcome_stays history longer now (mount m) old new outcome more h = h
  outcome_stays history longer now denied old new outcome more h = h
  outcome_stays history longer now (refused why) old new outcome more h = h

  pub tree_lawful : IsLawful (service_of S)
  tree_lawful = record {
    grows = λ history now call old new text a. outcome_grows (marked history) now (asks S.squash call) old new a.outcome a.comes;
    stays = λ now call old new history longer text a more. record { outcome = a.outcome; comes = outcome_stays history longer now (asks S.squash call) old new a.outcome more a.comes; is_sent = a.is_sent };
    done = λ history now call old new text a. a;
  }

  -- ---- what takes the place of a reply that waits

  -- what is waited for has the form of its request
  owed_form : (form : Option AwaitedForm) (refuses : Bool) (receipt : CommitPlace) (owed : Owed CommitPlace) → Some owed ≡ owed_by form refuses receipt → form ≡ Some owed.form
  owed_form None refuses receipt owed e = absurd cc
  owed_form (Some form) true receipt owed e = absurd cc
  owed_form (Some form) false receipt owed e = ap (λ (o : Owed CommitPlace). Some o.form) (sym (some_is owed (record { form = form; receipt = receipt }) e))

  comes_unsure : (why : NfsError) (is : IsWaitError why) (history : List Entry) (owed : Owed CommitPlace) (asked : Requested) (call : Call) (caller : Caller) (now : Time) (old new : SessionState) (r : Results)
      → Comes S (awaiting (Some owed)) asked call caller now old new r → (form_of asked ≡ Some owed.form) × Comes S (marked history) asked call caller now old new (refused_request asked why)
  comes_unsure why is history owed asked call caller now old new r (done reply receipt made so_far) =
      let waits : form_of asked ≡ Some owed.form = owed_form (form_of asked) (is_refusal reply) receipt owed so_far in
      (waits, unsure why history owed.form reply receipt.place refl is waits made.made)
  comes_unsure why is history owed asked call caller now old new r (undone e journal extends wait) = absurd cc
  comes_unsure why is history owed asked call caller now old new r (unsure f at form reply place e journal waits made) = absurd cc
  comes_unsure why is history owed asked call caller now old new r (repeated client reply receipt has once was stable none) = absurd cc
  comes_unsure why is history owed asked call caller now old new r (repeated_unsure f client reply receipt e has once was none) = absurd cc

  unless_unsure : (forbidden : Bool) (why : NfsError) (is : IsWaitError why) (history : List Entry) (owed : Owed CommitPlace) (asked : Requested) (call : Call) (caller : Caller) (now : Time) (old new : SessionState) (r : Results)
      → ComesUnless forbidden S (awaiting (Some owed)) asked call caller now old new r → (form_of asked ≡ Some owed.form) × ComesUnless forbidden S (marked history) asked call caller now old new (refused_request asked why)
  unless_unsure true why is history owed asked call caller now old new r h = let none = h.2 in absurd cc
  unless_unsure false why is history owed asked call caller now old new r h = comes_unsure why is history owed asked call caller now old new r h

  reached_unsure : (why : NfsError) (is : IsWaitError why) (history : List Entry) (owed : Owed CommitPlace) (asked : Requested) (caller : Caller) (now : Time) (to : Resolved) (old new : SessionState) (r : Results)
      → ComesTo S (awaiting (Some owed)) asked caller now to old new r → (form_of asked ≡ Some owed.form) × ComesTo S (marked history) asked caller now to old new (refused_request asked why)
  reached_unsure why is history owed asked caller now (Ok None) old new r h = let none = h.2 in absurd cc
  reached_unsure why is history owed asked caller now (Ok (Some call)) old new r h = unless_unsure (S.read_only && changes call) why is history owed asked (asked_of S.read_only call) caller now old new r h
  reached_unsure why is history owed asked caller now (Err e) old new r h = let none = h.2 in absurd cc

  outcome_unsure : (why : NfsError) (is : IsWaitError why) (history : List Entry) (owed : Owed CommitPlace) (now : Moment) (wanted : Wanted) (old new : SessionState) (outcome : Outcome)
      → IsOutcome S (awaiting (Some owed)) now wanted old new outcome → IsOutcome S (marked history) now wanted old new (told (refused_form owed.form why))
  outcome_unsure why is history owed now (files caller asked) old new outcome h =
      let u = reached_unsure why is history owed asked caller (time_in now) (call_on S.disk asked) old new h.0 h.2 in
      (refused_request asked why, ap told (refused_form_is asked owed.form why u.0), u.1)
  outcome_unsure why is history owed now (mount m) old new outcome h = let none = h.2 in absurd cc
  outcome_unsure why is history owed now denied old new outcome h = let none = h.2 in absurd cc
  outcome_unsure why is history owed now (refused e) old new outcome h = let none = h.2 in absurd cc

  -- a reply with the refusal
  pub replies_unsure : (why : NfsError) (is : IsWaitError why) (history : List Entry) (owed : Owed CommitPlace) (now : Moment) (xid : ℕ) (wanted : Wanted) (old new : SessionState) (soon text : List ℕ)
      → text ≡ outcome_text S.disk xid (told (refused_form owed.form why)) → Replies S (awaiting (Some owed)) now xid wanted old new soon → Replies S (marked history) now xid wanted old new text
  replies_unsure why is history owed now xid wanted old new soon text sent h =
      record { outcome = told (refused_form owed.form why); comes = outcome_unsure why is history owed now wanted old new h.outcome h.comes; is_sent = sent }

  pub stands_in : (a : AwaitedCall) (why : NfsError) (text : List ℕ) → IsWaitError why → text ≡ outcome_text S.disk a.xid (told (refused_form a.form why)) → StandsInFor S a text
  stands_in a why text is sent = λ now call old new receipt soon history same h.
      replies_unsure why is history (record { form = a.form; receipt = receipt }) now call.xid (asks S.squash call) old new soon text
      (sent ∙ ap (λ (xid : ℕ). outcome_text S.disk xid (told (refused_form a.form why))) (sym same)) h

  pub tree_refusable : IsRefusable (StandsInFor S)
  tree_refusable = λ a. (outcome_text S.disk a.xid (told (refused_form a.form ServerFault)), stands_in a ServerFault _ tt refl)

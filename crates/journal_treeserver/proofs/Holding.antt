-- A reply that is held, and one that is lost.
use Rattle.std.proofs.Common.{◌++◌, ◌≡◌, ◌≤◌, ℕ, true, false, List, Option, Some, None, Result, Ok, Err, refl, sym, ap, subst, ◌∙◌}
use Rattle.std.specs.Prelude.{Bool, ◌&&◌, IfSome, OnErr}
use Rattle.std.proofs.lemmas.Bool.{false≢true}
use Rattle.journal_world.specs.Histories.{Entry, floor}
use Rattle.journal_history.specs.Tokens.{SessionState, CommitPlace}
use Rattle.journal_inode.specs.declared.node.Time.{Time as Moment}
use Rattle.journal_rpc.specs.Calls.{Message}
use Rattle.journal_tree.specs.declared.caller.Caller.{Caller}
use Rattle.journal_tree.specs.declared.time.Time.{Time}
use Rattle.journal_tree.specs.Op.{Call, Reply, is_refusal}
use Rattle.journal_nfs3_wire.specs.declared.results.NfsError.TheVariants.{ServerFault}
use Rattle.journal_protocol.specs.declared.held_reply.HeldReply.{HeldReply}
use Rattle.journal_protocol.specs.declared.held_reply.HeldWait.{HeldWait}
use Rattle.journal_protocol.specs.Protocols.{IsPaid, IsHeldReply}
use Rattle.journal_treewire.specs.Calls.{Resolved, call_on}
use Rattle.journal_treewire.specs.Requests.{Requested}
use Rattle.journal_treewire.specs.Results.{Results}
use Rattle.journal_treewire.specs.Values.{time_in}
use Rattle.journal_treeserver.specs.declared.awaited.AwaitedCall.{AwaitedCall}
use Rattle.journal_treeserver.specs.declared.awaited.AwaitedForm.{AwaitedForm}
use Rattle.journal_treeserver.specs.declared.awaited.Owed.{Owed}
use Rattle.journal_treeserver.specs.Asking.{Wanted, files, mount, denied, refused, asks}
use Rattle.journal_treeserver.specs.Forms.{form_of, refused_form}
use Rattle.journal_treeserver.specs.Answers.{Served, marked, awaiting, owed_by, IsCovered, Comes, done, undone, unsure, repeated, repeated_unsure, changes, asked_of, ComesUnless, ComesTo, Outcome, told, outcome_text, IsOutcome, Replies, answers, service_of, StandsInFor}
use Rattle.journal_treeserver.specs.CodeViews.{held_wait, IsHeld}
use Rattle.journal_treeserver.specs.Lawful.{replies_unsure}

-- how many commits are to be stable
abbrev pub commits_of : CommitPlace → ℕ
commits_of receipt = receipt.count

-- what is waited for is stable in this history
abbrev pub IsOver : Option (Owed CommitPlace) → List Entry → Type 0
IsOver None history = Unit {0}
IsOver (Some owed) history = owed.receipt.count ≤ floor history

module _ (S : Served) (history : List Entry) (wait : Option (Owed CommitPlace)) (over : IsOver wait history) where
  covered : (form : Option AwaitedForm) (r : Reply) (receipt : CommitPlace) → wait ≡ owed_by form (is_refusal r) receipt → IsCovered form r receipt history
  covered None r receipt is = tt
  covered (Some form) r receipt is = λ accepted. subst (λ (w : Option (Owed CommitPlace)). IsOver w history) (is ∙ ap (λ (refuses : Bool). owed_by (Some form) refuses receipt) accepted) over

  comes_over : (asked : Requested) (call : Call) (caller : Caller) (now : Time) (old new : SessionState) (r : Results) → Comes S (awaiting wait) asked call caller now old new r → Comes S (marked history) asked call caller now old new r
  comes_over asked call caller now old new r (done reply receipt made so_far) = done reply receipt made (covered (form_of asked) reply receipt so_far)
  comes_over asked call caller now old new r (undone why journal extends none) = undone why journal extends tt
  comes_over asked call caller now old new r (unsure why at form reply place e journal waits made) = absurd cc
  comes_over asked call caller now old new r (repeated client reply receipt has once was stable none) = repeated client reply receipt has once was stable tt
  comes_over asked call caller now old new r (repeated_unsure why client reply receipt is has once was none) = repeated_unsure why client reply receipt is has once was tt

  unless_over : (forbidden : Bool) (asked : Requested) (call : Call) (caller : Caller) (now : Time) (old new : SessionState) (r : Results)
      → ComesUnless forbidden S (awaiting wait) asked call caller now old new r → ComesUnless forbidden S (marked history) asked call caller now old new r
  unless_over true asked call caller now old new r h = (h.0, h.1, tt)
  unless_over false asked call caller now old new r h = comes_over asked call caller now old new r h

  reached_over : (asked : Requested) (caller : Caller) (now : Time) (to : Resolved) (old new : SessionState) (r : Results) → ComesTo S (awaiting wait) asked caller now to old new r → ComesTo S (marked history) asked caller now to old new r
  reached_over asked caller now (Ok None) old new r h = (h.0, h.1, tt)
  reached_over asked caller now (Ok (Some call)) old new r h = unless_over (S.read_only && changes call) asked (asked_of S.read_only call) caller now old new r h
  reached_over asked caller now (Err why) old new r h = (h.0, h.1, tt)

  outcome_over : (now : Moment) (wanted : Wanted) (old new : SessionState) (outcome : Outcome) → IsOutcome S (awaiting wait) now wanted old new outcome → IsOutcome S (marked history) now wanted old new outcome
  outcome_over now (files caller asked) old new outcome h = (h.0, h.1, reached_over asked caller (time_in now) (call_on S.disk asked) old new h.0 h.2)
  outcome_over now (mount m) old new outcome h = (h.0, h.1, tt)
  outcome_over now denied old new outcome h = (h.0, h.1, tt)
  outcome_over now (refused why) old new outcome h = (h.0, h.1, tt)

  -- a reply whose wait is over is the call's
  pub replies_over : (now : Moment) (xid : ℕ) (wanted : Wanted) (old new : SessionState) (text : List ℕ) → Replies S (awaiting wait) now xid wanted old new text → Replies S (marked history) now xid wanted old new text
  replies_over now xid wanted old new text h = record { outcome = h.outcome; comes = outcome_over now wanted old new h.outcome h.comes; is_sent = h.is_sent }

module _ (S : Served) where
  -- a reply of some text belongs to a call whose reply was lost
  pub loses : (wait : Option (Owed CommitPlace)) (now : Moment) (xid : ℕ) (wanted : Wanted) (old new : SessionState) (outcome : Outcome) → IsOutcome S (awaiting wait) now wanted old new outcome
      → (history : List Entry) → (reply : List ℕ) × Replies S (marked history) now xid wanted old new reply
  loses None now xid wanted old new outcome comes history =
      (outcome_text S.disk xid outcome, replies_over S history None tt now xid wanted old new _ (record { outcome = outcome; comes = comes; is_sent = refl }))
  loses (Some owed) now xid wanted old new outcome comes history =
      let text = outcome_text S.disk xid (told (refused_form owed.form ServerFault)) in
      (text, replies_unsure S ServerFault tt history owed now xid wanted old new (outcome_text S.disk xid outcome) text refl (record { outcome = outcome; comes = comes; is_sent = refl }))

  module _ (now : Moment) (call : Message) (old new : SessionState) (soon : HeldReply AwaitedCall CommitPlace) where
    abbrev IsPlaced : Option (HeldWait AwaitedCall CommitPlace) → Type 0
    IsPlaced wait = IfSome wait (λ w. (history : List Entry) (text : List ℕ) → StandsInFor S w.call text → answers S history now call old new text)

    is_over : (history : List Entry) (wait : Option (Owed CommitPlace)) → IsPaid commits_of (floor history) (held_wait call.xid wait) → IsOver wait history
    is_over history None paid = tt
    is_over history (Some owed) paid = paid

    placed : (wait : Option (Owed CommitPlace)) (reply : List ℕ) → Replies S (awaiting wait) now call.xid (asks S.squash call) old new reply → IsPlaced (held_wait call.xid wait)
    placed None reply replies = tt
    placed (Some owed) reply replies = λ history text stands. stands now call old new owed.receipt reply history refl replies

    pub is_held : (wrote writes : List ℕ) (h : IsHeld S now call.xid (asks S.squash call) old new wrote writes soon) → IsHeldReply (service_of S) (StandsInFor S) commits_of now call old new soon h.text
    is_held wrote writes h = record {
      paid = λ history paid.
          replies_over S history h.wait (is_over history h.wait (subst (IsPaid commits_of (floor history)) h.held paid)) now call.xid (asks S.squash call) old new h.text h.replies;
      replaced = subst IsPlaced (sym h.held) (placed h.wait h.text h.replies);
      ends = λ over. absurd (false≢true (sym h.goes_on ∙ over));
    }

-- a fact of an outcome that is refused
pub on_err : {T E : Type 0} {P : Type 0} (r : Result T E) → P → OnErr r P
on_err (Ok v) p = tt
on_err (Err e) p = p

module _ (S : Served) (now : Moment) (xid : ℕ) (old : SessionState) where
  -- a reply that is made without a call is held without a wait
  pub held_at_once : (wanted is_wanted : Wanted) (outcome : Outcome) (wrote writes : List ℕ) (soon : HeldReply AwaitedCall CommitPlace) → is_wanted ≡ wanted → IsOutcome S (awaiting None) now wanted old old outcome
      → writes ≡ wrote ++ outcome_text S.disk xid outcome → soon ≡ record { wait = None; ends = false } → IsHeld S now xid is_wanted old old wrote writes soon
  held_at_once wanted is_wanted outcome wrote writes soon is comes written none = subst (λ (w : Wanted). IsHeld S now xid w old old wrote writes soon) (sym is)
      (record {
        wait = None;
        text = outcome_text S.disk xid outcome;
        written = written;
        replies = record { outcome = outcome; comes = comes; is_sent = refl };
        held = ap (λ (s : HeldReply AwaitedCall CommitPlace). s.wait) none;
        goes_on = ap (λ (s : HeldReply AwaitedCall CommitPlace). s.ends) none;
      })

  -- and where it is lost, its call is answered all the same
  pub lost_at_once : (wanted is_wanted : Wanted) (outcome : Outcome) → is_wanted ≡ wanted → IsOutcome S (awaiting None) now wanted old old outcome
      → (history : List Entry) → (reply : List ℕ) × Replies S (marked history) now xid is_wanted old old reply
  lost_at_once wanted is_wanted outcome is comes = subst (λ (w : Wanted). (history : List Entry) → (reply : List ℕ) × Replies S (marked history) now xid w old old reply) (sym is) (loses S None now xid wanted old old outcome comes)

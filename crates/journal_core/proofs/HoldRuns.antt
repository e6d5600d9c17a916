-- Whole runs of holds tell how the history came to be, and keep it legal and the parts tied.
use Rattle.std.proofs.Common.{◌≡◌, ◌≢◌, ◌⊎◌, ⊎_elim, ◌<◌, ◌≤◌, ◌+◌, ℕ, ◌==◌, Bool, true, false, cond, IsTrue, List, [], ◌∷◌, ◌++◌, length, All, length-append, Option, Some, None, Result, Ok, Err, refl, sym, ap, subst, ◌∙◌, arith}
use Rattle.std.proofs.lemmas.Bool.{ne_eqb, eq-eqb, eqb-true, eqb-false}
use Rattle.std.proofs.lemmas.Option.{same_Some, none-some}
use Rattle.std.proofs.lemmas.List.{append-nil}
use Rattle.std.proofs.lemmas.List.Elements.{All-cons, All-weaker}
use Rattle.std.proofs.Math.Nat.{le-max_left}
use Rattle.std.specs.List.{filter}
use mathlib.Core.List.{IsPrefix}
use Rattle.journal_world.specs.declared.address.Addr.{Addr}
use Rattle.journal_world.specs.declared.refusal.Refusal.{Refusal}
use Rattle.journal_world.specs.declared.refusal.Refusal.TheVariants.{Full}
use Rattle.journal_world.specs.Addresses.{Value, slot_of, Shape}
use Rattle.journal_world.specs.Maps.{Map, Pair, Transaction, SameMap, value_at}
use Rattle.journal_world.specs.Histories.{Entry, opened, is_trusted, latest, count, floor, commits_of, at, Follows, IsTrueTo, IsLegal}
use Rattle.journal_world.specs.Histories.Entry.{opening, commit, stable, fence}
use Rattle.journal_world.proofs.Prefixes.{IsPrefix-refl, IsPrefix-length, IsPrefix-trans}
use Rattle.journal_world.proofs.Marks.{commits-mark}
use Rattle.journal_world.proofs.Fences.{commits-fence}
use Rattle.journal_world.proofs.SessionCommits.{commits_of-append}
use Rattle.journal_world.proofs.SameMaps.{SameMap-refl}
use Rattle.journal_world.proofs.LongerHistories.{opened-append, Each-nil, Each-snoc, commits_of-commit}
use Rattle.journal_world.proofs.MapsOfHistories.{is_trusted-append}
use Rattle.journal_block.specs.Block.{Bytes}
use Rattle.journal_disk.specs.Disks.{DiskState, Past}
use Rattle.journal_disk.specs.Images.{IsImage, EveryImage}
use Rattle.journal_objlog.specs.Maps.{OpensAs}
use Rattle.journal_tail.proofs.MapsOfBlocks.{same_objects}
use Rattle.journal_history.specs.Tokens.{SessionState, OnlyExtends, made, next_transaction, Commits, CommitPlace}
use Rattle.journal_wal.specs.declared.step.GroupStep.{GroupStep}
use Rattle.journal_wal.specs.declared.step.InstallStep.{InstallStep}
use Rattle.journal_parts.specs.declared.step.LogStep.{LogStep}
use Rattle.journal_parts.specs.declared.step.LogStep.TheVariants.{Idle, Cut, Put, Logged, Marked}
use Rattle.journal_memory.specs.Causes.{CauseState}
use Rattle.journal_memory.specs.Ledgers.{LedgerState}
use Rattle.journal_parts.specs.Cores.{Leaves}
use Rattle.journal_memory.specs.Fences.{AddsFence, HasFence}
use Rattle.journal_parts.specs.Durables.{DurableState, disk_of, Leaves as LeavesDurable}
use Rattle.journal_memory.specs.Fetches.{FetchedState, IsFetched, IsBlockAfter}
use Rattle.journal_memory.specs.declared.bit_scan.BitScan.{BitScan}
use Rattle.journal_memory.specs.Bits.{found_bits}
use Rattle.journal_memory.specs.Volatiles.{VolatileState, IsVolatile}
use Rattle.journal_memory.specs.Transactions.{TransactionState, ReadResultState, begun}
use Rattle.journal_parts.specs.Pairs.{IsMarkDue, MarksBoth, MarksAll, DoesWhatIsDue}
use Rattle.journal_parts.specs.Holds.{IsBetween, FetchesBlocks, AnswersFetch, AnswersGroupCall, AnswersHomeCall, MarksOrCuts, AnswersMarkOrCut, Trims, NotesFault}
use Rattle.journal_memory.specs.VolatileHolds.{FindsInMemory, LacksBlock, RefusesRead, AnswersRead, AnswersScan, CommitsInMemory, LacksBlocks, RefusesCommit, KeepsCopies, AnswersSession, FencesSession, AnswersFence, Stops, AnswersWait, AnswersFlush, AnswersShow}
use Rattle.journal_core.specs.Outcomes.{Answer, Tells, TellsAll, HoldsImage, is_actor}
use Rattle.journal_core.specs.Outcomes.Answer.{nothing, value, scanned, committed, marked, fenced, waited, imaged, crashed, reopened}
use Rattle.journal_core.specs.TwoLocks.{Event, Parts, history_of, Mount, Machine, mounted, holds, with_parts, with_volatile, with_durable, with_session, with_transaction, with_begun, with_slot, without_slot, with_fetched, ended, joined, keeping, layout_of, BeginsApart, Ignores, BeginsTransaction, SeesMore, TakesSlot, GivesBackSlot, ReadsUnderSlot, ScansBits, OverwritesUnderSlot, Finishes, MakesFence, MarksOrCutsBoth, WaitsFor, Flushes, ShowsHistory, TakesImage, HappensUp, HappensDown, Happens, Run, RunUp, HasHistory, HasOwnCommits, StandsOnce, HasSeenMore, Grows, IsUndisturbed, StaysFetched}
use Rattle.journal_core.specs.TwoLocks.Event.{begins, takes, gives_back, reads, scans, overwrites, aborts, copies, joins, sees, fences, stops, waits, flushes, shows, fetches, logs, installs, marks_or_cuts, trims, notes, images, crashes, opens}
use Rattle.journal_core.specs.TwoLocks.Event.{commits as finishes}
use Rattle.journal_core.specs.TwoLocks.Machine.{up, down}
use Rattle.journal_core.proofs.Holding.{IsSound, begun_sound, sound_held, keeps_taken, keeps_given, keeps_without, sound_without, sound_marked, sound_fenced, sound_committed, sound_read, sound_overwritten, is_holder}
use Rattle.journal_memory.proofs.Scanning.{bits_found}
use Rattle.journal_memory.proofs.Fronts.{at-layout, at-longer, count-longer, trusted-longer}
use Rattle.journal_parts.proofs.Pairing.{begins_not, leaves_history, made_in}
use Rattle.journal_parts.proofs.Between.{between_fetch, between_group, between_home, between_mark_or_cut, between_trimmed, between_noted, between_commit, between_roomed, between_copied, between_counted, between_fenced, fetch_honest, group_honest, home_honest, mark_or_cut_honest}

-- What holds of two parts whose locks are free
pub record IsRunning (rule : Map → Type 0) (p : Parts) : Type 0 where
  pub between : IsBetween (opened (history_of p)).layout p.volatile p.durable
  pub honest : IsTrue (disk_of p.durable).honest
  pub trusted : IsTrue (is_trusted (history_of p))
  pub legal : IsLegal rule (history_of p)

-- of any disk
rebased : (n : Shape) (v : VolatileState) (d : DurableState) → IsBetween n v d → IsBetween (opened v.ledger.history).layout v d
rebased n v d between = subst (λ (k : Shape). IsBetween k v d) (sym between.volatile.on_disk) between

-- What holds of blocks that were fetched, where this is the history
pub record WasFetched (history : List Entry) (f : FetchedState) : Type 0 where
  pub begins : IsPrefix f.front history
  pub objects : IsFetched (opened history).layout f

-- and of a longer history
fetched_longer : (history : List Entry) (e : Entry) (fs : List FetchedState) → history ≢ [] → All (WasFetched history) fs → All (WasFetched (history ++ e ∷ [])) fs
fetched_longer history e fs some all = All-weaker (WasFetched history) (WasFetched (history ++ e ∷ [])) one fs all
  where
    one : (f : FetchedState) → WasFetched history f → WasFetched (history ++ e ∷ []) f
    one f was = record {
      begins = IsPrefix-trans f.front history (history ++ e ∷ []) was.begins (e ∷ [], refl);
      objects = subst (λ (m : Map). IsFetched m.layout f) (sym (opened-append history (e ∷ []) some)) was.objects;
    }

-- What holds of the session of a number, where this is the history and the next session's number
pub record IsSessionOf (history : List Entry) (next number : ℕ) (s : SessionState) : Type 0 where
  pub is : s.number ≡ number
  pub own : commits_of number history ≡ commits_of number s.mine
  pub below : number < next

-- and later
session_later : (old new : List Entry) (n k number : ℕ) (s : SessionState) → commits_of number new ≡ commits_of number old → n ≤ k → IsSessionOf old n number s → IsSessionOf new k number s
session_later old new n k number s same le was = record { is = was.is; own = same ∙ was.own; below = omega (arith, le, was.below) }

-- a mark is no commit, nor is a fence, nor one of another session
of_marked : (history : List Entry) (n number : ℕ) → commits_of number (history ++ stable n ∷ []) ≡ commits_of number history
of_marked history n number = ap (filter (λ (u : Transaction). u.session == number)) (commits-mark history n)

of_fenced : (history : List Entry) (s number : ℕ) → commits_of number (history ++ fence s ∷ []) ≡ commits_of number history
of_fenced history s number = ap (filter (λ (u : Transaction). u.session == number)) (commits-fence history s)

of_other : (history : List Entry) (u : Transaction) (number : ℕ) → u.session ≢ number → commits_of number (history ++ commit u ∷ []) ≡ commits_of number history
of_other history u number differ =
    commits_of-append number history (commit u ∷ [])
    ∙ ap (λ (b : Bool). commits_of number history ++ cond b (u ∷ []) []) (ne_eqb u.session number differ)
    ∙ append-nil (commits_of number history)

-- and of every mount
pub record IsUp (rule : Map → Type 0) (m : Mount) : Type 0 where
  pub runs : IsRunning rule m.parts
  pub sessions : (number : ℕ) (s : SessionState) → m.sessions number ≡ Some s → IsSessionOf (history_of m.parts) m.parts.volatile.ledger.next number s
  pub began : (actor : ℕ) (t : TransactionState) → m.transactions actor ≡ Some t → IsPrefix (m.began actor) t.seen
  pub sound : (actor : ℕ) (t : TransactionState) → m.transactions actor ≡ Some t → IsSound (history_of m.parts) m.holders actor t
  pub fetched : (actor : ℕ) → All (WasFetched (history_of m.parts)) (m.fetched actor)

abbrev pub Holds : (Map → Type 0) → Machine → List Entry → Type 0
Holds rule (up m) history = (history_of m.parts ≡ history) × IsUp rule m
Holds rule (down layout image) history = (m : Map) × (m.layout ≡ layout) × OpensAs m image × (history ≡ opening m true ∷ [])

-- the answer tells what became of the history, and all holds on
pub record Goes (rule : Map → Type 0) (old : List Entry) (answer : Answer) (new : Machine) : Type 0 where
  pub history : List Entry
  pub tells : Tells rule old answer history
  pub holds : Holds rule new history

-- the mount goes on, unless it crashes
abbrev pub GrowsInto : Mount → Machine → Type 0
GrowsInto m (up n) = Grows m n
GrowsInto m (down layout image) = Unit {0}

-- The same of a mount, whose history and sessions only grow
pub record GoesUp (rule : Map → Type 0) (m : Mount) (answer : Answer) (new : Machine) : Type 0 where
  pub goes : Goes rule (history_of m.parts) answer new
  pub grows : GrowsInto m new

-- a session that is the same
same_session : (s : SessionState) (o : Option SessionState) → o ≡ Some s → HasSeenMore s o
same_session s o is = subst (HasSeenMore s) (sym is) (refl, IsPrefix-refl s.seen)

-- all sessions are
grows_to : (m n : Mount) → IsPrefix (history_of m.parts) (history_of n.parts) → ((number : ℕ) → n.sessions number ≡ m.sessions number) → Grows m n
grows_to m n longer same = record { history = longer; sessions = λ number s at. same_session s (n.sessions number) (same number ∙ at) }

unchanged : (m n : Mount) → history_of n.parts ≡ history_of m.parts → ((number : ℕ) → n.sessions number ≡ m.sessions number) → Grows m n
unchanged m n is same = grows_to m n (subst (IsPrefix (history_of m.parts)) (sym is) (IsPrefix-refl (history_of m.parts))) same

one_longer : (m n : Mount) (e : Entry) → history_of n.parts ≡ history_of m.parts ++ e ∷ [] → ((number : ℕ) → n.sessions number ≡ m.sessions number) → Grows m n
one_longer m n e added same = grows_to m n (e ∷ [], sym added) same

-- one has seen more
grows_by : (m n : Mount) (number : ℕ) (s after : SessionState) → IsPrefix (history_of m.parts) (history_of n.parts) → m.sessions number ≡ Some s
    → after.number ≡ s.number → IsPrefix s.seen after.seen → ((other : ℕ) → n.sessions other ≡ cond (other == number) (Some after) (m.sessions other)) → Grows m n
grows_by m n number s after longer at_number numbered more is =
    record { history = longer; sessions = λ other r at. subst (HasSeenMore r) (sym (is other)) (by_test other r (other == number) refl at) }
  where
    by_test : (other : ℕ) (r : SessionState) (b : Bool) → (other == number) ≡ b → m.sessions other ≡ Some r → HasSeenMore r (cond b (Some after) (m.sessions other))
    by_test other r true same at =
        let is_same : r ≡ s = same_Some r s (sym at ∙ ap m.sessions (eqb-true other number same) ∙ at_number) in
        subst (λ (x : SessionState). (after.number ≡ x.number) × IsPrefix x.seen after.seen) (sym is_same) (numbered, more)
    by_test other r false differ at = same_session r (m.sessions other) at

-- of an answer: its session may have seen more
stays_extended : (old new : SessionState) → new ≡ old → OnlyExtends old new
stays_extended old new is = subst (OnlyExtends old) (sym is) (record { number = refl; mine = refl; seen = IsPrefix-refl old.seen })

scan_extends : (n : Shape) (v : VolatileState) (session : SessionState) (s : BitScan) (f : FetchedState) (r : Result Bool (Refusal CauseState)) (copy : Bytes) (after : SessionState)
    → AnswersScan n v session s f r copy after → OnlyExtends session after
scan_extends n v session s f (Ok true) copy after it = it.extends
scan_extends n v session s f (Ok false) copy after it = stays_extended session after it.stays
scan_extends n v session s f (Err why) copy after it = stays_extended session after it.stays

wait_extends : (v : VolatileState) (session : SessionState) (n : ℕ) (r : Result Bool (Refusal CauseState)) (after : SessionState) → AnswersWait v session n r after → OnlyExtends session after
wait_extends v session n (Ok true) after it = it.1.extends
wait_extends v session n (Ok false) after it = it.1.extends
wait_extends v session n (Err why) after it = stays_extended session after it.1

flush_extends : (v : VolatileState) (session : SessionState) (r : Result Bool (Refusal CauseState)) (after : SessionState) → AnswersFlush v session r after → OnlyExtends session after
flush_extends v session (Ok true) after it = it.1.extends
flush_extends v session (Ok false) after it = stays_extended session after it.1
flush_extends v session (Err why) after it = it.1

show_extends : (v : VolatileState) (session : SessionState) (r : Result (Unit {0}) (Refusal CauseState)) (after : SessionState) → AnswersShow v session r after → OnlyExtends session after
show_extends v session (Ok done) after it = it.1
show_extends v session (Err why) after it = it.1

-- a fence never lowers the next session's number, and a mark or a cut leaves it
fence_next : (n : Shape) (session : ℕ) (v : VolatileState) (r : Result (Unit {0}) (Refusal CauseState)) (w : VolatileState) → AnswersFence n session v r w → v.ledger.next ≤ w.ledger.next
fence_next n session v (Ok done) w it = ⊎_elim
    (λ (adds : AddsFence session v.ledger w.ledger). let rises = le-max_left v.ledger.next (session + 1) in omega (arith, ap (λ (x : LedgerState). x.next) adds.fenced, rises))
    (λ (has : HasFence session v.ledger w.ledger). omega (arith, ap (λ (x : LedgerState). x.next) has.same))
    it.did
fence_next n session v (Err why) w it = omega (arith, ap (λ (x : VolatileState). x.ledger.next) it.same)

due_next : (v : VolatileState) (d : DurableState) (step : LogStep) (w : VolatileState) (e : DurableState) → DoesWhatIsDue v d step w e → v.ledger.next ≤ w.ledger.next
due_next v d Idle w e it = omega (arith, ap (λ (x : VolatileState). x.ledger.next) it.1)
due_next v d Cut w e it = omega (arith, ap (λ (x : VolatileState). x.ledger.next) it.1.volatile)
due_next v d (Marked n) w e it = ⊎_elim
    (λ (both : (n ≡ d.logged) × MarksBoth v d w e). omega (arith, ap (λ (x : VolatileState). x.ledger.next) both.1.volatile))
    (λ (all : (n ≡ count v.ledger.history) × (IsMarkDue v d → ⊥) × MarksAll v d w e). omega (arith, ap (λ (x : VolatileState). x.ledger.next) all.2.volatile))
    it
due_next v d Put w e it = absurd it
due_next v d Logged w e it = absurd it

mark_or_cut_next : (n : Shape) (v : VolatileState) (d : DurableState) (r : Result LogStep (Refusal CauseState)) (w : VolatileState) (e : DurableState)
    → AnswersMarkOrCut n v d r w e → v.ledger.next ≤ w.ledger.next
mark_or_cut_next n v d (Ok step) w e it = due_next v d step w e it.did
mark_or_cut_next n v d (Err why) w e it = omega (arith, ap (λ (x : VolatileState). x.ledger.next) it.volatile)

module _ (rule : Map → Type 0) where
  -- the parts go on with the same history
  up_on : (m : Mount) (w : VolatileState) (e : DurableState) → IsUp rule m → IsBetween (layout_of m) w e → (disk_of e).honest ≡ (disk_of m.parts.durable).honest
      → w.ledger.history ≡ history_of m.parts → m.parts.volatile.ledger.next ≤ w.ledger.next → IsUp rule (with_parts m w e)
  up_on m w e is between honest same next = record {
    runs = record {
      between = rebased (layout_of m) w e between;
      honest = subst IsTrue (sym honest) is.runs.honest;
      trusted = subst (λ (h : List Entry). IsTrue (is_trusted h)) (sym same) is.runs.trusted;
      legal = subst (IsLegal rule) (sym same) is.runs.legal;
    };
    sessions = λ number s at. session_later (history_of m.parts) w.ledger.history m.parts.volatile.ledger.next w.ledger.next number s (ap (commits_of number) same) next (is.sessions number s at);
    began = is.began;
    sound = λ actor t at. subst (λ (h : List Entry). IsSound h m.holders actor t) (sym same) (is.sound actor t at);
    fetched = λ actor. subst (λ (h : List Entry). All (WasFetched h) (m.fetched actor)) (sym same) (is.fetched actor);
  }

  -- and with one more entry
  runs_adds : (m : Mount) (w : VolatileState) (d : DurableState) (e : Entry) → IsUp rule m → IsBetween (layout_of m) w d
      → (disk_of d).honest ≡ (disk_of m.parts.durable).honest → w.ledger.history ≡ history_of m.parts ++ e ∷ [] → IsLegal rule (history_of m.parts ++ e ∷ [])
      → IsRunning rule (record { volatile = w; durable = d })
  runs_adds m w d e is between honest added legal = record {
    between = rebased (layout_of m) w d between;
    honest = subst IsTrue (sym honest) is.runs.honest;
    trusted = subst (λ (h : List Entry). IsTrue (is_trusted h)) (sym added)
        (subst IsTrue (sym (is_trusted-append (history_of m.parts) (e ∷ []) is.runs.between.volatile.begun)) is.runs.trusted);
    legal = subst (IsLegal rule) (sym added) legal;
  }

  -- one more entry that may follow keeps the history legal
  legal_adds : (history : List Entry) (e : Entry) → IsLegal rule history → Follows history e → IsTrueTo rule history e → IsLegal rule (history ++ e ∷ [])
  legal_adds history e legal follows true_to = record {
    follows = Each-snoc Follows history e legal.follows follows;
    agrees = Each-snoc (IsTrueTo rule) history e legal.agrees true_to;
  }

  up_marked : (m : Mount) (w : VolatileState) (d : DurableState) (n : ℕ) → IsUp rule m → IsBetween (layout_of m) w d
      → (disk_of d).honest ≡ (disk_of m.parts.durable).honest → w.ledger.history ≡ history_of m.parts ++ stable n ∷ []
      → IsLegal rule (history_of m.parts ++ stable n ∷ []) → m.parts.volatile.ledger.next ≤ w.ledger.next → IsUp rule (with_parts m w d)
  up_marked m w d n is between honest added legal next = record {
    runs = runs_adds m w d (stable n) is between honest added legal;
    sessions = λ number r at. session_later (history_of m.parts) w.ledger.history m.parts.volatile.ledger.next w.ledger.next number r
        (ap (commits_of number) added ∙ of_marked (history_of m.parts) n number) next (is.sessions number r at);
    began = is.began;
    sound = λ actor t at. subst (λ (h : List Entry). IsSound h m.holders actor t) (sym added)
        (sound_marked (history_of m.parts) n m.holders actor t is.runs.between.volatile.begun (is.sound actor t at));
    fetched = λ actor. subst (λ (h : List Entry). All (WasFetched h) (m.fetched actor)) (sym added)
        (fetched_longer (history_of m.parts) (stable n) (m.fetched actor) is.runs.between.volatile.begun (is.fetched actor));
  }

  up_fenced : (m : Mount) (w : VolatileState) (d : DurableState) (s : ℕ) → IsUp rule m → IsBetween (layout_of m) w d
      → (disk_of d).honest ≡ (disk_of m.parts.durable).honest → w.ledger.history ≡ history_of m.parts ++ fence s ∷ []
      → IsLegal rule (history_of m.parts ++ fence s ∷ []) → m.parts.volatile.ledger.next ≤ w.ledger.next → IsUp rule (with_parts m w d)
  up_fenced m w d s is between honest added legal next = record {
    runs = runs_adds m w d (fence s) is between honest added legal;
    sessions = λ number r at. session_later (history_of m.parts) w.ledger.history m.parts.volatile.ledger.next w.ledger.next number r
        (ap (commits_of number) added ∙ of_fenced (history_of m.parts) s number) next (is.sessions number r at);
    began = is.began;
    sound = λ actor t at. subst (λ (h : List Entry). IsSound h m.holders actor t) (sym added)
        (sound_fenced (history_of m.parts) s m.holders actor t is.runs.between.volatile.begun (is.sound actor t at));
    fetched = λ actor. subst (λ (h : List Entry). All (WasFetched h) (m.fetched actor)) (sym added)
        (fetched_longer (history_of m.parts) (fence s) (m.fetched actor) is.runs.between.volatile.begun (is.fetched actor));
  }

  -- an actor's transaction is another one
  draft_kept : (m : Mount) (actor : ℕ) (draft : TransactionState) → IsUp rule m → IsSound (history_of m.parts) m.holders actor draft
      → IsPrefix (m.began actor) draft.seen → IsUp rule (with_transaction m actor (Some draft))
  draft_kept m actor draft is sound later = record {
    runs = is.runs;
    sessions = is.sessions;
    began = λ other t at. by_began other t (other == actor) refl at (is.began other t);
    sound = λ other t at. by_test other t (other == actor) refl at (is.sound other t);
    fetched = is.fetched;
  }
    where
      by_test : (other : ℕ) (t : TransactionState) (b : Bool) → (other == actor) ≡ b → cond b (Some draft) (m.transactions other) ≡ Some t
          → (m.transactions other ≡ Some t → IsSound (history_of m.parts) m.holders other t) → IsSound (history_of m.parts) m.holders other t
      by_test other t true same at others =
          subst (λ (n : ℕ). IsSound (history_of m.parts) m.holders n t) (sym (eqb-true other actor same))
          (subst (IsSound (history_of m.parts) m.holders actor) (same_Some draft t at) sound)
      by_test other t false differ at others = others at

      by_began : (other : ℕ) (t : TransactionState) (b : Bool) → (other == actor) ≡ b → cond b (Some draft) (m.transactions other) ≡ Some t
          → (m.transactions other ≡ Some t → IsPrefix (m.began other) t.seen) → IsPrefix (m.began other) t.seen
      by_began other t true same at others =
          subst (λ (n : ℕ). IsPrefix (m.began n) t.seen) (sym (eqb-true other actor same))
          (subst (λ (d : TransactionState). IsPrefix (m.began actor) d.seen) (same_Some draft t at) later)
      by_began other t false differ at others = others at

  -- an actor's transaction begins
  begun_kept : (m : Mount) (actor : ℕ) (seen : List Entry) → IsUp rule m → IsPrefix seen (history_of m.parts) → IsUp rule (with_begun m actor seen)
  begun_kept m actor seen is prefix = record {
    runs = is.runs;
    sessions = is.sessions;
    began = λ other t at. by_began other t (other == actor) refl at (is.began other t);
    sound = λ other t at. by_test other t (other == actor) refl at (is.sound other t);
    fetched = is.fetched;
  }
    where
      by_test : (other : ℕ) (t : TransactionState) (b : Bool) → (other == actor) ≡ b → cond b (Some (begun seen)) (m.transactions other) ≡ Some t
          → (m.transactions other ≡ Some t → IsSound (history_of m.parts) m.holders other t) → IsSound (history_of m.parts) m.holders other t
      by_test other t true same at others =
          subst (IsSound (history_of m.parts) m.holders other) (same_Some (begun seen) t at) (begun_sound (history_of m.parts) seen m.holders other prefix)
      by_test other t false differ at others = others at

      by_began : (other : ℕ) (t : TransactionState) (b : Bool) → (other == actor) ≡ b → cond b (Some (begun seen)) (m.transactions other) ≡ Some t
          → (m.transactions other ≡ Some t → IsPrefix (m.began other) t.seen) → IsPrefix (cond b seen (m.began other)) t.seen
      by_began other t true same at others = subst (λ (d : TransactionState). IsPrefix seen d.seen) (same_Some (begun seen) t at) (IsPrefix-refl seen)
      by_began other t false differ at others = others at

  -- a number has a session
  session_kept : (m : Mount) (number : ℕ) (s : SessionState) → IsUp rule m → IsSessionOf (history_of m.parts) m.parts.volatile.ledger.next number s → IsUp rule (with_session m number s)
  session_kept m number s is it = record {
    runs = is.runs;
    sessions = λ other r at. by_test other r (other == number) refl at (is.sessions other r);
    began = is.began;
    sound = is.sound;
    fetched = is.fetched;
  }
    where
      next : ℕ
      next = m.parts.volatile.ledger.next

      by_test : (other : ℕ) (r : SessionState) (b : Bool) → (other == number) ≡ b → cond b (Some s) (m.sessions other) ≡ Some r
          → (m.sessions other ≡ Some r → IsSessionOf (history_of m.parts) next other r) → IsSessionOf (history_of m.parts) next other r
      by_test other r true same at others =
          subst (λ (n : ℕ). IsSessionOf (history_of m.parts) next n r) (sym (eqb-true other number same))
          (subst (IsSessionOf (history_of m.parts) next number) (same_Some s r at) it)
      by_test other r false differ at others = others at

  -- which has seen more
  session_extended : (m : Mount) (number : ℕ) (s after : SessionState) → IsUp rule m → m.sessions number ≡ Some s → OnlyExtends s after → IsUp rule (with_session m number after)
  session_extended m number s after is at extends =
      let was = is.sessions number s at in
      session_kept m number after is (record { is = extends.number ∙ was.is; own = was.own ∙ ap (commits_of number) (sym extends.mine); below = was.below })

  slot_taken : (m : Mount) (actor slot : ℕ) → m.holders slot ≡ None → IsUp rule m → IsUp rule (with_slot m actor slot)
  slot_taken m actor slot free is = record {
    runs = is.runs;
    sessions = is.sessions;
    began = is.began;
    sound = λ other t at. sound_held (history_of m.parts) m.holders (with_slot m actor slot).holders other t (is.sound other t at)
        (λ held. keeps_taken m.holders actor slot other held free);
    fetched = is.fetched;
  }

  slot_given : (m : Mount) (actor slot : ℕ) (draft : TransactionState) → m.transactions actor ≡ Some draft → m.holders slot ≡ Some actor
      → All (λ (p : Pair). slot_of (layout_of m) p.0 ≢ slot) draft.reads → All (λ (p : Pair). slot_of (layout_of m) p.0 ≢ slot) draft.writes
      → IsUp rule m → IsUp rule (without_slot m slot)
  slot_given m actor slot draft drafted given unread unwritten is = record {
    runs = is.runs;
    sessions = is.sessions;
    began = is.began;
    sound = λ other t at. by_test other t (other == actor) refl at;
    fetched = is.fetched;
  }
    where
      by_test : (other : ℕ) (t : TransactionState) (b : Bool) → (other == actor) ≡ b → m.transactions other ≡ Some t
          → IsSound (history_of m.parts) (without_slot m slot).holders other t
      by_test other t true same at =
          let is_actors : other ≡ actor = eqb-true other actor same in
          let is_draft : t ≡ draft = same_Some t draft (sym at ∙ ap m.transactions is_actors ∙ drafted) in
          subst (λ (n : ℕ). IsSound (history_of m.parts) (without_slot m slot).holders n t) (sym is_actors)
          (subst (IsSound (history_of m.parts) (without_slot m slot).holders actor) (sym is_draft)
          (sound_without (history_of m.parts) m.holders slot actor draft unread unwritten (is.sound actor draft drafted)))
      by_test other t false differ at =
          sound_held (history_of m.parts) m.holders (without_slot m slot).holders other t (is.sound other t at)
          (λ held_slot held. keeps_without m.holders actor slot other held_slot (eqb-false other actor differ) given held)

  -- what an actor has fetched is one batch more
  fetched_kept : (m : Mount) (actor : ℕ) (f : FetchedState) → IsUp rule m → WasFetched (history_of m.parts) f → IsUp rule (with_fetched m actor f)
  fetched_kept m actor f is was = record {
    runs = is.runs;
    sessions = is.sessions;
    began = is.began;
    sound = is.sound;
    fetched = λ other. by_test other (other == actor);
  }
    where
      by_test : (other : ℕ) (b : Bool) → All (WasFetched (history_of m.parts)) (cond b (f ∷ m.fetched other) (m.fetched other))
      by_test other true = All-cons (WasFetched (history_of m.parts)) f (m.fetched other) was (is.fetched other)
      by_test other false = is.fetched other

  -- where all transactions but one are kept, that one is ended
  ended_up : (m : Mount) (actor : ℕ) → IsRunning rule m.parts → ((other : ℕ) → All (WasFetched (history_of m.parts)) (m.fetched other))
      → ((number : ℕ) (s : SessionState) → m.sessions number ≡ Some s → IsSessionOf (history_of m.parts) m.parts.volatile.ledger.next number s)
      → ((other : ℕ) (t : TransactionState) → m.transactions other ≡ Some t → IsPrefix (m.began other) t.seen)
      → ((other : ℕ) (t : TransactionState) → other ≢ actor → m.transactions other ≡ Some t → IsSound (history_of m.parts) m.holders other t) → IsUp rule (ended m actor)
  ended_up m actor runs fetched sessions began others = record {
    runs = runs;
    sessions = sessions;
    began = λ other t at. by_began other t (other == actor) refl at;
    sound = λ other t at. by_test other t (other == actor) refl at;
    fetched = fetched;
  }
    where
      by_began : (other : ℕ) (t : TransactionState) (b : Bool) → (other == actor) ≡ b → cond b None (m.transactions other) ≡ Some t → IsPrefix (m.began other) t.seen
      by_began other t true same at = absurd (none-some t at)
      by_began other t false differ at = began other t at

      by_test : (other : ℕ) (t : TransactionState) (b : Bool) → (other == actor) ≡ b → cond b None (m.transactions other) ≡ Some t
          → IsSound (history_of m.parts) (ended m actor).holders other t
      by_test other t true same at = absurd (none-some t at)
      by_test other t false differ at =
          let apart : other ≢ actor = eqb-false other actor differ in
          sound_held (history_of m.parts) m.holders (ended m actor).holders other t (others other t apart at)
          (λ slot held. keeps_given m.holders actor other slot apart held)

  has_ended : (m : Mount) (actor : ℕ) → IsUp rule m → IsUp rule (ended m actor)
  has_ended m actor is = ended_up m actor is.runs is.fetched is.sessions is.began (λ other t apart at. is.sound other t at)

  -- nothing is told
  silent : (m next : Mount) (answer : Answer) (new : Machine) → answer ≡ nothing → new ≡ up next → history_of next.parts ≡ history_of m.parts
      → IsUp rule next → Grows m next → GoesUp rule m answer new
  silent m next answer new no_answer is same kept grows =
      subst (λ (a : Answer). GoesUp rule m a new) (sym no_answer)
      (subst (λ (s : Machine). GoesUp rule m nothing s) (sym is)
      (record { goes = record { history = history_of m.parts; tells = refl; holds = (same, kept) }; grows = grows }))

  -- a hold that leaves the history and the sessions
  quiet : (m : Mount) (w : VolatileState) (e : DurableState) (answer : Answer) (new : Machine) → answer ≡ nothing → new ≡ up (with_parts m w e) → IsUp rule m
      → IsBetween (layout_of m) w e → (disk_of e).honest ≡ (disk_of m.parts.durable).honest → w.ledger.history ≡ history_of m.parts
      → m.parts.volatile.ledger.next ≤ w.ledger.next → GoesUp rule m answer new
  quiet m w e answer new none after is between honest same next =
      silent m (with_parts m w e) answer new none after same (up_on m w e is between honest same next) (unchanged m (with_parts m w e) same (λ number. refl))

  -- a hold after which a session has seen more
  shown : (m : Mount) (number : ℕ) (s after : SessionState) (answer : Answer) (new : Machine) → m.sessions number ≡ Some s → OnlyExtends s after → answer ≡ nothing
      → new ≡ up (with_session m number after) → IsUp rule m → GoesUp rule m answer new
  shown m number s after answer new at extends none is_new is =
      silent m (with_session m number after) answer new none is_new refl (session_extended m number s after is at extends)
      (grows_by m (with_session m number after) number s after (IsPrefix-refl (history_of m.parts)) at extends.number extends.seen (λ other. refl))

  -- and by which something is told that leaves the history
  shown_told : (m : Mount) (number : ℕ) (s after : SessionState) (answer : Answer) (new : Machine) → m.sessions number ≡ Some s → OnlyExtends s after
      → Tells rule (history_of m.parts) answer (history_of m.parts) → new ≡ up (with_session m number after) → IsUp rule m → GoesUp rule m answer new
  shown_told m number s after answer new at extends tells is_new is = subst (λ (x : Machine). GoesUp rule m answer x) (sym is_new) (record {
    goes = record { history = history_of m.parts; tells = tells; holds = (refl, session_extended m number s after is at extends) };
    grows = grows_by m (with_session m number after) number s after (IsPrefix-refl (history_of m.parts)) at extends.number extends.seen (λ other. refl);
  })

  ignored : (m : Mount) (answer : Answer) (new : Machine) → Ignores m answer new → IsUp rule m → GoesUp rule m answer new
  ignored m answer new it is = silent m m answer new it.0 it.1 refl is (unchanged m m refl (λ number. refl))

  goes-begins : (m : Mount) (actor number : ℕ) (draft : Option TransactionState) (session : Option SessionState) (answer : Answer) (new : Machine)
      → BeginsTransaction m actor number draft session answer new → IsUp rule m → m.sessions number ≡ session → GoesUp rule m answer new
  goes-begins m actor number (Some t) session answer new it is at = ignored m answer new it is
  goes-begins m actor number None None answer new it is at = ignored m answer new it is
  goes-begins m actor number None (Some s) answer new it is at =
      let after : SessionState = it.1.0 in
      let next : Mount = with_begun (with_session m number after) actor after.seen in
      silent m next answer new it.0 it.1.3 refl
      (begun_kept (with_session m number after) actor after.seen (session_extended m number s after is at it.1.1) it.1.2)
      (grows_by m next number s after (IsPrefix-refl (history_of m.parts)) at it.1.1.number it.1.1.seen (λ other. refl))

  goes-sees : (m : Mount) (number : ℕ) (session : Option SessionState) (answer : Answer) (new : Machine) → SeesMore m number session answer new → IsUp rule m
      → m.sessions number ≡ session → GoesUp rule m answer new
  goes-sees m number None answer new it is at = ignored m answer new it is
  goes-sees m number (Some s) answer new it is at = shown m number s it.1.0 answer new at it.1.1 it.0 it.1.2 is

  goes-takes : (m : Mount) (actor slot : ℕ) (draft : Option TransactionState) (holder : Option ℕ) (answer : Answer) (new : Machine)
      → TakesSlot m actor slot draft holder answer new → IsUp rule m → m.holders slot ≡ holder → GoesUp rule m answer new
  goes-takes m actor slot None holder answer new it is free = ignored m answer new it is
  goes-takes m actor slot (Some t) (Some holder) answer new it is free = ignored m answer new it is
  goes-takes m actor slot (Some t) None answer new it is free =
      silent m (with_slot m actor slot) answer new it.0 it.1 refl (slot_taken m actor slot free is) (unchanged m (with_slot m actor slot) refl (λ number. refl))

  goes-gives-back : (m : Mount) (actor slot : ℕ) (draft : Option TransactionState) (held : Bool) (answer : Answer) (new : Machine)
      → GivesBackSlot m actor slot draft held answer new → IsUp rule m → m.transactions actor ≡ draft → is_actor (m.holders slot) actor ≡ held
      → GoesUp rule m answer new
  goes-gives-back m actor slot None held answer new it is at holder = ignored m answer new it is
  goes-gives-back m actor slot (Some t) false answer new it is at holder = ignored m answer new it is
  goes-gives-back m actor slot (Some t) true answer new it is at holder =
      silent m (without_slot m slot) answer new it.0 it.3 refl
      (slot_given m actor slot t at (is_holder (m.holders slot) actor holder) it.1 it.2 is) (unchanged m (without_slot m slot) refl (λ number. refl))

  -- a read in memory leaves all
  read_same : (n : Shape) (v : VolatileState) (t : TransactionState) (a : Addr) (f : FetchedState) (r : Result (Option ReadResultState) (Refusal CauseState)) (x : Value) (w : VolatileState)
      → AnswersRead n v t a f r x w → w ≡ v
  read_same n v t a f (Ok (Some found)) x w it = it.same
  read_same n v t a f (Ok None) x w it = it.same
  read_same n v t a f (Err why) x w it = it.same

  goes-reads : (m : Mount) (actor : ℕ) (a : Addr) (draft : Option TransactionState) (held : Bool) (answer : Answer) (new : Machine)
      → ReadsUnderSlot m actor a draft held answer new → IsUp rule m → m.transactions actor ≡ draft → holds m actor a ≡ held → GoesUp rule m answer new
  goes-reads m actor a None held answer new it is at holder = ignored m answer new it is
  goes-reads m actor a (Some t) false answer new it is at holder = ignored m answer new it is
  goes-reads m actor a (Some t) true nothing new it is at holder =
      let w : VolatileState = it.1.1.1.0 in
      let same : w ≡ m.parts.volatile = read_same (layout_of m) m.parts.volatile t a it.0 it.1.0 it.1.1.0 w it.1.1.1.1 in
      quiet m w m.parts.durable nothing new refl it.1.1.1.2 is (subst (λ (x : VolatileState). IsBetween (layout_of m) x m.parts.durable) (sym same) is.runs.between) refl
      (ap (λ (x : VolatileState). x.ledger.history) same) (omega (arith, ap (λ (x : VolatileState). x.ledger.next) same))
  goes-reads m actor a (Some t) true (value b v) new it is at holder =
      let w : VolatileState = it.1.1.0 in
      let after : TransactionState = it.1.1.1.0 in
      let finds : FindsInMemory (layout_of m) m.parts.volatile t a it.1.0 v w = it.1.1.1.1 in
      let same : w.ledger.history ≡ history_of m.parts = ap (λ (x : VolatileState). x.ledger.history) finds.same in
      let sound : IsSound (history_of m.parts) m.holders actor after =
      sound_read (history_of m.parts) m.holders actor t after a v it.1.1.1.2 finds.object (finds.value is.runs.trusted)
      (is_holder (m.holders (slot_of (layout_of m) a)) actor holder) (is.sound actor t at) in
      let later : IsPrefix (m.began actor) after.seen =
      subst (IsPrefix (m.began actor)) (sym (ap (λ (x : TransactionState). x.seen) it.1.1.1.2.others))
      (IsPrefix-trans (m.began actor) t.seen (history_of m.parts) (is.began actor t at) (is.sound actor t at).later) in
      subst (λ (s : Machine). GoesUp rule m (value b v) s) (sym it.1.1.1.3) (record {
        goes = record {
          history = history_of m.parts;
          tells = (finds.value is.runs.trusted ∙ ap (value_at (latest (history_of m.parts))) (sym it.0), refl);
          holds = (
            same,
            draft_kept (with_volatile m w) actor after
                (up_on m w m.parts.durable is (subst (λ (x : VolatileState). IsBetween (layout_of m) x m.parts.durable) (sym finds.same) is.runs.between) refl same
                (omega (arith, ap (λ (x : VolatileState). x.ledger.next) finds.same)))
                (subst (λ (h : List Entry). IsSound h m.holders actor after) (sym same) sound) later,
          );
        };
        grows = unchanged m (with_transaction (with_volatile m w) actor (Some after)) same (λ number. refl);
      })
  goes-reads m actor a (Some t) true (scanned s bits) new it is at holder = absurd it
  goes-reads m actor a (Some t) true (committed u) new it is at holder = absurd it
  goes-reads m actor a (Some t) true (marked n) new it is at holder = absurd it
  goes-reads m actor a (Some t) true (fenced s) new it is at holder = absurd it
  goes-reads m actor a (Some t) true (waited k) new it is at holder = absurd it
  goes-reads m actor a (Some t) true (imaged other) new it is at holder = absurd it
  goes-reads m actor a (Some t) true crashed new it is at holder = absurd it
  goes-reads m actor a (Some t) true reopened new it is at holder = absurd it

  -- a scan leaves both parts, and the bits of the copy are the map's
  goes-scans : (m : Mount) (number : ℕ) (s : BitScan) (session : Option SessionState) (answer : Answer) (new : Machine) → ScansBits m number s session answer new → IsUp rule m
      → m.sessions number ≡ session → GoesUp rule m answer new
  goes-scans m number s None answer new it is at = ignored m answer new it is
  goes-scans m number s (Some r) nothing new it is at =
      shown m number r it.0 nothing new at (scan_extends (layout_of m) m.parts.volatile r s it.1.0 it.1.1.0 it.1.1.1.0 it.0 it.1.1.1.1) refl it.1.1.1.2 is
  goes-scans m number s (Some r) (scanned asked bits) new it is at =
      let m_now : Map = latest (history_of m.parts) in
      shown_told m number r it.1.0 (scanned asked bits) new at it.1.1.1.extends
      (it.1.1.2 ∙ bits_found m_now s it.1.1.0 (it.1.1.1.bits is.runs.trusted) ∙ ap (found_bits m_now) (sym it.0), refl) it.1.1.3 is
  goes-scans m number s (Some r) (value a v) new it is at = absurd it
  goes-scans m number s (Some r) (committed t) new it is at = absurd it
  goes-scans m number s (Some r) (marked n) new it is at = absurd it
  goes-scans m number s (Some r) (fenced other) new it is at = absurd it
  goes-scans m number s (Some r) (waited k) new it is at = absurd it
  goes-scans m number s (Some r) (imaged other) new it is at = absurd it
  goes-scans m number s (Some r) crashed new it is at = absurd it
  goes-scans m number s (Some r) reopened new it is at = absurd it

  goes-overwrites : (m : Mount) (actor : ℕ) (p : Pair) (draft : Option TransactionState) (held : Bool) (answer : Answer) (new : Machine)
      → OverwritesUnderSlot m actor p draft held answer new → IsUp rule m → m.transactions actor ≡ draft → holds m actor p.0 ≡ held → GoesUp rule m answer new
  goes-overwrites m actor p None held answer new it is at holder = ignored m answer new it is
  goes-overwrites m actor p (Some t) false answer new it is at holder = ignored m answer new it is
  goes-overwrites m actor p (Some t) true answer new it is at holder =
      ⊎_elim (λ same. silent m m answer new it.0 same refl is (unchanged m m refl (λ number. refl)))
      (λ more. silent m (with_transaction m actor (Some more.1.0)) answer new it.0 more.1.2 refl
      (draft_kept m actor more.1.0 is (sound_overwritten (history_of m.parts) m.holders actor t more.1.0 p more.1.1 more.0
      (is_holder (m.holders (slot_of (layout_of m) p.0)) actor holder) (is.sound actor t at))
      (subst (IsPrefix (m.began actor)) (sym (ap (λ (x : TransactionState). x.seen) more.1.1.others)) (is.began actor t at)))
      (unchanged m (with_transaction m actor (Some more.1.0)) refl (λ number. refl)))
      it.1

  -- the number of a session's next commit is how many it has
  numbered : (session after : SessionState) (r w : List Pair) (old new : List Entry) → Commits (next_transaction session r w) session after old new
      → made session ≡ length (commits_of session.number old)
  numbered session after r w old new it =
      let t : Transaction = next_transaction session r w in
      let there : commits_of session.number old ++ t ∷ [] ≡ commits_of session.number session.mine ++ t ∷ [] =
      sym (commits_of-commit old t) ∙ ap (commits_of session.number) (sym it.added) ∙ it.one_more in
      omega (arith, ap length there, length-append (commits_of session.number old) (t ∷ []), length-append (commits_of session.number session.mine) (t ∷ []))

  -- a commit that is not made, after which the transaction goes on
  goes-unfinished : (m : Mount) (number : ℕ) (s after : SessionState) (w : VolatileState) (new : Machine) → m.sessions number ≡ Some s → OnlyExtends s after
      → IsBetween (layout_of m) w m.parts.durable → w.ledger.history ≡ history_of m.parts → w.ledger.next ≡ m.parts.volatile.ledger.next
      → new ≡ up (with_session (with_volatile m w) number after) → IsUp rule m → GoesUp rule m nothing new
  goes-unfinished m number s after w new at extends between same next is_new is =
      silent m (with_session (with_volatile m w) number after) nothing new refl is_new same
      (session_extended (with_volatile m w) number s after (up_on m w m.parts.durable is between refl same (omega (arith, next))) at extends)
      (grows_by m (with_session (with_volatile m w) number after) number s after (subst (IsPrefix (history_of m.parts)) (sym same) (IsPrefix-refl (history_of m.parts))) at
      extends.number extends.seen (λ other. refl))

  -- the sessions once one has committed
  sessions_committed : (m : Mount) (number : ℕ) (s after : SessionState) (d : TransactionState) (w : VolatileState) → IsUp rule m → m.sessions number ≡ Some s
      → CommitsInMemory (layout_of m) m.parts.volatile s d w after → (other : ℕ) (r : SessionState) → (with_session m number after).sessions other ≡ Some r
      → IsSessionOf w.ledger.history w.ledger.next other r
  sessions_committed m number s after d w is at done other r at_other = by_test (other == number) refl at_other
    where
      was : IsSessionOf (history_of m.parts) m.parts.volatile.ledger.next number s
      was = is.sessions number s at

      u : Transaction
      u = next_transaction s d.reads d.writes

      rises : m.parts.volatile.ledger.next ≤ w.ledger.next
      rises = let bound = le-max_left m.parts.volatile.ledger.next (s.number + 1) in omega (arith, ap (λ (x : VolatileState). x.ledger.next) done.committed.others, bound)

      by_test : (b : Bool) → (other == number) ≡ b → cond b (Some after) (m.sessions other) ≡ Some r → IsSessionOf w.ledger.history w.ledger.next other r
      by_test true same here =
          subst (λ (n : ℕ). IsSessionOf w.ledger.history w.ledger.next n r) (sym (eqb-true other number same))
          (subst (IsSessionOf w.ledger.history w.ledger.next number) (same_Some after r here) (record {
            is = ap (λ (x : SessionState). x.number) done.committed.committed.session ∙ was.is;
            own = ap (commits_of number) (sym (ap (λ (x : SessionState). x.mine) done.committed.committed.session));
            below = omega (arith, was.below, rises);
          }))
      by_test false differ there =
          session_later (history_of m.parts) w.ledger.history m.parts.volatile.ledger.next w.ledger.next other r
          (ap (commits_of other) done.committed.committed.added
          ∙ of_other (history_of m.parts) u other (λ same. eqb-false other number differ (sym same ∙ was.is)))
          rises (is.sessions other r there)

  goes-finishes : (m : Mount) (actor number : ℕ) (draft : Option TransactionState) (session : Option SessionState) (answer : Answer) (new : Machine)
      → Finishes m actor number draft session answer new → IsUp rule m → m.transactions actor ≡ draft → m.sessions number ≡ session → GoesUp rule m answer new
  goes-finishes m actor number None session answer new it is at has = ignored m answer new it is
  goes-finishes m actor number (Some d) None answer new it is at has = ignored m answer new it is
  goes-finishes m actor number (Some d) (Some s) nothing new it is at has =
      let after : SessionState = it.0 in
      let w : VolatileState = it.1.0 in
      let durable : DurableState = m.parts.durable in
      ⊎_elim
      (λ (refuses : (why : Refusal CauseState) × RefusesCommit (layout_of m) m.parts.volatile s d why w × (new ≡ up (ended (with_session (with_volatile m w) number after) actor))).
      let same : w.ledger.history ≡ history_of m.parts = ap (λ (x : VolatileState). x.ledger.history) refuses.1.same in
      let kept : IsUp rule (with_volatile m w) = up_on m w durable is
      (between_roomed (layout_of m) m.parts.volatile durable is.runs.between w w.tail.log.room refuses.1.kept refuses.1.same) refl same
      (omega (arith, ap (λ (x : VolatileState). x.ledger.next) refuses.1.same)) in
      silent m (ended (with_session (with_volatile m w) number after) actor) nothing new refl refuses.2 same
      (has_ended (with_session (with_volatile m w) number after) actor (session_extended (with_volatile m w) number s after kept has it.1.1))
      (grows_by m (ended (with_session (with_volatile m w) number after) actor) number s after
      (subst (IsPrefix (history_of m.parts)) (sym same) (IsPrefix-refl (history_of m.parts))) has it.1.1.number it.1.1.seen (λ other. refl)))
      (⊎_elim
      (λ (awaits : (cause : CauseState) × RefusesCommit (layout_of m) m.parts.volatile s d (Full cause) w × (new ≡ up (with_session (with_volatile m w) number after))).
      goes-unfinished m number s after w new has it.1.1
      (between_roomed (layout_of m) m.parts.volatile durable is.runs.between w w.tail.log.room awaits.1.kept awaits.1.same)
      (ap (λ (x : VolatileState). x.ledger.history) awaits.1.same) (ap (λ (x : VolatileState). x.ledger.next) awaits.1.same) awaits.2 is)
      (λ (lacks : (f : FetchedState) × ((missing : List ℕ) × LacksBlocks (layout_of m) m.parts.volatile s d f missing w × (new ≡ up (with_session (with_volatile m w) number after)))).
      goes-unfinished m number s after w new has it.1.1
      (between_roomed (layout_of m) m.parts.volatile durable is.runs.between w w.tail.log.room lacks.1.1.kept lacks.1.1.same)
      (ap (λ (x : VolatileState). x.ledger.history) lacks.1.1.same) (ap (λ (x : VolatileState). x.ledger.next) lacks.1.1.same) lacks.1.2 is))
      it.1.2
  goes-finishes m actor number (Some d) (Some s) (committed t) new it is at has =
      let after : SessionState = it.0 in
      let w : VolatileState = it.1.0 in
      let history : List Entry = history_of m.parts in
      let done : CommitsInMemory (layout_of m) m.parts.volatile s d w after = it.1.2 in
      let u : Transaction = next_transaction s d.reads d.writes in
      let sound = is.sound actor d at in
      let place = numbered s after d.reads d.writes history w.ledger.history done.committed.committed in
      let follows : Follows history (commit u) = (is.runs.between.volatile.begun, sound.reads, sound.writes, place, done.can.may.unfenced) in
      let added : w.ledger.history ≡ history ++ commit u ∷ [] = done.committed.committed.added in
      let longer : IsLegal rule (history ++ commit u ∷ []) = legal_adds history (commit u) is.runs.legal follows (done.agrees is.runs.trusted) in
      let begins : IsPrefix history w.ledger.history = (commit u ∷ [], sym added) in
      let seen : after.seen ≡ w.ledger.history = ap (λ (x : SessionState). x.seen) done.committed.committed.session in
      let next : Mount = ended (with_session (with_volatile m w) number after) actor in
      subst (λ (x : Machine). GoesUp rule m (committed t) x) (sym it.1.3)
      (subst (λ (x : Transaction). GoesUp rule m (committed x) (up next)) (sym it.1.1) (record {
        goes = record {
          history = history ++ commit u ∷ [];
          tells = (follows, done.agrees is.runs.trusted, refl);
          holds = (
            added,
            ended_up (with_session (with_volatile m w) number after) actor (runs_adds m w m.parts.durable (commit u) is
                (between_commit (layout_of m) m.parts.volatile m.parts.durable is.runs.between w s after d done) refl added longer)
                (λ other. subst (λ (h : List Entry). All (WasFetched h) (m.fetched other)) (sym added)
                (fetched_longer history (commit u) (m.fetched other) is.runs.between.volatile.begun (is.fetched other)))
                (sessions_committed m number s after d w is has done) is.began
                (λ other e apart at_other. subst (λ (h : List Entry). IsSound h m.holders other e) (sym added)
                (sound_committed history u m.holders actor other e is.runs.between.volatile.begun apart sound.writes_held (is.sound other e at_other))),
          );
        };
        grows = grows_by m next number s after begins has (ap (λ (x : SessionState). x.number) done.committed.committed.session)
            (subst (IsPrefix s.seen) (sym seen) (IsPrefix-trans s.seen history w.ledger.history done.committed.committed.later begins)) (λ other. refl);
      }))
  goes-finishes m actor number (Some d) (Some s) (value a v) new it is at has = absurd it
  goes-finishes m actor number (Some d) (Some s) (scanned asked bits) new it is at has = absurd it
  goes-finishes m actor number (Some d) (Some s) (marked n) new it is at has = absurd it
  goes-finishes m actor number (Some d) (Some s) (fenced other) new it is at has = absurd it
  goes-finishes m actor number (Some d) (Some s) (waited k) new it is at has = absurd it
  goes-finishes m actor number (Some d) (Some s) (imaged other) new it is at has = absurd it
  goes-finishes m actor number (Some d) (Some s) crashed new it is at has = absurd it
  goes-finishes m actor number (Some d) (Some s) reopened new it is at has = absurd it

  goes-joins : (m : Mount) (r : Result SessionState (Refusal CauseState)) (w : VolatileState) (answer : Answer) (new : Machine) → answer ≡ nothing
      → AnswersSession m.parts.volatile r w → new ≡ up (joined (with_volatile m w) r) → IsUp rule m → GoesUp rule m answer new
  goes-joins m (Ok session) w answer new none it after is =
      let same : w.ledger.history ≡ history_of m.parts = ap (λ (x : VolatileState). x.ledger.history) it.others in
      let one_more : w.ledger.next ≡ m.parts.volatile.ledger.next + 1 = ap (λ (x : VolatileState). x.ledger.next) it.others in
      let number : session.number ≡ m.parts.volatile.ledger.next = ap (λ (x : SessionState). x.number) it.is in
      let kept : IsUp rule (with_volatile m w) = up_on m w m.parts.durable is
      (subst (λ (x : VolatileState). IsBetween (layout_of m) x m.parts.durable) (sym it.others)
      (between_counted (layout_of m) m.parts.volatile m.parts.durable is.runs.between (m.parts.volatile.ledger.next + 1) m.parts.volatile.ledger.closed))
      refl same (omega (arith, one_more)) in
      silent m (with_session (with_volatile m w) session.number session) answer new none after same
      (session_kept (with_volatile m w) session.number session kept (record {
        is = refl;
        own = ap (commits_of session.number) (same ∙ sym (ap (λ (x : SessionState). x.mine) it.is));
        below = omega (arith, number, one_more);
      }))
      (record {
        history = subst (IsPrefix (history_of m.parts)) (sym same) (IsPrefix-refl (history_of m.parts));
        sessions = λ other s at. by_test session number other s (other == session.number) refl at;
      })
    where
      by_test : (session : SessionState) → session.number ≡ m.parts.volatile.ledger.next → (other : ℕ) (s : SessionState) (b : Bool) → (other == session.number) ≡ b
          → m.sessions other ≡ Some s → HasSeenMore s (cond b (Some session) (m.sessions other))
      by_test session number other s true same at =
          let below : other < m.parts.volatile.ledger.next = (is.sessions other s at).below in absurd (omega (arith, below, number, eqb-true other session.number same))
      by_test session number other s false differ at = same_session s (m.sessions other) at
  goes-joins m (Err why) w answer new none it after is =
      quiet m w m.parts.durable answer new none after is
      (subst (λ (x : VolatileState). IsBetween (layout_of m) x m.parts.durable) (sym it.same) is.runs.between) refl (ap (λ (x : VolatileState). x.ledger.history) it.same)
      (omega (arith, ap (λ (x : VolatileState). x.ledger.next) it.same))

  fence_on : (m : Mount) (session : ℕ) (r : Result (Unit {0}) (Refusal CauseState)) (w : VolatileState) → AnswersFence (layout_of m) session m.parts.volatile r w → IsUp rule m
      → IsBetween (layout_of m) w m.parts.durable
  fence_on m session (Ok done) w it is = between_fenced (layout_of m) m.parts.volatile m.parts.durable is.runs.between session w it
  fence_on m session (Err why) w it is = subst (λ (x : VolatileState). IsBetween (layout_of m) x m.parts.durable) (sym it.same) is.runs.between

  goes-fences : (m : Mount) (session : ℕ) (answer : Answer) (new : Machine) → MakesFence m session answer new → IsUp rule m → GoesUp rule m answer new
  goes-fences m session nothing new it is =
      quiet m it.1.0 m.parts.durable nothing new refl it.1.3 is (fence_on m session it.0 it.1.0 it.1.1 is) refl it.1.2
      (fence_next (layout_of m) session m.parts.volatile it.0 it.1.0 it.1.1)
  goes-fences m session (fenced s) new it is =
      let w : VolatileState = it.1.0 in
      let history : List Entry = history_of m.parts in
      let adds : AddsFence session m.parts.volatile.ledger w.ledger = it.1.1 in
      let added : w.ledger.history ≡ history ++ fence s ∷ [] =
      ap (λ (x : LedgerState). x.history) adds.fenced ∙ ap (λ (n : ℕ). history ++ fence n ∷ []) (sym it.0) in
      let follows : Follows history (fence s) = is.runs.between.volatile.begun in
      let rises : m.parts.volatile.ledger.next ≤ w.ledger.next = fence_next (layout_of m) session m.parts.volatile (Ok tt) w it.1.2 in
      subst (λ (x : Machine). GoesUp rule m (fenced s) x) (sym it.1.3) (record {
        goes = record {
          history = history ++ fence s ∷ [];
          tells = (follows, tt, refl);
          holds = (
            added,
            up_fenced m w m.parts.durable s is (between_fenced (layout_of m) m.parts.volatile m.parts.durable is.runs.between session w it.1.2) refl added
                (legal_adds history (fence s) is.runs.legal follows tt) rises,
          );
        };
        grows = one_longer m (with_volatile m w) (fence s) added (λ number. refl);
      })
  goes-fences m session (value a v) new it is = absurd it
  goes-fences m session (scanned asked bits) new it is = absurd it
  goes-fences m session (committed t) new it is = absurd it
  goes-fences m session (marked n) new it is = absurd it
  goes-fences m session (waited k) new it is = absurd it
  goes-fences m session (imaged other) new it is = absurd it
  goes-fences m session crashed new it is = absurd it
  goes-fences m session reopened new it is = absurd it

  goes-fetched : (m : Mount) (actor : ℕ) (numbers : List ℕ) (r : Result FetchedState (Refusal CauseState)) (e : DurableState) (answer : Answer) (new : Machine)
      → answer ≡ nothing → AnswersFetch (layout_of m) m.parts.durable numbers r e → new ≡ up (keeping (with_durable m e) actor r) → IsUp rule m
      → GoesUp rule m answer new
  goes-fetched m actor numbers (Err why) e answer new none it after is =
      quiet m m.parts.volatile e answer new none after is (between_fetch (layout_of m) m.parts.volatile m.parts.durable is.runs.between e numbers (Err why) it)
      it.crash.keeps.honest refl (omega arith)
  goes-fetched m actor numbers (Ok f) e answer new none it after is =
      silent m (with_fetched (with_durable m e) actor f) answer new none after refl
      (fetched_kept (with_durable m e) actor f
      (up_on m m.parts.volatile e is (between_fetch (layout_of m) m.parts.volatile m.parts.durable is.runs.between e numbers (Ok f) it) it.crash.keeps.honest refl (omega arith))
      (record { begins = subst (λ (h : List Entry). IsPrefix h (history_of m.parts)) (sym it.front) is.runs.between.tied.begins; objects = it.objects }))
      (unchanged m (with_fetched (with_durable m e) actor f) refl (λ number. refl))

  -- what a mark adds
  goes-marked : (m : Mount) (n : ℕ) (w : VolatileState) (e : DurableState) (new : Machine) → MarksOrCuts (layout_of m) m.parts.volatile m.parts.durable (Marked n) w e
      → new ≡ up (with_parts m w e) → IsUp rule m → GoesUp rule m (marked n) new
  goes-marked m n w e new it after is =
      let history : List Entry = history_of m.parts in
      let follows : Follows history (stable n) = (is.runs.between.volatile.begun, rises, to_count) in
      subst (λ (x : Machine). GoesUp rule m (marked n) x) (sym after) (record {
        goes = record {
          history = history ++ stable n ∷ [];
          tells = (follows, tt, refl);
          holds = (
            added,
            up_marked m w e n is (between_mark_or_cut (layout_of m) m.parts.volatile m.parts.durable is.runs.between w e (Ok (Marked n)) it)
                it.crash.keeps.honest added (legal_adds history (stable n) is.runs.legal follows tt)
                (due_next m.parts.volatile m.parts.durable (Marked n) w e it.did),
          );
        };
        grows = one_longer m (with_parts m w e) (stable n) added (λ number. refl);
      })
    where
      v : VolatileState
      v = m.parts.volatile

      d : DurableState
      d = m.parts.durable

      added : w.ledger.history ≡ history_of m.parts ++ stable n ∷ []
      added = ⊎_elim
          (λ (both : (n ≡ d.logged) × MarksBoth v d w e). ap (λ (x : VolatileState). x.ledger.history) both.1.volatile ∙ ap (λ (k : ℕ). v.ledger.history ++ stable k ∷ []) (sym both.0))
          (λ (all : (n ≡ count v.ledger.history) × (IsMarkDue v d → ⊥) × MarksAll v d w e).
          ap (λ (x : VolatileState). x.ledger.history) all.2.volatile ∙ ap (λ (k : ℕ). v.ledger.history ++ stable k ∷ []) (sym all.0))
          it.did

      rises : floor v.ledger.history ≤ n
      rises = ⊎_elim
          (λ (both : (n ≡ d.logged) × MarksBoth v d w e). omega (arith, both.0, both.1.due.more))
          (λ (all : (n ≡ count v.ledger.history) × (IsMarkDue v d → ⊥) × MarksAll v d w e). omega (arith, all.0, all.2.due.more))
          it.did

      to_count : n ≤ count v.ledger.history
      to_count = ⊎_elim
          (λ (both : (n ≡ d.logged) × MarksBoth v d w e).
          omega (arith, both.0, made_in (layout_of m) d v.ledger.history is.runs.between.durable is.runs.between.tied.begins))
          (λ (all : (n ≡ count v.ledger.history) × (IsMarkDue v d → ⊥) × MarksAll v d w e). omega (arith, all.0))
          it.did

  goes-marks_or_cuts : (m : Mount) (answer : Answer) (new : Machine) → MarksOrCutsBoth m answer new → IsUp rule m → GoesUp rule m answer new
  goes-marks_or_cuts m nothing new it is =
      let w : VolatileState = it.1.0 in
      let e : DurableState = it.1.1.0 in
      quiet m w e nothing new refl it.1.1.3 is (between_mark_or_cut (layout_of m) m.parts.volatile m.parts.durable is.runs.between w e it.0 it.1.1.1)
      (mark_or_cut_honest (layout_of m) m.parts.volatile m.parts.durable w e it.0 it.1.1.1) it.1.1.2
      (mark_or_cut_next (layout_of m) m.parts.volatile m.parts.durable it.0 w e it.1.1.1)
  goes-marks_or_cuts m (marked n) new it is = goes-marked m n it.0 it.1.0 new it.1.1 it.1.2 is
  goes-marks_or_cuts m (value a v) new it is = absurd it
  goes-marks_or_cuts m (scanned asked bits) new it is = absurd it
  goes-marks_or_cuts m (committed t) new it is = absurd it
  goes-marks_or_cuts m (fenced s) new it is = absurd it
  goes-marks_or_cuts m (waited k) new it is = absurd it
  goes-marks_or_cuts m (imaged other) new it is = absurd it
  goes-marks_or_cuts m crashed new it is = absurd it
  goes-marks_or_cuts m reopened new it is = absurd it

  goes-waits : (m : Mount) (number n : ℕ) (session : Option SessionState) (answer : Answer) (new : Machine) → WaitsFor m number n session answer new → IsUp rule m
      → m.sessions number ≡ session → GoesUp rule m answer new
  goes-waits m number n None answer new it is at = ignored m answer new it is
  goes-waits m number n (Some s) nothing new it is at =
      shown m number s it.0 nothing new at (wait_extends m.parts.volatile s n it.1.0 it.0 it.1.1) refl it.1.2 is
  goes-waits m number n (Some s) (waited k) new it is at =
      shown_told m number s it.1.0 (waited k) new at (wait_extends m.parts.volatile s n (Ok true) it.1.0 it.1.1)
      (subst (λ (j : ℕ). j ≤ floor (history_of m.parts)) (sym it.0) it.1.1.0, refl) it.1.2 is
  goes-waits m number n (Some s) (value a v) new it is at = absurd it
  goes-waits m number n (Some s) (scanned asked bits) new it is at = absurd it
  goes-waits m number n (Some s) (committed t) new it is at = absurd it
  goes-waits m number n (Some s) (marked j) new it is at = absurd it
  goes-waits m number n (Some s) (fenced other) new it is at = absurd it
  goes-waits m number n (Some s) crashed new it is at = absurd it
  goes-waits m number n (Some s) reopened new it is at = absurd it
  goes-waits m number n (Some s) (imaged other) new it is at = absurd it

  goes-flushes : (m : Mount) (number : ℕ) (session : Option SessionState) (answer : Answer) (new : Machine) → Flushes m number session answer new → IsUp rule m
      → m.sessions number ≡ session → GoesUp rule m answer new
  goes-flushes m number None answer new it is at = ignored m answer new it is
  goes-flushes m number (Some s) nothing new it is at =
      shown m number s it.0 nothing new at (flush_extends m.parts.volatile s it.1.0 it.0 it.1.1) refl it.1.2 is
  goes-flushes m number (Some s) (waited k) new it is at =
      shown_told m number s it.1.0 (waited k) new at (flush_extends m.parts.volatile s (Ok true) it.1.0 it.1.1)
      (subst (λ (j : ℕ). j ≤ floor (history_of m.parts)) (sym it.0) it.1.1.0, refl) it.1.2 is
  goes-flushes m number (Some s) (value a v) new it is at = absurd it
  goes-flushes m number (Some s) (scanned asked bits) new it is at = absurd it
  goes-flushes m number (Some s) (committed t) new it is at = absurd it
  goes-flushes m number (Some s) (marked j) new it is at = absurd it
  goes-flushes m number (Some s) (fenced other) new it is at = absurd it
  goes-flushes m number (Some s) crashed new it is at = absurd it
  goes-flushes m number (Some s) reopened new it is at = absurd it
  goes-flushes m number (Some s) (imaged other) new it is at = absurd it

  goes-shows : (m : Mount) (number : ℕ) (session : Option SessionState) (answer : Answer) (new : Machine) → ShowsHistory m number session answer new → IsUp rule m
      → m.sessions number ≡ session → GoesUp rule m answer new
  goes-shows m number None answer new it is at = ignored m answer new it is
  goes-shows m number (Some s) answer new it is at =
      shown m number s it.1.0 answer new at (show_extends m.parts.volatile s it.1.1.0 it.1.0 it.1.1.1) it.0 it.1.1.2 is

  goes-images : (m : Mount) (number : ℕ) (image : List Bytes) (session : Option SessionState) (answer : Answer) (new : Machine) → TakesImage m number image session answer new
      → IsUp rule m → m.sessions number ≡ session → GoesUp rule m answer new
  goes-images m number image None answer new it is at = ignored m answer new it is
  goes-images m number image (Some s) nothing new it is at = shown m number s it.0 nothing new at it.1.1.extends refl it.1.2 is
  goes-images m number image (Some s) (imaged other) new it is at =
      shown_told m number s it.1.0 (imaged other) new at it.1.1.extends
      (subst (λ (i : List Bytes). Leaves (history_of m.parts) i) (sym it.0) (it.1.1.images is.runs.honest image it.1.2), refl) it.1.3 is
  goes-images m number image (Some s) (value a v) new it is at = absurd it
  goes-images m number image (Some s) (scanned asked bits) new it is at = absurd it
  goes-images m number image (Some s) (committed t) new it is at = absurd it
  goes-images m number image (Some s) (marked j) new it is at = absurd it
  goes-images m number image (Some s) (fenced other) new it is at = absurd it
  goes-images m number image (Some s) crashed new it is at = absurd it
  goes-images m number image (Some s) reopened new it is at = absurd it
  goes-images m number image (Some s) (waited k) new it is at = absurd it

-- an image opens as one map
opens_same : (m k : Map) (image : List Bytes) → m.layout ≡ k.layout → OpensAs m image → OpensAs k image → SameMap m k
opens_same m k image layout first second =
    same_objects first.content second.content m k first.objects second.objects layout
    (λ b above below. sym (first.stands.each b above below) ∙ second.stands.each b above (subst (λ (s : Shape). b < s.blocks) layout below))

-- a mount begins with a legal history
running : (rule : Map → Type 0) (layout : Shape) (disk : DiskState) (p : Parts) → IsTrue disk.honest → BeginsApart rule layout disk p → IsRunning rule p
running rule layout disk p trusted it =
    let begin = it.begins in
    let is : history_of p ≡ opening begin.map true ∷ [] = begin.history ∙ ap (λ (b : Bool). opening begin.map b ∷ []) trusted in
    record {
      between = rebased layout p.volatile p.durable it.between;
      honest = subst IsTrue (sym begin.keeps.honest) trusted;
      trusted = subst (λ (h : List Entry). IsTrue (is_trusted h)) (sym is) refl;
      legal = subst (IsLegal rule) (sym is) (record {
        follows = Each-snoc Follows [] (opening begin.map true) (Each-nil Follows) refl;
        agrees = Each-snoc (IsTrueTo rule) [] (opening begin.map true) (Each-nil (IsTrueTo rule)) (begin.objects, begin.ruled trusted);
      });
    }

module _ (rule : Map → Type 0) where
  begun_up : (layout : Shape) (disk : DiskState) (p : Parts) → IsTrue disk.honest → BeginsApart rule layout disk p
      → IsUp rule (record { parts = p; sessions = λ number. None; transactions = λ actor. None; began = λ actor. []; holders = λ slot. None; fetched = λ actor. [] })
  begun_up layout disk p trusted begin = record {
    runs = running rule layout disk p trusted begin;
    sessions = λ number s is. absurd (none-some s is);
    began = λ actor d is. absurd (none-some d is);
    sound = λ actor d is. absurd (none-some d is);
    fetched = λ actor k f lt. absurd (omega (arith, lt));
  }

  goes-up : (m : Mount) (event : Event) (answer : Answer) (new : Machine) → HappensUp m event answer new → IsUp rule m → GoesUp rule m answer new
  goes-up m (begins actor number) answer new it is = goes-begins rule m actor number (m.transactions actor) (m.sessions number) answer new it is refl
  goes-up m (takes actor slot) answer new it is = goes-takes rule m actor slot (m.transactions actor) (m.holders slot) answer new it is refl
  goes-up m (gives_back actor slot) answer new it is =
      goes-gives-back rule m actor slot (m.transactions actor) (is_actor (m.holders slot) actor) answer new it is refl refl
  goes-up m (reads actor a) answer new it is = goes-reads rule m actor a (m.transactions actor) (holds m actor a) answer new it is refl refl
  goes-up m (scans number s) answer new it is = goes-scans rule m number s (m.sessions number) answer new it is refl
  goes-up m (overwrites actor a v) answer new it is = goes-overwrites rule m actor (a, v) (m.transactions actor) (holds m actor a) answer new it is refl refl
  goes-up m (aborts actor) answer new it is = silent rule m (ended m actor) answer new it.0 it.1 refl (has_ended rule m actor is) (unchanged m (ended m actor) refl (λ number. refl))
  goes-up m (finishes actor number) answer new it is = goes-finishes rule m actor number (m.transactions actor) (m.sessions number) answer new it is refl refl
  goes-up m copies answer new it is =
      quiet rule m it.1.0 m.parts.durable answer new it.0 it.1.2 is (between_copied (layout_of m) m.parts.volatile m.parts.durable is.runs.between it.1.0 it.1.1) refl
      (ap (λ (x : VolatileState). x.ledger.history) it.1.1.others) (omega (arith, ap (λ (x : VolatileState). x.ledger.next) it.1.1.others))
  goes-up m joins answer new it is = goes-joins rule m it.1.0 it.1.1.0 answer new it.0 it.1.1.1 it.1.1.2 is
  goes-up m (sees number) answer new it is = goes-sees rule m number (m.sessions number) answer new it is refl
  goes-up m (fences session) answer new it is = goes-fences rule m session answer new it is
  goes-up m stops answer new it is =
      quiet rule m it.1.0 m.parts.durable answer new it.0 it.1.2 is
      (subst (λ (x : VolatileState). IsBetween (layout_of m) x m.parts.durable) (sym it.1.1)
      (between_counted (layout_of m) m.parts.volatile m.parts.durable is.runs.between m.parts.volatile.ledger.next true))
      refl (ap (λ (x : VolatileState). x.ledger.history) it.1.1) (omega (arith, ap (λ (x : VolatileState). x.ledger.next) it.1.1))
  goes-up m (waits number n) answer new it is = goes-waits rule m number n (m.sessions number) answer new it is refl
  goes-up m (flushes number) answer new it is = goes-flushes rule m number (m.sessions number) answer new it is refl
  goes-up m (shows number) answer new it is = goes-shows rule m number (m.sessions number) answer new it is refl
  goes-up m (fetches actor numbers) answer new it is = goes-fetched rule m actor numbers it.1.0 it.1.1.0 answer new it.0 it.1.1.1 it.1.1.2 is
  goes-up m logs answer new it is =
      quiet rule m m.parts.volatile it.1.1.0 answer new it.0 it.1.1.2 is
      (between_group (layout_of m) m.parts.volatile m.parts.durable is.runs.between it.1.1.0 it.1.0 it.1.1.1)
      (group_honest (layout_of m) m.parts.durable it.1.1.0 it.1.0 it.1.1.1) refl (omega arith)
  goes-up m installs answer new it is =
      quiet rule m m.parts.volatile it.1.1.0 answer new it.0 it.1.1.2 is
      (between_home (layout_of m) m.parts.volatile m.parts.durable is.runs.between it.1.1.0 it.1.0 it.1.1.1)
      (home_honest (layout_of m) m.parts.durable it.1.1.0 it.1.0 it.1.1.1) refl (omega arith)
  goes-up m marks_or_cuts answer new it is = goes-marks_or_cuts rule m answer new it is
  goes-up m (trims upto) answer new it is =
      quiet rule m it.1.0 m.parts.durable answer new it.0 it.1.2 is (between_trimmed (layout_of m) m.parts.volatile m.parts.durable is.runs.between it.1.0 upto it.1.1) refl
      (ap (λ (x : VolatileState). x.ledger.history) it.1.1.others) (omega (arith, ap (λ (x : VolatileState). x.ledger.next) it.1.1.others))
  goes-up m notes answer new it is =
      quiet rule m it.1.0 m.parts.durable answer new it.0 it.1.2 is (between_noted (layout_of m) m.parts.volatile m.parts.durable is.runs.between it.1.0 it.1.1) refl
      (ap (λ (x : VolatileState). x.ledger.history) it.1.1.noted) (omega (arith, ap (λ (x : VolatileState). x.ledger.next) it.1.1.noted))
  goes-up m (images number image) answer new it is = goes-images rule m number image (m.sessions number) answer new it is refl
  goes-up m (crashes image) answer new it is =
      let between = it.1.2 in
      let parts = is.runs.between in
      let left : LeavesDurable m.parts.durable image = (it.1.1.moments is.runs.honest).each between.moment between.since between.until image between.is_image in
      let whole : Leaves (history_of m.parts) image =
      leaves_history (layout_of m) m.parts.durable (history_of m.parts) image parts.durable parts.tied.begins (omega (arith, parts.tied.marked)) left in
      subst (λ (a : Answer). GoesUp rule m a new) (sym it.0)
      (subst (λ (s : Machine). GoesUp rule m crashed s) (sym it.1.3) (record {
        goes = record {
          history = opening whole.map true ∷ [];
          tells = (whole.commits, whole.marked, whole.made, (whole.map, whole.same, refl));
          holds = (whole.map, whole.same.layout ∙ at-layout (history_of m.parts) whole.commits, whole.opens, refl);
        };
        grows = tt;
      }))
  goes-up m opens answer new it is = ignored rule m answer new it is

  stays-down : (layout : Shape) (image : List Bytes) (m : Map) (answer : Answer) (new : Machine) → m.layout ≡ layout → OpensAs m image → answer ≡ nothing → new ≡ down layout image
      → Goes rule (opening m true ∷ []) answer new
  stays-down layout image m answer new on_disk holds no_answer is =
      subst (λ (a : Answer). Goes rule (opening m true ∷ []) a new) (sym no_answer)
      (subst (λ (s : Machine). Goes rule (opening m true ∷ []) nothing s) (sym is)
      (record { history = opening m true ∷ []; tells = refl; holds = (m, on_disk, holds, refl) }))

  goes-opens : (layout : Shape) (image : List Bytes) (m : Map) (answer : Answer) (new : Machine) → HappensDown rule layout image opens answer new → m.layout ≡ layout → OpensAs m image
      → Goes rule (opening m true ∷ []) answer new
  goes-opens layout image m reopened new it on_disk holds =
      let disk : DiskState = it.0 in
      let held : HoldsImage disk image = it.1 in
      let parts : Parts = it.2.0 in
      let begin : BeginsApart rule layout disk parts = it.2.1 in
      subst (λ (s : Machine). Goes rule (opening m true ∷ []) reopened s) (sym it.2.2) (record {
        history = opening begin.begins.map true ∷ [];
        tells = (begin.begins.map, opens_same begin.begins.map m image (begin.begins.on_disk ∙ sym on_disk) (begin.begins.holds held.honest image held.is_image) holds, refl);
        holds = (begin.begins.history ∙ ap (λ (b : Bool). opening begin.begins.map b ∷ []) held.honest, begun_up layout disk parts held.honest begin);
      })
  goes-opens layout image m nothing new it on_disk holds = stays-down layout image m nothing new on_disk holds it.0 it.1
  goes-opens layout image m (value a v) new it on_disk holds = stays-down layout image m (value a v) new on_disk holds it.0 it.1
  goes-opens layout image m (scanned s bits) new it on_disk holds = stays-down layout image m (scanned s bits) new on_disk holds it.0 it.1
  goes-opens layout image m (committed t) new it on_disk holds = stays-down layout image m (committed t) new on_disk holds it.0 it.1
  goes-opens layout image m (marked n) new it on_disk holds = stays-down layout image m (marked n) new on_disk holds it.0 it.1
  goes-opens layout image m (fenced s) new it on_disk holds = stays-down layout image m (fenced s) new on_disk holds it.0 it.1
  goes-opens layout image m (waited k) new it on_disk holds = stays-down layout image m (waited k) new on_disk holds it.0 it.1
  goes-opens layout image m (imaged other) new it on_disk holds = stays-down layout image m (imaged other) new on_disk holds it.0 it.1
  goes-opens layout image m crashed new it on_disk holds = stays-down layout image m crashed new on_disk holds it.0 it.1

  goes-down : (layout : Shape) (image : List Bytes) (m : Map) (event : Event) (answer : Answer) (new : Machine) → HappensDown rule layout image event answer new → m.layout ≡ layout → OpensAs m image
      → Goes rule (opening m true ∷ []) answer new
  goes-down layout image m opens answer new it on_disk holds = goes-opens layout image m answer new it on_disk holds
  goes-down layout image m (begins actor number) answer new it on_disk holds = stays-down layout image m answer new on_disk holds it.0 it.1
  goes-down layout image m (takes actor slot) answer new it on_disk holds = stays-down layout image m answer new on_disk holds it.0 it.1
  goes-down layout image m (gives_back actor slot) answer new it on_disk holds = stays-down layout image m answer new on_disk holds it.0 it.1
  goes-down layout image m (reads actor a) answer new it on_disk holds = stays-down layout image m answer new on_disk holds it.0 it.1
  goes-down layout image m (scans number s) answer new it on_disk holds = stays-down layout image m answer new on_disk holds it.0 it.1
  goes-down layout image m (overwrites actor a v) answer new it on_disk holds = stays-down layout image m answer new on_disk holds it.0 it.1
  goes-down layout image m (aborts actor) answer new it on_disk holds = stays-down layout image m answer new on_disk holds it.0 it.1
  goes-down layout image m (finishes actor number) answer new it on_disk holds = stays-down layout image m answer new on_disk holds it.0 it.1
  goes-down layout image m copies answer new it on_disk holds = stays-down layout image m answer new on_disk holds it.0 it.1
  goes-down layout image m joins answer new it on_disk holds = stays-down layout image m answer new on_disk holds it.0 it.1
  goes-down layout image m (sees number) answer new it on_disk holds = stays-down layout image m answer new on_disk holds it.0 it.1
  goes-down layout image m (fences session) answer new it on_disk holds = stays-down layout image m answer new on_disk holds it.0 it.1
  goes-down layout image m stops answer new it on_disk holds = stays-down layout image m answer new on_disk holds it.0 it.1
  goes-down layout image m (waits number n) answer new it on_disk holds = stays-down layout image m answer new on_disk holds it.0 it.1
  goes-down layout image m (flushes number) answer new it on_disk holds = stays-down layout image m answer new on_disk holds it.0 it.1
  goes-down layout image m (shows number) answer new it on_disk holds = stays-down layout image m answer new on_disk holds it.0 it.1
  goes-down layout image m (fetches actor numbers) answer new it on_disk holds = stays-down layout image m answer new on_disk holds it.0 it.1
  goes-down layout image m logs answer new it on_disk holds = stays-down layout image m answer new on_disk holds it.0 it.1
  goes-down layout image m installs answer new it on_disk holds = stays-down layout image m answer new on_disk holds it.0 it.1
  goes-down layout image m marks_or_cuts answer new it on_disk holds = stays-down layout image m answer new on_disk holds it.0 it.1
  goes-down layout image m (trims upto) answer new it on_disk holds = stays-down layout image m answer new on_disk holds it.0 it.1
  goes-down layout image m notes answer new it on_disk holds = stays-down layout image m answer new on_disk holds it.0 it.1
  goes-down layout image m (images number other) answer new it on_disk holds = stays-down layout image m answer new on_disk holds it.0 it.1
  goes-down layout image m (crashes other) answer new it on_disk holds = stays-down layout image m answer new on_disk holds it.0 it.1

  goes : (old : Machine) (history : List Entry) (event : Event) (answer : Answer) (new : Machine) → Happens rule old event answer new → Holds rule old history
      → Goes rule history answer new
  goes (up m) history event answer new it holds = subst (λ (h : List Entry). Goes rule h answer new) holds.0 (goes-up m event answer new it holds.1).goes
  goes (down layout image) history event answer new it holds =
      subst (λ (h : List Entry). Goes rule h answer new) (sym holds.3) (goes-down layout image holds.0 event answer new it holds.1 holds.2)

  -- a run tells what became of the history
  pub runs : (old : Machine) (history : List Entry) (events : List Event) (answers : List Answer) (new : Machine) → Run rule old events answers new
      → Holds rule old history → (last : List Entry) × Holds rule new last × TellsAll rule history answers last
  runs old history [] [] new run holds = (history, subst (λ (s : Machine). Holds rule s history) (sym run) holds, refl)
  runs old history [] (answer ∷ answers) new run holds = absurd run
  runs old history (event ∷ events) [] new run holds = absurd run
  runs old history (event ∷ events) (answer ∷ answers) new run holds =
      let step = goes old history event answer run.0 run.1 holds in
      let rest = runs run.0 step.history events answers new run.2 step.holds in
      (rest.0, rest.1, (step.history, step.tells, rest.2))

  -- a mount that runs goes on, and grows
  pub runs_up : (m : Mount) (events : List Event) (answers : List Answer) (n : Mount) → RunUp m events answers n → IsUp rule m → Grows m n
  runs_up m [] [] n run is = subst (Grows m) (sym run) (unchanged m m refl (λ number. refl))
  runs_up m [] (answer ∷ answers) n run is = absurd run
  runs_up m (event ∷ events) [] n run is = absurd run
  runs_up m (event ∷ events) (answer ∷ answers) n run is =
      let step = goes-up m event answer (up run.0) run.1 is in
      let rest = runs_up run.0 events answers n run.2 step.goes.holds.1 in
      record {
        history = IsPrefix-trans (history_of m.parts) (history_of run.0.parts) (history_of n.parts) step.grows.history rest.history;
        sessions = λ number s at. on number s (run.0.sessions number) refl (step.grows.sessions number s at) rest;
      }
    where
      more : (s r : SessionState) (o : Option SessionState) → (r.number ≡ s.number) × IsPrefix s.seen r.seen → HasSeenMore r o → HasSeenMore s o
      more s r None it later = absurd later
      more s r (Some q) it later = (later.0 ∙ it.0, IsPrefix-trans s.seen r.seen q.seen it.1 later.1)

      on : (number : ℕ) (s : SessionState) (o : Option SessionState) → run.0.sessions number ≡ o → HasSeenMore s o → Grows run.0 n → HasSeenMore s (n.sessions number)
      on number s None at it rest = absurd it
      on number s (Some r) at it rest = more s r (n.sessions number) it (rest.sessions number r at)

  pub has_history : (s : Machine) (history : List Entry) → Holds rule s history → HasHistory s history
  has_history (up m) history holds = holds.0
  has_history (down layout image) history holds = holds

  pub first_holds : (layout : Shape) (disk : DiskState) (p : Parts) → IsTrue disk.honest → BeginsApart rule layout disk p → Holds rule (mounted p) (history_of p)
  first_holds layout disk p trusted begin = (refl, begun_up layout disk p trusted begin)

-- what holds of an open transaction keeps it from being refused for what others did
pub undisturbed : (history : List Entry) (holders : ℕ → Option ℕ) (actor : ℕ) (t : TransactionState) → IsSound history holders actor t → IsUndisturbed history t
undisturbed history holders actor t sound = record {
  later = sound.later;
  unmoved = sound.unmoved;
  agrees = sound.agrees;
  never_behind = λ cause behind. let fewer : length t.seen ≤ length history = IsPrefix-length t.seen history sound.later in omega (arith, fewer, behind.1.1);
}

-- what was fetched is what the first commits left, in every later history
stays_so : (history : List Entry) (f : FetchedState) → IsTrue (is_trusted history) → WasFetched history f → StaysFetched history f
stays_so history f trusted was = record {
  begins = was.begins;
  made = omega (arith, was.objects.made, count-longer f.front history was.objects.begun was.begins);
  blocks = All-weaker (IsBlockAfter (opened history).layout f.front f.commits) (IsBlockAfter (opened history).layout history f.commits)
      (λ u is a valid named. is a valid named ∙ ap (λ (m : Map). value_at m a) (sym (at-longer f.front history was.objects.begun was.begins f.commits was.objects.made)))
      f.updates
      (was.objects.objects (subst IsTrue (trusted-longer f.front history was.objects.begun was.begins) trusted));
  never_longer = λ why refusal. begins_not history f.front why refusal was.begins;
}

pub all_stay : (rule : Map → Type 0) (m : Mount) (actor : ℕ) → IsUp rule m → All (StaysFetched (history_of m.parts)) (m.fetched actor)
all_stay rule m actor is =
    All-weaker (WasFetched (history_of m.parts)) (StaysFetched (history_of m.parts)) (λ f was. stays_so (history_of m.parts) f is.runs.trusted was) (m.fetched actor) (is.fetched actor)

-- a session's commits are its own
pub has_own : (rule : Map → Type 0) (m : Mount) (number : ℕ) (s : SessionState) → IsUp rule m → m.sessions number ≡ Some s → HasOwnCommits (history_of m.parts) number s
has_own rule m number s is at =
    let was = is.sessions number s at in
    let as_many : length (commits_of s.number (history_of m.parts)) ≡ made s =
    subst (λ (n : ℕ). length (commits_of n (history_of m.parts)) ≡ length (commits_of n s.mine)) (sym was.is) (ap length was.own) in
    record { is = was.is; own = was.own; never_strange = λ strange. omega (arith, strange, as_many) }

-- of the machine after a commit
abbrev pub StandsInto : ℕ → ℕ → Transaction → Mount → Machine → Type 0
StandsInto actor number t m (up n) = StandsOnce actor number t m n
StandsInto actor number t m (down layout image) = Unit {0}

-- a commit stands once
stands : (rule : Map → Type 0) (m : Mount) (actor number : ℕ) (draft : Option TransactionState) (session : Option SessionState) (t : Transaction) (new : Machine)
    → Finishes m actor number draft session (committed t) new → IsUp rule m → m.transactions actor ≡ draft → m.sessions number ≡ session → StandsInto actor number t m new
stands rule m actor number None session t new it is at has = absurd (cc (it.0))
stands rule m actor number (Some d) None t new it is at has = absurd (cc (it.0))
stands rule m actor number (Some d) (Some s) t new it is at has =
    let after : SessionState = it.0 in
    let w : VolatileState = it.1.0 in
    let commits_it = it.1.2.committed.committed in
    let was = is.sessions number s has in
    let one_more : commits_of number w.ledger.history ≡ commits_of number s.mine ++ next_transaction s d.reads d.writes ∷ [] =
    subst (λ (n : ℕ). commits_of n w.ledger.history ≡ commits_of n s.mine ++ next_transaction s d.reads d.writes ∷ []) was.is commits_it.one_more in
    subst (StandsInto actor number t m) (sym it.1.3) (record {
      added = commits_it.added ∙ ap (λ (u : Transaction). history_of m.parts ++ commit u ∷ []) (sym it.1.1);
      once = one_more ∙ ap (λ (ts : List Transaction). ts ++ next_transaction s d.reads d.writes ∷ []) (sym was.own)
          ∙ ap (λ (u : Transaction). commits_of number (history_of m.parts) ++ u ∷ []) (sym it.1.1);
      after_begin = IsPrefix-trans (m.began actor) d.seen (history_of m.parts) (is.began actor d at) (is.sound actor d at).later;
      after_seen = λ r at_r. subst (λ (x : SessionState). IsPrefix x.seen (history_of m.parts)) (same_Some s r (sym has ∙ at_r)) commits_it.later;
      seen = λ r at_r. seen_by r (number == number) (eq-eqb number number refl) at_r;
    })
  where
    seen_by : (r : SessionState) (b : Bool) → b ≡ true → cond b (Some it.0) (m.sessions number) ≡ Some r → r.seen ≡ it.1.0.ledger.history
    seen_by r true here at_r = ap (λ (x : SessionState). x.seen) (sym (same_Some it.0 r at_r) ∙ it.1.2.committed.committed.session)
    seen_by r false here at_r = absurd (cc (here))

pub stands_once : (rule : Map → Type 0) (m n : Mount) (actor number : ℕ) (t : Transaction) → HappensUp m (finishes actor number) (committed t) (up n) → IsUp rule m → StandsOnce actor number t m n
stands_once rule m n actor number t it is = stands rule m actor number (m.transactions actor) (m.sessions number) t (up n) it is refl refl

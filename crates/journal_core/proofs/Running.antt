-- Whole runs tell how the history came to be, and keep it legal.
use Rattle.std.proofs.Common.{◌≡◌, ◌≢◌, ⊎_elim, ◌<◌, ◌≤◌, ℕ, ◌==◌, Bool, true, false, cond, IsTrue, List, [], ◌∷◌, ◌++◌, length, All, length-append, Option, Some, None, Result, Ok, Err, refl, sym, ap, subst, ◌∙◌, arith}
use Rattle.std.proofs.lemmas.Bool.{eqb-true, eqb-false}
use Rattle.std.proofs.lemmas.Option.{same_Some, none-some}
use Rattle.std.proofs.lemmas.List.Elements.{All-cons, All-weaker}
use mathlib.Core.List.{IsPrefix}
use Rattle.journal_world.specs.declared.address.Addr.{Addr}
use Rattle.journal_world.specs.declared.refusal.Refusal.{Refusal}
use Rattle.journal_world.specs.declared.refusal.Refusal.TheVariants.{NoMemory, BadAddress, BadSize, TooLarge, Busy, DeviceFailed, BadLog, BadSuper, Stale, Stranger, Worn, Full, Closed, Fenced}
use Rattle.journal_wal.specs.declared.step.InstallStep.{InstallStep}
use Rattle.journal_parts.specs.declared.step.LogStep.{LogStep}
use Rattle.journal_parts.specs.declared.step.LogStep.TheVariants.{Marked}
use Rattle.journal_world.specs.Addresses.{slot_of, Shape}
use Rattle.journal_world.specs.Maps.{Map, Pair, Transaction, SameMap, value_at}
use Rattle.journal_world.specs.Histories.{Entry, opened, is_trusted, latest, commits_of, at, Follows, IsTrueTo, IsLegal}
use Rattle.journal_world.specs.Histories.Entry.{opening, commit, stable, fence}
use Rattle.journal_world.proofs.Prefixes.{IsPrefix-length, IsPrefix-trans}
use Rattle.journal_world.proofs.SameMaps.{SameMap-refl}
use Rattle.journal_world.proofs.LongerHistories.{opened-append, Each-nil, Each-snoc, commits_of-commit}
use Rattle.journal_world.proofs.MapsOfHistories.{is_trusted-append}
use Rattle.journal_block.specs.Block.{Bytes}
use Rattle.journal_disk.specs.Disks.{DiskState, Past}
use Rattle.journal_disk.specs.Images.{IsImage, EveryImage}
use Rattle.journal_objlog.specs.Maps.{OpensAs}
use Rattle.journal_tail.proofs.MapsOfBlocks.{same_objects}
use Rattle.journal_history.specs.Tokens.{SessionState, made, next_transaction, Commits}
use Rattle.journal_memory.specs.Causes.{CauseState}
use Rattle.journal_memory.specs.Fetches.{FetchedState, IsFetched, IsBlockAfter}
use Rattle.journal_parts.specs.Cores.{Leaves}
use Rattle.journal_parts.specs.CoreStates.{CoreState, Crashes}
use Rattle.journal_memory.specs.Transactions.{TransactionState, begun}
use Rattle.journal_core.specs.Steps.{Marks, IsInstallRefusal}
use Rattle.journal_core.specs.FenceSteps.{AddsFence, AnswersFence}
use Rattle.journal_parts.specs.Beginnings.{Begins}
use Rattle.journal_core.specs.Interleavings.{Event, Mount, Machine, mounted, holds, with_core, with_transaction, with_slot, with_fetched, ended, keeping, layout_of, FindsValue, ReadsValue, IsUnread, CommitsTransaction, RefusesCommit, LogsStep, AnswersLog, AnswersInstall, AnswersSession, AnswersFetch, Ignores, BeginsTransaction, TakesSlot, ReadsUnderSlot, OverwritesUnderSlot, Finishes, MakesLogStep, MakesFence, HappensUp, HappensDown, Happens, Run, HasHistory, IsUndisturbed, StaysFetched}
use Rattle.journal_core.specs.Outcomes.{Answer, Tells, TellsAll, HoldsImage}
use Rattle.journal_core.specs.Interleavings.Event.{begins, takes, reads, overwrites, aborts, fetches, joins, fences, stops, logs, installs, crashes, opens}
use Rattle.journal_core.specs.Interleavings.Event.{commits as finishes}
use Rattle.journal_core.specs.Outcomes.Answer.{nothing, value, scanned, committed, marked, fenced, waited, imaged, crashed, reopened}
use Rattle.journal_core.specs.Interleavings.Machine.{up, down}
use Rattle.journal_core.proofs.Holding.{IsSound, begun_sound, sound_held, keeps_taken, keeps_given, sound_marked, sound_fenced, sound_committed, sound_read, sound_overwritten, is_holder}
use Rattle.journal_parts.specs.CoreStates.{disk_of}
use Rattle.journal_memory.proofs.Fronts.{at-layout, at-longer, count-longer, trusted-longer}
use Rattle.journal_parts.proofs.Pairing.{begins_not}

-- What holds of every core that runs
pub record IsRunning (rule : Map → Type 0) (c : CoreState) : Type 0 where
  pub honest : IsTrue (disk_of c).honest
  pub trusted : IsTrue (is_trusted c.history)
  pub images : EveryImage (disk_of c).past (Leaves c.history)
  pub legal : IsLegal rule c.history
  pub some : c.history ≢ []

-- a read that is not answered leaves the history
unread_same : (layout : Shape) (old : CoreState) (t : TransactionState) (a : Addr) (new : CoreState) → IsUnread layout old t a new → new.history ≡ old.history
unread_same layout old t a new it = ⊎_elim
    (λ refused. ap (λ (c : CoreState). c.history) refused.1.others)
    (λ other. ⊎_elim
    (λ found. ap (λ (c : CoreState). c.history) found.1.others)
    (λ none. ap (λ (c : CoreState). c.history) none.1)
    other)
    it

-- What holds of blocks that were fetched, where this is the history
pub record WasFetched (history : List Entry) (f : FetchedState) : Type 0 where
  pub begins : IsPrefix f.front history
  pub objects : IsFetched (opened history).layout f

-- and of a longer history
fetched_longer : (history : List Entry) (e : Entry) (fs : List FetchedState) → history ≢ [] → All (WasFetched history) fs → All (WasFetched (history ++ e ∷ [])) fs
fetched_longer history e fs some all = All-weaker (WasFetched history) (WasFetched (history ++ e ∷ [])) one fs all
  where
    one : (f : FetchedState) → WasFetched history f → WasFetched (history ++ e ∷ []) f
    one f was = record {
      begins = IsPrefix-trans f.front history (history ++ e ∷ []) was.begins (e ∷ [], refl);
      objects = subst (λ (m : Map). IsFetched m.layout f) (sym (opened-append history (e ∷ []) some)) was.objects;
    }

-- and of every mount
pub record IsUp (rule : Map → Type 0) (m : Mount) : Type 0 where
  pub runs : IsRunning rule m.core
  pub sound : (actor : ℕ) (t : TransactionState) → m.transactions actor ≡ Some t → IsSound m.core.history m.holders actor t
  pub fetched : (actor : ℕ) → All (WasFetched m.core.history) (m.fetched actor)

abbrev pub Holds : (Map → Type 0) → Machine → List Entry → Type 0
Holds rule (up m) history = (m.core.history ≡ history) × IsUp rule m
Holds rule (down layout image) history = (m : Map) × (m.layout ≡ layout) × OpensAs m image × (history ≡ opening m true ∷ [])

-- the answer tells what became of the history, and all holds on
pub record Goes (rule : Map → Type 0) (old : List Entry) (answer : Answer) (new : Machine) : Type 0 where
  pub history : List Entry
  pub tells : Tells rule old answer history
  pub holds : Holds rule new history

not_empty : (history : List Entry) (e : Entry) → history ++ e ∷ [] ≢ []
not_empty history e empty = let none : length (history ++ e ∷ []) ≡ 0 = ap length empty in omega (arith, none, length-append history (e ∷ []))

module _ (rule : Map → Type 0) where
  -- the core goes on with the same history
  core_on : (old new : CoreState) → IsRunning rule old → Crashes old new → new.history ≡ old.history → IsRunning rule new
  core_on old new runs crash same =
      let honest : IsTrue (disk_of new).honest = subst IsTrue (sym crash.keeps.honest) runs.honest in
      record {
        honest = honest;
        trusted = subst (λ (h : List Entry). IsTrue (is_trusted h)) (sym same) runs.trusted;
        images = crash.images honest;
        legal = subst (IsLegal rule) (sym same) runs.legal;
        some = λ empty. runs.some (sym same ∙ empty);
      }

  -- and with one more entry
  core_adds : (old new : CoreState) (e : Entry) → IsRunning rule old → Crashes old new → new.history ≡ old.history ++ e ∷ []
      → IsLegal rule (old.history ++ e ∷ []) → IsRunning rule new
  core_adds old new e runs crash is legal =
      let honest : IsTrue (disk_of new).honest = subst IsTrue (sym crash.keeps.honest) runs.honest in
      record {
        honest = honest;
        trusted = subst (λ (h : List Entry). IsTrue (is_trusted h)) (sym is)
            (subst IsTrue (sym (is_trusted-append old.history (e ∷ []) runs.some)) runs.trusted);
        images = crash.images honest;
        legal = subst (IsLegal rule) (sym is) legal;
        some = λ empty. not_empty old.history e (sym is ∙ empty);
      }

  -- one more entry that may follow keeps the history legal
  legal_adds : (history : List Entry) (e : Entry) → IsLegal rule history → Follows history e → IsTrueTo rule history e → IsLegal rule (history ++ e ∷ [])
  legal_adds history e legal follows true_to = record {
    follows = Each-snoc Follows history e legal.follows follows;
    agrees = Each-snoc (IsTrueTo rule) history e legal.agrees true_to;
  }

  up_on : (m : Mount) (core : CoreState) → IsUp rule m → Crashes m.core core → core.history ≡ m.core.history → IsUp rule (with_core m core)
  up_on m core is crash same = record {
    runs = core_on m.core core is.runs crash same;
    sound = λ actor t at. subst (λ (h : List Entry). IsSound h m.holders actor t) (sym same) (is.sound actor t at);
    fetched = λ actor. subst (λ (h : List Entry). All (WasFetched h) (m.fetched actor)) (sym same) (is.fetched actor);
  }

  up_marked : (m : Mount) (core : CoreState) (n : ℕ) → IsUp rule m → Crashes m.core core → core.history ≡ m.core.history ++ stable n ∷ []
      → IsLegal rule (m.core.history ++ stable n ∷ []) → IsUp rule (with_core m core)
  up_marked m core n is crash added legal = record {
    runs = core_adds m.core core (stable n) is.runs crash added legal;
    sound = λ actor t at. subst (λ (h : List Entry). IsSound h m.holders actor t) (sym added)
        (sound_marked m.core.history n m.holders actor t is.runs.some (is.sound actor t at));
    fetched = λ actor. subst (λ (h : List Entry). All (WasFetched h) (m.fetched actor)) (sym added)
        (fetched_longer m.core.history (stable n) (m.fetched actor) is.runs.some (is.fetched actor));
  }

  up_fenced : (m : Mount) (core : CoreState) (s : ℕ) → IsUp rule m → Crashes m.core core → core.history ≡ m.core.history ++ fence s ∷ []
      → IsLegal rule (m.core.history ++ fence s ∷ []) → IsUp rule (with_core m core)
  up_fenced m core s is crash added legal = record {
    runs = core_adds m.core core (fence s) is.runs crash added legal;
    sound = λ actor t at. subst (λ (h : List Entry). IsSound h m.holders actor t) (sym added)
        (sound_fenced m.core.history s m.holders actor t is.runs.some (is.sound actor t at));
    fetched = λ actor. subst (λ (h : List Entry). All (WasFetched h) (m.fetched actor)) (sym added)
        (fetched_longer m.core.history (fence s) (m.fetched actor) is.runs.some (is.fetched actor));
  }

  -- an actor's transaction is another one
  draft_kept : (m : Mount) (actor : ℕ) (draft : TransactionState) → IsUp rule m → IsSound m.core.history m.holders actor draft
      → IsUp rule (with_transaction m actor (Some draft))
  draft_kept m actor draft is sound = record {
    runs = is.runs;
    sound = λ other t at. by_test other t (other == actor) refl at (is.sound other t);
    fetched = is.fetched;
  }
    where
      by_test : (other : ℕ) (t : TransactionState) (b : Bool) → (other == actor) ≡ b → cond b (Some draft) (m.transactions other) ≡ Some t
          → (m.transactions other ≡ Some t → IsSound m.core.history m.holders other t) → IsSound m.core.history m.holders other t
      by_test other t true same at others =
          subst (λ (n : ℕ). IsSound m.core.history m.holders n t) (sym (eqb-true other actor same))
          (subst (IsSound m.core.history m.holders actor) (same_Some draft t at) sound)
      by_test other t false differ at others = others at

  slot_taken : (m : Mount) (actor slot : ℕ) → m.holders slot ≡ None → IsUp rule m → IsUp rule (with_slot m actor slot)
  slot_taken m actor slot free is = record {
    runs = is.runs;
    sound = λ other t at. sound_held m.core.history m.holders (with_slot m actor slot).holders other t (is.sound other t at)
        (λ held. keeps_taken m.holders actor slot other held free);
    fetched = is.fetched;
  }

  -- what an actor has fetched is one batch more
  fetched_kept : (m : Mount) (actor : ℕ) (f : FetchedState) → IsUp rule m → WasFetched m.core.history f → IsUp rule (with_fetched m actor f)
  fetched_kept m actor f is was = record { runs = is.runs; sound = is.sound; fetched = λ other. by_test other (other == actor) }
    where
      by_test : (other : ℕ) (b : Bool) → All (WasFetched m.core.history) (cond b (f ∷ m.fetched other) (m.fetched other))
      by_test other true = All-cons (WasFetched m.core.history) f (m.fetched other) was (is.fetched other)
      by_test other false = is.fetched other

  -- where all transactions but one are kept, that one is ended
  ended_up : (m : Mount) (actor : ℕ) → IsRunning rule m.core → ((other : ℕ) → All (WasFetched m.core.history) (m.fetched other))
      → ((other : ℕ) (t : TransactionState) → other ≢ actor → m.transactions other ≡ Some t → IsSound m.core.history m.holders other t) → IsUp rule (ended m actor)
  ended_up m actor runs fetched others = record { runs = runs; sound = λ other t at. by_test other t (other == actor) refl at; fetched = fetched }
    where
      by_test : (other : ℕ) (t : TransactionState) (b : Bool) → (other == actor) ≡ b → cond b None (m.transactions other) ≡ Some t
          → IsSound m.core.history (ended m actor).holders other t
      by_test other t true same at = absurd (none-some t at)
      by_test other t false differ at =
          let apart : other ≢ actor = eqb-false other actor differ in
          sound_held m.core.history m.holders (ended m actor).holders other t (others other t apart at)
          (λ slot held. keeps_given m.holders actor other slot apart held)

  has_ended : (m : Mount) (actor : ℕ) → IsUp rule m → IsUp rule (ended m actor)
  has_ended m actor is = ended_up m actor is.runs is.fetched (λ other t apart at. is.sound other t at)

  -- nothing is told
  silent : (old : List Entry) (next : Mount) (answer : Answer) (new : Machine) → answer ≡ nothing → new ≡ up next → next.core.history ≡ old
      → IsUp rule next → Goes rule old answer new
  silent old next answer new no_answer is same kept =
      subst (λ (a : Answer). Goes rule old a new) (sym no_answer)
      (subst (λ (s : Machine). Goes rule old nothing s) (sym is) (record { history = old; tells = refl; holds = (same, kept) }))

  ignored : (m : Mount) (answer : Answer) (new : Machine) → Ignores m answer new → IsUp rule m → Goes rule m.core.history answer new
  ignored m answer new it is = silent m.core.history m answer new it.0 it.1 refl is

  goes-begins : (m : Mount) (actor : ℕ) (draft : Option TransactionState) (answer : Answer) (new : Machine) → BeginsTransaction m actor draft answer new → IsUp rule m
      → Goes rule m.core.history answer new
  goes-begins m actor None answer new it is =
      silent m.core.history (with_transaction m actor (Some (begun it.1.0))) answer new it.0 it.1.2 refl
      (draft_kept m actor (begun it.1.0) is (begun_sound m.core.history it.1.0 m.holders actor it.1.1))
  goes-begins m actor (Some t) answer new it is = ignored m answer new it is

  goes-takes : (m : Mount) (actor slot : ℕ) (draft : Option TransactionState) (holder : Option ℕ) (answer : Answer) (new : Machine)
      → TakesSlot m actor slot draft holder answer new → IsUp rule m → m.holders slot ≡ holder → Goes rule m.core.history answer new
  goes-takes m actor slot None holder answer new it is free = ignored m answer new it is
  goes-takes m actor slot (Some t) (Some holder) answer new it is free = ignored m answer new it is
  goes-takes m actor slot (Some t) None answer new it is free =
      silent m.core.history (with_slot m actor slot) answer new it.0 it.1 refl (slot_taken m actor slot free is)

  -- the core is left as a read that is not answered leaves it
  unread_up : {t : TransactionState} {a : Addr} (m : Mount) (core : CoreState) → IsUnread (layout_of m) m.core t a core → IsUp rule m → IsUp rule (with_core m core)
  unread_up {t} {a} m core it is = ⊎_elim
      (λ refused. up_on m core is refused.1.crash (ap (λ (c : CoreState). c.history) refused.1.others))
      (λ other. ⊎_elim
      (λ found. up_on m core is found.1.crash (ap (λ (c : CoreState). c.history) found.1.others))
      (λ none. subst (λ (c : CoreState). IsUp rule (with_core m c)) (sym none.1) is)
      other)
      it

  goes-reads : (m : Mount) (actor : ℕ) (a : Addr) (draft : Option TransactionState) (held : Bool) (answer : Answer) (new : Machine)
      → ReadsUnderSlot m actor a draft held answer new → IsUp rule m → m.transactions actor ≡ draft → holds m actor a ≡ held → Goes rule m.core.history answer new
  goes-reads m actor a None held answer new it is at holder = ignored m answer new it is
  goes-reads m actor a (Some t) false answer new it is at holder = ignored m answer new it is
  goes-reads m actor a (Some t) true nothing new it is at holder =
      let core : CoreState = it.0 in
      let same : core.history ≡ m.core.history = unread_same (layout_of m) m.core t a core it.1 in
      silent m.core.history (with_core m core) nothing new refl it.2 same (unread_up m core it.1 is)
  goes-reads m actor a (Some t) true (value b v) new it is at holder =
      let core : CoreState = it.1.0 in
      let after : TransactionState = it.1.1.0 in
      let read : ReadsValue (layout_of m) m.core t a v core after = it.1.1.1 in
      let finds : FindsValue (layout_of m) m.core t a v core = read.finds in
      let same : core.history ≡ m.core.history = ap (λ (c : CoreState). c.history) finds.others in
      let sound : IsSound m.core.history m.holders actor after =
      sound_read m.core.history m.holders actor t after a v read.remembers finds.object (finds.value is.runs.trusted)
      (is_holder (m.holders (slot_of (layout_of m) a)) actor holder) (is.sound actor t at) in
      subst (λ (s : Machine). Goes rule m.core.history (value b v) s) (sym it.1.1.2) (record {
        history = m.core.history;
        tells = (finds.value is.runs.trusted ∙ ap (value_at (latest m.core.history)) (sym it.0), refl);
        holds = (
          same,
          draft_kept (with_core m core) actor after (up_on m core is finds.crash same)
              (subst (λ (h : List Entry). IsSound h m.holders actor after) (sym same) sound),
        );
      })
  goes-reads m actor a (Some t) true (committed u) new it is at holder = absurd it
  goes-reads m actor a (Some t) true (marked n) new it is at holder = absurd it
  goes-reads m actor a (Some t) true (fenced s) new it is at holder = absurd it
  goes-reads m actor a (Some t) true (waited k) new it is at holder = absurd it
  goes-reads m actor a (Some t) true (imaged other) new it is at holder = absurd it
  goes-reads m actor a (Some t) true (scanned asked bits) new it is at holder = absurd it
  goes-reads m actor a (Some t) true crashed new it is at holder = absurd it
  goes-reads m actor a (Some t) true reopened new it is at holder = absurd it

  goes-overwrites : (m : Mount) (actor : ℕ) (p : Pair) (draft : Option TransactionState) (held : Bool) (answer : Answer) (new : Machine)
      → OverwritesUnderSlot m actor p draft held answer new → IsUp rule m → m.transactions actor ≡ draft → holds m actor p.0 ≡ held → Goes rule m.core.history answer new
  goes-overwrites m actor p None held answer new it is at holder = ignored m answer new it is
  goes-overwrites m actor p (Some t) false answer new it is at holder = ignored m answer new it is
  goes-overwrites m actor p (Some t) true answer new it is at holder =
      ⊎_elim (λ same. silent m.core.history m answer new it.0 same refl is)
      (λ more. silent m.core.history (with_transaction m actor (Some more.1.0)) answer new it.0 more.1.2 refl
      (draft_kept m actor more.1.0 is (sound_overwritten m.core.history m.holders actor t more.1.0 p more.1.1 more.0
      (is_holder (m.holders (slot_of (layout_of m) p.0)) actor holder) (is.sound actor t at))))
      it.1

  -- the number of a session's next commit is how many it has
  numbered : (session after : SessionState) (r w : List Pair) (old new : List Entry) → Commits (next_transaction session r w) session after old new
      → made session ≡ length (commits_of session.number old)
  numbered session after r w old new it =
      let t : Transaction = next_transaction session r w in
      let there : commits_of session.number old ++ t ∷ [] ≡ commits_of session.number session.mine ++ t ∷ [] =
      sym (commits_of-commit old t) ∙ ap (commits_of session.number) (sym it.added) ∙ it.one_more in
      omega (arith, ap length there, length-append (commits_of session.number old) (t ∷ []), length-append (commits_of session.number session.mine) (t ∷ []))

  goes-finishes : (m : Mount) (actor : ℕ) (draft : Option TransactionState) (answer : Answer) (new : Machine) → Finishes m actor draft answer new → IsUp rule m
      → m.transactions actor ≡ draft → Goes rule m.core.history answer new
  goes-finishes m actor None answer new it is at = ignored m answer new it is
  goes-finishes m actor (Some d) nothing new it is at =
      let core : CoreState = it.1.1.0 in
      let refused : RefusesCommit m.core it.0 d it.1.0 core = it.1.1.1 in
      let same : core.history ≡ m.core.history = ap (λ (c : CoreState). c.history) refused.others in
      silent m.core.history (ended (with_core m core) actor) nothing new refl it.1.1.2 same (has_ended (with_core m core) actor (up_on m core is refused.crash same))
  goes-finishes m actor (Some d) (committed t) new it is at =
      let session : SessionState = it.0 in
      let core : CoreState = it.1.1.0 in
      let done : CommitsTransaction m.core session d core it.1.0 = it.1.1.2 in
      let u : Transaction = next_transaction session d.reads d.writes in
      let sound = is.sound actor d at in
      let number = numbered session it.1.0 d.reads d.writes m.core.history core.history done.committed.committed in
      let follows : Follows m.core.history (commit u) = (is.runs.some, sound.reads, sound.writes, number, done.can.may.unfenced) in
      let added : core.history ≡ m.core.history ++ commit u ∷ [] = done.committed.committed.added in
      let longer : IsLegal rule (m.core.history ++ commit u ∷ []) = legal_adds m.core.history (commit u) is.runs.legal follows (done.agrees is.runs.trusted) in
      subst (λ (s : Machine). Goes rule m.core.history (committed t) s) (sym it.1.1.3)
      (subst (λ (w : Transaction). Goes rule m.core.history (committed w) (up (ended (with_core m core) actor))) (sym it.1.1.1) (record {
        history = m.core.history ++ commit u ∷ [];
        tells = (follows, done.agrees is.runs.trusted, refl);
        holds = (
          added,
          ended_up (with_core m core) actor (core_adds m.core core (commit u) is.runs done.crash added longer)
              (λ other. subst (λ (h : List Entry). All (WasFetched h) (m.fetched other)) (sym added)
              (fetched_longer m.core.history (commit u) (m.fetched other) is.runs.some (is.fetched other)))
              (λ other e apart at_other. subst (λ (h : List Entry). IsSound h m.holders other e) (sym added)
              (sound_committed m.core.history u m.holders actor other e is.runs.some apart sound.writes_held (is.sound other e at_other))),
        );
      }))
  goes-finishes m actor (Some d) (value a v) new it is at = absurd it
  goes-finishes m actor (Some d) (marked n) new it is at = absurd it
  goes-finishes m actor (Some d) (fenced s) new it is at = absurd it
  goes-finishes m actor (Some d) (waited k) new it is at = absurd it
  goes-finishes m actor (Some d) (imaged other) new it is at = absurd it
  goes-finishes m actor (Some d) (scanned asked bits) new it is at = absurd it
  goes-finishes m actor (Some d) crashed new it is at = absurd it
  goes-finishes m actor (Some d) reopened new it is at = absurd it

  goes-fetched : (m : Mount) (actor : ℕ) (numbers : List ℕ) (result : Result FetchedState (Refusal CauseState)) (core : CoreState) (answer : Answer) (new : Machine)
      → answer ≡ nothing → AnswersFetch (layout_of m) m.core numbers result core → new ≡ up (keeping (with_core m core) actor result) → IsUp rule m
      → Goes rule m.core.history answer new
  goes-fetched m actor numbers (Err why) core answer new none it after is =
      let same : core.history ≡ m.core.history = ap (λ (c : CoreState). c.history) it.others in
      silent m.core.history (with_core m core) answer new none after same (up_on m core is it.crash same)
  goes-fetched m actor numbers (Ok f) core answer new none it after is =
      let same : core.history ≡ m.core.history = ap (λ (c : CoreState). c.history) it.others in
      silent m.core.history (with_fetched (with_core m core) actor f) answer new none after same
      (fetched_kept (with_core m core) actor f (up_on m core is it.crash same)
      (subst (λ (h : List Entry). WasFetched h f) (sym same) (record { begins = it.begins; objects = it.objects })))

  fence_crash : (session : ℕ) (old : CoreState) (result : Result (Unit {0}) (Refusal CauseState)) (new : CoreState) → AnswersFence session old result new → Crashes old new
  fence_crash session old (Ok done) new it = it.crash
  fence_crash session old (Err why) new it = it.crash

  goes-fences : (m : Mount) (session : ℕ) (answer : Answer) (new : Machine) → MakesFence m session answer new → IsUp rule m → Goes rule m.core.history answer new
  goes-fences m session nothing new it is =
      let core : CoreState = it.1.0 in
      silent m.core.history (with_core m core) nothing new refl it.1.3 it.1.2 (up_on m core is (fence_crash session m.core it.0 core it.1.1) it.1.2)
  goes-fences m session (fenced s) new it is =
      let core : CoreState = it.1.0 in
      let adds : AddsFence session m.core core = it.1.1 in
      let added : core.history ≡ m.core.history ++ fence s ∷ [] =
      ap (λ (c : CoreState). c.history) adds.fenced ∙ ap (λ (n : ℕ). m.core.history ++ fence n ∷ []) (sym it.0) in
      let follows : Follows m.core.history (fence s) = is.runs.some in
      subst (λ (w : Machine). Goes rule m.core.history (fenced s) w) (sym it.1.3) (record {
        history = m.core.history ++ fence s ∷ [];
        tells = (follows, tt, refl);
        holds = (added, up_fenced m core s is it.1.2 added (legal_adds m.core.history (fence s) is.runs.legal follows tt));
      })
  goes-fences m session (value a v) new it is = absurd it
  goes-fences m session (committed t) new it is = absurd it
  goes-fences m session (marked n) new it is = absurd it
  goes-fences m session (waited k) new it is = absurd it
  goes-fences m session (imaged other) new it is = absurd it
  goes-fences m session (scanned asked bits) new it is = absurd it
  goes-fences m session crashed new it is = absurd it
  goes-fences m session reopened new it is = absurd it

  log_crash : (old : CoreState) (result : Result LogStep (Refusal CauseState)) (new : CoreState) → AnswersLog old result new → Crashes old new
  log_crash old (Ok step) new it = it.crash
  log_crash old (Err why) new it = it.crash

  goes-logs : (m : Mount) (answer : Answer) (new : Machine) → MakesLogStep m answer new → IsUp rule m → Goes rule m.core.history answer new
  goes-logs m nothing new it is =
      let core : CoreState = it.1.0 in
      silent m.core.history (with_core m core) nothing new refl it.1.3 it.1.2 (up_on m core is (log_crash m.core it.0 core it.1.1) it.1.2)
  goes-logs m (marked n) new it is =
      let core : CoreState = it.0 in
      let step : LogsStep m.core (Marked n) core = it.1 in
      let marks : Marks n m.core core = step.did.marks in
      let added : core.history ≡ m.core.history ++ stable n ∷ [] = ap (λ (c : CoreState). c.history) marks.marked in
      let follows : Follows m.core.history (stable n) = (is.runs.some, marks.rises, marks.made) in
      subst (λ (s : Machine). Goes rule m.core.history (marked n) s) (sym it.2) (record {
        history = m.core.history ++ stable n ∷ [];
        tells = (follows, tt, refl);
        holds = (added, up_marked m core n is step.crash added (legal_adds m.core.history (stable n) is.runs.legal follows tt));
      })
  goes-logs m (value a v) new it is = absurd it
  goes-logs m (committed t) new it is = absurd it
  goes-logs m (fenced s) new it is = absurd it
  goes-logs m (waited k) new it is = absurd it
  goes-logs m (imaged other) new it is = absurd it
  goes-logs m (scanned asked bits) new it is = absurd it
  goes-logs m crashed new it is = absurd it
  goes-logs m reopened new it is = absurd it

-- the installer leaves the history
refused_install : (old new : CoreState) (refusal : Refusal CauseState) → IsInstallRefusal old new refusal → new.history ≡ old.history
refused_install old new NoMemory why = ap (λ (c : CoreState). c.history) why.3
refused_install old new (DeviceFailed cause) why = ap (λ (c : CoreState). c.history) why.others
refused_install old new BadAddress why = absurd why
refused_install old new BadSize why = absurd why
refused_install old new TooLarge why = absurd why
refused_install old new Busy why = absurd why
refused_install old new BadLog why = absurd why
refused_install old new BadSuper why = absurd why
refused_install old new (Stale cause) why = absurd why
refused_install old new (Stranger cause) why = absurd why
refused_install old new (Worn cause) why = absurd why
refused_install old new (Full cause) why = absurd why
refused_install old new (Closed cause) why = ap (λ (c : CoreState). c.history) why.same
refused_install old new Fenced why = absurd why

installs_same : (old : CoreState) (result : Result InstallStep (Refusal CauseState)) (new : CoreState) → AnswersInstall old result new → new.history ≡ old.history
installs_same old (Ok step) new it = ap (λ (c : CoreState). c.history) it.did.1
installs_same old (Err why) new it = refused_install old new why it.refusal

install_crash : (old : CoreState) (result : Result InstallStep (Refusal CauseState)) (new : CoreState) → AnswersInstall old result new → Crashes old new
install_crash old (Ok step) new it = it.crash
install_crash old (Err why) new it = it.crash

-- nor does a new session change it
joins_same : (old : CoreState) (result : Result SessionState (Refusal CauseState)) (new : CoreState) → AnswersSession old result new → new.history ≡ old.history
joins_same old (Ok session) new it = ap (λ (c : CoreState). c.history) it.begins.others
joins_same old (Err why) new it = ap (λ (c : CoreState). c.history) it.same

joins_crash : (old : CoreState) (result : Result SessionState (Refusal CauseState)) (new : CoreState) → AnswersSession old result new → Crashes old new
joins_crash old (Ok session) new it = it.crash
joins_crash old (Err why) new it = it.crash

-- an image opens as one map
opens_same : (m k : Map) (image : List Bytes) → m.layout ≡ k.layout → OpensAs m image → OpensAs k image → SameMap m k
opens_same m k image layout first second =
    same_objects first.content second.content m k first.objects second.objects layout
    (λ b above below. sym (first.stands.each b above below) ∙ second.stands.each b above (subst (λ (s : Shape). b < s.blocks) layout below))

-- a mount begins with a legal history
running : (rule : Map → Type 0) (layout : Shape) (disk : DiskState) (core : CoreState) → IsTrue disk.honest → Begins rule layout disk core → IsRunning rule core
running rule layout disk core trusted begin =
    let is : core.history ≡ opening begin.map true ∷ [] = begin.history ∙ ap (λ (b : Bool). opening begin.map b ∷ []) trusted in
    record {
      honest = subst IsTrue (sym begin.keeps.honest) trusted;
      trusted = subst (λ (h : List Entry). IsTrue (is_trusted h)) (sym is) refl;
      images = λ image one. subst (λ (h : List Entry). Leaves h image) (sym is) (record {
        commits = 0;
        marked = omega arith;
        made = omega arith;
        map = begin.map;
        opens = begin.holds trusted image (subst (λ (p : Past). IsImage p image) (begin.past trusted) one);
        same = SameMap-refl begin.map;
      });
      legal = subst (IsLegal rule) (sym is) (record {
        follows = Each-snoc Follows [] (opening begin.map true) (Each-nil Follows) refl;
        agrees = Each-snoc (IsTrueTo rule) [] (opening begin.map true) (Each-nil (IsTrueTo rule)) (begin.objects, begin.ruled trusted);
      });
      some = λ empty. absurd (cc (is, empty));
    }

module _ (rule : Map → Type 0) where
  begun_up : (layout : Shape) (disk : DiskState) (core : CoreState) → IsTrue disk.honest → Begins rule layout disk core → IsUp rule (record { core = core; transactions = λ actor. None; holders = λ slot. None; fetched = λ actor. [] })
  begun_up layout disk core trusted begin = record {
    runs = running rule layout disk core trusted begin;
    sound = λ actor d is. absurd (none-some d is);
    fetched = λ actor k f lt. absurd (omega (arith, lt));
  }

  goes-up : (m : Mount) (event : Event) (answer : Answer) (new : Machine) → HappensUp m event answer new → IsUp rule m → Goes rule m.core.history answer new
  goes-up m (begins actor) answer new it is = goes-begins rule m actor (m.transactions actor) answer new it is
  goes-up m (takes actor slot) answer new it is = goes-takes rule m actor slot (m.transactions actor) (m.holders slot) answer new it is refl
  goes-up m (reads actor a) answer new it is = goes-reads rule m actor a (m.transactions actor) (holds m actor a) answer new it is refl refl
  goes-up m (overwrites actor a v) answer new it is = goes-overwrites rule m actor (a, v) (m.transactions actor) (holds m actor a) answer new it is refl refl
  goes-up m (aborts actor) answer new it is = silent rule m.core.history (ended m actor) answer new it.0 it.1 refl (has_ended rule m actor is)
  goes-up m (finishes actor) answer new it is = goes-finishes rule m actor (m.transactions actor) answer new it is refl
  goes-up m (fetches actor numbers) answer new it is = goes-fetched rule m actor numbers it.1.0 it.1.1.0 answer new it.0 it.1.1.1 it.1.1.2 is
  goes-up m logs answer new it is = goes-logs rule m answer new it is
  goes-up m joins answer new it is =
      let same = joins_same m.core it.1.0 it.1.1.0 it.1.1.1 in
      silent rule m.core.history (with_core m it.1.1.0) answer new it.0 it.1.1.2 same
      (up_on rule m it.1.1.0 is (joins_crash m.core it.1.0 it.1.1.0 it.1.1.1) same)
  goes-up m (fences session) answer new it is = goes-fences rule m session answer new it is
  goes-up m stops answer new it is =
      let same = ap (λ (c : CoreState). c.history) it.1.1.closed in
      silent rule m.core.history (with_core m it.1.0) answer new it.0 it.1.2 same (up_on rule m it.1.0 is it.1.1.crash same)
  goes-up m installs answer new it is =
      let same = installs_same m.core it.1.0 it.1.1.0 it.1.1.1 in
      silent rule m.core.history (with_core m it.1.1.0) answer new it.0 it.1.1.2 same
      (up_on rule m it.1.1.0 is (install_crash m.core it.1.0 it.1.1.0 it.1.1.1) same)
  goes-up m (crashes image) answer new it is =
      let between = it.1.2 in
      let left : Leaves m.core.history image = (it.1.1.moments is.runs.honest).each between.moment between.since between.until image between.is_image in
      subst (λ (a : Answer). Goes rule m.core.history a new) (sym it.0)
      (subst (λ (s : Machine). Goes rule m.core.history crashed s) (sym it.1.3) (record {
        history = opening left.map true ∷ [];
        tells = (left.commits, left.marked, left.made, (left.map, left.same, refl));
        holds = (left.map, left.same.layout ∙ at-layout m.core.history left.commits, left.opens, refl);
      }))
  goes-up m opens answer new it is = silent rule m.core.history m answer new it.0 it.1 refl is

  stays-down : (layout : Shape) (image : List Bytes) (m : Map) (answer : Answer) (new : Machine) → m.layout ≡ layout → OpensAs m image → answer ≡ nothing → new ≡ down layout image
      → Goes rule (opening m true ∷ []) answer new
  stays-down layout image m answer new on_disk holds no_answer is =
      subst (λ (a : Answer). Goes rule (opening m true ∷ []) a new) (sym no_answer)
      (subst (λ (s : Machine). Goes rule (opening m true ∷ []) nothing s) (sym is)
      (record { history = opening m true ∷ []; tells = refl; holds = (m, on_disk, holds, refl) }))

  goes-opens : (layout : Shape) (image : List Bytes) (m : Map) (answer : Answer) (new : Machine) → HappensDown rule layout image opens answer new → m.layout ≡ layout → OpensAs m image
      → Goes rule (opening m true ∷ []) answer new
  goes-opens layout image m reopened new it on_disk holds =
      let disk : DiskState = it.0 in
      let held : HoldsImage disk image = it.1 in
      let core : CoreState = it.2.0 in
      let begin : Begins rule layout disk core = it.2.1 in
      subst (λ (s : Machine). Goes rule (opening m true ∷ []) reopened s) (sym it.2.2) (record {
        history = opening begin.map true ∷ [];
        tells = (begin.map, opens_same begin.map m image (begin.on_disk ∙ sym on_disk) (begin.holds held.honest image held.is_image) holds, refl);
        holds = (begin.history ∙ ap (λ (b : Bool). opening begin.map b ∷ []) held.honest, begun_up layout disk core held.honest begin);
      })
  goes-opens layout image m nothing new it on_disk holds = stays-down layout image m nothing new on_disk holds it.0 it.1
  goes-opens layout image m (value a v) new it on_disk holds = stays-down layout image m (value a v) new on_disk holds it.0 it.1
  goes-opens layout image m (committed t) new it on_disk holds = stays-down layout image m (committed t) new on_disk holds it.0 it.1
  goes-opens layout image m (marked n) new it on_disk holds = stays-down layout image m (marked n) new on_disk holds it.0 it.1
  goes-opens layout image m (fenced s) new it on_disk holds = stays-down layout image m (fenced s) new on_disk holds it.0 it.1
  goes-opens layout image m (waited k) new it on_disk holds = stays-down layout image m (waited k) new on_disk holds it.0 it.1
  goes-opens layout image m (imaged other) new it on_disk holds = stays-down layout image m (imaged other) new on_disk holds it.0 it.1
  goes-opens layout image m (scanned asked bits) new it on_disk holds = stays-down layout image m (scanned asked bits) new on_disk holds it.0 it.1
  goes-opens layout image m crashed new it on_disk holds = stays-down layout image m crashed new on_disk holds it.0 it.1

  goes-down : (layout : Shape) (image : List Bytes) (m : Map) (event : Event) (answer : Answer) (new : Machine) → HappensDown rule layout image event answer new → m.layout ≡ layout → OpensAs m image
      → Goes rule (opening m true ∷ []) answer new
  goes-down layout image m opens answer new it on_disk holds = goes-opens layout image m answer new it on_disk holds
  goes-down layout image m (begins actor) answer new it on_disk holds = stays-down layout image m answer new on_disk holds it.0 it.1
  goes-down layout image m (takes actor slot) answer new it on_disk holds = stays-down layout image m answer new on_disk holds it.0 it.1
  goes-down layout image m (reads actor a) answer new it on_disk holds = stays-down layout image m answer new on_disk holds it.0 it.1
  goes-down layout image m (overwrites actor a v) answer new it on_disk holds = stays-down layout image m answer new on_disk holds it.0 it.1
  goes-down layout image m (aborts actor) answer new it on_disk holds = stays-down layout image m answer new on_disk holds it.0 it.1
  goes-down layout image m (finishes actor) answer new it on_disk holds = stays-down layout image m answer new on_disk holds it.0 it.1
  goes-down layout image m (fetches actor numbers) answer new it on_disk holds = stays-down layout image m answer new on_disk holds it.0 it.1
  goes-down layout image m joins answer new it on_disk holds = stays-down layout image m answer new on_disk holds it.0 it.1
  goes-down layout image m (fences session) answer new it on_disk holds = stays-down layout image m answer new on_disk holds it.0 it.1
  goes-down layout image m stops answer new it on_disk holds = stays-down layout image m answer new on_disk holds it.0 it.1
  goes-down layout image m logs answer new it on_disk holds = stays-down layout image m answer new on_disk holds it.0 it.1
  goes-down layout image m installs answer new it on_disk holds = stays-down layout image m answer new on_disk holds it.0 it.1
  goes-down layout image m (crashes other) answer new it on_disk holds = stays-down layout image m answer new on_disk holds it.0 it.1

  goes : (old : Machine) (history : List Entry) (event : Event) (answer : Answer) (new : Machine) → Happens rule old event answer new → Holds rule old history
      → Goes rule history answer new
  goes (up m) history event answer new it holds = subst (λ (h : List Entry). Goes rule h answer new) holds.0 (goes-up m event answer new it holds.1)
  goes (down layout image) history event answer new it holds =
      subst (λ (h : List Entry). Goes rule h answer new) (sym holds.3) (goes-down layout image holds.0 event answer new it holds.1 holds.2)

  -- a run tells what became of the history
  pub runs : (old : Machine) (history : List Entry) (events : List Event) (answers : List Answer) (new : Machine) → Run rule old events answers new
      → Holds rule old history → (last : List Entry) × Holds rule new last × TellsAll rule history answers last
  runs old history [] [] new run holds = (history, subst (λ (s : Machine). Holds rule s history) (sym run) holds, refl)
  runs old history [] (answer ∷ answers) new run holds = absurd run
  runs old history (event ∷ events) [] new run holds = absurd run
  runs old history (event ∷ events) (answer ∷ answers) new run holds =
      let step = goes old history event answer run.0 run.1 holds in
      let rest = runs run.0 step.history events answers new run.2 step.holds in
      (rest.0, rest.1, (step.history, step.tells, rest.2))

  pub has_history : (s : Machine) (history : List Entry) → Holds rule s history → HasHistory s history
  has_history (up m) history holds = holds.0
  has_history (down layout image) history holds = holds

  pub first_holds : (layout : Shape) (disk : DiskState) (core : CoreState) → IsTrue disk.honest → Begins rule layout disk core → Holds rule (mounted core) core.history
  first_holds layout disk core trusted begin = (refl, begun_up layout disk core trusted begin)

-- what holds of an open transaction keeps it from being refused for what others did
pub undisturbed : (c : CoreState) (holders : ℕ → Option ℕ) (actor : ℕ) (t : TransactionState) → IsSound c.history holders actor t → IsUndisturbed c t
undisturbed c holders actor t sound = record {
  later = sound.later;
  unmoved = sound.unmoved;
  agrees = sound.agrees;
  never_behind = λ cause behind. let fewer : length t.seen ≤ length c.history = IsPrefix-length t.seen c.history sound.later in omega (arith, fewer, behind.1.1);
}

-- what was fetched is what the first commits left, in every later history
stays_so : (rule : Map → Type 0) (c : CoreState) (f : FetchedState) → IsRunning rule c → WasFetched c.history f → StaysFetched c f
stays_so rule c f runs was = record {
  begins = was.begins;
  made = omega (arith, was.objects.made, count-longer f.front c.history was.objects.begun was.begins);
  blocks = All-weaker (IsBlockAfter (opened c.history).layout f.front f.commits) (IsBlockAfter (opened c.history).layout c.history f.commits)
      (λ u is a valid named. is a valid named ∙ ap (λ (m : Map). value_at m a) (sym (at-longer f.front c.history was.objects.begun was.begins f.commits was.objects.made)))
      f.updates
      (was.objects.objects (subst IsTrue (trusted-longer f.front c.history was.objects.begun was.begins) runs.trusted));
  never_longer = λ why refusal. begins_not c.history f.front why refusal was.begins;
}

pub all_stay : (rule : Map → Type 0) (m : Mount) (actor : ℕ) → IsUp rule m → All (StaysFetched m.core) (m.fetched actor)
all_stay rule m actor is = All-weaker (WasFetched m.core.history) (StaysFetched m.core) (λ f was. stays_so rule m.core f is.runs was) (m.fetched actor) (is.fetched actor)

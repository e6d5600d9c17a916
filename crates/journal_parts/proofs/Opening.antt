-- What is opened is kept, and what is not opened is handed back.
use Rattle.std.proofs.Common.{◌≡◌, inr, ⊎_elim, ℕ, Bool, false, IsTrue, List, [], ◌∷◌, Result, Ok, Err, OnOk, IfErr, refl, sym, ap, subst, ◌∙◌, ◌≤◌, All, arith}
use Rattle.std.proofs.lemmas.Bool.{false≢true}
use Rattle.journal_world.specs.declared.refusal.Refusal.{Refusal}
use Rattle.journal_world.specs.declared.refusal.Refusal.TheVariants.{NoMemory, BadAddress, BadSize, TooLarge, Busy, DeviceFailed, BadLog, BadSuper, Stale, Stranger, Worn, Full, Closed, Fenced}
use Rattle.journal_world.specs.Addresses.{Shape}
use Rattle.journal_world.specs.Refusals.{IsReadingRefusal}
use Rattle.journal_world.specs.Maps.{Map}
use Rattle.journal_world.specs.Histories.{Entry, commits}
use Rattle.journal_world.specs.Histories.Entry.{opening}
use Rattle.journal_disk.specs.Disks.{DiskState, Keeps, Past, HasFailed}
use Rattle.journal_disk.specs.Images.{EveryImage}
use Rattle.journal_memlog.specs.Logs.{next_position}
use Rattle.journal_wal.specs.Wal.{WalState, IsAtRest as AtRest, blocks_now, log_steps, install_steps, tail_length}
use Rattle.journal_objlog.specs.Maps.{OpensAs}
use Rattle.journal_tail.specs.MapLaws.{map_of-layout, map_of-objects}
use Rattle.journal_objlog.specs.ObjectLogs.{map_now, OnlyReads}
use Rattle.journal_objlog.specs.ReadLaws.{now_read, images_read}
use Rattle.journal_objlog.proofs.Openings.{failed_after}
use Rattle.journal_memory.specs.Causes.{CauseState, raised_of}
use mathlib.Core.List.{IsPrefix}
use Rattle.std.proofs.lemmas.List.Elements.{All-cons}
use Rattle.journal_world.specs.Histories.{floor}
use Rattle.journal_world.proofs.Prefixes.{IsPrefix-refl}
use Rattle.journal_tail.specs.Tails.{TailState, empty_tail, cut_points}
use Rattle.journal_tail.specs.declared.tail.CutPoint.{CutPoint}
use Rattle.journal_objlog.specs.ObjectLogs.{end_of}
use Rattle.journal_memory.specs.Ledgers.{LedgerState}
use Rattle.journal_parts.specs.Durables.{DurableState, IsDurable, begun_durable}
use Rattle.journal_memory.specs.Volatiles.{VolatileState, IsVolatile}
use Rattle.journal_parts.specs.Pairs.{Tied}
use Rattle.journal_parts.specs.CoreParts.{IsPair}
use Rattle.journal_parts.specs.Openings.{HoldsMap, HasSize, IsLayoutRefusal, OnlyReadsDisk}
use Rattle.journal_parts.specs.Beginnings.{Begins}
use Rattle.journal_parts.specs.BeginRefusals.{IsBeginRefusal}
use Rattle.journal_objlog.specs.ObjectLogs.{is_faulted as is_log_faulted, disk_of as log_disk}
use Rattle.journal_circ.specs.Ring.{IsOpenRefusal as IsLogRefusal}

-- what holds of a good answer
pub on_ok : {T E P : Type 0} (r : Result T E) (value : T) → r ≡ Ok value → OnOk r P → P
on_ok {T} {E} {P} r value is holds = subst (λ (x : Result T E). OnOk x P) is holds

-- why the log is not opened, as the core's
pub refuses_log : (rule : Map → Type 0) (layout : Shape) (old new : DiskState) (why : Refusal Unit) → HasSize layout old → IsLogRefusal old new why → IsLayoutRefusal rule layout old new (raised_of why)
refuses_log rule layout old new NoMemory size is = size
refuses_log rule layout old new (DeviceFailed cause) size is = (size, is, refl)
refuses_log rule layout old new BadLog size is = (size, is)
refuses_log rule layout old new BadAddress size is = absurd is
refuses_log rule layout old new BadSize size is = absurd is
refuses_log rule layout old new TooLarge size is = absurd is
refuses_log rule layout old new Busy size is = absurd is
refuses_log rule layout old new BadSuper size is = absurd is
refuses_log rule layout old new (Stale cause) size is = absurd is
refuses_log rule layout old new (Stranger cause) size is = absurd is
refuses_log rule layout old new (Worn cause) size is = absurd is
refuses_log rule layout old new (Full cause) size is = absurd is
refuses_log rule layout old new (Closed cause) size is = absurd is
refuses_log rule layout old new Fenced size is = absurd is

-- nothing is in flight still, where the log was only read
pub rests_still : (old new : WalState) → OnlyReads old new → is_log_faulted new ≡ false → AtRest old → AtRest new
rests_still old new reads fine rest = record {
  fine = fine;
  logging = ap log_steps reads.same ∙ rest.logging;
  installing = ap install_steps reads.same ∙ rest.installing;
  tail = ap tail_length reads.same ∙ rest.tail;
  cut = ap (λ (w : WalState). w.log.logged) reads.same ∙ rest.cut ∙ sym (ap (λ (w : WalState). w.log.cut) reads.same);
  next = ap (λ (w : WalState). next_position w.log) reads.same ∙ rest.next ∙ sym (ap (λ (w : WalState). w.log.cut) reads.same);
  small = omega (arith, ap (λ (w : WalState). next_position w.log) reads.same, rest.small);
}

-- A disk was opened, and its map was read
module _ (layout : Shape) (disk : DiskState) (opened objects : WalState) (keeps : Keeps disk (log_disk opened))
    (same : IsTrue disk.honest → (log_disk opened).past ≡ disk.past) (rest : AtRest opened)
    (images : IsTrue disk.honest → EveryImage (log_disk opened).past (OpensAs (map_now layout opened))) (reads : OnlyReads opened objects) where
  honest_is : (log_disk objects).honest ≡ disk.honest
  honest_is = reads.keeps.honest ∙ keeps.honest

  keeps_both : Keeps disk (log_disk objects)
  keeps_both = record {
    size = reads.keeps.size ∙ keeps.size;
    honest = honest_is;
    failures = omega (arith, reads.keeps.failures, keeps.failures);
  }

  opened_honest : IsTrue disk.honest → IsTrue (log_disk opened).honest
  opened_honest honest = subst IsTrue (sym keeps.honest) honest

  past_both : IsTrue disk.honest → (log_disk objects).past ≡ disk.past
  past_both honest = reads.past (opened_honest honest) ∙ same honest

  pub images_now : IsTrue (log_disk objects).honest → EveryImage (log_disk objects).past (OpensAs (map_now layout objects))
  images_now honest = let was : IsTrue disk.honest = subst IsTrue honest_is honest in images_read opened objects reads (opened_honest was) layout (images was)

  holds_now : IsTrue disk.honest → HoldsMap disk (map_now layout objects)
  holds_now honest = subst (HoldsMap disk) (sym (now_read opened objects reads (opened_honest honest) layout))
      (subst (λ (p : Past). EveryImage p (OpensAs (map_now layout opened))) (same honest) (images honest))

  -- it is faulted only where the device failed since
  failed_since : IsTrue (is_log_faulted objects) → HasFailed disk (log_disk objects)
  failed_since faulted = ⊎_elim
      (λ was. absurd (false≢true (sym rest.fine ∙ was)))
      (λ failed. failed_after disk (log_disk opened) (log_disk objects) keeps failed)
      (reads.fault faulted)

  pub handed_back : OnlyReadsDisk disk (log_disk objects)
  handed_back = record { keeps = keeps_both; past = past_both }

  module _ (rule : Map → Type 0) (fine : is_log_faulted objects ≡ false) where
    pub begins : HasSize layout disk → (history : List Entry) → history ≡ opening (map_now layout objects) (log_disk objects).honest ∷ []
        → (IsTrue (log_disk objects).honest → rule (map_now layout objects))
        → Begins rule layout disk (record { objects = record { wal = objects; tail = [] }; history = history; cut = 0; logged = 0; next = 0; closed = false })
    begins size history is ruled = record {
      map = map_now layout objects;
      size = size;
      on_disk = map_of-layout layout (blocks_now objects);
      objects = map_of-objects layout (blocks_now objects);
      holds = holds_now;
      ruled = λ honest. ruled (subst IsTrue (sym honest_is) honest);
      history = is ∙ ap (λ (b : Bool). opening (map_now layout objects) b ∷ []) honest_is;
      keeps = keeps_both;
      past = past_both;
      rest = rests_still opened objects reads fine rest;
      tail = refl;
      cut = refl;
      logged = refl;
      next = refl;
      running = (refl, fine);
    }

  module _ (rule : Map → Type 0) (size : HasSize layout disk) where
    -- what the rule's refusal is
    raised_rule : (refusal : Refusal Unit) → IsReadingRefusal (is_log_faulted objects) refusal → IsLayoutRefusal rule layout disk (log_disk objects) (raised_of refusal)
    raised_rule NoMemory is = size
    raised_rule (DeviceFailed cause) is = (size, failed_since is, refl)
    raised_rule BadAddress is = absurd is
    raised_rule BadSize is = absurd is
    raised_rule TooLarge is = absurd is
    raised_rule Busy is = absurd is
    raised_rule BadLog is = absurd is
    raised_rule BadSuper is = absurd is
    raised_rule (Stale cause) is = absurd is
    raised_rule (Stranger cause) is = absurd is
    raised_rule (Worn cause) is = absurd is
    raised_rule (Full cause) is = absurd is
    raised_rule (Closed cause) is = absurd is
    raised_rule Fenced is = absurd is

    -- why the history was not begun, seen from outside
    pub refuses_begin : (admitted : Result Bool (Refusal Unit)) (why : Refusal CauseState) → IfErr admitted (IsReadingRefusal (is_log_faulted objects))
        → IsBeginRefusal rule layout objects admitted why → IsLayoutRefusal rule layout disk (log_disk objects) why
    refuses_begin (Err refusal) why is because =
        subst (IsLayoutRefusal rule layout disk (log_disk objects)) (sym because) (raised_rule refusal is)
    refuses_begin (Ok admitted) BadSuper is because =
        inr (size, λ honest. (map_now layout objects, map_of-layout layout (blocks_now objects), holds_now honest, because (subst IsTrue (sym honest_is) honest)))
    refuses_begin (Ok admitted) (Stale cause) is because =
        (size, λ honest. (map_now layout objects, map_of-layout layout (blocks_now objects), holds_now honest, because.0 (subst IsTrue (sym honest_is) honest)), because.1)
    refuses_begin (Ok admitted) NoMemory is because = absurd because
    refuses_begin (Ok admitted) (DeviceFailed cause) is because = absurd because
    refuses_begin (Ok admitted) BadAddress is because = absurd because
    refuses_begin (Ok admitted) BadSize is because = absurd because
    refuses_begin (Ok admitted) TooLarge is because = absurd because
    refuses_begin (Ok admitted) Busy is because = absurd because
    refuses_begin (Ok admitted) BadLog is because = absurd because
    refuses_begin (Ok admitted) (Stranger cause) is because = absurd because
    refuses_begin (Ok admitted) (Worn cause) is because = absurd because
    refuses_begin (Ok admitted) (Full cause) is because = absurd because
    refuses_begin (Ok admitted) (Closed cause) is because = absurd because
    refuses_begin (Ok admitted) Fenced is because = absurd because

-- no session has committed yet
pub none_begun : (history : List Entry) (m : Map) (trusted : Bool) → history ≡ opening m trusted ∷ [] → commits history ≡ []
none_begun history m trusted is = ap commits is

-- the pair that a mount begins with
module _ (layout : Shape) (objects : WalState) (front : List Entry) (ledger : LedgerState) (new : TailState) (m : Map) (trusted : Bool) (room : ℕ) (rest : AtRest objects)
    (is : front ≡ ledger.history) (begun : ledger ≡ record { history = opening m trusted ∷ []; cut = 0; next = 0; closed = false })
    (empty : new ≡ empty_tail layout.blocks (end_of objects) room) where
  begun_tied : Tied (record { ledger = ledger; tail = new; faulted = false }) (begun_durable objects front)
  begun_tied = record {
    begins = subst (IsPrefix front) is (IsPrefix-refl front);
    marked = ap (λ (x : LedgerState). floor x.history) begun;
    trimmed = omega (arith, ap (λ (t : TailState). t.trimmed) empty);
    cut = ap (λ (x : LedgerState). x.cut) begun;
    position = ap (λ (t : TailState). t.log.cut) empty ∙ rest.cut ∙ sym rest.next;
    logged = subst (λ (t : TailState). All (λ c. c.end ≤ end_of objects → c.commits ≤ 0) (cut_points t)) (sym empty)
        (All-cons (λ (c : CutPoint). c.end ≤ end_of objects → c.commits ≤ 0) (record { end = end_of objects; commits = 0 }) [] (λ below. omega arith)
        (λ k d lt. absurd (omega (arith, lt))));
  }

  pub pair_begun : (v : VolatileState) (d : DurableState) → IsVolatile layout v → IsDurable layout d → v ≡ record { ledger = ledger; tail = new; faulted = false }
      → d ≡ begun_durable objects front → IsPair layout v d
  pair_begun v d volatile durable memory_is durable_is = record {
    volatile = volatile;
    durable = durable;
    tied = subst (λ (x : VolatileState). Tied x d) (sym memory_is)
        (subst (Tied (record { ledger = ledger; tail = new; faulted = false })) (sym durable_is) begun_tied);
    fault = ap (λ (x : VolatileState). x.faulted) memory_is ∙ sym rest.fine ∙ sym (ap (λ (x : DurableState). is_log_faulted x.objects) durable_is);
  }

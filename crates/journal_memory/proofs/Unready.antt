-- Why writes are not made ready in memory alone, and what it is where they are.
use Rattle.std.proofs.Common.{◌≡◌, ◌⊎◌, inr, ⊎_elim, ◌<◌, ◌≤◌, ◌+◌, ◌^◌, Bool, ◌&&◌, false, [], ◌∷◌, IsTrue, List, length, Result, Ok, Err, IfOk, IfErr, OnOk, refl, sym, ap, subst, ◌∙◌, arith}
use Rattle.std.proofs.lemmas.Bool.{false≢true, and_parts}
use Rattle.journal_world.specs.Addresses.{is_valid, kind_of, Shape}
use Rattle.journal_world.specs.declared.refusal.Refusal.{Refusal}
use Rattle.journal_world.specs.declared.refusal.Refusal.TheVariants.{NoMemory, BadAddress, BadSize, TooLarge, Busy, DeviceFailed, BadLog, BadSuper, Stale, Stranger, Worn, Full, Closed, Fenced}
use mathlib.Core.List.{IsPrefix}
use Rattle.journal_world.specs.Maps.{Map, Pair, is_value_at, is_object, are_objects, overwritten}
use Rattle.journal_world.specs.Histories.{Entry}
use Rattle.journal_world.proofs.Prefixes.{IsPrefix-trans, IsPrefix-length}
use Rattle.journal_block.specs.declared.update.Update.{Update}
use Rattle.journal_memlog.specs.Logs.{next_position, tail_of}
use Rattle.journal_tail.specs.Tails.{TailState}
use Rattle.journal_tail.specs.declared.prepare.Preparation.{Preparation}
use Rattle.journal_tail.specs.declared.prepare.Preparation.TheVariants.{Ready, Missing}
use Rattle.journal_tail.specs.ObjectTails.{known_updates, tail_base, with_tail_room, OverwritesKnown, IsTailWriteRefusal, IfReady, updates_with}
use Rattle.journal_tail.specs.Writes.{CanPrepare, IsWriteRefusal, are_valid, written_blocks, fresh_among}
use Rattle.journal_history.specs.Tokens.{SessionState}
use Rattle.journal_memory.specs.Causes.{CauseState, raised_of}
use Rattle.journal_memory.specs.Ledgers.{ShowsLonger}
use Rattle.journal_memory.specs.Updates.{AreObjectsOf}
use Rattle.journal_memory.specs.Outsets.{IsPreparingRefusal, CanPrepare as CanPrepareWrites}
use Rattle.journal_memory.specs.Volatiles.{VolatileState, IsFrontRefusal, outset_of}
use Rattle.journal_memory.proofs.Latest.{objects_written}

-- objects have valid addresses
pub valid_of : (layout : Shape) (ps : List Pair) → IsTrue (are_objects layout ps) → IsTrue (are_valid layout ps)
valid_of layout [] objects = refl
valid_of layout (p ∷ later) objects =
    let parts = and_parts (is_object layout p) (are_objects layout later) objects in
    let own = and_parts (is_valid layout p.0) (is_value_at (kind_of layout p.0.block) p.1) parts.0 in
    subst (λ (b : Bool). IsTrue (b && are_valid layout later)) (sym own.0) (valid_of layout later parts.1)

module _ (layout : Shape) (v : VolatileState) (fetched : List Update) (writes : List Pair)
    (objects : IsTrue (are_objects layout writes)) where
  -- what is known of a refusal but J4
  early : (refusal : Refusal Unit) → IsWriteRefusal false (tail_base layout fetched v.tail) writes refusal → (refusal ≡ TooLarge → ⊥) → written_blocks writes ≤ 128
  early (DeviceFailed cause) why other = absurd (false≢true why)
  early BadAddress why other = absurd (false≢true (sym why.1 ∙ valid_of layout writes objects))
  early BadSize why other = absurd (false≢true (sym why.2 ∙ objects))
  early TooLarge why other = absurd (other refl)
  early (Worn cause) why other = why.2
  early (Full cause) why other = why.2
  early NoMemory why other = absurd why
  early Busy why other = absurd why
  early BadLog why other = absurd why
  early BadSuper why other = absurd why
  early (Stale cause) why other = absurd why
  early (Stranger cause) why other = absurd why
  early (Closed cause) why other = absurd why
  early Fenced why other = absurd why

  -- where it was not refused by J4, there are few blocks
  pub few_blocks : {T : Type 0} (answer : Result T (Refusal Unit)) → OnOk answer (CanPrepare (tail_base layout fetched v.tail) writes)
      → IfErr answer (IsTailWriteRefusal (tail_base layout fetched v.tail) writes) → (answer ≡ Err TooLarge → ⊥) → written_blocks writes ≤ 128
  few_blocks (Ok value) can why other = can.few
  few_blocks (Err refusal) can why other = ⊎_elim (λ first. early refusal first (λ is. other (ap Err is))) (λ late. late.0.few) why

  module _ (s : SessionState) (room : length v.ledger.history + 1 < 2 ^ 62) (small : s.number < 2 ^ 62) where
    -- the history and the session's number are not worn, so the log is
    worn_log : (2 ^ 62 ≤ length v.ledger.history + 1) ⊎ (2 ^ 62 ≤ s.number) ⊎ (2 ^ 62 ≤ next_position v.tail.log + fresh_among (tail_of v.tail.log) writes)
        → next_position v.tail.log + fresh_among (tail_of v.tail.log) writes < 2 ^ 62 → ⊥
    worn_log worn unworn = ⊎_elim
        (λ (is : 2 ^ 62 ≤ length v.ledger.history + 1). omega (arith, is, room))
        (λ (other : (2 ^ 62 ≤ s.number) ⊎ (2 ^ 62 ≤ next_position v.tail.log + fresh_among (tail_of v.tail.log) writes)). ⊎_elim
        (λ (is : 2 ^ 62 ≤ s.number). omega (arith, is, small))
        (λ (is : 2 ^ 62 ≤ next_position v.tail.log + fresh_among (tail_of v.tail.log) writes). omega (arith, is, unworn))
        other)
        worn

    can_prepare : CanPrepare (tail_base layout fetched v.tail) writes → CanPrepareWrites (outset_of v) s writes
    can_prepare can = record { few = can.few; unworn = λ worn. worn_log worn can.small; room = λ full. omega (arith, full, can.tail) }

    first_of : (refusal : Refusal Unit) → IsWriteRefusal false (tail_base layout fetched v.tail) writes refusal → IsPreparingRefusal (outset_of v) s writes (raised_of refusal)
    first_of (DeviceFailed cause) why = absurd (false≢true why)
    first_of BadAddress why = absurd (false≢true (sym why.1 ∙ valid_of layout writes objects))
    first_of BadSize why = absurd (false≢true (sym why.2 ∙ objects))
    first_of TooLarge why = why.2
    first_of (Worn cause) why = (why.2, inr (inr why.3), refl)
    first_of (Full cause) why = (why.2, λ worn. worn_log worn why.3, why.4, refl)
    first_of NoMemory why = absurd why
    first_of Busy why = absurd why
    first_of BadLog why = absurd why
    first_of BadSuper why = absurd why
    first_of (Stale cause) why = absurd why
    first_of (Stranger cause) why = absurd why
    first_of (Closed cause) why = absurd why
    first_of Fenced why = absurd why

    pub prepares_not : {T : Type 0} (answer : Result T (Refusal Unit)) (result : Result T (Refusal CauseState)) → IfOk answer (λ value. result ≡ Ok value)
        → IfErr answer (λ refusal. result ≡ Err (raised_of refusal)) → IfErr answer (IsTailWriteRefusal (tail_base layout fetched v.tail) writes)
        → IfErr result (IsPreparingRefusal (outset_of v) s writes)
    prepares_not (Ok value) result ok err why = subst (λ r. IfErr r (IsPreparingRefusal (outset_of v) s writes)) (sym ok) tt
    prepares_not (Err refusal) result ok err why = subst (λ r. IfErr r (IsPreparingRefusal (outset_of v) s writes)) (sym err)
        (⊎_elim (first_of refusal)
        (λ late. subst (λ (e : Refusal Unit). IsPreparingRefusal (outset_of v) s writes (raised_of e)) (sym late.1) (can_prepare late.0))
        why)

-- what is prepared has the objects of the map overwritten
pub raised_written : (layout : Shape) (m : Map) (writes : List Pair) (fetched : List Update) (old new : TailState)
    → new ≡ with_tail_room old new.log.room → AreObjectsOf layout m (known_updates fetched old)
    → (answer : Result Preparation (Refusal Unit)) (result : Result Preparation (Refusal CauseState)) → IfOk result (λ value. answer ≡ Ok value)
    → IfOk answer (IfReady (λ prepared. OverwritesKnown layout (known_updates fetched new) (updates_with layout new writes prepared) writes))
    → IfOk result (IfReady (λ prepared. AreObjectsOf layout (overwritten m writes) (updates_with layout new writes prepared)))
raised_written layout m writes fetched old new same are answer (Err why) is over = tt
raised_written layout m writes fetched old new same are answer (Ok (Missing missing)) is over = tt
raised_written layout m writes fetched old new same are answer (Ok (Ready prepared)) is over =
    let all = updates_with layout new writes prepared in
    let here : OverwritesKnown layout (known_updates fetched new) all writes =
    subst (λ (r : Result Preparation (Refusal Unit)). IfOk r (IfReady (λ ready. OverwritesKnown layout (known_updates fetched new) (updates_with layout new writes ready) writes))) is over in
    let there : OverwritesKnown layout (known_updates fetched old) all writes =
    subst (λ (t : TailState). OverwritesKnown layout (known_updates fetched t) all writes) same here in
    objects_written layout m writes (known_updates fetched old) all are there

-- what a session has seen that is shown a longer front
pub shows_front : (history seen : List Entry) (after : SessionState) (why : Refusal CauseState) → IsFrontRefusal history seen why → IsPrefix seen after.seen
    → ShowsLonger history after why
shows_front history seen after (Stale cause) why begins = (
  IsPrefix-trans history seen after.seen why.1.0 begins,
  omega (arith, why.1.1, IsPrefix-length seen after.seen begins),
)
shows_front history seen after NoMemory why begins = tt
shows_front history seen after BadAddress why begins = tt
shows_front history seen after BadSize why begins = tt
shows_front history seen after TooLarge why begins = tt
shows_front history seen after Busy why begins = tt
shows_front history seen after (DeviceFailed cause) why begins = tt
shows_front history seen after BadLog why begins = tt
shows_front history seen after BadSuper why begins = tt
shows_front history seen after (Stranger cause) why begins = tt
shows_front history seen after (Worn cause) why begins = tt
shows_front history seen after (Full cause) why begins = tt
shows_front history seen after (Closed cause) why begins = tt
shows_front history seen after Fenced why begins = absurd why

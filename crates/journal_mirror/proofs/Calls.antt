-- The past of a mirror after one call more.
use Rattle.std.proofs.Common.{◌≡◌, ◌≢◌, ◌<◌, ℕ, Bool, true, false, List, [], ◌∷◌, ◌++◌, refl, sym, ap, subst, Option, Some, ◌∙◌, length, set, IsTrue, inr, ⊎_elim}
use Rattle.std.proofs.lemmas.Bool.{false≢true, cases_eq}
use Rattle.std.proofs.lemmas.List.{get_or-set_same, get_or-set_other}
use Rattle.journal_block.specs.Block.{Bytes}
use Rattle.journal_disk.specs.Disks.{DiskEvent, write, Past, DiskState, past_from, past_after, block_at, read_of, MayHaveHappened}
use Rattle.journal_disk.specs.Laws.{read_written, read_other}
use Rattle.journal_mirror.specs.declared.call.Call.{Call}
use Rattle.journal_mirror.specs.Mirrors.{event_by, event_of, past_with, past_by, mirror_past, IsCurrent}

with_call : (p : Past) (calls : List Call) (call : Call) → past_with p (calls ++ call ∷ []) ≡ past_after (event_of call) (past_with p calls)
with_call p [] call = refl
with_call p (first ∷ calls) call = with_call (past_after (event_of first) p) calls call

by_after : (h : Bool) (p q : Past) (first : List Bytes) (calls : List Call) (call : Call) (e : DiskEvent)
    → event_of call ≡ e → (IsTrue h → q ≡ past_after e p) → past_by h q first (calls ++ call ∷ []) ≡ past_after e (past_by h p first calls)
by_after true p q first calls call e is here = here refl
by_after false p q first calls call e is here =
    with_call (past_from (length first) first) calls call ∙ ap (λ (x : DiskEvent). past_after x (past_with (past_from (length first) first) calls)) is

by_may : (h : Bool) (p q : Past) (first : List Bytes) (calls : List Call) (call : Call) (e : DiskEvent)
    → event_of call ≡ e → (IsTrue h → MayHaveHappened e p q) → MayHaveHappened e (past_by h p first calls) (past_by h q first (calls ++ call ∷ []))
by_may true p q first calls call e is here = here refl
by_may false p q first calls call e is here = inr (by_after false p p first calls call e is (λ (t : IsTrue false). absurd (false≢true t)))

by_same : (h : Bool) (p q : Past) (first : List Bytes) (calls : List Call) → (IsTrue h → q ≡ p) → past_by h q first calls ≡ past_by h p first calls
by_same true p q first calls here = here refl
by_same false p q first calls here = refl

-- a call that was made
pub mirror_after : (old new : DiskState) (first : List Bytes) (calls : List Call) (call : Call) (e : DiskEvent)
    → new.honest ≡ old.honest → event_of call ≡ e → (IsTrue old.honest → new.past ≡ past_after e old.past)
    → mirror_past new first (calls ++ call ∷ []) ≡ past_after e (mirror_past old first calls)
mirror_after old new first calls call e same is here =
    ap (λ (h : Bool). past_by h new.past first (calls ++ call ∷ [])) same ∙ by_after old.honest old.past new.past first calls call e is here

-- one that failed, and may have happened
pub mirror_may : (old new : DiskState) (first : List Bytes) (calls : List Call) (call : Call) (e : DiskEvent)
    → new.honest ≡ old.honest → event_of call ≡ e → (IsTrue old.honest → MayHaveHappened e old.past new.past)
    → MayHaveHappened e (mirror_past old first calls) (mirror_past new first (calls ++ call ∷ []))
mirror_may old new first calls call e same is here =
    subst (λ (h : Bool). MayHaveHappened e (mirror_past old first calls) (past_by h new.past first (calls ++ call ∷ []))) (sym same)
    (by_may old.honest old.past new.past first calls call e is here)

-- one that failed, and did not happen
pub mirror_same : (old new : DiskState) (first : List Bytes) (calls : List Call)
    → new.honest ≡ old.honest → (IsTrue old.honest → new.past ≡ old.past)
    → mirror_past new first calls ≡ mirror_past old first calls
mirror_same old new first calls same here =
    ap (λ (h : Bool). past_by h new.past first calls) same ∙ by_same old.honest old.past new.past first calls here

-- no event changes the number of blocks
pub same_size : (e : DiskEvent) (p q : Past) → MayHaveHappened e p q → q.size ≡ p.size
same_size e p q happened = ⊎_elim (λ none. ap (λ (r : Past). r.size) none) (λ one. ap (λ (r : Past). r.size) one) happened

-- memory that is written as the disk is stays current
pub current_written : (blocks : List Bytes) (p : Past) (b : ℕ) (bytes : Bytes) → b < length blocks → IsCurrent blocks p
    → IsCurrent (set blocks b bytes) (past_after (write b bytes) p)
current_written blocks p b bytes within current c lt = ⊎_elim
    (λ (here : c ≡ b). subst (λ (n : ℕ). block_at (set blocks b bytes) n ≡ read_of (past_after (write b bytes) p) n) (sym here)
    (get_or-set_same blocks b bytes [] within ∙ sym (read_written p b bytes)))
    (λ (other : c ≢ b). get_or-set_other blocks b c bytes [] other ∙ current c lt ∙ sym (read_other p c b bytes other))
    (cases_eq c b)

pub event_is : (call : Call) (b : ℕ) (bytes : Bytes) → call.block.value ≡ Some b → call.bytes.value ≡ bytes → event_of call ≡ write b bytes
event_is call b bytes block is = ap (λ (o : Option ℕ). event_by o call.bytes.value) block ∙ ap (λ (x : Bytes). event_by (Some b) x) is

-- the past after a write that was noted after the calls before it
pub noted_may : (old new : DiskState) (first : List Bytes) (calls mid after : List Call) (call : Call) (b : ℕ) (bytes : Bytes)
    → new.honest ≡ old.honest → call.block.value ≡ Some b → call.bytes.value ≡ bytes → mid ≡ calls → after ≡ mid ++ call ∷ []
    → (IsTrue old.honest → MayHaveHappened (write b bytes) old.past new.past)
    → MayHaveHappened (write b bytes) (mirror_past old first calls) (mirror_past new first after)
noted_may old new first calls mid after call b bytes same block is none one here =
    subst (λ (xs : List Call). MayHaveHappened (write b bytes) (mirror_past old first calls) (mirror_past new first xs))
    (sym (one ∙ ap (λ (xs : List Call). xs ++ call ∷ []) none))
    (mirror_may old new first calls call (write b bytes) same (event_is call b bytes block is) here)

pub noted_after : (old new : DiskState) (first : List Bytes) (calls mid after : List Call) (call : Call) (b : ℕ) (bytes : Bytes)
    → new.honest ≡ old.honest → call.block.value ≡ Some b → call.bytes.value ≡ bytes → mid ≡ calls → after ≡ mid ++ call ∷ []
    → (IsTrue old.honest → new.past ≡ past_after (write b bytes) old.past)
    → mirror_past new first after ≡ past_after (write b bytes) (mirror_past old first calls)
noted_after old new first calls mid after call b bytes same block is none one here =
    ap (λ (xs : List Call). mirror_past new first xs) (one ∙ ap (λ (xs : List Call). xs ++ call ∷ []) none)
    ∙ mirror_after old new first calls call (write b bytes) same (event_is call b bytes block is) here

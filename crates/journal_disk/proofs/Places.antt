-- What the last write of a block and the last barrier tell of its pending writes and its stable
-- content.
use Rattle.std.proofs.Common.{◌≡◌, ◌≢◌, ◌⊎◌, inl, inr, ⊎_elim, ◌<◌, ◌≤◌, ℕ, List, [], ◌∷◌, length, Bool, cond, refl, sym, ap, ◌∙◌, arith, subst}
use Rattle.std.proofs.lemmas.Bool.{cases_eq, eq-eqb, ne_eqb}
use Rattle.journal_block.specs.Block.{Bytes}
use Rattle.journal_disk.specs.Disks.{DiskEvent, write, barrier, newest, pending_in, stable_in, read_in}
use Rattle.journal_disk.specs.Laws.{pending_written, pending_other}
use Rattle.journal_disk.specs.Records.{up_to_write, up_to_barrier}

pub up_to_written : (older : List DiskEvent) (b c : ℕ) (bytes : Bytes) → b ≡ c
    → up_to_write (write c bytes ∷ older) b ≡ write c bytes ∷ older
up_to_written older b c bytes here =
    ap (λ (t : Bool). cond t (write c bytes ∷ older) (up_to_write older b)) (eq-eqb b c here)

pub up_to_other : (older : List DiskEvent) (b c : ℕ) (bytes : Bytes) → b ≢ c
    → up_to_write (write c bytes ∷ older) b ≡ up_to_write older b
up_to_other older b c bytes other =
    ap (λ (t : Bool). cond t (write c bytes ∷ older) (up_to_write older b)) (ne_eqb b c other)

pub length-up_to_write : (now : List DiskEvent) (b : ℕ) → length (up_to_write now b) ≤ length now
length-up_to_write [] b = omega arith
length-up_to_write (write c bytes ∷ older) b = ⊎_elim
    (λ (here : b ≡ c). omega (arith, ap length (up_to_written older b c bytes here)))
    (λ (other : b ≢ c). omega (arith, ap length (up_to_other older b c bytes other), length-up_to_write older b))
    (cases_eq b c)
length-up_to_write (barrier ∷ older) b = omega (arith, length-up_to_write older b)

pub length-up_to_barrier : (now : List DiskEvent) → length (up_to_barrier now) ≤ length now
length-up_to_barrier [] = omega arith
length-up_to_barrier (write c bytes ∷ older) = omega (arith, length-up_to_barrier older)
length-up_to_barrier (barrier ∷ older) = omega arith

pub length-pending_in : (now : List DiskEvent) (b : ℕ) → length (pending_in now b) ≤ length now
length-pending_in [] b = omega arith
length-pending_in (write c bytes ∷ older) b = ⊎_elim
    (λ (here : b ≡ c). omega (arith, ap length (pending_written older b c bytes here), length-pending_in older b))
    (λ (other : b ≢ c). omega (arith, ap length (pending_other older b c bytes other), length-pending_in older b))
    (cases_eq b c)
length-pending_in (barrier ∷ older) b = omega arith

-- the events up to the last write of the block begin with it
abbrev BeginsWithWrite : List DiskEvent → ℕ → Type 0
BeginsWithWrite events b = (events ≡ []) ⊎ ((bytes : Bytes) × (older : List DiskEvent) × (events ≡ write b bytes ∷ older))

pub begins_with_write : (now : List DiskEvent) (b : ℕ) → BeginsWithWrite (up_to_write now b) b
begins_with_write [] b = inl refl
begins_with_write (write c bytes ∷ older) b = ⊎_elim
    (λ (here : b ≡ c). inr (bytes, older, up_to_written older b c bytes here ∙ ap (λ (n : ℕ). write n bytes ∷ older) (sym here)))
    (λ (other : b ≢ c). subst (λ (l : List DiskEvent). BeginsWithWrite l b) (sym (up_to_other older b c bytes other)) (begins_with_write older b))
    (cases_eq b c)
begins_with_write (barrier ∷ older) b = begins_with_write older b

pub up_to_write-twice : (now : List DiskEvent) (b : ℕ) → up_to_write (up_to_write now b) b ≡ up_to_write now b
up_to_write-twice now b = ⊎_elim
    (λ none. subst (λ (l : List DiskEvent). up_to_write l b ≡ l) (sym none) refl)
    (λ some. subst (λ (l : List DiskEvent). up_to_write l b ≡ l) (sym some.2) (up_to_written some.1 b b some.0 refl))
    (begins_with_write now b)

-- What the older events tell of the block is what all of them tell
pub record TellsAll (older now : List DiskEvent) (b : ℕ) : Type 0 where
  pub pending : pending_in older b ≡ pending_in now b
  pub stable : (first : Bytes) → stable_in first older b ≡ stable_in first now b
  pub barrier : up_to_barrier older ≡ up_to_barrier now

-- where the block was written since the last barrier, those up to its last write tell all of it
pub since_barrier : (now : List DiskEvent) (b : ℕ) → length (up_to_barrier now) < length (up_to_write now b)
    → TellsAll (up_to_write now b) now b
since_barrier [] b lt = absurd (omega arith)
since_barrier (write c bytes ∷ older) b lt = ⊎_elim
    (λ (here : b ≡ c). subst (λ (l : List DiskEvent). TellsAll l (write c bytes ∷ older) b) (sym (up_to_written older b c bytes here))
    (record { pending = refl; stable = λ first. refl; barrier = refl }))
    (λ (other : b ≢ c).
    let skips = up_to_other older b c bytes other in
    let rest = since_barrier older b (omega (arith, lt, ap length skips)) in
    subst (λ (l : List DiskEvent). TellsAll l (write c bytes ∷ older) b) (sym skips)
    (record { pending = rest.pending ∙ sym (pending_other older b c bytes other); stable = rest.stable; barrier = rest.barrier }))
    (cases_eq b c)
since_barrier (barrier ∷ older) b lt = absurd (omega (arith, lt, length-up_to_write older b))

-- else nothing of it is pending
pub before_barrier : (now : List DiskEvent) (b : ℕ) → length (up_to_write now b) ≤ length (up_to_barrier now)
    → pending_in now b ≡ []
before_barrier [] b le = refl
before_barrier (write c bytes ∷ older) b le = ⊎_elim
    (λ (here : b ≡ c). absurd (omega (arith, le, ap length (up_to_written older b c bytes here), length-up_to_barrier older)))
    (λ (other : b ≢ c). pending_other older b c bytes other
    ∙ before_barrier older b (omega (arith, le, ap length (up_to_other older b c bytes other))))
    (cases_eq b c)
before_barrier (barrier ∷ older) b le = refl

-- a read gives the last write, pending or not
pub read_last : (first : Bytes) (now : List DiskEvent) (b : ℕ) → read_in first now b ≡ read_in first (up_to_write now b) b
read_last first [] b = refl
read_last first (write c bytes ∷ older) b = ⊎_elim
    (λ (here : b ≡ c). ap (λ (l : List DiskEvent). read_in first l b) (sym (up_to_written older b c bytes here)))
    (λ (other : b ≢ c). ap (λ (ws : List Bytes). newest ws (stable_in first older b)) (pending_other older b c bytes other)
    ∙ read_last first older b
    ∙ ap (λ (l : List DiskEvent). read_in first l b) (sym (up_to_other older b c bytes other)))
    (cases_eq b c)
read_last first (barrier ∷ older) b = read_last first older b

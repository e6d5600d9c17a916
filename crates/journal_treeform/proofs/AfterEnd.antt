-- Writes after the first blocks of a disk leave these as they read.
use Rattle.std.proofs.Common.{ℕ, ◌≡◌, ◌≢◌, ◌<◌, ◌≤◌, ◌+◌, ◌⊎◌, inl, inr, ⊎_elim, List, [], ◌∷◌, ◌++◌, length, Contains, refl, sym, ap, subst, ◌∙◌, append_assoc, length-append, arith}
use Rattle.journal_block.specs.Block.{Bytes}
use Rattle.journal_disk.specs.Disks.{DiskEvent, write, barrier, Past, IsSettled, block_at, newest, pending_in, stable_in, read_in, pending_of, stable_of, read_of, past_after, MayHaveHappened}
use Rattle.journal_disk.specs.Images.{MayLeave}
use Rattle.journal_disk.specs.Moments.{Extends}
use Rattle.journal_disk.specs.Laws.{pending_other}
use Rattle.journal_treeform.specs.GrownDisks.{AreAfter, WritesAfter, ReadsFirst, LeavesFirst}

pub after-none : (end : ℕ) (p : Past) → WritesAfter end p p
after-none end p = record { since = []; is = refl; after = tt }

pub after-one : (end : ℕ) (p q r : Past) (e : DiskEvent) → WritesAfter end p q → AreAfter end (e ∷ []) → r ≡ past_after e q → WritesAfter end p r
after-one end p q r (write c bytes) w one is = record { since = write c bytes ∷ w.since; is = is ∙ ap (past_after (write c bytes)) w.is; after = (one.0, w.after) }
after-one end p q r barrier w one is = record { since = barrier ∷ w.since; is = is ∙ ap (past_after barrier) w.is; after = w.after }

pub after-more : (end : ℕ) (p q r : Past) (e : DiskEvent) → WritesAfter end p q → AreAfter end (e ∷ []) → MayHaveHappened e q r → WritesAfter end p r
after-more end p q r e w one (inl none) = subst (WritesAfter end p) (sym none) w
after-more end p q r e w one (inr is) = after-one end p q r e w one is

-- ── a first block ──

other : (end b c : ℕ) → b < end → end ≤ c → b ≢ c
other end b c low far = λ e. absurd (omega (arith, e, low, far))

module _ (end b : ℕ) (low : b < end) (older : List DiskEvent) (block : Bytes) where
  pending-after : (since : List DiskEvent) → AreAfter end since → pending_in older b ≡ [] → pending_in (since ++ older) b ≡ []
  pending-after [] after none = none
  pending-after (write c bytes ∷ more) after none = pending_other (more ++ older) b c bytes (other end b c low after.0) ∙ pending-after more after.1 none
  pending-after (barrier ∷ more) after none = refl

  stable-after : (since : List DiskEvent) → AreAfter end since → pending_in older b ≡ [] → stable_in block (since ++ older) b ≡ stable_in block older b
  stable-after [] after none = refl
  stable-after (write c bytes ∷ more) after none = stable-after more after.1 none
  stable-after (barrier ∷ more) after none =
      ap (λ (ws : List Bytes). newest ws (stable_in block (more ++ older) b)) (pending-after more after none) ∙ stable-after more after none

  read-after : (since : List DiskEvent) → AreAfter end since → read_in block (since ++ older) b ≡ read_in block older b
  read-after [] after = refl
  read-after (write c bytes ∷ more) after =
      ap (λ (ws : List Bytes). newest ws (stable_in block (more ++ older) b)) (pending_other (more ++ older) b c bytes (other end b c low after.0)) ∙ read-after more after.1
  read-after (barrier ∷ more) after = read-after more after

pub reads-first : (end : ℕ) (p q : Past) → WritesAfter end p q → ReadsFirst end p q
reads-first end p q w b low =
    ap (λ (r : Past). read_of r b) w.is ∙ read-after end b low p.events (block_at p.first b) w.since w.after

-- ── at each moment ──

-- of two lists with one end the fronts are the same
same-front : {A : Type 0} (xs zs ys : List A) → xs ++ ys ≡ zs ++ ys → xs ≡ zs
same-front [] [] ys e = refl
same-front [] (z ∷ zs) ys e = absurd (let l = ap length e in omega (arith, l, length-append (z ∷ zs) ys))
same-front (x ∷ xs) [] ys e = absurd (let l = ap length e in omega (arith, l, length-append (x ∷ xs) ys))
same-front (x ∷ xs) (z ∷ zs) ys e = cc (same-front xs zs ys (cc (e)), e)

-- the older ones of such events are such
older-after : (end : ℕ) (late early : List DiskEvent) → AreAfter end (late ++ early) → AreAfter end early
older-after end [] early after = after
older-after end (write c bytes ∷ late) early after = older-after end late early after.1
older-after end (barrier ∷ late) early after = older-after end late early after

module _ (end : ℕ) (p q : Past) (settled : IsSettled p) (short : end ≤ p.size) (w : WritesAfter end p q) where
  moment-after : (m : Past) → Extends p m → Extends m q → WritesAfter end p m
  moment-after m from to = record { since = from.since; is = from.grown; after = older-after end to.since from.since (subst (AreAfter end) same w.after) }
    where
      events : Past → List DiskEvent
      events r = r.events

      same : w.since ≡ to.since ++ from.since
      same = same-front w.since (to.since ++ from.since) p.events (
          sym (ap events w.is)
          ∙ ap events to.grown
          ∙ ap (λ es. to.since ++ es) (ap events from.grown)
          ∙ sym (append_assoc to.since from.since p.events))

  -- nothing else may be left of a first block
  left-first : (m : Past) → WritesAfter end p m → (b : ℕ) → b < end → (x : Bytes) → MayLeave m b x → x ≡ read_of p b
  left-first m v b low x left =
      let there : b < p.size = omega (arith, low, short) in
      let none = (settled b there).0 in
      let stable : stable_of m b ≡ read_of p b =
      ap (λ (r : Past). stable_of r b) v.is ∙ stable-after end b low p.events (block_at p.device b) v.since v.after none ∙ (settled b there).1 in
      let pending : pending_of m b ≡ [] = ap (λ (r : Past). pending_of r b) v.is ∙ pending-after end b low p.events [] v.since v.after none in
      ⊎_elim
      (λ (is : x ≡ stable_of m b). is ∙ stable)
      (λ rest. ⊎_elim
      (λ (among : Contains (pending_of m b) x). absurd (nothing (subst (λ (ws : List Bytes). Contains ws x) pending among)))
      (λ (is : x ≡ read_of m b). is ∙ reads-first end p m v b low)
      rest)
      left
    where
      nothing : Contains [] x → ⊥
      nothing (k, low, is) = absurd (omega (arith, low))

  pub leaves-first : LeavesFirst end p q
  leaves-first = record {
    extends = record { since = w.since; grown = w.is };
    each = λ m from to image is b low.
        let v = moment-after m from to in
        left-first m v b low (block_at image b) (is.each b (let e = ap (λ (r : Past). r.size) v.is in omega (arith, e, low, short)));
  }

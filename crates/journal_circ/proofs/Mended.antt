-- A disk is settled once its log, and the home blocks that the log names, were written again.
use Rattle.std.proofs.Common.{Result, Ok, Err, OnOk, OnErr, ℕ, zero, suc, ◌≡◌, ◌≢◌, ◌⊎◌, inl, inr, ⊎_elim, ◌<◌, ◌≤◌, ◌+◌, ◌-◌, IsTrue, sym, ap, ◌∙◌, arith, subst}
use Rattle.std.proofs.lemmas.Bool.{cases_eq, cases_lt}
use Rattle.journal_block.specs.Block.{Bytes}
use Rattle.journal_disk.specs.Disks.{DiskState, Past, Keeps, IsKeptAt, LostNone, MayHaveHappened, barrier, past_after}
use Rattle.journal_disk.specs.Images.{IsRewritten, reading}
use Rattle.journal_disk.specs.Laws.{reading-at, kept_by_images}
use Rattle.journal_circ.specs.Log.{home_by}
use Rattle.journal_circ.specs.Mending.{IsMendable, IsLogOf, LeavesOut}

-- The home blocks of the positions below some number were written as they read
pub record HasHomes (old new : DiskState) (header : Bytes) (start n : ℕ) : Type 0 where
  pub keeps : Keeps old new
  pub rewritten : IsTrue old.honest → IsRewritten old.past new.past
  pub kept : IsTrue old.honest → (q : ℕ) → start ≤ q → q < n → IsKeptAt new.past (home_by header q)

-- a position from start on, of n, has this home block, or none has
abbrev pub Names : Bytes → ℕ → ℕ → ℕ → Type 0
Names header start n b = (q : ℕ) × ((start ≤ q) × ((q < start + n) × (home_by header q ≡ b)))

named_or_not : (header : Bytes) (start n b : ℕ) → Names header start n b ⊎ ((q : ℕ) → start ≤ q → q < start + n → home_by header q ≢ b)
named_or_not header start zero b = inr (λ q ge lt. absurd (omega (arith, ge, lt)))
named_or_not header start (suc n) b = ⊎_elim
    (λ (here : home_by header (start + n) ≡ b). inl (start + n, (omega arith, (omega arith, here))))
    (λ (other : home_by header (start + n) ≢ b). ⊎_elim
    (λ (before : Names header start n b). inl (before.0, (before.1.0, (let lt = before.1.1.0 in omega (arith, lt), before.1.1.1))))
    (λ none. inr (λ q ge lt. ⊎_elim
    (λ (last : q ≡ start + n). λ same. other (ap (home_by header) (sym last) ∙ same))
    (λ (less : q ≢ start + n). none q ge (omega (arith, lt, less)))
    (cases_eq q (start + n))))
    (named_or_not header start n b))
    (cases_eq (home_by header (start + n)) b)

-- nothing is lost once the blocks below 513 were written again, and then the home blocks that the
-- log names
pub lost_none : (p a b : Past) (header : Bytes) (start end : ℕ) → 513 ≤ p.size → start ≤ end → IsMendable p → IsLogOf p header start end
    → IsRewritten p a → ((k : ℕ) → k < 513 → IsKeptAt a k) → IsRewritten a b → ((q : ℕ) → start ≤ q → q < end → IsKeptAt b (home_by header q)) → LostNone b
lost_none p a b header start end large ordered mendable log first kept then homes k lt = ⊎_elim
    (λ (low : k < 513). then.kept k (kept k low))
    (λ (high : 513 ≤ k). ⊎_elim
    (λ (named : Names header start (end - start) k). let below = named.1.1.0 in subst (IsKeptAt b) named.1.1.1 (homes named.0 named.1.0 (omega (arith, below, ordered))))
    (λ none. then.kept k (first.kept k (kept_by_images p k on_disk (mendable k high on_disk (left_out none)))))
    (named_or_not header start (end - start) k))
    (cases_lt k 513)
  where
    on_disk : k < p.size
    on_disk = omega (arith, lt, then.size, first.size)

    left_out : ((q : ℕ) → start ≤ q → q < start + (end - start) → home_by header q ≢ k) → LeavesOut (reading p) k
    left_out none q ge below =
        subst (λ (h : Bytes). home_by h q ≢ k) (log.header_is ∙ sym (reading-at p 0 (omega (arith, large))))
        (none q (omega (arith, ge, log.start_is)) (omega (arith, below, log.end_is, ordered)))

-- a barrier succeeded or not
pub synced_or_not : {A E : Type 0} (r : Result A E) (p q : Past) → OnOk r (q ≡ past_after barrier p) → OnErr r (q ≡ p) → MayHaveHappened barrier p q
synced_or_not (Ok done) p q ok err = inr ok
synced_or_not (Err fault) p q ok err = inl err

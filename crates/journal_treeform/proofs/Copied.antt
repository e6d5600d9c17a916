-- The records of later blocks are copied, one block after another.
use Rattle.std.proofs.Common.{ℕ, ◌≡◌, ◌<◌, ◌+◌, ◌⊎◌, inl, inr, ⊎_elim, IsTrue, refl, ap, ◌∙◌, arith}
use Rattle.std.specs.Prelude.{Result, Ok, Err, OnOk, OnErr}
use Rattle.std.proofs.lemmas.Bool.{cases_eq}
use Rattle.journal_block.specs.Block.{Bytes}
use Rattle.journal_disk.specs.Disks.{write, barrier, Past, DiskState, Keeps, LostNone, read_of, past_after, MayHaveHappened}
use Rattle.journal_disk.specs.Laws.{read_written, read_other, lost_none_after}
use Rattle.journal_treestore.specs.declared.place.Cut.{Cut}
use Rattle.journal_treestore.specs.Places.{later_owners}
use Rattle.journal_treestore.specs.Growths.{IsGrowth}
use Rattle.journal_treeform.specs.GrownDisks.{WritesAfter}
use Rattle.journal_treeform.proofs.AfterEnd.{after-none, after-one, after-more, reads-first}

-- The first k blocks of records are copied, and nothing else was done
pub record HasCopied (c d : Cut) (before now : DiskState) (k : ℕ) : Type 0 where
  pub keeps : Keeps before now
  pub records : IsTrue before.honest → (i : ℕ) → i < k → read_of now.past (d.blocks + i) ≡ read_of before.past (c.blocks + i)
  pub after : IsTrue before.honest → WritesAfter d.blocks before.past now.past
  pub lost : IsTrue before.honest → LostNone before.past → LostNone now.past

pub none-copied : (c d : Cut) (s : DiskState) → HasCopied c d s s 0
none-copied c d s = record {
  keeps = record { size = refl; honest = refl; failures = omega arith };
  records = λ _ i low. absurd (omega (arith, low));
  after = λ _. after-none d.blocks s.past;
  lost = λ _ none. none;
}

module _ (c d : Cut) (s t u : DiskState) (k : ℕ) (growth : IsGrowth c d) (low : k < later_owners c) (were : HasCopied c d s t k) (keeps : Keeps t u) where
  -- so is one more
  module _ (copied : IsTrue t.honest → u.past ≡ past_after (write (d.blocks + k) (read_of t.past (c.blocks + k))) t.past) where
    now : IsTrue s.honest → IsTrue t.honest
    now honest = were.keeps.honest ∙ honest

    record-at : IsTrue s.honest → (i : ℕ) → i < k + 1 → (i ≡ k) ⊎ (i ≡ k → ⊥) → read_of u.past (d.blocks + i) ≡ read_of s.past (c.blocks + i)
    record-at honest i below (inl here) =
        ap (λ (r : Past). read_of r (d.blocks + i)) (copied (now honest))
        ∙ ap (λ j. read_of (past_after (write (d.blocks + k) (read_of t.past (c.blocks + k))) t.past) (d.blocks + j)) here
        ∙ read_written t.past (d.blocks + k) (read_of t.past (c.blocks + k))
        ∙ reads-first d.blocks s.past t.past (were.after honest) (c.blocks + k) (omega (arith, low, growth.after))
        ∙ ap (λ j. read_of s.past (c.blocks + j)) (let e : k ≡ i = omega (arith, here) in e)
    record-at honest i below (inr other) =
        ap (λ (r : Past). read_of r (d.blocks + i)) (copied (now honest))
        ∙ read_other t.past (d.blocks + i) (d.blocks + k) (read_of t.past (c.blocks + k)) (λ e. other (omega (arith, e)))
        ∙ were.records honest i (omega (arith, below, other))

    pub one-copied : HasCopied c d s u (k + 1)
    one-copied = record {
      keeps = record { size = keeps.size ∙ were.keeps.size; honest = keeps.honest ∙ were.keeps.honest; failures = omega (arith, keeps.failures, were.keeps.failures) };
      records = λ honest i below. record-at honest i below (cases_eq i k);
      after = λ honest. after-one d.blocks s.past t.past u.past (write (d.blocks + k) (read_of t.past (c.blocks + k))) (were.after honest) (omega arith, tt) (copied (now honest));
      lost = λ honest none. lost_none_after (write (d.blocks + k) (read_of t.past (c.blocks + k))) t.past u.past (inr (copied (now honest))) (were.lost honest none);
    }

-- a copy that failed may have been written
pub after-failure : (c d : Cut) (s t : DiskState) (r : Past) (k : ℕ) (bytes : Bytes) → HasCopied c d s t k → IsTrue s.honest → MayHaveHappened (write (d.blocks + k) bytes) t.past r → WritesAfter d.blocks s.past r
after-failure c d s t r k bytes were honest happened = after-more d.blocks s.past t.past r (write (d.blocks + k) bytes) (were.after honest) (omega arith, tt) happened

-- so all is after the end, whether the barrier succeeded or not
either-of : {A E P Q : Type 0} (r : Result A E) → OnOk r P → OnErr r Q → P ⊎ Q
either-of (Ok a) p q = inl p
either-of (Err e) p q = inr q

pub after-try : {A E : Type 0} (c d : Cut) (s t : DiskState) (r : Past) (k : ℕ) (result : Result A E) → HasCopied c d s t k → IsTrue s.honest
    → (IsTrue t.honest → OnOk result (r ≡ past_after barrier t.past)) → (IsTrue t.honest → OnErr result (r ≡ t.past)) → WritesAfter d.blocks s.past r
after-try c d s t r k result were honest synced same =
    let now : IsTrue t.honest = were.keeps.honest ∙ honest in
    after-more d.blocks s.past t.past r barrier (were.after honest) tt (⊎_elim (λ is. inr is) (λ is. inl is) (either-of result (synced now) (same now)))

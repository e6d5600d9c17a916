-- The blocks below some number were written as they read.
use Rattle.std.proofs.Common.{ℕ, ◌≡◌, ◌≢◌, ⊎_elim, ◌<◌, ◌≤◌, ◌+◌, IsTrue, refl, sym, ap, ◌∙◌, arith, subst}
use Rattle.std.proofs.lemmas.Bool.{cases_eq}
use Rattle.journal_disk.specs.Disks.{DiskState, Past, Keeps, IsKeptAt}
use Rattle.journal_disk.specs.Images.{IsRewritten}
use Rattle.journal_disk.specs.Laws.{rewritten_none, rewritten_both}

pub record HasRewritten (old new : DiskState) (n : ℕ) : Type 0 where
  pub keeps : Keeps old new
  pub rewritten : IsTrue old.honest → IsRewritten old.past new.past
  pub kept : IsTrue old.honest → (b : ℕ) → b < n → IsKeptAt new.past b

pub none_rewritten : (d : DiskState) → HasRewritten d d 0
none_rewritten d = record {
  keeps = record { size = refl; honest = refl; failures = omega arith };
  rewritten = λ honest. rewritten_none d.past;
  kept = λ honest b lt. absurd (omega arith);
}

pub keeps_both : {a b c : DiskState} → Keeps a b → Keeps b c → Keeps a c
keeps_both one two = record { size = two.size ∙ one.size; honest = two.honest ∙ one.honest; failures = omega (arith, one.failures, two.failures) }

pub rewritten_then : {a b c : DiskState} {n : ℕ} → HasRewritten a b n → Keeps b c → (IsTrue b.honest → IsRewritten b.past c.past) → IsTrue a.honest → IsRewritten a.past c.past
rewritten_then has keeps one honest = rewritten_both (has.rewritten honest) (one (subst IsTrue (sym has.keeps.honest) honest))

pub one_more : {a b c : DiskState} {n : ℕ} → HasRewritten a b n → Keeps b c → (IsTrue b.honest → IsRewritten b.past c.past)
    → (IsTrue b.honest → IsKeptAt c.past n) → HasRewritten a c (n + 1)
one_more {c = c} {n = n} has keeps one kept = record {
  keeps = keeps_both has.keeps keeps;
  rewritten = rewritten_then has keeps one;
  kept = λ honest k lt. let was = subst IsTrue (sym has.keeps.honest) honest in ⊎_elim
      (λ (here : k ≡ n). subst (IsKeptAt c.past) (sym here) (kept was))
      (λ (other : k ≢ n). (one was).kept k (has.kept honest k (omega arith)))
      (cases_eq k n);
}

use Rattle.std.proofs.Common.{◌≡◌, ◌≢◌, ℕ, ◌*◌, ◌<◌, ◌≤◌, ◌∙◌, Bool, true, false, cond, refl, sym, ap, ◌⊎◌, inl, inr, length, get_or, arith, below_more, get_or-set_other, get_or-set_same}
use Rattle.std.specs.Prelude.{nat_le}
use Rattle.std.proofs.lemmas.Bool.{cases_lt}
use Rattle.std.proofs.lemmas.List.{length-set, get_or_past}
use Rattle.journal_treecalls.specs.Sizes.{cut_one}
use Rattle.journal_treecalls.proofs.setting.cut_at.Goals as goal

pub loop-j-preserved : goal.loop-j-preserved
loop-j-preserved c = (
  length-set c.loop-j.kept c.loop-j.j c.cut_one.result ∙ c.loop-j.invariant.0,
  below_more _ _
      (λ k low. let ne : k ≢ c.loop-j.j = omega (arith, low) in rw get_or-set_other (c.loop-j.invariant.1 k low))
      (let inside : c.loop-j.j < length c.loop-j.kept = omega (arith, c.loop-j.invariant.0, c.loop-j-test.true) in rw get_or-set_same c.cut_one.ensures),
)

pub returns : goal.returns
returns c k = by (cases_lt k 48)
  where
    zero : (t : Bool) → ◌≡◌ {A = ℕ} (cond t 0 0) 0
    zero true = refl
    zero false = refl

    by : (k < 48) ⊎ (48 ≤ k) → get_or c.loop-j.kept k 0 ≡ cut_one (get_or c.args.blocks.now k 0) c.args.size k
    by (inl low) = c.loop-j.invariant.1 k (omega (arith, low, c.loop-j-test.false))
    by (inr past) =
        get_or_past c.loop-j.kept k 0 (omega (arith, c.loop-j.invariant.0, past))
        ∙ sym (ap (λ b. cut_one b c.args.size k) (get_or_past c.args.blocks.now k 0 (omega (arith, c.told-blocks, past))) ∙ zero (nat_le c.args.size (4096 * k)))

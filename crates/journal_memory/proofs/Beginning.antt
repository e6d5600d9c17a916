-- Memory as a mount begins with it: no commit was made, and no block is known.
use Rattle.std.proofs.Common.{◌≡◌, ◌≢◌, ◌<◌, ◌^◌, ◌-◌, ℕ, false, List, [], drop, refl, sym, ap, subst, arith}
use Rattle.std.proofs.Math.Seq.{drop-nil}
use Rattle.std.proofs.lemmas.List.{take_all}
use Rattle.std.proofs.lemmas.List.Elements.{All-cons}
use Rattle.journal_world.specs.Addresses.{Shape}
use Rattle.journal_world.specs.Maps.{Transaction, value_at}
use Rattle.journal_world.specs.Histories.{Entry, opened, after, commits, count}
use Rattle.journal_tail.specs.Tails.{TailState, empty_tail, updates_from}
use Rattle.journal_tail.specs.declared.tail.CutPoint.{CutPoint}
use Rattle.journal_memory.specs.Ledgers.{LedgerState}
use Rattle.journal_memory.specs.Updates.{HaveAllSince}
use Rattle.journal_memory.specs.Volatiles.{VolatileState, IsVolatile, IsCutOf}

-- where there is no commit, no update is missing
none_since : (layout : Shape) (history : List Entry) (c : ℕ) → count history ≡ 0 → HaveAllSince layout history c []
none_since layout history c none = record {
  last = λ a valid n from upto.
      ap (λ (ts : List Transaction). value_at (after (opened history) ts) a) (take_all n (commits history) (omega (arith, none)));
}

module _ (layout : Shape) (ledger : LedgerState) (start room : ℕ) (cut : ledger.cut ≡ 0) (none : count ledger.history ≡ 0)
    (begun : ledger.history ≢ []) (on_disk : (opened ledger.history).layout ≡ layout) (small : start < 2 ^ 62) where
  abbrev begins : VolatileState
  begins = record { ledger = ledger; tail = empty_tail layout.blocks start room; faulted = false }

  has_all : (c : ℕ) → HaveAllSince layout ledger.history c (drop (start - start) [])
  has_all c = subst (HaveAllSince layout ledger.history c) (sym (drop-nil (start - start))) (none_since layout ledger.history c none)

  volatile_empty : IsVolatile layout begins
  volatile_empty = record {
    size = refl;
    begun = begun;
    on_disk = on_disk;
    made = omega (arith, cut);
    cut_to_next = omega arith;
    small = omega (arith, small);
    cuts = All-cons (IsCutOf begins) (record { end = start; commits = 0 }) [] (record { above = omega arith; below = omega arith; earlier = omega arith }) (λ k d lt. absurd (omega (arith, lt)));
    updates = λ trusted. record {
      since = All-cons (λ (c : CutPoint). HaveAllSince layout ledger.history c.commits (updates_from begins.tail.log c.end)) (record { end = start; commits = 0 }) []
          (has_all 0) (λ k d lt. absurd (omega (arith, lt)));
      since_last = has_all ledger.cut;
    };
    known = λ trusted. record { values = λ a valid. tt };
  }

  pub volatile_begun : (t : TailState) → t ≡ empty_tail layout.blocks start room → IsVolatile layout (record { ledger = ledger; tail = t; faulted = false })
  volatile_begun t is = subst (λ (x : TailState). IsVolatile layout (record { ledger = ledger; tail = x; faulted = false })) (sym is) volatile_empty

-- When the last group of a sealed log is there.
use Rattle.std.proofs.Common.{◌≡◌, ◌≢◌, ◌⊎◌, inl, inr, ⊎_elim, ◌<◌, ◌≤◌, ◌+◌, ◌-◌, ℕ, Bool, true, false, zero, suc, refl, sym, ap, ◌∙◌, arith, subst, ◌==◌, ◌&&◌, if◌then◌else◌, [], ◌∷◌, length}
use Rattle.std.proofs.lemmas.Bool.{cases_eq, cases_lt, eqb-true, eq-eqb}
use Rattle.journal_block.specs.Block.{Bytes, u64_at, with_bytes}
use Rattle.journal_block.specs.Updates.{Content}
use Rattle.journal_circ.specs.Log.{log_block, is_sealed, begin_of, count_in, tag_in, tag_of, with_tag, are_there, end_of, sealed_end, end_by}
use Rattle.journal_circ.proofs.Forms.{there_same, end_same}

-- one that lacks its tag
pub torn_by : (want have : ℕ → ℕ) (from n q : ℕ) → from ≤ q → q < from + n → have q ≢ want q → are_there want have from n ≡ false
torn_by want have from zero q ge lt other = absurd (omega arith)
torn_by want have from (suc n) q ge lt other = by (have from == want from) refl
    (λ after. torn_by want have (suc from) n q after (omega arith) other)
  where
    by : (b : Bool) → (have from == want from) ≡ b → (suc from ≤ q → are_there want have (suc from) n ≡ false)
        → (b && are_there want have (suc from) n) ≡ false
    by false is rest = refl
    by true is rest = rest (omega (arith, later))
      where
        later : q ≢ from
        later here = other (subst (λ (p : ℕ). have p ≡ want p) (sym here) (eqb-true (have from) (want from) is))

-- all have theirs
pub there_all : (want have : ℕ → ℕ) (from n : ℕ) → are_there want have from n ≡ true → (q : ℕ) → from ≤ q → q < from + n → have q ≡ want q
there_all want have from n is q ge lt = ⊎_elim
    (λ (same : have q ≡ want q). same)
    (λ (other : have q ≢ want q). let no : are_there want have from n ≡ false = torn_by want have from n q ge lt other in
    let impossible : ⊥ = cc in absurd impossible)
    (cases_eq (have q) (want q))

-- The log block of a later position is put, with a tag that block 0 does not want there: the log
-- ends where it ended
pub put_keeps_end : (want have have2 : ℕ → ℕ) (from n next : ℕ) → end_of want have from n ≤ next
    → ((q : ℕ) → from ≤ q → q < from + n → q ≢ next → have2 q ≡ have q) → have2 next ≢ want next
    → end_of want have2 from n ≡ end_of want have from n
put_keeps_end want have have2 from n next later others torn = by (are_there want have from n) refl
  where
    by : (b : Bool) → are_there want have from n ≡ b → end_of want have2 from n ≡ end_of want have from n
    by true is = λ i. if there_same want have have2 from n (λ q ge lt. others q ge lt (before q lt)) i then from + n else from
      where
        whole : from + n ≤ next
        whole = subst (λ (b : Bool). (if b then from + n else from) ≤ next) is later

        before : (q : ℕ) → q < from + n → q ≢ next
        before q lt here = omega (arith, whole)
    by false is = (λ i. if both i then from + n else from)
      where
        still : are_there want have2 from n ≡ false
        still = ⊎_elim
            (λ (inside : next < from + n). torn_by want have2 from n next starts inside torn)
            (λ (beyond : from + n ≤ next). there_same want have have2 from n (λ q ge lt. others q ge lt (λ here. omega arith)) ∙ is)
            (cases_lt next (from + n))
          where
            starts : from ≤ next
            starts = subst (λ (b : Bool). (if b then from + n else from) ≤ next) is later

        both : are_there want have2 from n ≡ are_there want have from n
        both = still ∙ sym is

-- Block 0 is put with a group, of whose log blocks each is as it reads or lacks its tag: it is
-- there whole, as it reads, or the log ends before it
pub group_is_whole_or_not : (want have : ℕ → ℕ) (Reads : ℕ → Type 0) (from n : ℕ)
    → ((q : ℕ) → from ≤ q → q < from + n → Reads q ⊎ (have q ≢ want q))
    → ((end_of want have from n ≡ from + n) × ((q : ℕ) → from ≤ q → q < from + n → Reads q)) ⊎ (end_of want have from n ≡ from)
group_is_whole_or_not want have Reads from n each = by (are_there want have from n) refl
  where
    by : (b : Bool) → are_there want have from n ≡ b
        → ((end_of want have from n ≡ from + n) × ((q : ℕ) → from ≤ q → q < from + n → Reads q)) ⊎ (end_of want have from n ≡ from)
    by true is = inl (
      (λ i. if is i then from + n else from),
      λ q ge lt. ⊎_elim
          (λ (reads : Reads q). reads)
          (λ (other : have q ≢ want q). absurd (other (there_all want have from n is q ge lt)))
          (each q ge lt),
    )
    by false is = inr (λ i. if is i then from + n else from)

-- all are there where each has its tag
pub there_by : (want have : ℕ → ℕ) (from n : ℕ) → ((q : ℕ) → from ≤ q → q < from + n → have q ≡ want q) → are_there want have from n ≡ true
there_by want have from zero each = refl
there_by want have from (suc n) each = (λ i. eq-eqb (have from) (want from) (each from (omega arith) (omega arith)) i && are_there want have (suc from) n)
    ∙ there_by want have (suc from) n (λ q ge lt. each q (omega arith) (omega arith))

pub end_sealed : (h : Bytes) (f : Content) → is_sealed h ≡ true → end_by h f ≡ sealed_end h f
end_sealed h f sealed = λ i. if sealed i then sealed_end h f else u64_at h 0

-- The log block of the next position changes, to one without the tag that block 0 wants there: the
-- log ends where it ended
pub slot_keeps_end : (h : Bytes) (f g : Content) (next : ℕ) → is_sealed h ≡ true → ((q : ℕ) → log_block q ≢ log_block next → g (log_block q) ≡ f (log_block q))
    → (g (log_block next) ≡ f (log_block next)) ⊎ (tag_of (g (log_block next)) ≢ tag_in h next) → end_by h f ≤ next → next < begin_of h + 511 → end_by h g ≡ end_by h f
slot_keeps_end h f g next sealed others here later near = ⊎_elim
    (λ (kept : g (log_block next) ≡ f (log_block next)). end_same h f g (λ q. ⊎_elim
    (λ (at : log_block q ≡ log_block next). subst (λ (b : ℕ). g b ≡ f b) (sym at) kept)
    (λ (other : log_block q ≢ log_block next). others q other)
    (cases_eq (log_block q) (log_block next))))
    (λ (torn : tag_of (g (log_block next)) ≢ tag_in h next). end_sealed h g sealed
    ∙ put_keeps_end (tag_in h) (λ q. tag_of (f (log_block q))) (λ q. tag_of (g (log_block q))) (begin_of h) (count_in h (begin_of h)) next ends
    (λ q ge lt other. ap tag_of (others q (λ (is : log_block q ≡ log_block next). omega (arith, is, other, begins)))) torn
    ∙ sym (end_sealed h f sealed))
    here
  where
    ends : sealed_end h f ≤ next
    ends = subst (λ (n : ℕ). n ≤ next) (end_sealed h f sealed) later

    begins : begin_of h ≤ next
    begins = by (are_there (tag_in h) (λ q. tag_of (f (log_block q))) (begin_of h) (count_in h (begin_of h))) ends
      where
        by : (b : Bool) → (if b then begin_of h + count_in h (begin_of h) else begin_of h) ≤ next → begin_of h ≤ next
        by true le = omega arith
        by false le = le

-- The last group is there whole, with each log block as it reads, or the log ends before it
pub group_ends : (h : Bytes) (f : Content) (Reads : ℕ → Type 0) (end n : ℕ) → is_sealed h ≡ true → begin_of h ≡ end → count_in h end ≡ n
    → ((q : ℕ) → end ≤ q → q < end + n → Reads q ⊎ (tag_of (f (log_block q)) ≢ tag_in h q))
    → ((end_by h f ≡ end + n) × ((q : ℕ) → end ≤ q → q < end + n → Reads q)) ⊎ (end_by h f ≡ end)
group_ends h f Reads end n sealed begins counts each = ⊎_elim
    (λ (whole : (end_of (tag_in h) have end n ≡ end + n) × ((q : ℕ) → end ≤ q → q < end + n → Reads q)). inl (is ∙ whole.0, whole.1))
    (λ (torn : end_of (tag_in h) have end n ≡ end). inr (is ∙ torn))
    (group_is_whole_or_not (tag_in h) have Reads end n each)
  where
    have : ℕ → ℕ
    have q = tag_of (f (log_block q))

    is : end_by h f ≡ end_of (tag_in h) (λ q. tag_of (f (log_block q))) end n
    is = end_sealed h f sealed ∙ (λ i. end_of (tag_in h) (λ q. tag_of (f (log_block q))) (begins i) (count_in h (begins i)))
        ∙ (λ i. end_of (tag_in h) (λ q. tag_of (f (log_block q))) end (counts i))

-- where all have their tags
pub group_there : (h : Bytes) (f : Content) (end n : ℕ) → is_sealed h ≡ true → begin_of h ≡ end → count_in h end ≡ n
    → ((q : ℕ) → end ≤ q → q < end + n → tag_of (f (log_block q)) ≡ tag_in h q) → end_by h f ≡ end + n
group_there h f end n sealed begins counts each = end_sealed h f sealed
    ∙ (λ i. end_of (tag_in h) (λ q. tag_of (f (log_block q))) (begins i) (count_in h (begins i)))
    ∙ (λ i. end_of (tag_in h) (λ q. tag_of (f (log_block q))) end (counts i))
    ∙ (λ i. if there_by (tag_in h) (λ q. tag_of (f (log_block q))) end n each i then end + n else end)

-- a log block with its byte put back is what it was
pub byte_back : (bytes : Bytes) (tag : ℕ) → 0 < length bytes → with_tag (with_tag bytes tag) (tag_of bytes) ≡ bytes
unfolding with_bytes
byte_back [] tag some = absurd (omega arith)
byte_back (x ∷ bytes) tag some = refl

pub tag_put : (bytes : Bytes) (tag : ℕ) → tag_of (with_tag bytes tag) ≡ tag
unfolding with_bytes
tag_put bytes tag = refl

-- one position after another
pub there_next : (want have : ℕ → ℕ) (from to : ℕ) → from < to → have from ≡ want from
    → are_there want have from (to - from) ≡ are_there want have (from + 1) (to - (from + 1))
there_next want have from to lt is = (λ i. are_there want have from (count i))
    ∙ (λ i. eq-eqb (have from) (want from) is i && are_there want have (suc from) (to - (from + 1)))
    ∙ (λ i. are_there want have (next i) (to - (from + 1)))
  where
    count : to - from ≡ suc (to - (from + 1))
    count = omega arith

    next : suc from ≡ from + 1
    next = omega arith
